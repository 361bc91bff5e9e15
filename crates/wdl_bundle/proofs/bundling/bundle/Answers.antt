use Rattle.std.proofs.Common.{map, subst, rules}
use Rattle.wdl_value.specs.Fits.{Structs}
use Rattle.wdl_bundle.specs.Called.{all_offers}
use Rattle.struct_names.specs.Known.{known_of}
use Rattle.wdl_bundle.proofs.Whole.{Right, moved}
use Rattle.wdl_bundle.proofs.bundling.bundle.Goals as goal

pub returns : goal.returns
returns c =
    moved c.args.lib.now.docs c.args.lib.now.structs (map known_of c.as_slice-3.result.now) c.bundled_of.result
    (search rules)
    (subst (λ (s : Structs). Right s (map known_of c.as_slice-3.result.now) (all_offers 0 (map known_of c.as_slice-3.result.now)) c.bundled_of.result)
    c.as_slice-4.ensures c.bundled_of.ensures)
