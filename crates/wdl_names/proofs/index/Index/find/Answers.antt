use Rattle.std.specs.Option.{option_copied}
use Rattle.wdl_base.specs.declared.name.Key.{Key}
use Rattle.wdl_typed.specs.Scope.{same_key}
use Rattle.wdl_names.specs.KeyTexts.{place_of}
use Rattle.wdl_names.proofs.FirstLemmas.{looked_up}
use Rattle.wdl_names.proofs.index.Index.find.Goals as goal

pub returns : goal.returns
returns g c =
    looked_up (λ (k : Key) x. same_key (g.T.Keyed.keyed x) k) (place_of c.self.inside.places.alone c.self.inside.places.outputs) c.args.key.now
    (option_copied c.keyed_at.result) c.as_slice.result.now c.self.inside.items c.args.self.now c.get-place.result
    c.keyed_at.ensures c.as_slice.ensures c.self.view_is c.get-place.ensures c.self.invariant
