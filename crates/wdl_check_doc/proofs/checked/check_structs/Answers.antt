use Rattle.std.proofs.Common.{map}
use Rattle.wdl_check_types.proofs.OutcomeLaws.{then_ok}
use Rattle.wdl_check_doc.specs.Outcomes.{all}
use Rattle.wdl_check_doc.specs.Parts.{part_of}
use Rattle.wdl_check_doc.specs.Structs.{sections_nest, sections_typed}
use Rattle.wdl_check_doc.proofs.checked.check_structs.Goals as goal

pub returns : goal.returns
returns c =
    then_ok (all sections_typed (map part_of c.args.parts.now)) (λ u. all (sections_nest c.args.structs.now) (map part_of c.args.parts.now)) tt _
    c.in_ok-check_all_sections.ensures c.check_depths.ensures
