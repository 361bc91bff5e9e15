use Rattle.std.proofs.Common.{drop, map}
use Rattle.wdl_check_decls.proofs.ListLaws.{Leads}
use Rattle.wdl_check_doc.specs.Outcomes.{all}
use Rattle.wdl_check_doc.specs.Parts.{part_of}
use Rattle.wdl_check_doc.specs.Structs.{sections_typed}
use Rattle.wdl_check_doc.proofs.section.check_all_sections.Given as goal

abbrev pub invariant-loop-part : goal.invariant-loop-part
invariant-loop-part l = Leads (all sections_typed (map part_of (drop l.part-index l.parts))) (all sections_typed (map part_of l.parts))
