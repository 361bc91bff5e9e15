use Rattle.std.proofs.Common.{drop, map}
use Rattle.wdl_check_decls.proofs.ListLaws.{Leads}
use Rattle.wdl_check_doc.specs.Outcomes.{all}
use Rattle.wdl_check_doc.specs.Parts.{part_of}
use Rattle.wdl_check_doc.specs.Runnables.{names_typed}
use Rattle.wdl_check_doc.proofs.runnable.check_names.Given as goal

abbrev pub invariant-loop-part : goal.invariant-loop-part
invariant-loop-part l = Leads (all names_typed (map part_of (drop l.part-index l.parts))) (all names_typed (map part_of l.parts))
