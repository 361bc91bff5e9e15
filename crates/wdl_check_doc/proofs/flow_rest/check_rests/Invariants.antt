use Rattle.std.proofs.Common.{[], drop, map}
use Rattle.wdl_check_decls.proofs.ListLaws.{Leads}
use Rattle.wdl_check_doc.specs.Flows.{rest_in}
use Rattle.wdl_check_doc.specs.Outcomes.{each}
use Rattle.wdl_check_doc.specs.Runnables.{headed_of}
use Rattle.wdl_check_doc.specs.Tables.{reaching_of}
use Rattle.wdl_check_doc.proofs.flow_rest.check_rests.Given as goal

abbrev pub invariant-loop-headed : goal.invariant-loop-headed
invariant-loop-headed l = Leads (each (rest_in l.structs (map reaching_of l.tables)) l.rests.items (map headed_of (drop l.headed-index l.heads))) (each (rest_in l.structs (map reaching_of l.tables)) [] (map headed_of l.heads))
