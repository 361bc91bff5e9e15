use Rattle.std.proofs.Common.{[], drop, map}
use Rattle.wdl_check_decls.proofs.ListLaws.{Leads}
use Rattle.wdl_check_doc.specs.Outcomes.{each}
use Rattle.wdl_check_doc.specs.Runnables.{flow_of, head_in, headed_of}
use Rattle.wdl_check_doc.proofs.flow.check_heads.Given as goal

abbrev pub invariant-loop-flow : goal.invariant-loop-flow
invariant-loop-flow l = Leads (each (head_in l.structs) (map headed_of l.heads.items) (map flow_of (drop l.flow-index l.flows))) (each (head_in l.structs) [] (map flow_of l.flows))
