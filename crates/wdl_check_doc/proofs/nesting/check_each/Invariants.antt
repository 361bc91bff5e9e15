use Rattle.std.proofs.Common.{drop}
use Rattle.wdl_check_decls.proofs.ListLaws.{Leads}
use Rattle.wdl_check_doc.specs.Flows.{flow_nests}
use Rattle.wdl_check_doc.specs.Outcomes.{all}
use Rattle.wdl_check_doc.proofs.nesting.check_each.Given as goal

abbrev pub invariant-loop-flow : goal.invariant-loop-flow
invariant-loop-flow l = Leads (all (flow_nests l.levels.0) (drop l.flow-index l.flows)) (all (flow_nests l.levels.0) l.flows)
