-- The laws of the crates below on which the law of libraries stands.
use Rattle.wdl_check_types.specs.Laws.{WrittenTypes}
use Rattle.wdl_check_types.proofs.KnownLaws as known
use Rattle.wdl_check_decls.proofs.WellTyped.{cast_types, decl_types, decls_types, expr_types, inputs_types}
use Rattle.wdl_check_flow.specs.Laws.{FlowsCounted, FlowsNamed, FlowsTyped, HeadsFit}
use Rattle.wdl_check_flow.proofs.FlowCounts as counts
use Rattle.wdl_check_flow.proofs.FlowGives as gives
use Rattle.wdl_check_flow.proofs.FlowsNamed as names
use Rattle.wdl_check_task.specs.Laws.{TaskCounts, TaskTypes}
use Rattle.wdl_check_task.proofs.Counts as task
use Rattle.wdl_check_task.proofs.WellTyped as well

pub written_types : WrittenTypes
written_types = known.known

pub task_types : TaskTypes
task_types = well.task_types

pub tasks_counted : TaskCounts
tasks_counted = task.task_counts

pub flow_types : FlowsTyped
flow_types = gives.flow_well expr_types cast_types decl_types inputs_types decls_types

pub heads_fit : HeadsFit
heads_fit = gives.heads_fit

pub flows_named : FlowsNamed
flows_named = names.flows_named

pub flows_counted : FlowsCounted
flows_counted = counts.flows_counted
