use Rattle.wdl_check_task.proofs.Counts.{task_counts}
use Rattle.wdl_check_task.proofs.WellTyped.{task_types}
use Rattle.wdl_check_task.proofs.laws.tasks_are_well_typed.Goals as goal

pub returns : goal.returns
returns c = record { types = task_types; counts = task_counts }
