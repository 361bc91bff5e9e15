use Rattle.std.proofs.Common.{◌≡◌, take}
use Rattle.cwl_subset.specs.Tables.{task_table}
use Rattle.cwl_subset.proofs.task.tasks_broken.Given as goal

abbrev pub invariant-loop-task : goal.invariant-loop-task
invariant-loop-task l = l.table ≡ task_table l.structs (take l.task-index l.tasks)
