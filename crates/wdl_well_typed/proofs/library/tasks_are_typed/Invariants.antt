use Rattle.std.proofs.Common.{◌≡◌, drop}
use Rattle.std.specs.List.{list_all}
use Rattle.wdl_typed.specs.Declarations.{task_typed}
use Rattle.wdl_well_typed.proofs.library.tasks_are_typed.Given as goal

abbrev pub invariant-loop-task : goal.invariant-loop-task
invariant-loop-task l = list_all (task_typed l.structs) (drop l.task-index l.tasks) ≡ list_all (task_typed l.structs) l.tasks
