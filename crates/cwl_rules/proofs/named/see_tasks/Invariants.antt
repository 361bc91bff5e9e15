use Rattle.std.proofs.Common.{◌≡◌, true, take}
use Rattle.std.specs.List.{list_all}
use Rattle.cwl_image.specs.Named.{task_named}
use Rattle.cwl_rules.proofs.named.see_tasks.Given as goal

abbrev pub invariant-loop-task : goal.invariant-loop-task
invariant-loop-task l = list_all task_named (take l.task-index l.tasks) ≡ true
