use Rattle.std.proofs.Common.{[], drop, map}
use Rattle.wdl_check_decls.proofs.ListLaws.{Leads}
use Rattle.wdl_check_doc.specs.Outcomes.{each}
use Rattle.wdl_check_doc.specs.Runnables.{task_in, task_of}
use Rattle.wdl_check_doc.proofs.task.check_tasks.Given as goal

abbrev pub invariant-loop-task : goal.invariant-loop-task
invariant-loop-task l = Leads (each (task_in l.structs) l.typed (map task_of (drop l.task-index l.tasks))) (each (task_in l.structs) [] (map task_of l.tasks))
