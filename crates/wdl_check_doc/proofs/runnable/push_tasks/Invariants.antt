use Rattle.std.proofs.Common.{◌≡◌, ◌++◌, drop, map}
use Rattle.wdl_check_doc.specs.Parts.{part_of}
use Rattle.wdl_check_doc.specs.Runnables.{task_of, task_part, tasks_at, tasks_in}
use Rattle.wdl_check_doc.proofs.runnable.push_tasks.Given as goal

abbrev pub invariant-loop-section : goal.invariant-loop-section
invariant-loop-section l = map task_of l.tasks.items ++ map (task_part (part_of l.part)) (tasks_in (drop l.section-index l.part.doc.now.document.sections)) ≡ map task_of l.initial.tasks.items ++ tasks_at (part_of l.part)
