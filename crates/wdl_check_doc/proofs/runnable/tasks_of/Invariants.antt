use Rattle.std.proofs.Common.{◌≡◌, ◌++◌, drop, map}
use Rattle.wdl_check_doc.specs.Parts.{part_of}
use Rattle.wdl_check_doc.specs.Runnables.{task_of, tasks_of}
use Rattle.wdl_check_doc.proofs.runnable.tasks_of.Given as goal

abbrev pub invariant-loop-part : goal.invariant-loop-part
invariant-loop-part l = map task_of l.tasks.items ++ tasks_of (map part_of (drop l.part-index l.parts)) ≡ tasks_of (map part_of l.parts)
