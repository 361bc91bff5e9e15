use Rattle.std.proofs.Common.{◌≡◌, ◌+◌, ◌≤◌, drop, length}
use Rattle.wdl_check_doc.specs.Runnables.{tasks_in}
use Rattle.wdl_check_doc.proofs.runnable.count_tasks.Given as goal

abbrev pub invariant-loop-section : goal.invariant-loop-section
invariant-loop-section l = record {
  count : l.count + length (tasks_in (drop l.section-index l.sections)) ≡ length (tasks_in l.sections);
  below : l.count ≤ l.section-index;
}
