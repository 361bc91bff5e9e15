use Rattle.std.proofs.Common.{◌≡◌, ◌+◌, ◌≤◌, drop, length}
use Rattle.wdl_bundle.specs.Called.{tasks_in}
use Rattle.wdl_bundle.proofs.tasks.count_tasks.Given as goal

abbrev pub invariant-loop-section : goal.invariant-loop-section
invariant-loop-section l = record {
  count : l.count + length (tasks_in (drop l.section-index l.sections)) ≡ length (tasks_in l.sections);
  below : l.count ≤ l.section-index;
}
