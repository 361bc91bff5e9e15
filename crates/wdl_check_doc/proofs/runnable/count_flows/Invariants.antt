use Rattle.std.proofs.Common.{◌≡◌, ◌+◌, ◌≤◌, drop, length}
use Rattle.wdl_check_doc.specs.Runnables.{workflows_in}
use Rattle.wdl_check_doc.proofs.runnable.count_flows.Given as goal

abbrev pub invariant-loop-section : goal.invariant-loop-section
invariant-loop-section l = record {
  count : l.count + length (workflows_in (drop l.section-index l.sections)) ≡ length (workflows_in l.sections);
  below : l.count ≤ l.section-index;
}
