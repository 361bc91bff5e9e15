use Rattle.std.proofs.Common.{◌≡◌, drop}
use Rattle.wdl_check_doc.specs.Runnables.{second_name, second_of, workflows_in}
use Rattle.wdl_check_doc.proofs.runnable.second_name.Given as goal

abbrev pub invariant-loop-section : goal.invariant-loop-section
invariant-loop-section l = second_of l.stands (workflows_in (drop l.section-index l.sections)) ≡ second_name (workflows_in l.sections)
