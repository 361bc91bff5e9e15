use Rattle.std.proofs.Common.{◌≡◌, ◌++◌, drop, map}
use Rattle.wdl_bundle.specs.Bundled.{task_sections}
use Rattle.wdl_bundle.specs.Called.{task_of}
use Rattle.wdl_bundle.proofs.bundling.push_tasks.Given as goal

abbrev pub invariant-loop-at : goal.invariant-loop-at
invariant-loop-at l = l.sections ++ task_sections l.names l.at (map task_of (drop l.at l.tasks)) ≡ l.initial.sections ++ task_sections l.names 0 (map task_of l.tasks)
