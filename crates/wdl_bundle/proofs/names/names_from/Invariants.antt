use Rattle.std.proofs.Common.{◌≡◌, ◌++◌, drop, map}
use Rattle.wdl_bundle.specs.Called.{is_set, task_of}
use Rattle.wdl_bundle.specs.TaskNames.{names_from}
use Rattle.wdl_bundle.proofs.names.names_from.Given as goal

abbrev pub invariant-loop-at : goal.invariant-loop-at
invariant-loop-at l = l.names.items ++ names_from (is_set l.marks) l.taken l.at (map task_of (drop l.at l.tasks)) ≡ names_from (is_set l.marks) l.initial.taken 0 (map task_of l.tasks)
