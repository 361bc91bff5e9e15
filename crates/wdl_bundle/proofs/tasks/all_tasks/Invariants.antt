use Rattle.std.proofs.Common.{◌≡◌, ◌++◌, drop, map}
use Rattle.wdl_bundle.specs.Called.{all_tasks, task_of}
use Rattle.struct_names.specs.Known.{known_of}
use Rattle.wdl_bundle.proofs.tasks.all_tasks.Given as goal

abbrev pub invariant-loop-doc : goal.invariant-loop-doc
invariant-loop-doc l = map task_of l.tasks.items ++ all_tasks l.doc (map known_of (drop l.doc l.knowns)) ≡ all_tasks 0 (map known_of l.knowns)
