use Rattle.std.proofs.Common.{◌≡◌, ◌≤◌, ◌++◌, drop, map}
use Rattle.wdl_check_rules.specs.Locals.{stands_for}
use Rattle.wdl_bundle.specs.Called.{task_of, tasks_from, tasks_in, tasks_of}
use Rattle.struct_names.specs.Known.{known_of}
use Rattle.wdl_bundle.proofs.tasks.push_tasks.Given as goal

abbrev pub invariant-loop-section : goal.invariant-loop-section
invariant-loop-section l = record {
  tasks : map task_of l.tasks.items ++ tasks_from l.doc (stands_for l.known.locals) l.number (tasks_in (drop l.section-index l.known.doc.now.document.sections))
      ≡ map task_of l.initial.tasks.items ++ tasks_of l.doc (known_of l.known);
  below : l.number ≤ l.section-index;
}
