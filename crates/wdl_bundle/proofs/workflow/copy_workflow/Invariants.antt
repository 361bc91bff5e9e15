use Rattle.std.proofs.Common.{◌≡◌, ◌++◌, drop}
use Rattle.wdl_check_rules.specs.Locals.{stands_for}
use Rattle.wdl_bundle.specs.Bodies.{workflow_elements}
use Rattle.wdl_bundle.specs.Called.{reach_of}
use Rattle.wdl_bundle.specs.TaskNames.{name_of}
use Rattle.wdl_bundle.proofs.workflow.copy_workflow.Given as goal

abbrev pub invariant-loop-element : goal.invariant-loop-element
invariant-loop-element l = l.elements ++ workflow_elements (stands_for l.locals) (name_of (reach_of l.names.reach) l.names.names.now) (drop l.element-index l.workflow.elements)
    ≡ workflow_elements (stands_for l.locals) (name_of (reach_of l.names.reach) l.names.names.now) l.workflow.elements
