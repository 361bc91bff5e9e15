use Rattle.wdl_typed.specs.Bodies.{library}
use Rattle.plan_layout.proofs.Workflows.{LaidBelow}
use Rattle.plan_layout.proofs.flows.lay_flows.Given as goal

abbrev pub invariant-loop-flow : goal.invariant-loop-flow
invariant-loop-flow l = LaidBelow (library l.checked.structs l.checked.tasks l.checked.flows) l.flow l.flows l.bodies
