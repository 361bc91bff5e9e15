use Rattle.plan_steps.specs.Doing.{state}
use Rattle.scatter_plan.proofs.TurnLoop.{IsTurning}
use Rattle.scatter_plan.proofs.turning.turn.Given as goal

abbrev pub invariant-loop : goal.invariant-loop
invariant-loop g l = IsTurning l.ground.checked.now l.ground.layout.now l.ground.site.now (state l.initial.growth l.initial.asking) l.initial.steps l.growth l.asking l.steps
