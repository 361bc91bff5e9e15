use Rattle.scatter_plan.specs.Calls.{HasTold}
use Rattle.scatter_plan.specs.Plans.{IsMade}
use Rattle.scatter_plan_tests.proofs.running.follow.Given as goal

abbrev pub invariant-loop : goal.invariant-loop
invariant-loop g l = IsMade l.plan × HasTold l.plan
