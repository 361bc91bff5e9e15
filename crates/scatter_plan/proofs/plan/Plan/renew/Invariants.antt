use Rattle.scatter_plan.specs.Renewals.{IsRenewing}
use Rattle.scatter_plan.proofs.plan.Plan.renew.Given as goal

abbrev pub invariant-loop-entry : goal.invariant-loop-entry
invariant-loop-entry g l = IsRenewing l.fn.self l.journal l.entry-index l.fn.steps l.steps l.self
