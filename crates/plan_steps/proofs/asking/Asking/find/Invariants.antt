use Rattle.plan_steps.specs.Askings.{calls}
use Rattle.plan_steps.proofs.Asks.{IsNewBelow}
use Rattle.plan_steps.proofs.asking.Asking.find.Given as goal

abbrev pub invariant-loop-at : goal.invariant-loop-at
invariant-loop-at l = IsNewBelow (calls l.self) l.place l.at
