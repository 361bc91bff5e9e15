use Rattle.plan_layout.proofs.Parts.{Laying}
use Rattle.plan_layout.proofs.walk.+laying.Given as goal

abbrev pub invariant-lay_body-loop-index : goal.invariant-lay_body-loop-index
invariant-lay_body-loop-index l = Laying l.origin l.body l.initial.scope l.before l.after l.initial.bodies l.index l.scope l.next l.bodies l.statements
