use Rattle.std.proofs.Common.{◌≡◌, ◌++◌, drop}
use Rattle.plan_growth.specs.Entering.{dones_at}
use Rattle.plan_bodies.proofs.entering.push_dones.Given as goal

abbrev pub invariant-loop-statement : goal.invariant-loop-statement
invariant-loop-statement l = l.dones ++ dones_at l.first (drop l.statement-index l.statements) ≡ l.initial.dones ++ dones_at l.first l.statements
