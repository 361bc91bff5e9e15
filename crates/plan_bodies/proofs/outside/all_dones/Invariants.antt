use Rattle.std.proofs.Common.{◌≡◌, ◌++◌, drop}
use Rattle.plan_growth.specs.Entering.{all_dones}
use Rattle.plan_bodies.proofs.outside.all_dones.Given as goal

abbrev pub invariant-loop-first : goal.invariant-loop-first
invariant-loop-first l = l.dones ++ all_dones l.statements (drop l.first-index l.firsts) ≡ all_dones l.statements l.firsts
