use Rattle.std.proofs.Common.{◌≡◌, drop}
use Rattle.value_net.specs.Nets.{IsSound, view}
use Rattle.plan_growth.specs.Entering.{with_statements}
use Rattle.plan_bodies.proofs.entering.add_statements.Given as goal

abbrev pub invariant-loop-statement : goal.invariant-loop-statement
invariant-loop-statement l =
    IsSound l.net × ((view l.net).values ≡ (view l.initial.net).values)
    × (with_statements l.instance l.bases l.statement (drop l.statement l.statements) (view l.net) ≡ with_statements l.instance l.bases 0 l.statements (view l.initial.net))
