use Rattle.std.proofs.Common.{IsSome}
use Rattle.keeper_sql_tests.proofs.tests.fill.Given as goal

abbrev pub invariant-loop-i : goal.invariant-loop-i
invariant-loop-i l = IsSome l.keeper.path
