use Rattle.std.proofs.Common.{◌≡◌}
use Rattle.wdl_depths.proofs.nesting.levels_of.Given as goal

abbrev pub invariant-loop-level : goal.invariant-loop-level
invariant-loop-level l = l.levels ≡ (l.flows, l._level)
