use Rattle.std.proofs.Common.{◌≡◌, ◌++◌, drop}
use Rattle.wdl_value.specs.Functions.{crossed}
use Rattle.wdl_stdlib.proofs.lists.crossed.Given as goal

abbrev pub invariant-loop-x : goal.invariant-loop-x
invariant-loop-x l = l.pairs.items ++ crossed (drop l.x-index l.xs) l.ys ≡ crossed l.xs l.ys
