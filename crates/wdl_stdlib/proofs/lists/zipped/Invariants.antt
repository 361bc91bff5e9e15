use Rattle.std.proofs.Common.{◌≡◌, ◌++◌, drop, Ok}
use Rattle.wdl_value.specs.Functions.{zipped}
use Rattle.wdl_value.specs.Outcome.{and_then}
use Rattle.wdl_stdlib.proofs.lists.zipped.Given as goal

abbrev pub invariant-loop-x : goal.invariant-loop-x
invariant-loop-x l = and_then (zipped (drop l.x-index l.xs) l.left) (λ rest. Ok (l.pairs ++ rest)) ≡ zipped l.xs l.ys
