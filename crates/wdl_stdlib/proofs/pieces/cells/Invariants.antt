use Rattle.std.proofs.Common.{◌≡◌, map}
use Rattle.wdl_stdlib.proofs.pieces.cells.Given as goal

abbrev pub invariant-loop-cell : goal.invariant-loop-cell
invariant-loop-cell l = l.cells ≡ map (λ x. x.now) l.yielded
