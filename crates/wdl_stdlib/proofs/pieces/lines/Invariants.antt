use Rattle.std.proofs.Common.{◌≡◌, map}
use Rattle.wdl_stdlib.proofs.pieces.lines.Given as goal

abbrev pub invariant-loop-line : goal.invariant-loop-line
invariant-loop-line l = l.lines ≡ map (λ x. x.now) l.yielded
