use Rattle.std.proofs.Common.{◌≡◌, length}
use Rattle.wdl_base.specs.Same.{same_texts}
use Rattle.wdl_base.proofs.same.same_texts.Given as goal

abbrev pub invariant-loop-a : goal.invariant-loop-a
invariant-loop-a l = same_texts l.a l.b ≡ same_texts l.fn.a l.fn.b

abbrev pub decreases-loop-a : goal.decreases-loop-a
decreases-loop-a l = length l.a
