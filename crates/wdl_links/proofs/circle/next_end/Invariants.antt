use Rattle.std.proofs.Common.{◌≡◌, ℕ, ◌<◌, false}
use Rattle.wdl_links.specs.Circles.{is_next}
use Rattle.wdl_links.proofs.circle.next_end.Given as goal

abbrev pub invariant-loop-k : goal.invariant-loop-k
invariant-loop-k l = (k : ℕ) → k < l.k → is_next l.docs l.marks k ≡ false
