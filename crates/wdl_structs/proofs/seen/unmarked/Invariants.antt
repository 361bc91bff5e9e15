use Rattle.std.proofs.Common.{◌≡◌, ℕ, false, length}
use Rattle.wdl_links.specs.Circles.{is_marked}
use Rattle.wdl_structs.proofs.seen.unmarked.Given as goal

abbrev pub invariant-loop : goal.invariant-loop
invariant-loop l = (length l.marks ≡ l.counter) × ((k : ℕ) → is_marked l.marks k ≡ false)
