use Rattle.std.proofs.Common.{◌≡◌, ◌<◌, ℕ, get_or, length}
use Rattle.step_net.specs.Views.{IsSoundNet, view}
use Rattle.step_net_tests.proofs.many.a_step_that_needs_many_cells_is_done_after_the_last.Given as goal

abbrev pub invariant-loop-k : goal.invariant-loop-k
invariant-loop-k g l =
    IsSoundNet l.net × (length (view l.net).cells ≡ l.k) × (length l.needs.items ≡ l.k) × ((i : ℕ) → i < length l.needs.items → get_or l.needs.items i 0 < length (view l.net).cells)

abbrev pub invariant-loop-k-2 : goal.invariant-loop-k-2
invariant-loop-k-2 g l = IsSoundNet l.net × (length (view l.net).cells ≡ 20000)
