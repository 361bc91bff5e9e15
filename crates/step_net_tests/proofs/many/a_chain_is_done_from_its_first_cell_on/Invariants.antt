use Rattle.std.proofs.Common.{◌≡◌, length}
use Rattle.step_net.specs.Views.{IsSoundNet, view}
use Rattle.step_net_tests.proofs.many.a_chain_is_done_from_its_first_cell_on.Given as goal

abbrev pub invariant-loop-k : goal.invariant-loop-k
invariant-loop-k g l = IsSoundNet l.net × (length (view l.net).cells ≡ l.k)

abbrev pub invariant-loop-k-2 : goal.invariant-loop-k-2
invariant-loop-k-2 g l = IsSoundNet l.net × (length (view l.net).cells ≡ 20001)

abbrev pub invariant-loop-k-3 : goal.invariant-loop-k-3
invariant-loop-k-3 g l = IsSoundNet l.net × (length (view l.net).cells ≡ 20001)
