use Rattle.std.proofs.Common.{◌≡◌, drop}
use Rattle.wdl_swaps.specs.Swaps.{swap_at}
use Rattle.wdl_swaps.proofs.swap.swap_at.Given as goal

abbrev pub invariant-loop-swap : goal.invariant-loop-swap
invariant-loop-swap l = swap_at (drop l.swap-index l.swaps) l.key l.hops ≡ swap_at l.swaps l.key l.hops
