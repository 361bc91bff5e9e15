use Rattle.std.proofs.Common.{◌≡◌, drop}
use Rattle.wdl_swaps.specs.Chains.{along, expr_of}
use Rattle.wdl_swaps.proofs.chain.expr_of.Given as goal

abbrev pub invariant-loop-hop : goal.invariant-loop-hop
invariant-loop-hop l = along l.expr (drop l.hop-index l.chain.hops) ≡ expr_of l.chain
