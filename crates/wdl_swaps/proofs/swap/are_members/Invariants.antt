use Rattle.std.proofs.Common.{◌≡◌, drop}
use Rattle.wdl_swaps.specs.Chains.{are_members}
use Rattle.wdl_swaps.proofs.swap.are_members.Given as goal

abbrev pub invariant-loop-hop : goal.invariant-loop-hop
invariant-loop-hop l = are_members (drop l.hop-index l.hops) l.left ≡ are_members l.hops l.members
