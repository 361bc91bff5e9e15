use Rattle.std.proofs.Common.{◌≡◌, ◌++◌, drop, map}
use Rattle.wdl_value.specs.Functions.{group_of, first_pairs}
use Rattle.wdl_stdlib.proofs.Keys.{left_of, AreLeft}
use Rattle.wdl_stdlib.proofs.maps.collected.Given as goal

abbrev pub invariant-loop-pair : goal.invariant-loop-pair
invariant-loop-pair l =
    AreLeft l.groups l.pairs
    × (l.rows ++ map (group_of l.pairs) (left_of l.groups (first_pairs (drop l.pair-index l.pairs))) ≡ map (group_of l.pairs) (first_pairs l.pairs))
