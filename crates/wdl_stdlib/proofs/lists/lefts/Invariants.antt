use Rattle.std.proofs.Common.{◌≡◌, ◌++◌, drop, map}
use Rattle.wdl_value.specs.Parts.{left_in}
use Rattle.wdl_stdlib.proofs.lists.lefts.Given as goal

abbrev pub invariant-loop-pair : goal.invariant-loop-pair
invariant-loop-pair l = l.items ++ map left_in (drop l.pair-index l.pairs) ≡ map left_in l.pairs
