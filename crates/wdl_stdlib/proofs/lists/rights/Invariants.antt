use Rattle.std.proofs.Common.{◌≡◌, ◌++◌, drop, map}
use Rattle.wdl_value.specs.Parts.{right_in}
use Rattle.wdl_stdlib.proofs.lists.rights.Given as goal

abbrev pub invariant-loop-pair : goal.invariant-loop-pair
invariant-loop-pair l = l.items ++ map right_in (drop l.pair-index l.pairs) ≡ map right_in l.pairs
