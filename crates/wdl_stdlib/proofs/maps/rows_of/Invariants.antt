use Rattle.std.proofs.Common.{◌≡◌, ◌++◌, drop, map}
use Rattle.wdl_value.specs.Functions.{row_of}
use Rattle.wdl_stdlib.proofs.maps.rows_of.Given as goal

abbrev pub invariant-loop-pair : goal.invariant-loop-pair
invariant-loop-pair l = l.rows ++ map row_of (drop l.pair-index l.pairs) ≡ map row_of l.pairs
