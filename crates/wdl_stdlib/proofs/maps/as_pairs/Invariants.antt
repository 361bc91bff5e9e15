use Rattle.std.proofs.Common.{◌≡◌, ◌++◌, drop, map}
use Rattle.wdl_value.specs.Functions.{pair_of}
use Rattle.wdl_stdlib.proofs.maps.as_pairs.Given as goal

abbrev pub invariant-loop-row : goal.invariant-loop-row
invariant-loop-row l = l.pairs ++ map pair_of (drop l.row-index l.rows) ≡ map pair_of l.rows
