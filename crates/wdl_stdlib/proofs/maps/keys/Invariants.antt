use Rattle.std.proofs.Common.{◌≡◌, ◌++◌, drop, map}
use Rattle.wdl_value.specs.Functions.{key_of}
use Rattle.wdl_stdlib.proofs.maps.keys.Given as goal

abbrev pub invariant-loop-row : goal.invariant-loop-row
invariant-loop-row l = l.keys ++ map key_of (drop l.row-index l.rows) ≡ map key_of l.rows
