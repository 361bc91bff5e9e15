use Rattle.std.proofs.Common.{◌≡◌, map}
use Rattle.std.specs.List.{range_with_len}
use Rattle.wdl_load.specs.Loads.{load_value}
use Rattle.wdl_load.proofs.value.load_values.Given as goal

abbrev pub invariant-loop-number : goal.invariant-loop-number
invariant-loop-number l = l.values.items ≡ map load_value (range_with_len 0 l.number)
