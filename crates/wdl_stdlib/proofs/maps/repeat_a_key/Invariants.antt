use Rattle.std.proofs.Common.{◌≡◌, ◌||◌, drop}
use Rattle.wdl_value.specs.Functions.{repeat_a_key}
use Rattle.wdl_stdlib.proofs.Keys.{meet}
use Rattle.wdl_stdlib.proofs.maps.repeat_a_key.Given as goal

abbrev pub invariant-loop-pair : goal.invariant-loop-pair
invariant-loop-pair l = (meet l.seen (drop l.pair-index l.pairs) || repeat_a_key (drop l.pair-index l.pairs)) ≡ repeat_a_key l.pairs
