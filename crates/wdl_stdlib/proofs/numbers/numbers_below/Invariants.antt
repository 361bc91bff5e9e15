use Rattle.std.proofs.Common.{◌≡◌, map, pos}
use Rattle.std.specs.List.{range_with_len}
use Rattle.wdl_value.specs.declared.value.Value.TheVariants as v
use Rattle.wdl_stdlib.proofs.numbers.numbers_below.Given as goal

abbrev pub invariant-loop-k : goal.invariant-loop-k
invariant-loop-k l = l.numbers ≡ map (λ k. v.Int (pos k)) (range_with_len 0 l.k)
