use Rattle.std.proofs.Common.{◌≡◌, map}
use Rattle.std.specs.List.{range_with_len}
use Rattle.wdl_value.specs.declared.value.Value.TheVariants as v
use Rattle.wdl_value.specs.Functions.{column}
use Rattle.wdl_stdlib.proofs.lists.columns.Given as goal

abbrev pub invariant-loop-k : goal.invariant-loop-k
invariant-loop-k l = l.columns ≡ map (λ k. v.List (column l.rows k)) (range_with_len 0 l.k)
