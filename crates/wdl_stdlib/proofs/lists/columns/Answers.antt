use Rattle.std.proofs.Common.{rules, arith}
use Rattle.std.proofs.lemmas.List.FromFn.{map-range_with_len_more}
use Rattle.wdl_value.specs.declared.value.Value.TheVariants as v
use Rattle.wdl_value.specs.Functions.{column}
use Rattle.wdl_stdlib.proofs.lists.columns.Goals as goal

pub loop-k-preserved : goal.loop-k-preserved
loop-k-preserved c =
    let e = map-range_with_len_more (λ k. v.List (column c.args.rows.now k)) 0 c.loop-k.k c.loop-k.k (omega arith) in
    search (rules, e)
