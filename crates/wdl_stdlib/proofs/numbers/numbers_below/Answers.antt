use Rattle.std.proofs.Common.{pos, map, rules, arith}
use Rattle.std.specs.List.{range_with_len}
use Rattle.std.proofs.lemmas.List.FromFn.{map-range_with_len_more, length-map-range_with_len}
use Rattle.wdl_value.specs.declared.value.Value.TheVariants as v
use Rattle.wdl_stdlib.proofs.Past.{past_count}
use Rattle.wdl_stdlib.proofs.numbers.numbers_below.Goals as goal

pub returns-then-n-gt-ITEM_LIMIT : goal.returns-then-n-gt-ITEM_LIMIT
returns-then-n-gt-ITEM_LIMIT c d h =
    let l = length-map-range_with_len (λ k. v.Int (pos k)) 0 c.args.n in
    let e = past_count (map (λ k. v.Int (pos k)) (range_with_len 0 c.args.n)) (omega arith) in
    cc

pub loop-k-preserved : goal.loop-k-preserved
loop-k-preserved c =
    let e = map-range_with_len_more (λ k. v.Int (pos k)) 0 c.loop-k.k c.loop-k.k (omega arith) in
    search (rules, e)
