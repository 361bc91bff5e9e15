use Rattle.std.proofs.Common.{map, refl, ◌∙◌, rules}
use Rattle.wdl_value.specs.declared.value.Value.TheVariants as v
use Rattle.wdl_value.specs.Functions.{crossed}
use Rattle.wdl_stdlib.proofs.Past.{part_more, past_part, limited_past}
use Rattle.wdl_stdlib.proofs.lists.crossed.Goals as goal

pub returns-in_err-pairs : goal.returns-in_err-pairs
returns-in_err-pairs c =
    let ys = c.args.ys.now in
    let e = part_more (λ (xs : _). crossed xs ys) (λ x. map (λ y. v.Pair x y) ys) (λ x xs. refl) c.loop-x.pairs.items c.args.xs.now c.loop-x.x-index c.x-item.result c.x-item.is c.loop-x-test.true in
    let k = limited_past _ _ (past_part _ _ _ _ c.in_err-pairs.ensures.past (e ∙ c.loop-x.invariant)) in
    search rules

pub loop-x-preserved : goal.loop-x-preserved
loop-x-preserved c =
    let ys = c.args.ys.now in
    let e = part_more (λ (xs : _). crossed xs ys) (λ x. map (λ y. v.Pair x y) ys) (λ x xs. refl) c.loop-x.pairs.items c.args.xs.now c.loop-x.x-index c.x-item.result c.x-item.is c.loop-x-test.true in
    rw c.in_ok-pairs.ensures.pairs (e ∙ c.loop-x.invariant)
