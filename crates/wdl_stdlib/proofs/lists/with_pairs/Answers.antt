use Rattle.std.proofs.Common.{◌++◌, map}
use Rattle.wdl_value.specs.declared.value.Value.TheVariants as v
use Rattle.wdl_stdlib.specs.Gives.{IsPast}
use Rattle.wdl_stdlib.proofs.Past.{past_map, handed_on}
use Rattle.wdl_stdlib.proofs.lists.with_pairs.Goals as goal

pub returns-in_err-pairs-clause-past : goal.returns-in_err-pairs-clause-past
returns-in_err-pairs-clause-past c =
    let past = past_map _ _ _ _ _ _ _ _ c.in_err-pairs.ensures.past c.in_ok-pair.ensures c.y-item.is c.loop-y-test.true c.loop-y.invariant in
    handed_on _ _ (IsPast (c.args.pairs.items ++ map (λ y. v.Pair c.args.x.now y) c.args.ys.now)) c.from_residual-in_err-pairs.ensures past
