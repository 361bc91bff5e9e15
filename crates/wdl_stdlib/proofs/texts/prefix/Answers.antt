use Rattle.std.proofs.Common.{rules}
use Rattle.wdl_stdlib.proofs.Past.{past_map, limited_past}
use Rattle.wdl_stdlib.proofs.texts.prefix.Goals as goal

pub returns-in_err-texts : goal.returns-in_err-texts
returns-in_err-texts c =
    let past = past_map _ _ _ _ _ _ _ _ c.in_err-texts.ensures.past c.in_ok-joined.ensures c.item-item.is c.loop-item-test.true c.loop-item.invariant in
    let k = limited_past _ _ past in search rules
