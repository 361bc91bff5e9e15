use Rattle.std.proofs.Common.{drop, sym, ◌∙◌}
use Rattle.wdl_same.proofs.Paired.{none_paired}
use Rattle.wdl_same.proofs.partners.pair_all.Goals as goal

pub returns-in_default : goal.returns-in_default
returns-in_default c =
    sym (none_paired c.loop-call.partners.items (drop c.loop-call.call-index c.args.calls.now) c.loop-call.left.now c.in_default.len_below)
    ∙ c.loop-call.invariant
