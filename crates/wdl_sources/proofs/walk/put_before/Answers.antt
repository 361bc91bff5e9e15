use Rattle.std.proofs.Common.{◌++◌, reverse, ap, ◌∙◌}
use Rattle.wdl_sources.specs.Walks.{steps_from}
use Rattle.wdl_sources.proofs.WalkLemmas.{put_one}
use Rattle.wdl_sources.proofs.walk.put_before.Goals as goal

pub wants-preserved : goal.wants-preserved
wants-preserved c =
    let l = c.wants in
    ap (λ w. steps_from c.args.base.now c.pop.new.self ++ reverse w) c.in_ok-push.ensures.items
    ∙ put_one c.args.base.now c.pop.new.self l.left c.in-Some.want l.waiting.items c.in_ok-step_of.field-0 c.in-Some.ensures c.in_ok-step_of.ensures
    ∙ l.invariant
