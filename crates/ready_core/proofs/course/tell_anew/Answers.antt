use Rattle.wdl_value.specs.Tables.{table}
use Rattle.std.proofs.Common.{[], ◌∷◌, ◌++◌}
use Rattle.ready_core.proofs.Coursing.{all_further, awaited_moved, nexts_moved, same_through}
use Rattle.ready_core.proofs.course.tell_anew.Goals as goal

pub tell-requires-clause-told : goal.tell-requires-clause-told
tell-requires-clause-told g c = c.in_ok-catch_up.ensures.caught.all.0

pub tell-requires-clause-awaited : goal.tell-requires-clause-awaited
tell-requires-clause-awaited g c = awaited_moved c.args.plan.now c.catch_up.new.plan c.args.journal.now c.args.entry.now.request c.catch_up.ensures.origin c.requires.awaited

pub returns-clause-origin : goal.returns-clause-origin
returns-clause-origin g c = same_through _ _ _ c.catch_up.ensures.origin c.tell.ensures.origin

pub returns-clause-next : goal.returns-clause-next
returns-clause-next g c =
    nexts_moved c.args.plan.now c.catch_up.new.plan c.args.journal.now c.args.entry.now c.tell.result c.catch_up.ensures.origin c.tell.ensures.next

pub returns-clause-told : goal.returns-clause-told
returns-clause-told g c =
    all_further c.args.stale (table c.args.journal.now) (table (c.args.journal.now ++ c.args.entry.now ∷ [])) c.args.plan.now c.catch_up.new.plan c.tell.new.plan c.args.steps.now c.catch_up.new.steps
    c.tell.new.steps c.tell.result c.in_ok-catch_up.ensures.caught c.tell.ensures.told
