use Rattle.wdl_value.specs.Tables.{table}
use Rattle.ready_core.proofs.Coursing.{caughts, not_caught}
use Rattle.ready_core.proofs.Planned.{fed_for, few_for}
use Rattle.ready_core.proofs.course.catch_up.Goals as goal

pub renew-requires-clause-fed : goal.renew-requires-clause-fed
renew-requires-clause-fed g c = fed_for c.args.plan.now c.args.journal.now c.requires.fed

pub renew-requires-clause-few : goal.renew-requires-clause-few
renew-requires-clause-few g c = few_for c.args.plan.now c.args.journal.now c.requires.few

pub returns-then-stale-clause-caught : goal.returns-then-stale-clause-caught
returns-then-stale-clause-caught g c =
    caughts c.args.stale c.args.plan.now c.renew.new.self (table c.args.journal.now) c.args.steps.now c.renew.new.steps c.renew.result c.if-stale.true c.renew.ensures.told

pub returns-clause-caught : goal.returns-clause-caught
returns-clause-caught g c = not_caught c.args.stale c.args.plan.now (table c.args.journal.now) c.args.steps.now c.if-stale.false c.requires.told
