use Rattle.wdl_value.specs.Tables.{table}
use Rattle.std.proofs.Common.{take}
use Rattle.scatter_plan.proofs.Renewing.{begun_renewing, ended_renewing, entry_waits, more_renewing}
use Rattle.scatter_plan.proofs.plan.Plan.renew.Goals as goal

pub loop-entry-init : goal.loop-entry-init
loop-entry-init g c = begun_renewing c.args.self.now c.restart.new.self c.args.journal.now c.args.steps.now c.restart.new.steps c.restart.ensures.origin c.requires.made c.in_ok-restart.ensures.told

pub arrive-requires-clause-waits : goal.arrive-requires-clause-waits
arrive-requires-clause-waits g c =
    let l = c.loop-entry in
    entry_waits c.args.self.now l.self c.args.journal.now l.entry-index c.entry-item.result l.invariant.same c.requires.fed c.loop-entry-test.true c.entry-item.is l.invariant.told

pub loop-entry-preserved : goal.loop-entry-preserved
loop-entry-preserved g c =
    let l = c.loop-entry in
    more_renewing c.args.self.now l.self c.arrive.new.self c.args.journal.now l.entry-index c.entry-item.result c.args.steps.now l.steps c.arrive.new.steps l.invariant c.loop-entry-test.true c.entry-item.is
    c.arrive.ensures.origin c.arrive.ensures.made (c.in-Ok.ensures.arrives (table (take l.entry-index c.args.journal.now)) l.invariant.told)

pub returns-clause-told : goal.returns-clause-told
returns-clause-told g c =
    let l = c.loop-entry in
    ended_renewing c.args.self.now l.self c.args.journal.now l.entry-index c.args.steps.now l.steps l.invariant c.loop-entry-test.false
