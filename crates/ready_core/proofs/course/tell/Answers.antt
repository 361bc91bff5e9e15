use Rattle.std.proofs.Common.{◌+◌, ◌-◌, ◌≡◌, Err, ap, arith, length}
use Rattle.wdl_value.specs.Tables.{table}
use Rattle.scatter_plan.specs.Plans.{ready_in}
use Rattle.ready_core.specs.Cores.{origin_in}
use Rattle.ready_core.proofs.Planned.{awaited_waits, from_within, many_for, nexts_shown, some_wait, tolds_next}
use Rattle.ready_core.proofs.Turning.{past_next}
use Rattle.ready_core.proofs.course.tell.Goals as goal

pub overflow_sub-from : goal.overflow_sub-from
overflow_sub-from g c =
    omega (arith, some_wait c.args.plan.now c.args.journal.now c.args.entry.now.request c.requires.told c.requires.awaited, ap length c.ready-waiting.ensures.ready)

pub arrive-requires-clause-waits : goal.arrive-requires-clause-waits
arrive-requires-clause-waits g c = awaited_waits c.args.plan.now c.args.journal.now c.args.entry.now.request c.requires.told c.requires.awaited

pub returns-in-Ok-clause-next : goal.returns-in-Ok-clause-next
returns-in-Ok-clause-next g c =
    let from = length c.ready-waiting.result.now - 1 in
    let is_from : from + 1 ≡ length (ready_in c.args.plan.now) =
    omega (arith, some_wait c.args.plan.now c.args.journal.now c.args.entry.now.request c.requires.told c.requires.awaited, ap length c.ready-waiting.ensures.ready) in
    nexts_shown c.args.plan.now c.arrive.new.self c.args.journal.now c.args.entry.now c.requires.told c.arrive.ensures.origin c.args.steps.now c.arrive.new.steps
    (c.in-Ok.ensures.arrives (table c.args.journal.now) c.requires.told) from is_from c.shown_by.result c.shown_by.ensures.shown

pub returns-in-Err-TooMany-clause-next : goal.returns-in-Err-TooMany-clause-next
returns-in-Err-TooMany-clause-next g c =
    past_next (origin_in c.args.plan.now) c.args.journal.now c.args.entry.now c.past_limits.result
    (many_for c.args.plan.now c.args.journal.now c.args.entry.now (c.in-Err-TooMany.ensures.many (table c.args.journal.now) c.requires.told (ap Err c.in-Err-TooMany.field-0-is))) c.past_limits.ensures.past

pub returns-in-Ok-clause-told : goal.returns-in-Ok-clause-told
returns-in-Ok-clause-told g c was =
    tolds_next c.args.plan.now c.arrive.new.self c.args.journal.now c.args.entry.now was c.arrive.ensures.origin c.args.steps.now c.arrive.new.steps (c.in-Ok.ensures.arrives (table c.args.journal.now) was) c.shown_by.result

pub shown_by-requires : goal.shown_by-requires
shown_by-requires g c =
    let from = length c.ready-waiting.result.now - 1 in
    let is_from : from + 1 ≡ length (ready_in c.args.plan.now) =
    omega (arith, some_wait c.args.plan.now c.args.journal.now c.args.entry.now.request c.requires.told c.requires.awaited, ap length c.ready-waiting.ensures.ready) in
    record {
      within =
          from_within c.args.plan.now c.arrive.new.self c.args.journal.now c.args.entry.now c.requires.told c.arrive.ensures.origin c.args.steps.now c.arrive.new.steps
          (c.in-Ok.ensures.arrives (table c.args.journal.now) c.requires.told) from is_from;
    }
