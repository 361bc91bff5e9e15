use Rattle.std.proofs.Common.{rules}
use Rattle.wdl_task.specs.Views.{filled_of}
use Rattle.wdl_task.proofs.PartSteps.{part_fails, part_next, part_ready}
use Rattle.wdl_task.proofs.command.with_parts.Goals as goal

pub with_part-requires-clause-ready : goal.with_part-requires-clause-ready
with_part-requires-clause-ready g c =
    part_ready c.args.env.now c.args.parts.now (filled_of c.args.filled) c.args.steps.now c.loop-part.part-index (filled_of c.loop-part.filled) c.loop-part.steps c.part-item.result c.part-item.is c.loop-part-test.true c.loop-part.invariant

pub loop-part-preserved : goal.loop-part-preserved
loop-part-preserved g c =
    part_next c.args.env.now c.args.parts.now (filled_of c.args.filled) c.args.steps.now c.loop-part.part-index (filled_of c.loop-part.filled) c.loop-part.steps c.part-item.result c.part-item.is c.loop-part-test.true c.loop-part.invariant
    (filled_of c.in_ok-filled.filled) c.with_part.new.steps c.in_ok-filled.ensures.value c.in_ok-filled.ensures.laid c.with_part.ensures.steps

pub returns-in_err-filled-clause-value : goal.returns-in_err-filled-clause-value
returns-in_err-filled-clause-value g c =
    let fails = part_fails c.args.env.now c.args.parts.now (filled_of c.args.filled) c.args.steps.now c.loop-part.part-index (filled_of c.loop-part.filled) c.loop-part.steps c.part-item.result c.part-item.is c.loop-part-test.true c.loop-part.invariant c.in_err-filled.field-0.0 c.in_err-filled.ensures.value in
    search (rules, fails)
