use Rattle.std.proofs.Common.{◌≡◌, length, arith}
use Rattle.wdl_task.specs.Views.{asked_of}
use Rattle.plan_steps.proofs.OutputRuns.{told_count}
use Rattle.plan_steps.proofs.answer.end_call.Goals as goal

pub set_outputs-requires-clause-first : goal.set_outputs-requires-clause-first
set_outputs-requires-clause-first g c = λ some.
    let count : length c.in-Ok.outs ≡ length c.args.task.now.outputs =
    told_count c.args.structs.now c.args.task.now (asked_of c.args.prepared.now) c.args.prepared.now.request.dir c.args.answer.now c.in-Ok.outs c.in-Ok.ensures.value in
    omega (arith, c.requires.runs.names (omega (arith, some, count, c.requires.names)), count, c.requires.names)
