use Rattle.wdl_task.proofs.InputSteps.{input_next}
use Rattle.wdl_task.proofs.inputs.with_inputs.Goals as goal

pub loop-input-preserved : goal.loop-input-preserved
loop-input-preserved g c =
    input_next c.args.inputs.now c.args.env c.args.steps.now c.loop-input.input-index c.loop-input.env c.loop-input.steps c.input-item.result c.input-item.is c.loop-input-test.true c.loop-input.invariant
    c.in_ok-env.env c.with_input.new.steps c.in_ok-env.ensures.value c.with_input.ensures.steps
