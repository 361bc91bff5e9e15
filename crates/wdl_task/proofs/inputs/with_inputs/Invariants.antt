use Rattle.wdl_task.proofs.InputSteps.{InputsLeft}
use Rattle.wdl_task.proofs.inputs.with_inputs.Given as goal

abbrev pub invariant-loop-input : goal.invariant-loop-input
invariant-loop-input g l = InputsLeft l.inputs l.initial.env l.initial.steps l.input-index l.env l.steps
