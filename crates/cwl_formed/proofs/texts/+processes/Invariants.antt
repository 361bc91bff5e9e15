use Rattle.std.proofs.Common.{◌≡◌, true, take}
use Rattle.cwl_formed.specs.Plain.{steps_plain}
use Rattle.cwl_formed.proofs.texts.+processes.Given as goal

abbrev pub invariant-see_steps-loop-step : goal.invariant-see_steps-loop-step
invariant-see_steps-loop-step l = steps_plain (take l.step-index l.steps) ≡ true
