use Rattle.plan_ready.proofs.Steps.{steps}
use Rattle.plan_ready.proofs.laws.steps_ready.Goals as goal

pub returns : goal.returns
returns c = steps
