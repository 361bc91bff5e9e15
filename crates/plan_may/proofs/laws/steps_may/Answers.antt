use Rattle.plan_may.proofs.Steps.{steps}
use Rattle.plan_may.proofs.laws.steps_may.Goals as goal

pub returns : goal.returns
returns c = steps
