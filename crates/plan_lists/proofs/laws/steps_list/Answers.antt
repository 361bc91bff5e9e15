use Rattle.plan_lists.proofs.Steps.{steps}
use Rattle.plan_lists.proofs.laws.steps_list.Goals as goal

pub returns : goal.returns
returns c = steps
