use Rattle.plan_growth.proofs.GoOn.{plans_go_on}
use Rattle.plan_growth.proofs.laws.plans_go_on.Goals as goal

pub returns : goal.returns
returns c = plans_go_on
