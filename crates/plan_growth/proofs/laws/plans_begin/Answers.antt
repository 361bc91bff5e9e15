use Rattle.plan_growth.proofs.GoOn.{plans_begin}
use Rattle.plan_growth.proofs.laws.plans_begin.Goals as goal

pub returns : goal.returns
returns c = plans_begin
