use Rattle.plan_growth.proofs.Begins.{bodies_begin}
use Rattle.plan_growth.proofs.laws.bodies_begin.Goals as goal

pub returns : goal.returns
returns c = bodies_begin
