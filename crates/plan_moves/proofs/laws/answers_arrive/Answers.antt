use Rattle.plan_moves.proofs.Arrivals.{arrives}
use Rattle.plan_moves.proofs.laws.answers_arrive.Goals as goal

pub returns : goal.returns
returns c = arrives
