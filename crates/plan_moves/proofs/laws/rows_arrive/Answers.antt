use Rattle.plan_moves.proofs.Telling.{arrive}
use Rattle.plan_moves.proofs.laws.rows_arrive.Goals as goal

pub returns : goal.returns
returns c = arrive
