use Rattle.plan_moves.proofs.Called.{flows}
use Rattle.plan_moves.proofs.laws.flows_enter.Goals as goal

pub returns : goal.returns
returns c = flows
