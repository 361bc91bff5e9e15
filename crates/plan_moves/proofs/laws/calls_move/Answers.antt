use Rattle.plan_moves.proofs.Calls.{calls}
use Rattle.plan_moves.proofs.laws.calls_move.Goals as goal

pub returns : goal.returns
returns c = calls
