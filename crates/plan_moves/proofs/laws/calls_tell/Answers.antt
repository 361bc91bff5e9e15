use Rattle.plan_moves.proofs.Telling.{calls_tell}
use Rattle.plan_moves.proofs.laws.calls_tell.Goals as goal

pub returns : goal.returns
returns c = calls_tell
