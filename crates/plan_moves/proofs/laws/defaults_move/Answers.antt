use Rattle.plan_moves.proofs.Declarations.{defaults}
use Rattle.plan_moves.proofs.laws.defaults_move.Goals as goal

pub returns : goal.returns
returns c = defaults
