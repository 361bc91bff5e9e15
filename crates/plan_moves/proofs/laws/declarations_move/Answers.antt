use Rattle.plan_moves.proofs.Declarations.{declarations}
use Rattle.plan_moves.proofs.laws.declarations_move.Goals as goal

pub returns : goal.returns
returns c = declarations
