use Rattle.plan_moves.proofs.Entered.{enters}
use Rattle.plan_moves.proofs.laws.blocks_enter.Goals as goal

pub returns : goal.returns
returns c = enters
