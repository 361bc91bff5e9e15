use Rattle.plan_moves.proofs.Passed.{blocks}
use Rattle.plan_moves.proofs.laws.blocks_pass.Goals as goal

pub returns : goal.returns
returns c = blocks
