use Rattle.plan_moves.proofs.Joints.{joints}
use Rattle.plan_moves.proofs.laws.joints_move.Goals as goal

pub returns : goal.returns
returns c = joints
