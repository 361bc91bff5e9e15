use Rattle.plan_room.proofs.Rooms.{bodies}
use Rattle.plan_room.proofs.laws.bodies_fit.Goals as goal

pub returns : goal.returns
returns c = bodies
