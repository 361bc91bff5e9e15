use Rattle.plan_room.proofs.Rooms.{flows}
use Rattle.plan_room.proofs.laws.flows_fit.Goals as goal

pub returns : goal.returns
returns c = flows
