use Rattle.plan_room.proofs.Rooms.{blocks}
use Rattle.plan_room.proofs.laws.blocks_fit.Goals as goal

pub returns : goal.returns
returns c = blocks
