use Rattle.plan_room.proofs.Needs.{needs}
use Rattle.plan_room.proofs.laws.needs_fit.Goals as goal

pub returns : goal.returns
returns c = needs
