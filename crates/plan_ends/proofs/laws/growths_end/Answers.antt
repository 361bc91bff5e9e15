use Rattle.plan_ends.proofs.Ends.{growths_end}
use Rattle.plan_ends.proofs.laws.growths_end.Goals as goal

pub returns : goal.returns
returns c = growths_end
