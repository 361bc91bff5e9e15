use Rattle.plan_lists.proofs.Ends.{ends}
use Rattle.plan_lists.proofs.laws.lists_end.Goals as goal

pub returns : goal.returns
returns c = ends
