use Rattle.plan_lists.proofs.Ends.{too_many_now}
use Rattle.plan_lists.proofs.laws.too_many_early.Goals as goal

pub returns : goal.returns
returns c = too_many_now
