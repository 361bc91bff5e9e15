use Rattle.plan_lists.proofs.Steps.{attempts}
use Rattle.plan_lists.proofs.laws.attempts_list.Goals as goal

pub returns : goal.returns
returns c = attempts
