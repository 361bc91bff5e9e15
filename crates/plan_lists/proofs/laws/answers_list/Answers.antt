use Rattle.plan_lists.proofs.Steps.{answers}
use Rattle.plan_lists.proofs.laws.answers_list.Goals as goal

pub returns : goal.returns
returns c = answers
