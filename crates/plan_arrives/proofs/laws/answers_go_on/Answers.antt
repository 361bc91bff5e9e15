use Rattle.plan_arrives.proofs.Arrivals.{answers}
use Rattle.plan_arrives.proofs.laws.answers_go_on.Goals as goal

pub returns : goal.returns
returns c = answers
