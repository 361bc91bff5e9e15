use Rattle.plan_lists.proofs.Steps.{works}
use Rattle.plan_lists.proofs.laws.works_list.Goals as goal

pub returns : goal.returns
returns c = works
