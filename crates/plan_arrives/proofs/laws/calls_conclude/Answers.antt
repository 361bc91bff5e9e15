use Rattle.plan_arrives.proofs.Concluding.{conclude}
use Rattle.plan_arrives.proofs.laws.calls_conclude.Goals as goal

pub returns : goal.returns
returns c = conclude
