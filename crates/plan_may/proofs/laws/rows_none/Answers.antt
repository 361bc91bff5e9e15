use Rattle.plan_may.proofs.Places.{rows_none}
use Rattle.plan_may.proofs.laws.rows_none.Goals as goal

pub returns : goal.returns
returns c = rows_none
