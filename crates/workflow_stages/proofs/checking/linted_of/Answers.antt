use Rattle.workflow_stages.proofs.Joined.{checks}
use Rattle.workflow_stages.proofs.checking.linted_of.Goals as goal

pub returns-in-Ok-clause-outcome : goal.returns-in-Ok-clause-outcome
returns-in-Ok-clause-outcome g c =
    checks _ _ _ _ c.in-Ok.library c.in-Ok.ensures.outcome c.linted.result c.linted.ensures.outcome
