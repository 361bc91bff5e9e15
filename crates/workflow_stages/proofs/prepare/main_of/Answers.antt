use Rattle.workflow_stages.proofs.Joined.{mains}
use Rattle.workflow_stages.proofs.Started.{gather_main}
use Rattle.workflow_stages.proofs.prepare.main_of.Goals as goal

pub returns-in-Err-clause-outcome : goal.returns-in-Err-clause-outcome
returns-in-Err-clause-outcome g c = gather_main _ _ _ _ c.in-Err.unread.status c.in-Err.unread.paths c.in-Err.ensures.outcome

pub returns-in-Ok-clause-outcome : goal.returns-in-Ok-clause-outcome
returns-in-Ok-clause-outcome g c = mains _ _ _ _ c.in-Ok.library c.in-Ok.ensures.outcome c.main_in.result c.main_in.ensures.outcome
