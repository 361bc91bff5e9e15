use Rattle.wdl_task.proofs.TaskLaws.{asked_fits}
use Rattle.wdl_task.proofs.laws.asked_fit.Goals as goal

pub returns : goal.returns
returns c = record { law = asked_fits }
