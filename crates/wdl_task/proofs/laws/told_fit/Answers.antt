use Rattle.wdl_task.proofs.TaskLaws.{told_fits}
use Rattle.wdl_task.proofs.laws.told_fit.Goals as goal

pub returns : goal.returns
returns c = record { law = told_fits }
