use Rattle.flow_laws.proofs.Scheduled.{schedules}
use Rattle.flow_laws.proofs.laws.schedules.Goals as goal

pub returns : goal.returns
returns c = record { law = schedules }
