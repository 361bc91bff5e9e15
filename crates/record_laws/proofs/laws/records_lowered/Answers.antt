use Rattle.record_laws.proofs.Whole.{records_lowered}
use Rattle.record_laws.proofs.laws.records_lowered.Goals as goal

pub returns : goal.returns
returns c = record { law = records_lowered }
