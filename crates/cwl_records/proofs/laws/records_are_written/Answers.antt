use Rattle.cwl_records.proofs.WideProcesses.{wide_is}
use Rattle.cwl_records.proofs.laws.records_are_written.Goals as goal

pub returns : goal.returns
returns c = record { law = λ d p h. (wide_is d p h).same }
