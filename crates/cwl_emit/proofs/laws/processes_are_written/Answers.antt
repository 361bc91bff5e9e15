use Rattle.cwl_emit.proofs.Flows.{process_is}
use Rattle.cwl_emit.proofs.laws.processes_are_written.Goals as goal

pub returns : goal.returns
returns c = record { law = λ outermost d p h. (process_is outermost d p h).same }
