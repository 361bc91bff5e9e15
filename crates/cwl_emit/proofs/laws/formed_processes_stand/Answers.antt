use Rattle.cwl_emit.proofs.Formed.{formed_processes_stand}
use Rattle.cwl_emit.proofs.laws.formed_processes_stand.Goals as goal

pub returns : goal.returns
returns c = record { law = formed_processes_stand }
