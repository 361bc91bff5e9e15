use Rattle.cwl_laws.proofs.Whole.{simulates}
use Rattle.cwl_laws.proofs.laws.simulation.Goals as goal

pub returns : goal.returns
returns c = record { law = simulates }
