use Rattle.ready_core.proofs.Turning.{faults_stay}
use Rattle.ready_core.proofs.laws.faults_stay.Goals as goal

pub returns : goal.returns
returns c = record { stay = faults_stay }
