use Rattle.flow_soundness.proofs.WholeFlow.{flows_fit}
use Rattle.flow_soundness.proofs.laws.flows_fit.Goals as goal

pub returns : goal.returns
returns c = record { fit = flows_fit }
