use Rattle.lowering_laws.proofs.Simulated.{forms_simulated}
use Rattle.lowering_laws.proofs.laws.forms_simulated.Goals as goal

pub returns : goal.returns
returns c = record { law = forms_simulated }
