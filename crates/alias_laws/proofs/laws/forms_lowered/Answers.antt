use Rattle.alias_laws.proofs.Lowering.{forms_lowered}
use Rattle.alias_laws.proofs.laws.forms_lowered.Goals as goal

pub returns : goal.returns
returns c = record { law = forms_lowered }
