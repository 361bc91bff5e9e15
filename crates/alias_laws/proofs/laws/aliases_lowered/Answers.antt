use Rattle.alias_laws.proofs.Whole.{aliases_lowered}
use Rattle.alias_laws.proofs.laws.aliases_lowered.Goals as goal

pub returns : goal.returns
returns c = record { law = aliases_lowered }
