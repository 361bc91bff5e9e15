use Rattle.json_values.proofs.ReadsFit.{reads_fits}
use Rattle.json_values.proofs.laws.reads_fit.Goals as goal

pub returns : goal.returns
returns c = record { law = λ structs d t x o h. reads_fits structs d o t x h }
