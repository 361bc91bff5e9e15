use Rattle.wdl_eval.proofs.Sound.{values_are_sound}
use Rattle.wdl_eval.proofs.laws.values_fit.Goals as goal

pub returns : goal.returns
returns c = record { law = values_are_sound }
