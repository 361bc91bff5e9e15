use Rattle.wdl_swaps.proofs.Values.{values_agree}
use Rattle.wdl_swaps.proofs.laws.values_agree.Goals as goal

pub returns : goal.returns
returns c = record { law = values_agree }
