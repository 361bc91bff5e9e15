use Rattle.wdl_swaps.proofs.Names.{names_agree}
use Rattle.wdl_swaps.proofs.laws.names_agree.Goals as goal

pub returns : goal.returns
returns c = record { law = names_agree }
