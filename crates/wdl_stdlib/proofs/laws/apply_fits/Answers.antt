use Rattle.wdl_stdlib.proofs.FunctionsFit.{functions_fit}
use Rattle.wdl_stdlib.proofs.laws.apply_fits.Goals as goal

pub returns : goal.returns
returns c = record { law = functions_fit }
