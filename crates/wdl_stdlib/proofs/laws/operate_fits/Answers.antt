use Rattle.wdl_stdlib.proofs.OperatorsFit.{operator_fits}
use Rattle.wdl_stdlib.proofs.laws.operate_fits.Goals as goal

pub returns : goal.returns
returns c = record { law = operator_fits }
