use Rattle.std.proofs.Common.{neg_ℤ}
use Rattle.wdl_value.specs.Parts.{int_in}
use Rattle.wdl_stdlib.proofs.OperatorsFit.{int_of-fits}
use Rattle.wdl_stdlib.proofs.laws.negate_fits.Goals as goal

pub returns : goal.returns
returns c = record { law = λ structs x. int_of-fits structs (neg_ℤ (int_in x)) }
