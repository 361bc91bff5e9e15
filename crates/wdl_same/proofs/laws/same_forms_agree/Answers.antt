use Rattle.wdl_same.proofs.SameForms.{forms_agree}
use Rattle.wdl_same.proofs.laws.same_forms_agree.Goals as goal

pub returns : goal.returns
returns c = record { law = forms_agree }
