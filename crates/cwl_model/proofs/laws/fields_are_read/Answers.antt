use Rattle.cwl_model.proofs.Fields.{fields_read}
use Rattle.cwl_model.proofs.laws.fields_are_read.Goals as goal

pub returns : goal.returns
returns c = record { law = fields_read }
