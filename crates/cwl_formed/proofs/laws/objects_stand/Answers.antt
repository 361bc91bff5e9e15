use Rattle.cwl_formed.proofs.Given.{objects_stand}
use Rattle.cwl_formed.proofs.Orders.{texts_stand}
use Rattle.cwl_formed.proofs.laws.objects_stand.Goals as goal

pub returns : goal.returns
returns c = record { fitting = objects_stand; texts = texts_stand }
