use Rattle.wide_formed.proofs.Meant.{lowered_simulates}
use Rattle.wide_formed.proofs.Objects.{plain_objects_stand}
use Rattle.wide_formed.proofs.Plain.{plain_simulates}
use Rattle.wide_formed.proofs.Standing.{lowered_stands}
use Rattle.wide_formed.proofs.laws.lowered_means.Goals as goal

pub returns : goal.returns
returns c = record { stands = lowered_stands; simulates = lowered_simulates; plain = plain_simulates; objects = plain_objects_stand }
