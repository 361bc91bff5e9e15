use Rattle.wdl_base.proofs.PlaceLemmas.{same_place}
use Rattle.wdl_base.proofs.laws.places_are_read.Goals as goal

pub returns : goal.returns
returns c = record { law = same_place }
