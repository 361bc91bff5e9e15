use Rattle.std.proofs.lemmas.Bool.{and_parts}
use Rattle.wdl_value.specs.Fits.{takes}
use Rattle.wdl_value.specs.Keyed.{keyed}
use Rattle.json_values.proofs.RoundTrip.{written_back}
use Rattle.json_values.proofs.laws.writings_are_read.Goals as goal

pub returns : goal.returns
returns c = record { law = λ structs x t h f. written_back structs x t (and_parts (takes structs x t) (keyed x) h).0 f }
