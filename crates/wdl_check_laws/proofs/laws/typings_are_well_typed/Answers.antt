use Rattle.wdl_check_laws.proofs.WellTyped.{well_typed, well_cast}
use Rattle.wdl_check_laws.proofs.laws.typings_are_well_typed.Goals as goal

pub returns : goal.returns
returns c = record { tree = well_typed; cast = well_cast }
