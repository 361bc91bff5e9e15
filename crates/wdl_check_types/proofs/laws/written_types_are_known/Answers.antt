use Rattle.wdl_check_types.proofs.KnownLaws.{known}
use Rattle.wdl_check_types.proofs.laws.written_types_are_known.Goals as goal

pub returns : goal.returns
returns c = known
