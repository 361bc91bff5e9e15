use Rattle.library_laws.proofs.OneStructs.{one_struct, unlike_apart}
use Rattle.library_laws.proofs.laws.identity.Goals as goal

pub returns : goal.returns
returns c = record { one = one_struct; apart = unlike_apart }
