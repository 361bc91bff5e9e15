use Rattle.print_laws.proofs.Written.{printed_read_back}
use Rattle.print_laws.proofs.laws.printed_is_read_back.Goals as goal

pub returns : goal.returns
returns c = printed_read_back
