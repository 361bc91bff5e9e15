use Rattle.library_laws.proofs.OneClosing.{one_circle}
use Rattle.library_laws.proofs.laws.circles.Goals as goal

pub returns : goal.returns
returns c = one_circle
