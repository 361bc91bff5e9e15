use Rattle.std.proofs.Common.{subst}
use Rattle.ready_core.specs.Cores.{AreHeld}
use Rattle.ready_core.specs.Inside.{state_of}
use Rattle.ready_core.proofs.Standing.{are_held}
use Rattle.ready_core.proofs.ready.Core.out.Goals as goal

pub returns-clause-held : goal.returns-clause-held
returns-clause-held c = subst AreHeld c.self.view_is (are_held (state_of c.self.inside) c.self.invariant.stands)
