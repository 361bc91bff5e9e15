use Rattle.plan_steps.proofs.Asks.{none_asked}
use Rattle.plan_steps.proofs.asking.Asking.empty.Goals as goal

pub returns-clause-sound : goal.returns-clause-sound
returns-clause-sound c = none_asked c.new.result.items c.new-3.result.items c.new-2.result.items c.empty.result c.new.ensures.items c.new-3.ensures.items c.new-2.ensures.items c.empty.ensures
