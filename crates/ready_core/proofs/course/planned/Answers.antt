use Rattle.ready_core.proofs.Planned.{first_shown}
use Rattle.ready_core.proofs.course.planned.Goals as goal

pub returns-clause-first : goal.returns-clause-first
returns-clause-first c = first_shown c.args.plan c.in_ok-turn.turn c.requires.told c.in_ok-turn.ensures.shown
