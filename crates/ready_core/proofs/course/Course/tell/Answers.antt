use Rattle.std.proofs.Common.{sym, ◌∙◌}
use Rattle.ready_core.proofs.Coursing.{on_told, paid_for, passes, tells}
use Rattle.ready_core.proofs.course.Course.tell.Goals as goal

pub returns-then-many-clause-next : goal.returns-then-many-clause-next
returns-then-many-clause-next g c =
    (passes c.args.self.now c.args.many c.args.journal.now c.args.entry.now 0 0 c.past_limits.result c.requires.main c.requires.course (sym c.requires.many ∙ c.if-many.true) c.past_limits.ensures.past).next

pub returns-in-Planned-clause-paid : goal.returns-in-Planned-clause-paid
returns-in-Planned-clause-paid g c =
    paid_for c.args.self.now c.args.many c.in-Planned.plan c.in-Planned.stale c.tell_anew.new.plan c.args.journal.now c.args.entry.now c.args.steps.now c.tell_anew.new.steps c.tell_anew.result c.in-Planned.is c.if-many.false
    c.tell_anew.ensures.made c.tell_anew.ensures.told

pub tell_anew-requires-clause-told : goal.tell_anew-requires-clause-told
tell_anew-requires-clause-told g c =
    on_told c.args.self.now c.args.many c.in-Planned.plan c.in-Planned.stale c.args.journal.now c.in-Planned.is c.if-many.false c.requires.course

pub returns-in-Planned-clause-course : goal.returns-in-Planned-clause-course
returns-in-Planned-clause-course g c =
    (tells c.in-Planned.plan c.in-Planned.stale c.tell_anew.new.plan c.args.journal.now c.args.entry.now c.args.steps.now c.tell_anew.new.steps c.tell_anew.result c.tell_anew.ensures.made c.tell_anew.ensures.told).course
