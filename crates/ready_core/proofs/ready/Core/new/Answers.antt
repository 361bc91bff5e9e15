use Rattle.std.proofs.Common.{IsSome, deque_len, refl, subst, sym, ◌∙◌}
use Rattle.ready_core.specs.Cores.{Origin}
use Rattle.ready_core.proofs.Coursing.{paid_first}
use Rattle.ready_core.proofs.Running.{room_first, run_started}
use Rattle.ready_core.proofs.ready.Core.new.Goals as goal

pub invariant_of-result : goal.invariant_of-result
invariant_of-result g c =
    let b = c.in_ok-course.field-0 in
    let log = c.make_room.new.self in
    run_started b.course c.new-log.result log b.turn (subst (λ (o : Origin). IsSome o.checked.main) (sym c.in_ok-course.ensures.origin) c.requires.main) c.in_ok-course.ensures.course
    c.in_ok-course.ensures.first c.new-log.ensures.empty c.make_room.ensures.same
    (room_first (deque_len b.turn.ready) (deque_len b.turn.ready) _ log c.in_ok-make_room.ensures.room refl)

pub returns-clause-paid : goal.returns-clause-paid
returns-clause-paid g c few =
    let b = c.in_ok-course.field-0 in
    paid_first b.course b.turn.many c.args.steps.now c.begin.new.steps c.make_room.new.self.journal.items c.in_ok-course.ensures.paid c.in_ok-course.ensures.first.sight.many c.in_ok-course.ensures.fresh
    (c.make_room.ensures.same.journal ∙ c.new-log.ensures.empty.journal) few
