use Rattle.std.proofs.Common.{refl, ◌∙◌}
use Rattle.work_desk.proofs.Paying.{paid_still, paid_through}
use Rattle.work_desk.proofs.caller.Caller.fill.Goals as goal

pub loop-init : goal.loop-init
loop-init g c =
    let self = c.args.self.now in
    (c.requires.run, refl, refl, refl, λ begin h. h, paid_still self.core self.stop self.stop c.args.steps.now (λ none. none))

pub loop-preserved : goal.loop-preserved
loop-preserved g c =
    let inv = c.loop.invariant in (
      c.take_one.ensures.run,
      c.take_one.ensures.origin ∙ inv.1,
      c.take_one.ensures.path ∙ inv.2,
      c.take_one.ensures.lapses ∙ inv.3,
      λ begin h. c.take_one.ensures.holds begin (inv.4 begin h),
      paid_through _ _ _ _ _ _ _ _ _ inv.5 c.take_one.ensures.paid,
    )

pub returns-then-not-take_one-clause-holds : goal.returns-then-not-take_one-clause-holds
returns-then-not-take_one-clause-holds g c = λ begin h. c.take_one.ensures.holds begin (c.loop.invariant.4 begin h)

pub returns-then-not-take_one-clause-paid : goal.returns-then-not-take_one-clause-paid
returns-then-not-take_one-clause-paid g c = paid_through _ _ _ _ _ _ _ _ _ c.loop.invariant.5 c.take_one.ensures.paid
