use Rattle.std.proofs.Common.{arith}
use Rattle.scatter_plan.proofs.HoldTakes.{can_conclude, takes, waits_there}
use Rattle.scatter_plan.proofs.arrival.answer_call.Goals as goal

pub tell_call-requires-clause-waits : goal.tell_call-requires-clause-waits
tell_call-requires-clause-waits g c =
    let w = waits_there c.args.asking.now.ready.items c.args.place.now c.requires.waits.0 c.requires.waits.1 in
    (w.0, w.1, w.2, w.3)

pub tell_call-requires-clause-can : goal.tell_call-requires-clause-can
tell_call-requires-clause-can g c =
    can_conclude c.args.ground.now.checked.now c.args.ground.now.layout.now c.requires.holds.0 c.requires.holds.1 c.args.ground.now.site.now c.requires.holds.2 c.args.growth.now c.args.asking.now c.requires.asking c.requires.holds.3 c.args.place.now

pub returns-clause-takes : goal.returns-clause-takes
returns-clause-takes g c = λ main given rows was attempt waits.
    takes c.args.ground.now.checked.now c.args.ground.now.layout.now main given c.args.ground.now.site.now rows c.args.growth.now c.args.asking.now c.requires.asking was c.args.place.now attempt waits c.args.answer.now c.tell_call.new.growth c.tell_call.new.asking c.args.steps.now c.tell_call.new.steps c.tell_call.result
    c.tell_call.ensures.done c.tell_call.ensures.jobs c.tell_call.ensures.steps (λ j p there here not. let e = c.tell_call.ensures.same j p there here not in omega (arith, e))
