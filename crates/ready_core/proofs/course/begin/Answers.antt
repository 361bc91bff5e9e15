use Rattle.ready_core.proofs.Coursing.{begins, given_back, past_first}
use Rattle.ready_core.proofs.course.begin.Goals as goal

pub returns-in-Err-TooMany-clause-first : goal.returns-in-Err-TooMany-clause-first
returns-in-Err-TooMany-clause-first g c =
    let u = c.in-Err-TooMany in
    past_first _ c.past_limits.result (given_back c.args.checked c.args.inputs c.args.site u.field-0 u.checked u.inputs u.site u.field-0-is u.ensures.back) c.past_limits.ensures.past

pub returns-in-Ok-clause-paid : goal.returns-in-Ok-clause-paid
returns-in-Ok-clause-paid g c =
    (begins c.args.checked c.args.inputs c.args.site c.in-Ok.plan c.args.steps.now c.new.new.steps c.planned.result c.in-Ok.ensures.plan c.planned.ensures.course c.planned.ensures.first).paid
