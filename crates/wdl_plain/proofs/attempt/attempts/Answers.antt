use Rattle.std.proofs.Common.{◌∙◌}
use Rattle.std.proofs.lemmas.Result.{IfOk-weaker}
use Rattle.wdl_flow.specs.Views.{given_of}
use Rattle.wdl_plain.specs.Views.{run_of}
use Rattle.wdl_plain.specs.Attempts as spec
use Rattle.wdl_plain.proofs.Tries.{loop_ends, loop_goes}
use Rattle.wdl_plain.proofs.attempt.attempts.Goals as goal

pub returns-in-Ends : goal.returns-in-Ends
returns-in-Ends g c =
    let r = run_of c.args.ground.now in
    IfOk-weaker c.with_jobs.result _ _
    (λ f h. h ∙ loop_ends r (given_of c.args.given) c.args.call.now (given_of c.tries.given) c.tries.jobs c.push.new.self c.tries.prepared c.in_ok-job_of.field-0 c.in_ok-ends.field-0
    (spec.attempts r (given_of c.args.given) c.args.call.now c.args.prepared) c.tries.invariant.0 c.in_ok-push.ensures.ok c.in_ok-job_of.ensures c.in_ok-ends.ensures c.tries.invariant.1 c.in-Ends.ends c.in-Ends.is)
    c.with_jobs.ensures

pub tries-preserved : goal.tries-preserved
tries-preserved g c =
    let r = run_of c.args.ground.now in
    loop_goes r (given_of c.args.given) c.args.call.now (given_of c.tries.given) c.tries.jobs c.push.new.self c.tries.prepared c.in_ok-job_of.field-0 c.in_ok-ends.field-0
    (spec.attempts r (given_of c.args.given) c.args.call.now c.args.prepared) c.tries.invariant.0 c.in_ok-push.ensures.ok c.in_ok-job_of.ensures c.in_ok-ends.ensures c.tries.invariant.1
    c.in-Goes.back c.in_ok-prepared.prepared c.in-Goes.is c.in_ok-prepared.ensures.value
