-- The jobs of every flow of a checked form differ, and are answered or wait.
use Rattle.std.proofs.Common.{List}
use Rattle.wdl_base.specs.declared.place.Segment.{Segment}
use Rattle.wdl_base.specs.declared.request.Request.{Request}
use Rattle.flow_laws.specs.Laws.{JobsAreAnswered, JobsDiffer, run_with}
use Rattle.flow_laws.proofs.Answered.{Answered, answered_closed}
use Rattle.flow_laws.proofs.Checked.{kept}
use Rattle.flow_laws.proofs.Differing.{Differing, differing_closed}
use Rattle.flow_laws.proofs.Placed.{flow_placed}

pub flow_jobs_differ : JobsDiffer
flow_jobs_differ lib checked h site a depth k given place =
    let r = run_with lib site a in
    (flow_placed r Differing (differing_closed r) (kept lib checked h) depth k given place).1.differ

pub flow_jobs_answered : JobsAreAnswered
flow_jobs_answered lib checked h site a depth k given place =
    let r = run_with lib site a in
    let all = (flow_placed r (λ (p hs : List Segment) (j : List Request) (w : List (List Segment)). Answered a j w) (answered_closed r) (kept lib checked h) depth k given place).1 in
    record { jobs = all.jobs; waits = all.waits }
