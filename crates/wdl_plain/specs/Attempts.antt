-- What one attempt of a call gives.
use Rattle.std.specs.Prelude.{◌≡◌, ◌<◌, ◌==◌, Option}
use Rattle.wdl_base.specs.declared.answer.Answer.{Answer}
use Rattle.wdl_typed.specs.Flow as flow
use Rattle.wdl_typed.specs.Requests.{request}
use Rattle.wdl_task.specs.declared.request.Prepared.{Prepared}
use Rattle.wdl_task.specs.Readiness.{IsTold}
use Rattle.wdl_task.specs.Views.{asked_of}
use Rattle.wdl_plain.specs.declared.job.AskedJob.{AskedJob}
use Rattle.wdl_plain.specs.declared.attempt.Attempt.{Attempt}
use Rattle.wdl_plain.specs.declared.attempt.Attempt.TheVariants.{Ends, Goes}
use Rattle.wdl_plain.specs.declared.attempt.TaskCall.{TaskCall}
use Rattle.wdl_flow.specs.Views.{given_of}
use Rattle.wdl_plain.specs.Views.{flowing_of}

-- The attempt ends with a flow whatever the later ones give, or goes over to them.
abbrev pub Gives : (flow.Flowing → flow.Flowing) → flow.Names → Prepared → Attempt → Type 0
Gives f n p (Ends g) = (later : flow.Flowing) → f later ≡ flowing_of g
Gives f n p (Goes back) = (given_of back ≡ n) × (p.request.attempt < p.retries) × ((later : flow.Flowing) → f later ≡ later)

-- an attempt of what was prepared, by its answer and by what the later attempts give
abbrev pub attempted : flow.Run → flow.Names → TaskCall → Prepared → Option Answer → flow.Flowing → flow.Flowing
attempted r n call p answer later =
    flow.attempted r n call.place.now call.task.now call.name.now (asked_of p) p.request.attempt (p.request.attempt == p.retries) later answer

abbrev pub attempts : flow.Run → flow.Names → TaskCall → Prepared → flow.Flowing
attempts r n call p = flow.attempts r n call.place.now call.task.now call.name.now (asked_of p) p.retries 0

-- the job of an attempt that was prepared
abbrev pub job_of : Prepared → AskedJob
job_of p = record { request = p.request; terms = p.codes }

-- what was prepared for this call, below the site
pub record IsPrepared (r : flow.Run) (call : TaskCall) (p : Prepared) : Type 0 where
  pub told : IsTold r.library.structs call.task.now p
  pub requested : p.request ≡ request r.site call.place.now p.request.attempt (asked_of p)
