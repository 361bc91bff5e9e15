-- The attempts of a call, one after the other.
use Rattle.std.proofs.Common.{◌≡◌, ℕ, zero, suc, ◌+◌, ◌-◌, ◌<◌, ◌≤◌, List, [], ◌∷◌, ◌++◌, sym, ap, ◌∙◌, subst, refl, arith}
use Rattle.std.proofs.lemmas.Bool.{eq-eqb, ne_eqb}
use Rattle.wdl_base.specs.declared.request.Request.{Request}
use Rattle.wdl_value.specs.Tables.{answer_at}
use Rattle.wdl_typed.specs.Flow as flow
use Rattle.wdl_typed.specs.Flow.{Flowing, Names, Run, missing, with_jobs}
use Rattle.wdl_typed.specs.Requests.{Asked, request}
use Rattle.wdl_typed.specs.Statuses.{successes_of}
use Rattle.wdl_task.specs.declared.request.Prepared.{Prepared}
use Rattle.wdl_task.specs.Views.{asked_of, next_of}
use Rattle.wdl_plain.specs.declared.flowing.Flowing.{Flowing as Made}
use Rattle.wdl_flow.specs.declared.yielded.Yielded.{Yielded}
use Rattle.wdl_plain.specs.declared.job.AskedJob.{AskedJob}
use Rattle.wdl_flow.specs.Views.{given_of}
use Rattle.wdl_plain.specs.Views.{codes_in, flowing_of, requests_in}
use Rattle.wdl_plain.specs.declared.attempt.Attempt.{Attempt}
use Rattle.wdl_plain.specs.declared.attempt.Attempt.TheVariants.{Ends, Goes}
use Rattle.wdl_plain.specs.declared.attempt.TaskCall.{TaskCall}
use Rattle.wdl_plain.specs.Attempts as spec
use Rattle.wdl_plain.specs.Attempts.{IsPrepared, job_of}

abbrev pub asking : List AskedJob → Flowing → Flowing
asking jobs = with_jobs (requests_in jobs) (codes_in jobs)

jobs_assoc : (xs ys : List AskedJob) (f : Flowing) → asking xs (asking ys f) ≡ asking (xs ++ ys) f
jobs_assoc [] ys f = refl
jobs_assoc (x ∷ xs) ys f = ap (asking (x ∷ [])) (jobs_assoc xs ys f)

module _ (r : Run) (n : Names) (call : TaskCall) where
  -- what the attempts from this one on give
  abbrev pub from : Asked → ℕ → ℕ → Flowing
  from a left attempt = flow.attempts r n call.place.now call.task.now call.name.now a left attempt

  abbrev pub once : Prepared → Flowing → Flowing
  once p = spec.attempted r n call p (answer_at r.table call.place.now p.request.attempt)

  pub record Trying (jobs : List AskedJob) (p : Prepared) (all : Flowing) : Type 0 where
    pub prepared : IsPrepared r call p
    pub within : p.request.attempt ≤ p.retries
    pub whole : asking jobs (from (asked_of p) (p.retries - p.request.attempt) p.request.attempt) ≡ all

  -- the job of an attempt before what it gives
  abbrev first : Prepared → Flowing → Flowing
  first p = with_jobs (request r.site call.place.now p.request.attempt (asked_of p) ∷ []) (successes_of p.codes ∷ [])

  -- an attempt, and what the later ones give
  record Once (p : Prepared) : Type 0 where
    pub later : Flowing
    pub is : from (asked_of p) (p.retries - p.request.attempt) p.request.attempt ≡ first p (once p later)
    pub goes : p.request.attempt < p.retries → later ≡ from (asked_of p) (p.retries - (p.request.attempt + 1)) (p.request.attempt + 1)

  tried_once : (p : Prepared) → p.request.attempt ≤ p.retries → Once p
  tried_once p within = by_left (p.retries - p.request.attempt) refl
    where
      by_left : (left : ℕ) → p.retries - p.request.attempt ≡ left → Once p
      by_left zero e = record {
        later = missing n;
        is = ap (λ m. from (asked_of p) m p.request.attempt) e
            ∙ ap (λ b. first p (flow.attempted r n call.place.now call.task.now call.name.now (asked_of p) p.request.attempt b (missing n) (answer_at r.table call.place.now p.request.attempt))) (sym (eq-eqb p.request.attempt p.retries (omega (arith, e, within))));
        goes = λ less. absurd (omega (arith, e, less));
      }
      by_left (suc left) e = record {
        later = from (asked_of p) left (p.request.attempt + 1);
        is = ap (λ m. from (asked_of p) m p.request.attempt) e
            ∙ ap (λ b. first p (flow.attempted r n call.place.now call.task.now call.name.now (asked_of p) p.request.attempt b (from (asked_of p) left (p.request.attempt + 1)) (answer_at r.table call.place.now p.request.attempt))) (sym (ne_eqb p.request.attempt p.retries (λ same. omega (arith, e, same))));
        goes = λ less. let one : left ≡ p.retries - (p.request.attempt + 1) = omega (arith, e) in ap (λ m. from (asked_of p) m (p.request.attempt + 1)) one;
      }

  with_job : (jobs : List AskedJob) (p : Prepared) (all f : Flowing) (o : Once p) → Trying jobs p all → once p o.later ≡ f → asking (jobs ++ job_of p ∷ []) f ≡ all
  with_job jobs p all f o t e =
      sym (jobs_assoc jobs (job_of p ∷ []) f)
      ∙ ap (λ q. asking jobs (with_jobs (q ∷ []) (successes_of p.codes ∷ []) f)) t.prepared.requested
      ∙ ap (λ g. asking jobs (first p g)) (sym e)
      ∙ ap (asking jobs) (sym o.is)
      ∙ t.whole

  pub try_ends : (jobs : List AskedJob) (p : Prepared) (all f : Flowing) → Trying jobs p all → ((later : Flowing) → once p later ≡ f) → asking (jobs ++ job_of p ∷ []) f ≡ all
  try_ends jobs p all f t ends = with_job jobs p all f (tried_once p t.within) t (ends (tried_once p t.within).later)

  pub try_goes : (jobs : List AskedJob) (p : Prepared) (all : Flowing) → Trying jobs p all → p.request.attempt < p.retries → ((later : Flowing) → once p later ≡ later)
      → Trying (jobs ++ job_of p ∷ []) (next_of r.site p) all
  try_goes jobs p all t less goes =
      let o = tried_once p t.within in
      record {
        prepared = record {
          told = record { given = t.prepared.told.given; typed = t.prepared.told.typed; fit = t.prepared.told.fit; asked = t.prepared.told.asked };
          requested = ap (λ q. request r.site q (p.request.attempt + 1) (asked_of p)) (ap (λ (q : Request). q.place) t.prepared.requested);
        };
        within = omega (arith, less);
        whole = with_job jobs p all (from (asked_of p) (p.retries - (p.request.attempt + 1)) (p.request.attempt + 1)) o t (goes o.later ∙ o.goes less);
      }

  -- ---- what the code's loop does

  module _ (m : Names) (jobs jobs' : List AskedJob) (p : Prepared) (job : AskedJob) (a : Attempt) (all : Flowing) (same : m ≡ n) (pushed : jobs' ≡ jobs ++ job ∷ []) (copied : job ≡ job_of p)
      (gives : spec.Gives (spec.attempted r m call p (answer_at r.table call.place.now p.request.attempt)) m p a) (t : Trying jobs p all) where
    jobs_are : jobs' ≡ jobs ++ job_of p ∷ []
    jobs_are = pushed ∙ ap (λ (q : AskedJob). jobs ++ q ∷ []) copied

    gives_here : (b : Attempt) → a ≡ b → spec.Gives (once p) n p b
    gives_here b e =
        subst (λ (x : Attempt). spec.Gives (once p) n p x) e
        (subst (λ (k : Names). spec.Gives (spec.attempted r k call p (answer_at r.table call.place.now p.request.attempt)) k p a) same gives)

    pub loop_ends : (f : Made) → a ≡ Ends f → asking jobs' (flowing_of f) ≡ all
    loop_ends f e = ap (λ (js : List AskedJob). asking js (flowing_of f)) jobs_are ∙ try_ends jobs p all (flowing_of f) t (gives_here (Ends f) e)

    pub loop_goes : (back : Yielded) (q : Prepared) → a ≡ Goes back → next_of r.site p ≡ q → (given_of back ≡ n) × Trying jobs' q all
    loop_goes back q e next =
        let g = gives_here (Goes back) e in (
          g.0,
          subst (λ (js : List AskedJob). Trying js q all) (sym jobs_are) (subst (λ (x : Prepared). Trying (jobs ++ job_of p ∷ []) x all) next (try_goes jobs p all t g.1 g.2)),
        )
