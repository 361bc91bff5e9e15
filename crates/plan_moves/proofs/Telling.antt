-- What calls tell, and what one row more answers.
use Rattle.std.proofs.Common.{◌≡◌, ◌<◌, ◌≤◌, ◌⊎◌, inl, inr, ℕ, suc, ◌+◌, Bool, true, false, cond, ◌&&◌, List, [], ◌∷◌, ◌++◌, append-nil, map, Option, Some, None, Ok, Err, arith, ap, refl, sym, ◌∙◌}
use Rattle.std.specs.List.{list_all}
use Rattle.std.proofs.lemmas.Bool.{cases_lt, false_from_ne_true}
use Rattle.wdl_base.specs.declared.answer.Answer.{Answer}
use Rattle.wdl_base.specs.declared.fault.Fault.{Fault}
use Rattle.wdl_base.specs.declared.place.Segment.{Segment}
use Rattle.wdl_base.specs.declared.place.Segment.TheVariants as segment
use Rattle.wdl_base.specs.declared.request.Request.{Request}
use Rattle.wdl_value.specs.declared.env.Bind.{Bind}
use Rattle.wdl_value.specs.Tables.{Row, answer_at, is_at}
use Rattle.wdl_typed.specs.declared.flow.TCall.{TCall}
use Rattle.wdl_typed.specs.declared.flow.Target.{Target}
use Rattle.wdl_typed.specs.declared.task.TaskDef.{TaskDef}
use Rattle.wdl_typed.specs.Bodies.{Library}
use Rattle.wdl_typed.specs.Flow.{Ended, Flowing, Known, Names, Run, args_known, args_met, asked, attempts, call_of, called, concluded, ended_call, env_of, failing_at, flow, has_ended, missing, task_called, waiting, with_args, with_fault, with_jobs}
use Rattle.wdl_typed.specs.Requests.{Asked, Failing, Successes, Tried, asks, bad_status, is_success, job_dir, tells}
use Rattle.flow_laws.specs.Laws.{run_with}
use Rattle.flow_laws.proofs.Rows.{at_itself, at_same}
use Rattle.value_net.specs.Nets.{value_at}
use Rattle.net_laws.specs.Growing.{IsNamed}
use Rattle.net_laws.specs.Net.{Given, Mark, Scope, Slot, Work, ended_in, flowing_of, known_in, no_work}
use Rattle.net_laws.specs.Planned.{call_names}
use Rattle.net_laws.specs.Rules.{own_sight}
use Rattle.net_laws.proofs.Grown.{answer_elsewhere}
use Rattle.net_laws.proofs.Sets.{missing_is}
use Rattle.plan_moves.specs.Laws.{TellsCall}
use Rattle.plan_moves.specs.Sheets.{Sheet}
use Rattle.plan_moves.specs.Telling.{ArgFails, CallsTask, CallsTell, HasOutputs, IsAnswered, IsUnset, IsWaiting, RowsArrive, codes_of, place_of, requests_from, work_after, work_failed}
use Rattle.plan_moves.proofs.Attempts.{attempts_refused, attempts_tell, attempts_wait}

-- ---- one row more

answered_there : (rows : List Row) (r : Row) → answer_at rows r.place r.attempt ≡ None → answer_at (rows ++ r ∷ []) r.place r.attempt ≡ Some r.answer
answered_there [] r e = ap (λ (b : Bool). cond b (Some r.answer) None) (at_itself r)
answered_there (x ∷ rows) r e = by_test (is_at r.place r.attempt x) (answered_there rows r) e
  where
    by_test : (b : Bool) → (answer_at rows r.place r.attempt ≡ None → answer_at (rows ++ r ∷ []) r.place r.attempt ≡ Some r.answer) → cond b (Some x.answer) (answer_at rows r.place r.attempt) ≡ None
        → cond b (Some x.answer) (answer_at (rows ++ r ∷ []) r.place r.attempt) ≡ Some r.answer
    by_test true rest h = cc
    by_test false rest h = rest h

other_attempt : (rows : List Row) (r : Row) (j : ℕ) → (r.attempt ≡ j → ⊥) → answer_at (rows ++ r ∷ []) r.place j ≡ answer_at rows r.place j
other_attempt rows r j n = answer_elsewhere rows r r.place j (false_from_ne_true (is_at r.place j r) (λ h. n (at_same r.place j r h).1))

other_place : (rows : List Row) (r : Row) (place : List Segment) → (place ≡ r.place → ⊥) → (j : ℕ) → answer_at (rows ++ r ∷ []) place j ≡ answer_at rows place j
other_place rows r place n j = answer_elsewhere rows r place j (false_from_ne_true (is_at place j r) (λ h. n (sym (at_same place j r h).0)))

pub arrive : RowsArrive
arrive =
    record {
      answers = λ rows r a h. record {
        tried = record { refused = λ j l. (let f = h.tried.refused j l in (f.0, other_attempt rows r j (λ e. omega (arith, l, e)) ∙ f.1, f.2)); within = h.tried.within };
        there = answered_there rows r (h.unanswered r.attempt (omega arith));
        last = λ j l. other_attempt rows r j (λ e. omega (arith, l, e)) ∙ h.unanswered j (omega (arith, l));
      };
      next = λ rows place a k answer h s l. record {
        tried = record { refused = λ j m. before_or_here rows place a k answer h s j m; within = omega (arith, l) };
        unanswered = λ j m. h.last j (omega (arith, m));
      };
      others = λ rows r place a k n h. record {
        tried = record { refused = λ j l. (let f = h.tried.refused j l in (f.0, other_place rows r place n j ∙ f.1, f.2)); within = h.tried.within };
        unanswered = λ j l. other_place rows r place n j ∙ h.unanswered j l;
      };
      elsewhere = λ rows r place n attempt. sym (other_place rows r place n attempt);
    }
  where
    before_or_here : (rows : List Row) (place : List Segment) (a : Asked) (k : ℕ) (answer : Answer) → IsAnswered rows place a k answer → is_success a.codes answer.status ≡ false → (j : ℕ) → j < k + 1
        → (found : Answer) × (answer_at rows place j ≡ Some found) × (is_success a.codes found.status ≡ false)
    before_or_here rows place a k answer h s j m = by_case (cases_lt j k)
      where
        by_case : (j < k) ⊎ (k ≤ j) → (found : Answer) × (answer_at rows place j ≡ Some found) × (is_success a.codes found.status ≡ false)
        by_case (inl l) = h.tried.refused j l
        by_case (inr l) = let e : k ≡ j = omega (arith, l, m) in (answer, ap (answer_at rows place) (sym e) ∙ h.there, s)

-- ---- flows of calls

no_more_jobs : (f : Flowing) (js : List Request) (cs : List Successes) → f.jobs ≡ [] → f.codes ≡ []
    → with_jobs js cs f ≡ record { names = f.names; calls = f.calls; jobs = js; codes = cs; faults = f.faults; waits = f.waits; count = f.count }
no_more_jobs f js cs e h =
    ap (λ (xs : List Request). make xs (cs ++ f.codes)) (ap (λ (xs : List Request). js ++ xs) e ∙ append-nil js) ∙ ap (λ (xs : List Successes). make js xs) (ap (λ (xs : List Successes). cs ++ xs) h ∙ append-nil cs)
  where
    make : List Request → List Successes → Flowing
    make xs ys = record { names = f.names; calls = f.calls; jobs = xs; codes = ys; faults = f.faults; waits = f.waits; count = f.count }

module _ (lib : Library) (site : List ℕ) (rows : List Row) (b : Sheet) (x : TCall) (s : Scope) (g : Given) where
  abbrev names : Names
  names = call_names lib x

  abbrev place : List Segment
  place = s.place ++ segment.Call x.name ∷ []

  abbrev run : Run
  run = run_with lib site rows

  missing_here : IsNamed (call_names lib x) g → IsUnset b g → missing (call_names lib x) ≡ flowing_of (value_at b.values) g no_work
  missing_here n u = missing_is (value_at b.values) (call_names lib x) g n u.names u.calls

  fault_here : (f : Fault) → IsNamed (call_names lib x) g → IsUnset b g
      → with_fault f (missing (call_names lib x)) ≡ flowing_of (value_at b.values) g (record { jobs = []; codes = []; faults = f ∷ []; waits = []; count = 0 })
  fault_here f n u = ap (with_fault f) (missing_here n u)

  -- a call whose arguments are there, or one of which failed
  args_there : (slots : List Slot) (marks : List Mark) (o : Tried (List Bind)) (depth : ℕ) → args_known (map (known_in (value_at b.values)) slots) x.args ≡ true
      → list_all (has_ended (map (ended_in (value_at b.values)) marks)) x.after ≡ true → args_met (env_of (map (known_in (value_at b.values)) slots)) x.args ≡ o
      → call_of run (flow run depth) names x (own_sight (value_at b.values) s.place slots marks) ≡ with_args run (flow run depth) names (s.place ++ segment.Call x.name ∷ []) x o
  args_there slots marks o depth known ended met =
      ap (λ t. cond (t && list_all (has_ended (map (ended_in (value_at b.values)) marks)) x.after) (go (args_met (env_of (map (known_in (value_at b.values)) slots)) x.args)) (missing names)) known
      ∙ ap (λ t. cond t (go (args_met (env_of (map (known_in (value_at b.values)) slots)) x.args)) (missing names)) ended
      ∙ ap go met
    where
      go : Tried (List Bind) → Flowing
      go o_ = with_args run (flow run depth) names (s.place ++ segment.Call x.name ∷ []) x o_

  task_call : (args : List Bind) (t : TaskDef) (h : CallsTask lib b x s g args t) (depth : ℕ)
      → call_of run (flow run depth) names x (own_sight (value_at b.values) s.place h.slots h.marks) ≡ asked run names (s.place ++ segment.Call x.name ∷ []) t x.name (asks t args)
  task_call args t h depth =
      args_there h.slots h.marks (Ok args) depth h.met.known h.met.ended h.met.met
      ∙ ap (λ (y : Target). called run (flow run depth) names (s.place ++ segment.Call x.name ∷ []) x args y) h.is
      ∙ ap (λ (o : Option TaskDef). task_called run names (s.place ++ segment.Call x.name ∷ []) x.name args o) h.found

  task_tells : (args : List Bind) (t : TaskDef) (h : CallsTask lib b x s g args t) (w : Work) → asked run names (s.place ++ segment.Call x.name ∷ []) t x.name (asks t args) ≡ flowing_of (value_at b.values) g w
      → TellsCall lib site rows b x s g w
  task_tells args t h w e =
      record { slots = h.slots; marks = h.marks; needs = h.needs; plain = inl (h.number, t, h.is, h.found); follows = λ depth. task_call args t h depth ∙ e }

  arg_fails : (e : Failing) → ArgFails lib b x s g e → IsUnset b g → TellsCall lib site rows b x s g (work_failed (s.place ++ segment.Call x.name ∷ []) e)
  arg_fails e h u =
      record {
        slots = h.slots;
        marks = h.marks;
        needs = h.needs;
        plain = inr (e, h.fails);
        follows = λ depth. args_there h.slots h.marks (Err e) depth h.known h.ended h.fails ∙ fault_here (failing_at (s.place ++ segment.Call x.name ∷ []) e) h.named u;
      }

  module _ (args : List Bind) (t : TaskDef) (a : Asked) (h : CallsTask lib b x s g args t) (asking : asks t args ≡ Ok a) (k : ℕ) where
    abbrev reqs : List Request
    reqs = requests_from site (s.place ++ segment.Call x.name ∷ []) a 0 (suc k)

    abbrev cods : List Successes
    cods = codes_of a (suc k)

    abbrev trying : Flowing
    trying = attempts run names (s.place ++ segment.Call x.name ∷ []) t x.name a a.retries 0

    tells_by : (w : Work) → trying ≡ flowing_of (value_at b.values) g w → TellsCall lib site rows b x s g w
    tells_by w e = task_tells args t h w (ap (asked run names (s.place ++ segment.Call x.name ∷ []) t x.name) asking ∙ e)

    fails_by : (f : Fault) → trying ≡ with_jobs reqs cods (with_fault f (missing names)) → IsUnset b g → TellsCall lib site rows b x s g (work_after site (s.place ++ segment.Call x.name ∷ []) a k (f ∷ []) [])
    fails_by f e u =
        tells_by (work_after site (s.place ++ segment.Call x.name ∷ []) a k (f ∷ []) []) (e
        ∙ ap (with_jobs reqs cods) (fault_here f h.named u)
        ∙ no_more_jobs (flowing_of (value_at b.values) g (record { jobs = []; codes = []; faults = f ∷ []; waits = []; count = 0 })) reqs cods refl refl)

    waits_on : IsWaiting rows (s.place ++ segment.Call x.name ∷ []) a k → IsUnset b g
        → TellsCall lib site rows b x s g (work_after site (s.place ++ segment.Call x.name ∷ []) a k [] ((s.place ++ segment.Call x.name ∷ []) ∷ []))
    waits_on i u =
        tells_by (work_after site (s.place ++ segment.Call x.name ∷ []) a k [] ((s.place ++ segment.Call x.name ∷ []) ∷ []))
        (attempts_wait run names (s.place ++ segment.Call x.name ∷ []) t x.name a k i.tried (i.unanswered k (omega arith))
        ∙ ap (λ (f : Flowing). with_jobs reqs cods (waiting (s.place ++ segment.Call x.name ∷ []) f)) (missing_here h.named u)
        ∙ no_more_jobs (waiting (s.place ++ segment.Call x.name ∷ []) (flowing_of (value_at b.values) g no_work)) reqs cods refl refl)

    concludes : (answer : Answer) → IsAnswered rows (s.place ++ segment.Call x.name ∷ []) a k answer → is_success a.codes answer.status ≡ true → (o : Tried (List Bind))
        → tells lib.structs t a (job_dir site (s.place ++ segment.Call x.name ∷ []) k) answer ≡ o → trying ≡ with_jobs reqs cods (concluded names (s.place ++ segment.Call x.name ∷ []) x.name o)
    concludes answer i success o e =
        attempts_tell run names (s.place ++ segment.Call x.name ∷ []) t x.name a k answer i.tried i.there success
        ∙ ap (λ (y : Tried (List Bind)). with_jobs reqs cods (concluded names (s.place ++ segment.Call x.name ∷ []) x.name y)) e

    done_with : (answer : Answer) (outs : List Bind) → IsAnswered rows (s.place ++ segment.Call x.name ∷ []) a k answer → is_success a.codes answer.status ≡ true
        → tells lib.structs t a (job_dir site (s.place ++ segment.Call x.name ∷ []) k) answer ≡ Ok outs → HasOutputs b x g outs
        → TellsCall lib site rows b x s g (work_after site (s.place ++ segment.Call x.name ∷ []) a k [] [])
    done_with answer outs i success e o =
        tells_by (work_after site (s.place ++ segment.Call x.name ∷ []) a k [] []) (concludes answer i success (Ok outs) e
        ∙ no_more_jobs (ended_call x.name outs) reqs cods refl refl
        ∙ ap (λ (ks : List Known). make ks ((let c : Ended = record { call = x.name; ended = true } in c) ∷ [])) o.names
        ∙ ap (make (map (known_in (value_at b.values)) g.names)) o.calls)
      where
        make : List Known → List Ended → Flowing
        make ks cs =
            record { names = ks; calls = cs; jobs = requests_from site (s.place ++ segment.Call x.name ∷ []) a 0 (suc k); codes = codes_of a (suc k); faults = []; waits = []; count = 0 }

pub calls_tell : CallsTell
calls_tell =
    record {
      arg_failed = λ lib site rows b x s g e h u. arg_fails lib site rows b x s g e h u;
      not_asked = λ lib site rows b x s g args t e h asking u.
          task_tells lib site rows b x s g args t h (work_failed (place_of s x) e)
          (ap (asked (run_with lib site rows) (call_names lib x) (place_of s x) t x.name) asking ∙ fault_here lib site rows b x s g (failing_at (place_of s x) e) h.named u);
      waits = λ lib site rows b x s g args t a k h asking i u. waits_on lib site rows b x s g args t a h asking k i u;
      done = λ lib site rows b x s g args t a k answer outs h asking i success e o. done_with lib site rows b x s g args t a h asking k answer outs i success e o;
      failed = λ lib site rows b x s g args t a k answer e h asking i success f u.
          fails_by lib site rows b x s g args t a h asking k (failing_at (place_of s x) e) (concludes lib site rows b x s g args t a h asking k answer i success (Err e) f) u;
      refused = λ lib site rows b x s g args t a k answer h asking i no_success last u.
          fails_by lib site rows b x s g args t a h asking k (failing_at (place_of s x) (bad_status answer.status))
          (attempts_refused (run_with lib site rows) (call_names lib x) (place_of s x) t x.name a k answer i.tried i.there no_success last) u;
    }
