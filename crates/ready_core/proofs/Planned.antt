-- A plan that was told of a journal, and the flow over that journal.
use Rattle.std.proofs.Common.{◌≡◌, ◌≤◌, ◌<◌, ◌+◌, ℕ, Bool, true, false, cond, not, ◌&&◌, List, [], ◌∷◌, ◌++◌, map, drop, count_by, is_some, length, length-append, Result, Ok, Err, IfOk, arith, sym, ap, ◌∙◌, subst, refl}
use Rattle.std.proofs.lemmas.Bool.{and_from}
use Rattle.std.proofs.lemmas.List.{map-append}
use Rattle.std.proofs.Math.Seq.{drop-append_seam}
use Rattle.std.proofs.lemmas.List.Sums.{count_by-le-length}
use Rattle.wdl_base.specs.declared.entry.Entry.{Entry}
use Rattle.wdl_base.specs.declared.error.NoMemory.{NoMemory}
use Rattle.wdl_base.specs.declared.request.Request.{Request}
use Rattle.wdl_value.specs.declared.env.Bind.{Bind}
use Rattle.wdl_value.specs.Tables.{Row, has_row, row_of, table}
use Rattle.wdl_typed.specs.declared.checked.Checked.{Checked}
use Rattle.wdl_typed.specs.Flow.{Flowing, too_many}
use Rattle.wdl_typed.specs.Journal.{fed_after}
use Rattle.wdl_typed.specs.Requests.{Successes}
use Rattle.wdl_task.specs.declared.request.Prepared.{Prepared}
use Rattle.flow_laws.specs.Jobs.{is_job_at}
use Rattle.scatter_plan.specs.Calls.{Arrives, IsOfSame, is_fed_for, is_waiting}
use Rattle.scatter_plan.specs.declared.plan.Plan.{Plan}
use Rattle.scatter_plan.specs.Plans.{IsTold, checked_in, count_jobs, flow_of, flow_with, inputs_in, ready_in, site_in, unanswered}
use Rattle.ready_core.specs.declared.turn.Turn.{Turn}
use Rattle.ready_core.specs.Cores.{Origin, fed_at, flow_at, is_taking, jobs_of, origin_in, paired}
use Rattle.ready_core.specs.Courses.{IsAwaited}
use Rattle.ready_core.specs.Rows.{TakenJob}
use Rattle.ready_core.specs.Turns.{AreShared, IsFirst, IsNext, IsShownBy, IsSight, is_closed, is_open, job_in, open_count}
use Rattle.ready_core.proofs.Counted.{taking_itself}
use Rattle.ready_core.proofs.Counting.{any_counts, count_cons, count_joined, count_mapped, counts}
use Rattle.ready_core.proofs.Paired.{job, request_paired}
use Rattle.ready_core.proofs.Runs.{plan_flow}
use Rattle.ready_core.proofs.Turning.{open_parts, seen_sight, unless_none}

flow_same : (o : Origin) (j : List Entry) → flow_with o.checked o.inputs o.site (table j) ≡ flow_at o j
flow_same o j = ap (λ (h : List Entry → Flowing). h j) (plan_flow o)

told_flow : (p : Plan) (j : List Entry) → flow_of p (table j) ≡ flow_at (origin_in p) j
told_flow p j = flow_same (origin_in p) j

-- ---- what a plan is asked

pub fed_for : (p : Plan) (j : List Entry) → fed_at (origin_in p) j ≡ true → is_fed_for p j ≡ true
fed_for p j h = ap (λ (f : List Entry → Flowing). fed_after f [] j) (plan_flow (origin_in p)) ∙ h

pub few_for : (p : Plan) (j : List Entry) → too_many (flow_at (origin_in p) j) ≡ false → too_many (flow_of p (table j)) ≡ false
few_for p j h = ap too_many (told_flow p j) ∙ h

rows_next : (j : List Entry) (e : Entry) → table j ++ row_of e ∷ [] ≡ table (j ++ e ∷ [])
rows_next j e = sym (map-append row_of j (e ∷ []))

pub many_for : (p : Plan) (j : List Entry) (e : Entry) → too_many (flow_of p (table j ++ row_of e ∷ [])) ≡ true → too_many (flow_at (origin_in p) (j ++ e ∷ [])) ≡ true
many_for p j e h = sym (ap too_many (ap (flow_of p) (rows_next j e) ∙ told_flow p (j ++ e ∷ []))) ∙ h

-- ---- what waits

abbrev as_job : (TakenJob → Bool) → Request → Successes → Bool
as_job is r c = is (job r c)

count_pairs : (is : TakenJob → Bool) (j : List Entry) (rs : List Request) (cs : List Successes) → count_jobs (unanswered (table j) (as_job is)) rs cs ≡ count_by (λ x. is x && is_open j x) (paired rs cs)
count_pairs is j [] cs = refl
count_pairs is j (r ∷ rs) [] = refl
count_pairs is j (r ∷ rs) (c ∷ cs) =
    ap (λ n. cond {A = ℕ} (is (job r c) && not (has_row (table j) r.place r.attempt)) 1 0 + n) (count_pairs is j rs cs) ∙ sym (count_cons (λ x. is x && is_open j x) (job r c) (paired rs cs))

-- What waits in the plan are the jobs of the flow without an entry.
pub waits : (p : Plan) (j : List Entry) → IsTold p (table j) → (is : TakenJob → Bool) → count_by (λ (x : Prepared). is (job_in x)) (ready_in p) ≡ open_count (flow_at (origin_in p) j) j is
waits p j t is =
    t.shows.ready (as_job is) ∙ count_pairs is j (flow_of p (table j)).jobs (flow_of p (table j)).codes ∙ ap (λ (f : Flowing). open_count f j is) (told_flow p j)

awaited_count : (p : Plan) (j : List Entry) (r : Request) → IsTold p (table j) → IsAwaited (flow_at (origin_in p) j) j r → 0 < count_by (λ (x : Prepared). is_taking r (job_in x)) (ready_in p)
awaited_count p j r t w =
    let f = flow_at (origin_in p) j in
    let even : length f.codes ≡ length f.jobs = subst (λ (g : Flowing). length g.codes ≡ length g.jobs) (told_flow p j) t.shows.even in
    let q = request_paired f.jobs f.codes even r w.job in
    let here : is_taking r q.0 && is_open j q.0 ≡ true =
    and_from (is_taking r q.0) (is_open j q.0) (taking_itself q.0 r q.2) (ap (λ (x : Request). not (has_row (table j) x.place x.attempt)) q.2 ∙ ap not w.fresh) in
    omega (arith, waits p j t (is_taking r), counts (λ x. is_taking r x && is_open j x) (jobs_of f) q.0 q.1 here)

pub awaited_waits : (p : Plan) (j : List Entry) (r : Request) → IsTold p (table j) → IsAwaited (flow_at (origin_in p) j) j r → is_waiting (ready_in p) r.place r.attempt ≡ true
awaited_waits p j r t w = any_counts (λ (x : Prepared). is_job_at r.place r.attempt x.request) (ready_in p) (awaited_count p j r t w)

pub some_wait : (p : Plan) (j : List Entry) (r : Request) → IsTold p (table j) → IsAwaited (flow_at (origin_in p) j) j r → 0 < length (ready_in p)
some_wait p j r t w = omega (arith, awaited_count p j r t w, count_by-le-length (λ (x : Prepared). is_taking r (job_in x)) (ready_in p))

-- ---- what a plan shows

told_sight : (p : Plan) (j : List Entry) (from : ℕ) (t : Turn) → IsTold p (table j) → IsShownBy p from t → IsSight (checked_in p) (flow_at (origin_in p) j) t
told_sight p j from t told shown =
    let s = told.shows in
    subst (λ (f : Flowing). IsSight (checked_in p) f t) (told_flow p j) (seen_sight p (flow_of p (table j)) from t s.few s.even s.faults s.outputs shown)

no_fault : (c : Checked) (f : Flowing) (t : Turn) → IsSight c f t → is_closed f ≡ false → is_some t.fault ≡ false
no_fault c f t s h = let p = open_parts f h in s.shows ∙ ap (λ b. not (too_many f) && b) p.0 ∙ ap (λ b. not b && false) p.1

shown_count : (p : Plan) (from : ℕ) (t : Turn) → IsShownBy p from t → is_some t.fault ≡ false → (is : TakenJob → Bool) → count_by is t.ready.items ≡ count_by (λ (x : Prepared). is (job_in x)) (drop from (ready_in p))
shown_count p from t shown none is =
    ap (count_by is) (shown.ready ∙ unless_none t.fault (map job_in (drop from (ready_in p))) none)
    ∙ count_mapped job_in is (drop from (ready_in p))

first_ready : (p : Plan) (t : Turn) → IsTold p [] → IsShownBy p 0 t → is_some t.fault ≡ false → AreShared (flow_at (origin_in p) []) [] [] t.ready.items
unfolding AreShared
first_ready p t told shown none is = omega (arith, shown_count p 0 t shown none is, waits p [] told is)

pub first_shown : (p : Plan) (t : Turn) → IsTold p [] → IsShownBy p 0 t → IsFirst (origin_in p) t
first_shown p t told shown =
    let s = told_sight p [] 0 t told shown in
    record { sight = s; ready = λ h. first_ready p t told shown (no_fault (checked_in p) (flow_at (origin_in p) []) t s h) }

-- ---- an answer more

pub origin_same : (a b : Plan) → IsOfSame a b → origin_in b ≡ origin_in a
origin_same a b s =
    ap (λ (c : Checked). record { checked = c; inputs = inputs_in b; site = site_in b }) s.checked
    ∙ ap (λ (i : List Bind). record { checked = (checked_in a); inputs = i; site = site_in b }) s.inputs
    ∙ ap (λ (x : List ℕ). record { checked = checked_in a; inputs = inputs_in a; site = x }) s.site

module _ (a b : Plan) (j : List Entry) (e : Entry) (told : IsTold a (table j)) (same : IsOfSame a b) (old new : ℕ) (arrives : Arrives a (table j) told (row_of e) b old new) where
  pub told_next : (next : IsTold b (table (j ++ e ∷ []))) × (next.paid ≡ arrives.told.paid)
  told_next = subst (λ (rows : List Row). (next : IsTold b rows) × (next.paid ≡ arrives.told.paid)) (rows_next j e) (arrives.told, refl)

  pub from_within : (from : ℕ) → from + 1 ≡ length (ready_in a) → from ≤ length (ready_in b)
  from_within from is =
      omega (arith, is, arrives.answers.length, ap length arrives.answers.ready, length-append arrives.answers.left arrives.answers.fresh)

  module _ (from : ℕ) (t : Turn) (is_from : from + 1 ≡ length (ready_in a)) (shown : IsShownBy b from t) where
    sight_next : IsSight (checked_in a) (flow_at (origin_in a) (j ++ e ∷ [])) t
    sight_next =
        subst (λ (o : Origin). IsSight o.checked (flow_at o (j ++ e ∷ [])) t) (origin_same a b same) (told_sight b (j ++ e ∷ []) from t told_next.0 shown)

    behind : drop from (ready_in b) ≡ arrives.answers.fresh
    behind =
        ap (drop from) arrives.answers.ready
        ∙ ap (λ n. drop n (arrives.answers.left ++ arrives.answers.fresh)) (omega (arith, is_from, arrives.answers.length))
        ∙ drop-append_seam arrives.answers.left arrives.answers.fresh

    others : is_some t.fault ≡ false → (is : TakenJob → Bool)
        → open_count (flow_at (origin_in a) (j ++ e ∷ [])) (j ++ e ∷ []) is + cond {A = ℕ} (is (job_in arrives.answers.one)) 1 0 ≡ open_count (flow_at (origin_in a) j) j is + count_by is t.ready.items
    others none is =
        let w = arrives.answers in
        let p : Prepared → Bool = λ x. is (job_in x) in
        omega (
          arith,
          waits b (j ++ e ∷ []) told_next.0 is,
          ap (λ (o : Origin). open_count (flow_at o (j ++ e ∷ [])) (j ++ e ∷ []) is) (origin_same a b same),
          ap (count_by p) w.ready,
          count_joined p w.left w.fresh,
          w.others p,
          waits a j told is,
          shown_count b from t shown none is,
          ap (count_by p) behind,
        )

    was : (is : TakenJob → Bool) → cond {A = ℕ} (is (job_in arrives.answers.one)) 1 0 ≤ open_count (flow_at (origin_in a) j) j is
    was is = omega (arith, waits a j told is, arrives.answers.others (λ x. is (job_in x)))

    pub next_shown : IsNext (origin_in a) j e t
    next_shown =
        record {
          sight = sight_next;
          frees =
              λ h. record {
                one = job_in arrives.answers.one;
                is_one = arrives.answers.is_one;
                was = was;
                others = others (no_fault (checked_in a) (flow_at (origin_in a) (j ++ e ∷ [])) t sight_next h);
              };
        }

  module _ (from : ℕ) (is_from : from + 1 ≡ length (ready_in a)) where
    pub nexts_shown : (r : Result Turn NoMemory) → IfOk r (IsShownBy b from) → IfOk r (IsNext (origin_in a) j e)
    nexts_shown (Ok t) shown = next_shown from t is_from shown
    nexts_shown (Err x) shown = tt

  pub tolds_next : (r : Result Turn NoMemory) → IfOk r (λ t. t.many ≡ false → (next : IsTold b (table (j ++ e ∷ []))) × (new + told.paid ≤ old + next.paid))
  tolds_next (Ok t) = λ few. (told_next.0, omega (arith, arrives.paid, told_next.1))
  tolds_next (Err x) = tt
