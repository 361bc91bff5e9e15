-- A plan is made anew over a journal, one entry after the other.
use Rattle.std.proofs.Common.{zero, suc, ◌≡◌, ◌≤◌, ◌<◌, ◌+◌, ℕ, Bool, true, false, cond, not, ◌&&◌, ◌⊎◌, inl, inr, List, [], ◌∷◌, ◌++◌, append_assoc, append-nil, ◌||◌, take, get_or, count_by, length, arith, sym, ap, ◌∙◌, subst, refl}
use Rattle.std.specs.List.{list_any}
use Rattle.std.proofs.lemmas.Bool.{and_from, and_parts, false≢true, not-true, or_cases}
use Rattle.std.proofs.lemmas.List.Sums.{sum_by-cons}
use Rattle.wdl_base.specs.declared.entry.Entry.{Entry}
use Rattle.wdl_base.specs.declared.request.Request.{Request}
use Rattle.wdl_base.specs.Same.{same_request}
use Rattle.wdl_value.specs.Tables.{Row, has_row, row_of, table}
use Rattle.wdl_typed.specs.Flow.{Flowing}
use Rattle.wdl_typed.specs.Journal.{fed_after, is_asked}
use Rattle.wdl_typed.specs.Requests.{Successes}
use Rattle.wdl_task.specs.declared.request.Prepared.{Prepared}
use Rattle.flow_laws.specs.Jobs.{is_job_at}
use Rattle.flow_laws.proofs.JobLists.{job_at}
use Rattle.flow_laws.proofs.SameRequests.{request_same}
use Rattle.plan_lists.specs.Lists.{count_jobs, unanswered}
use Rattle.scatter_plan.specs.declared.plan.Plan.{Plan}
use Rattle.scatter_plan.specs.declared.plan.Origin.{Origin}
use Rattle.scatter_plan.specs.Calls.{Arrives, IsOfSame, IsRenewed, is_fed_for, is_waiting}
use Rattle.scatter_plan.specs.Renewals.{IsRenewing}
use Rattle.scatter_plan.specs.Settling.{IsMadeOf}
use Rattle.scatter_plan.specs.Plans.{IsMade, IsTold, checked_in, flow_of, flow_with, inputs_in, ready_in, site_in}

-- ---- entries of a fed journal

take_behind : (done es : List Entry) (e : Entry) (k : ℕ) → (done ++ e ∷ []) ++ take k es ≡ done ++ take (suc k) (e ∷ es)
take_behind done es e k = append_assoc done (e ∷ []) (take k es)

-- Each entry's request is asked in the flow over those before it, and its place and attempt are new.
fed_at : (over : List Entry → Flowing) (done es : List Entry) (k : ℕ) (e : Entry) → fed_after over done es ≡ true → k < length es → e ≡ get_or es k e
    → (is_asked e.request (over (done ++ take k es)) ≡ true) × (has_row (table (done ++ take k es)) e.request.place e.request.attempt ≡ false)
fed_at over done [] k e h within is = absurd (omega (arith, within))
fed_at over done (x ∷ es) zero e h within is =
    let p = and_parts (is_asked x.request (over done) && not (has_row (table done) x.request.place x.request.attempt)) (fed_after over (done ++ x ∷ []) es) h in
    let q = and_parts (is_asked x.request (over done)) (not (has_row (table done) x.request.place x.request.attempt)) p.0 in
    subst (λ (l : List Entry). (is_asked e.request (over l) ≡ true) × (has_row (table l) e.request.place e.request.attempt ≡ false)) (sym (append-nil done))
    (subst (λ (y : Entry). (is_asked y.request (over done) ≡ true) × (has_row (table done) y.request.place y.request.attempt ≡ false)) (sym is)
    (q.0, not-true (has_row (table done) x.request.place x.request.attempt) q.1))
fed_at over done (x ∷ es) (suc k) e h within is =
    let p = and_parts (is_asked x.request (over done) && not (has_row (table done) x.request.place x.request.attempt)) (fed_after over (done ++ x ∷ []) es) h in
    subst (λ (l : List Entry). (is_asked e.request (over l) ≡ true) × (has_row (table l) e.request.place e.request.attempt ≡ false)) (take_behind done es x k)
    (fed_at over (done ++ x ∷ []) es k e p.1 (omega (arith, within)) is)

-- ---- what waits

-- A request that is asked and has no row is counted among the jobs.
asked_counts : (rows : List Row) (r : Request) → has_row rows r.place r.attempt ≡ false → (rs : List Request) (cs : List Successes) → length cs ≡ length rs → list_any (same_request r) rs ≡ true
    → 0 < count_jobs (unanswered rows (λ q c. is_job_at r.place r.attempt q)) rs cs
asked_counts rows r new [] cs even h = absurd (false≢true h)
asked_counts rows r new (q ∷ rs) [] even h = absurd (omega (arith, even))
asked_counts rows r new (q ∷ rs) (c ∷ cs) even h = by_case (asked_counts rows r new rs cs (omega (arith, even))) (or_cases (same_request r q) (list_any (same_request r) rs) h)
  where
    by_case : (list_any (same_request r) rs ≡ true → 0 < count_jobs (unanswered rows (λ x y. is_job_at r.place r.attempt x)) rs cs) → (same_request r q ≡ true) ⊎ (list_any (same_request r) rs ≡ true)
        → 0 < count_jobs (unanswered rows (λ x y. is_job_at r.place r.attempt x)) (q ∷ rs) (c ∷ cs)
    by_case rest (inl k) =
        let e = request_same r q k in
        let here : is_job_at r.place r.attempt q && not (has_row rows q.place q.attempt) ≡ true =
        subst (λ (x : Request). is_job_at r.place r.attempt x && not (has_row rows x.place x.attempt) ≡ true) e
        (and_from (is_job_at r.place r.attempt r) (not (has_row rows r.place r.attempt)) (job_at r r.place r.attempt refl refl) (ap not new)) in
        omega (arith, ap (λ b. cond {A = ℕ} b 1 0) here)
    by_case rest (inr k) = omega (arith, rest k)

any_waits : (p : Prepared → Bool) (xs : List Prepared) → 0 < count_by p xs → list_any p xs ≡ true
any_waits p [] h = absurd (omega (arith, h))
any_waits p (x ∷ xs) h = by_test (any_waits p xs) (p x) refl
  where
    by_test : (0 < count_by p xs → list_any p xs ≡ true) → (b : Bool) → p x ≡ b → (b || list_any p xs) ≡ true
    by_test rest true e = refl
    by_test rest false e = rest (omega (arith, h, sum_by-cons (λ y. cond {A = ℕ} (p y) 1 0) x xs, ap (λ b. cond {A = ℕ} b 1 0) e))

same_over : (a b : Plan) (rows : List Row) → IsOfSame a b → flow_of b rows ≡ flow_of a rows
same_over a b rows s =
    ap (λ x. flow_with x (inputs_in b) (site_in b) rows) s.checked ∙ ap (λ x. flow_with (checked_in a) x (site_in b) rows) s.inputs ∙ ap (λ x. flow_with (checked_in a) (inputs_in a) x rows) s.site

pub entry_waits : (a b : Plan) (j : List Entry) (k : ℕ) (e : Entry) → IsOfSame a b → is_fed_for a j ≡ true → k < length j → e ≡ get_or j k e → IsTold b (table (take k j))
    → is_waiting (ready_in b) e.request.place e.request.attempt ≡ true
entry_waits a b j k e same fed within is told =
    let f = flow_of b (table (take k j)) in
    let p = fed_at (λ (l : List Entry). flow_of a (table l)) [] j k e fed within is in
    let asked : is_asked e.request f ≡ true = ap (is_asked e.request) (same_over a b (table (take k j)) same) ∙ p.0 in
    let some = asked_counts (table (take k j)) e.request p.1 f.jobs f.codes told.shows.even asked in
    any_waits (λ (x : Prepared). is_job_at e.request.place e.request.attempt x.request) (ready_in b) (omega (arith, some, told.shows.ready (λ q c. is_job_at e.request.place e.request.attempt q)))

-- ---- one entry more

taken_one : (j : List Entry) (k : ℕ) (e : Entry) → k < length j → e ≡ get_or j k e → table (take k j) ++ row_of e ∷ [] ≡ table (take (k + 1) j)
taken_one [] k e h is = absurd (omega (arith, h))
taken_one (x ∷ j) zero e h is = ap (λ (y : Entry). row_of y ∷ []) is
taken_one (x ∷ j) (suc k) e h is =
    let next : suc (k + 1) ≡ suc k + 1 = omega arith in
    ap (λ (l : List Row). row_of x ∷ l) (taken_one j k e (omega (arith, h)) is) ∙ ap (λ n. table (take n (x ∷ j))) next

pub told_more : (p : Plan) (j : List Entry) (k : ℕ) (e : Entry) → k < length j → e ≡ get_or j k e → (t : IsTold p (table (take k j) ++ row_of e ∷ [])) → (told : IsTold p (table (take (k + 1) j))) × (told.paid ≡ t.paid)
told_more p j k e within is t = subst (λ (rows : List Row). (told : IsTold p rows) × (told.paid ≡ t.paid)) (taken_one j k e within is) (t, refl)

pub begun_renewing : (a b : Plan) (j : List Entry) (old now : ℕ) → b.origin ≡ a.origin → IsMade a → IsRenewed [] old now b → IsRenewing a j 0 old now b
begun_renewing a b j old now e made r =
    record {
      same =
          record { checked = ap (λ (o : Origin). o.checked) e; inputs = ap (λ (o : Origin). o.inputs) e; site = ap (λ (o : Origin). o.site) e };
      made = subst (λ (o : Origin). IsMadeOf o.checked o.layout o.main o.inputs) (sym e) made;
      told = r.told;
      paid = r.paid;
    }

pub more_renewing : (a b n : Plan) (j : List Entry) (k : ℕ) (e : Entry) (old now later : ℕ) (inv : IsRenewing a j k old now b) → k < length j → e ≡ get_or j k e → IsOfSame b n → IsMade n
    → Arrives b (table (take k j)) inv.told (row_of e) n now later → IsRenewing a j (k + 1) old later n
more_renewing a b n j k e old now later inv within is same made r =
    let x = told_more n j k e within is r.told in
    let i = inv.same in
    record {
      same = record { checked = same.checked ∙ i.checked; inputs = same.inputs ∙ i.inputs; site = same.site ∙ i.site };
      made = made;
      told = x.0;
      paid = omega (arith, inv.paid, r.paid, x.1);
    }

all_taken : (j : List Entry) (k : ℕ) → length j ≤ k → take k j ≡ j
all_taken [] zero h = refl
all_taken [] (suc k) h = refl
all_taken (x ∷ j) zero h = absurd (omega (arith, h))
all_taken (x ∷ j) (suc k) h = ap (λ (l : List Entry). x ∷ l) (all_taken j k (omega (arith, h)))

pub ended_renewing : (a b : Plan) (j : List Entry) (k old now : ℕ) → IsRenewing a j k old now b → length j ≤ k → IsRenewed (table j) old now b
ended_renewing a b j k old now inv h =
    let x : (told : IsTold b (table j)) × (told.paid ≡ inv.told.paid) =
    subst (λ (l : List Entry). (told : IsTold b (table l)) × (told.paid ≡ inv.told.paid)) (all_taken j k h) (inv.told, refl) in
    record { told = x.0; paid = omega (arith, inv.paid, x.1) }
