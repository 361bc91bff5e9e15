-- What stays of the flow of a run as its journal grows, and where it is clean.
use Rattle.std.proofs.Common.{◌≡◌, ℕ, ◌≤◌, ◌⊎◌, inl, inr, Bool, true, false, not, ◌&&◌, ◌||◌, ◌==◌, cond, List, [], ◌∷◌, ◌++◌, map, Contains, Option, Some, None, is_some, length, arith, sym, ap, ◌∙◌, subst, refl}
use Rattle.std.specs.Cmp.{IsEquivalence}
use Rattle.std.specs.List.{AllByRecursion, IsDistinct, list_all}
use Rattle.std.specs.Set.{is_member}
use Rattle.std.proofs.lemmas.Bool.{and_from, and_parts, false≢true, not-true, not-false, or_parts}
use Rattle.std.proofs.lemmas.Bool.Decides.{Decides-eqb}
use Rattle.std.proofs.lemmas.List.{length-map}
use Rattle.std.proofs.lemmas.Map.Made.{length-le_from_is_member}
use Rattle.wdl_base.specs.declared.entry.Entry.{Entry}
use Rattle.wdl_base.specs.declared.fault.Fault.{Fault}
use Rattle.wdl_base.specs.declared.place.Segment.{Segment}
use Rattle.wdl_base.specs.declared.request.Request.{Request}
use Rattle.wdl_base.specs.Same.{same_place}
use Rattle.wdl_value.specs.Tables.{Row, answer_at, has_row, is_at, is_journal, table}
use Rattle.wdl_typed.specs.Flow.{Flowing, is_clean, is_empty, nothing, too_many}
use Rattle.wdl_typed.specs.Bodies.{Library}
use Rattle.wdl_typed.specs.Journal.{fed, fed_after, flow_over}
use Rattle.flow_laws.specs.Below.{IsBelow}
use Rattle.flow_laws.specs.Jobs.{has_job, is_job_at, jobs_differ}
use Rattle.flow_laws.specs.Laws.{IsAnswered}
use Rattle.flow_laws.proofs.Elements.{contains_first, contains_later, first_or_later, none_within}
use Rattle.flow_laws.proofs.Fed.{fed_are_jobs, fed_are_journals, journals_grow}
use Rattle.flow_laws.proofs.FlowJobs.{flow_jobs_answered, flow_jobs_differ}
use Rattle.flow_laws.proofs.JobLists.{has_the_job, job_at, job_found}
use Rattle.flow_laws.proofs.Longer as longer
use Rattle.flow_laws.proofs.SameRequests.{place_same}
use Rattle.scatter_plan.specs.Plans.{library_in}
use Rattle.ready_core.specs.Cores.{CoreState, Origin, all_taken, fed_at, flow_at, flow_of, has_fault, idle_at, is_taken, requests}
use Rattle.ready_core.specs.Flows.{flow_after, flow_in}
use Rattle.ready_core.specs.Rows.{TakenJob}

-- ---- as a journal grows

grows : (o : Origin) (journal more : List Entry) → IsBelow (flow_at o journal) (flow_at o (journal ++ more))
unfolding flow_after
grows o journal more = by_main o.checked.main
  where
    by_main : (main : Option ℕ) → IsBelow (flow_in (library_in o.checked) main o.inputs o.site journal) (flow_in (library_in o.checked) main o.inputs o.site (journal ++ more))
    by_main None = longer.below_itself nothing
    by_main (Some k) = journals_grow (library_in o.checked) o.checked.main o.checked.kept k o.inputs o.site journal more

-- a fault among the faults
pub some_fault : (f : Flowing) (x : Fault) → Contains f.faults x → has_fault f ≡ true
some_fault f x c = by_faults f.faults c
  where
    by_faults : (xs : List Fault) → Contains xs x → not (is_empty xs) ≡ true
    by_faults [] d = absurd (none_within x d)
    by_faults (y ∷ ys) d = refl

pub fault_stays : (o : Origin) (journal more : List Entry) → has_fault (flow_at o journal) ≡ true → has_fault (flow_at o (journal ++ more)) ≡ true
fault_stays o journal more h = by_faults (flow_at o journal).faults h (grows o journal more).faults
  where
    by_faults : (xs : List Fault) → not (is_empty xs) ≡ true → ((x : Fault) → Contains xs x → Contains (flow_at o (journal ++ more)).faults x) → has_fault (flow_at o (journal ++ more)) ≡ true
    by_faults [] e within = absurd (false≢true e)
    by_faults (x ∷ xs) e within = some_fault (flow_at o (journal ++ more)) x (within x (contains_first x xs))

pub too_many_stays : (o : Origin) (journal more : List Entry) → too_many (flow_at o journal) ≡ true → too_many (flow_at o (journal ++ more)) ≡ true
too_many_stays o journal more h = longer.too_many_stay (flow_at o journal) (flow_at o (journal ++ more)) (grows o journal more) h

pub job_stays : (o : Origin) (journal more : List Entry) (r : Request) → Contains (flow_at o journal).jobs r → Contains (flow_at o (journal ++ more)).jobs r
job_stays o journal more r c = (grows o journal more).jobs r c

-- ---- jobs by place and attempt

abbrev same_job : Request → Request → Bool
same_job r s = is_job_at r.place r.attempt s

same_parts : (r s : Request) → same_job r s ≡ true → (s.place ≡ r.place) × (s.attempt ≡ r.attempt)
same_parts r s h = let p = and_parts (same_place s.place r.place) (s.attempt == r.attempt) h in (place_same s.place r.place p.0, (Decides-eqb s.attempt r.attempt).0 p.1)

both : (a b : Bool) → (a ≡ true → b ≡ true) → (b ≡ true → a ≡ true) → a ≡ b
both true b f g = sym (f refl)
both false true f g = g refl
both false false f g = refl

same_laws : IsEquivalence same_job
same_laws =
    record {
      refl = λ x. job_at x x.place x.attempt refl refl;
      symm = λ x y. both (same_job x y) (same_job y x) (turned x y) (turned y x);
      congr = λ x y z e. both (same_job x z) (same_job y z) (moved x y z e) (moved y x z (turned x y e));
    }
  where
    turned : (x y : Request) → same_job x y ≡ true → same_job y x ≡ true
    turned x y e = let p = same_parts x y e in job_at x y.place y.attempt (sym p.0) (sym p.1)

    moved : (x y z : Request) → same_job x y ≡ true → same_job x z ≡ true → same_job y z ≡ true
    moved x y z e f = let p = same_parts x y e in let q = same_parts x z f in job_at z y.place y.attempt (q.0 ∙ sym p.0) (q.1 ∙ sym p.1)

job_member : (rs : List Request) (r : Request) → is_member same_job rs r ≡ has_job rs r.place r.attempt
job_member [] r = refl
job_member (x ∷ rs) r = ap (λ b. is_job_at r.place r.attempt x || b) (job_member rs r)

apart_from : (r : Request) (rs : List Request) → has_job rs r.place r.attempt ≡ false → AllByRecursion (λ y. same_job r y ≡ false) rs
apart_from r [] h = tt
apart_from r (x ∷ rs) h = let p = or_parts (is_job_at r.place r.attempt x) (has_job rs r.place r.attempt) h in (p.0, apart_from r rs p.1)

distinct : (rs : List Request) → jobs_differ rs ≡ true → IsDistinct same_job rs
unfolding IsDistinct
distinct [] h = tt
distinct (r ∷ rs) h =
    let p = and_parts (not (has_job rs r.place r.attempt)) (jobs_differ rs) h in
    (apart_from r rs (not-true (has_job rs r.place r.attempt) p.0), distinct rs p.1)

-- Jobs that differ, each with the place and attempt of one of the others, are no more than those.
no_more : (xs ys : List Request) → jobs_differ xs ≡ true → ((r : Request) → Contains xs r → has_job ys r.place r.attempt ≡ true) → length xs ≤ length ys
no_more xs ys h among = length-le_from_is_member same_laws xs ys (distinct xs h) member
  where
    member : (r : Request) → is_member same_job xs r ≡ true → is_member same_job ys r ≡ true
    member r e =
        let x = job_found xs r.place r.attempt (sym (job_member xs r) ∙ e) in
        job_member ys r ∙ ap (λ p. has_job ys p r.attempt) (sym x.2) ∙ ap (has_job ys x.0.place) (sym x.3) ∙ among x.0 x.1

-- ---- the entries of a journal by place and attempt

abbrev asked_in : List Entry → List Request
asked_in = map (λ (e : Entry). e.request)

row_is_job : (es : List Entry) (place : List Segment) (attempt : ℕ) → has_row (table es) place attempt ≡ has_job (asked_in es) place attempt
row_is_job [] place attempt = refl
row_is_job (e ∷ es) place attempt = ap (λ b. is_job_at place attempt e.request || b) (row_is_job es place attempt)

journal_differs : (es : List Entry) → is_journal es ≡ jobs_differ (asked_in es)
journal_differs [] = refl
journal_differs (e ∷ es) =
    ap (λ b. not b && is_journal es) (row_is_job es e.request.place e.request.attempt) ∙ ap (λ b. not (has_job (asked_in es) e.request.place e.request.attempt) && b) (journal_differs es)

asked_by : (es : List Entry) (r : Request) → Contains (asked_in es) r → (e : Entry) × Contains es e × (e.request ≡ r)
asked_by [] r c = absurd (none_within r c)
asked_by (e ∷ es) r c = by_case (asked_by es r) (first_or_later e.request (asked_in es) r c)
  where
    by_case : (Contains (asked_in es) r → (d : Entry) × Contains es d × (d.request ≡ r)) → (e.request ≡ r) ⊎ Contains (asked_in es) r → (d : Entry) × Contains (e ∷ es) d × (d.request ≡ r)
    by_case rest (inl same) = (e, contains_first e es, same)
    by_case rest (inr d) = let p = rest d in (p.0, contains_later e es p.0 p.1, p.2)

taken_is_job : (taken : List TakenJob) (r : Request) → is_taken taken r ≡ has_job (requests taken) r.place r.attempt
taken_is_job [] r = refl
taken_is_job (j ∷ js) r = ap (λ b. is_job_at r.place r.attempt j.request || b) (taken_is_job js r)

answered_by_row : (rows : List Row) (place : List Segment) (attempt : ℕ) → has_row rows place attempt ≡ true → is_some (answer_at rows place attempt) ≡ true
answered_by_row [] place attempt h = absurd (false≢true h)
answered_by_row (r ∷ rows) place attempt h = by_test (is_at place attempt r) h (answered_by_row rows place attempt)
  where
    by_test : (b : Bool) → (b || has_row rows place attempt) ≡ true → (has_row rows place attempt ≡ true → is_some (answer_at rows place attempt) ≡ true) → is_some (cond b (Some r.answer) (answer_at rows place attempt)) ≡ true
    by_test true e rest = refl
    by_test false e rest = rest e

passes : (test : Request → Bool) (rs : List Request) (r : Request) → list_all test rs ≡ true → Contains rs r → test r ≡ true
passes test [] r h c = absurd (none_within r c)
passes test (x ∷ rs) r h c = let p = and_parts (test x) (list_all test rs) h in by_case p.0 (passes test rs r p.1) (first_or_later x rs r c)
  where
    by_case : test x ≡ true → (Contains rs r → test r ≡ true) → (x ≡ r) ⊎ Contains rs r → test r ≡ true
    by_case first rest (inl same) = ap test (sym same) ∙ first
    by_case first rest (inr d) = rest d

-- ---- a flow whose jobs were all settled

-- As many entries as jobs that were taken, and each job of the flow among these: each job has its entry.
settled_job : (f : Flowing) (journal : List Entry) (taken : List TakenJob) → jobs_differ f.jobs ≡ true → is_journal journal ≡ true
    → ((e : Entry) → Contains journal e → Contains f.jobs e.request) → length journal ≡ length taken → all_taken f taken ≡ true
    → (r : Request) → Contains f.jobs r → (b : Bool) → has_row (table journal) r.place r.attempt ≡ b → b ≡ true
settled_job f journal taken differ once asked even all r c true e = refl
settled_job f journal taken differ once asked even all r c false e =
    let few = no_more f.jobs (requests taken) differ (λ x d. sym (taken_is_job taken x) ∙ passes (is_taken taken) f.jobs x all d) in
    let fresh = and_from (not (has_job (asked_in journal) r.place r.attempt)) (jobs_differ (asked_in journal)) (ap not (sym (row_is_job journal r.place r.attempt) ∙ e)) (sym (journal_differs journal) ∙ once) in
    let many = no_more (r ∷ asked_in journal) f.jobs fresh (λ x d. among x (first_or_later r (asked_in journal) x d)) in
    absurd (omega (arith, few, many, even, length_asked journal, length-map taken (λ (j : TakenJob). j.request)))
  where
    length_asked : (es : List Entry) → length (asked_in es) ≡ length es
    length_asked es = length-map es (λ (x : Entry). x.request)

    among : (x : Request) → (r ≡ x) ⊎ Contains (asked_in journal) x → has_job f.jobs x.place x.attempt ≡ true
    among x (inl same) = has_the_job f.jobs x (subst (Contains f.jobs) same c) x.place x.attempt refl refl
    among x (inr d) = let p = asked_by journal x d in has_the_job f.jobs x (subst (Contains f.jobs) p.2 (asked p.0 p.1)) x.place x.attempt refl refl

clean_by : (rows : List Row) (f : Flowing) → IsAnswered rows f → has_fault f ≡ false → ((r : Request) → Contains f.jobs r → has_row rows r.place r.attempt ≡ true) → is_clean f ≡ true
clean_by rows f answered sound settled = and_from (is_empty f.faults) (is_empty f.waits) (not-false (is_empty f.faults) sound) (by_waits f.waits refl)
  where
    by_waits : (w : List (List Segment)) → f.waits ≡ w → is_empty f.waits ≡ true
    by_waits [] e = ap is_empty e
    by_waits (p ∷ ps) e =
        let x = answered.waits p (subst (λ (w : List (List Segment)). Contains w p) (sym e) (contains_first p ps)) in
        absurd (false≢true (sym x.3 ∙ answered_by_row rows x.0.place x.0.attempt (settled x.0 x.1)))

idle_parts : (fault many all : Bool) → fault ≡ false → many ≡ false → (fault || (many || all)) ≡ true → all ≡ true
idle_parts false false all f m h = h
idle_parts false true all f m h = absurd (false≢true (sym m))
idle_parts true many all f m h = absurd (false≢true (sym f))

-- Where nothing is out and nothing more is to be taken, the flow is clean, unless it has a fault or is too many.
pub all_settled : (c : CoreState) → fed_at c.origin c.journal ≡ true → length c.journal ≡ length c.taken → has_fault (flow_of c) ≡ false → too_many (flow_of c) ≡ false → idle_at c ≡ true
    → is_clean (flow_of c) ≡ true
unfolding flow_after
all_settled c asked even sound few idle = by_main c.origin.checked.main refl
  where
    lib : Library
    lib = library_in c.origin.checked

    by_main : (m : Option ℕ) → c.origin.checked.main ≡ m → is_clean (flow_in lib c.origin.checked.main c.origin.inputs c.origin.site c.journal) ≡ true
    by_main None e = ap (λ (m : Option ℕ). is_clean (flow_in lib m c.origin.inputs c.origin.site c.journal)) e
    by_main (Some k) e =
        let o = c.origin in
        let g = flow_over lib k o.inputs o.site c.journal in
        let same : flow_of c ≡ g = ap (λ (m : Option ℕ). flow_in lib m o.inputs o.site c.journal) e in
        let fed_there : fed lib k o.inputs o.site c.journal ≡ true = ap (λ (m : Option ℕ). fed_after (λ (j : List Entry). flow_in lib m o.inputs o.site j) [] c.journal) (sym e) ∙ asked in
        let kept = o.checked.kept in
        let all : all_taken g c.taken ≡ true = idle_parts (has_fault g) (too_many g) (all_taken g c.taken) (ap has_fault (sym same) ∙ sound) (ap too_many (sym same) ∙ few) (ap (λ (f : Flowing). has_fault f || (too_many f || all_taken f c.taken)) (sym same) ∙ idle) in
        ap is_clean same
        ∙ clean_by (table c.journal) g (flow_jobs_answered lib o.checked.main kept o.site (table c.journal) 25 k o.inputs []) (ap has_fault (sym same) ∙ sound)
        (λ r d. settled_job g c.journal c.taken (flow_jobs_differ lib o.checked.main kept o.site (table c.journal) 25 k o.inputs []) (fed_are_journals lib k o.inputs o.site c.journal fed_there)
        (fed_are_jobs lib o.checked.main kept k o.inputs o.site c.journal fed_there) even all r d (has_row (table c.journal) r.place r.attempt) refl)
