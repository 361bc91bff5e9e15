-- Jobs of a flow as pairs of a request and its statuses of success, and when two jobs are of one place and attempt.
use Rattle.std.proofs.Common.{◌≡◌, ◌≤◌, ◌<◌, ℕ, Bool, true, false, cond, ◌==◌, ◌⊎◌, inl, inr, List, [], ◌∷◌, Contains, count_by, length, arith, sym, ap, ◌∙◌, subst, refl}
use Rattle.std.proofs.lemmas.Bool.{false≢true, and_parts, not-true}
use Rattle.std.proofs.lemmas.Bool.Decides.{Decides-eqb}
use Rattle.std.specs.Prelude.{not}
use Rattle.wdl_base.specs.declared.place.Segment.{Segment}
use Rattle.wdl_base.specs.declared.request.Request.{Request}
use Rattle.wdl_base.specs.Same.{same_place}
use Rattle.wdl_typed.specs.Requests.{Successes}
use Rattle.flow_laws.specs.Jobs.{has_job, is_job_at, jobs_differ}
use Rattle.flow_laws.proofs.Elements.{contains_first, contains_later, first_or_later, none_within}
use Rattle.flow_laws.proofs.JobLists.{has_the_job}
use Rattle.flow_laws.proofs.SameRequests.{place_same}
use Rattle.ready_core.specs.Cores.{is_taking, paired}
use Rattle.ready_core.specs.Rows.{TakenJob}
use Rattle.ready_core.proofs.Counting.{count_cons, found, zero_if}

pub taking_same : (r : Request) (j : TakenJob) → is_taking r j ≡ true → (j.request.place ≡ r.place) × (j.request.attempt ≡ r.attempt)
taking_same r j h =
    let p = and_parts (same_place j.request.place r.place) (j.request.attempt == r.attempt) h in
    (place_same j.request.place r.place p.0, (Decides-eqb j.request.attempt r.attempt).0 p.1)

-- ---- pairs

-- Each request of a pair is one of the requests.
pub paired_request : (rs : List Request) (cs : List Successes) (j : TakenJob) → Contains (paired rs cs) j → Contains rs j.request
paired_request [] cs j c = absurd (none_within j c)
paired_request (r ∷ rs) [] j c = absurd (none_within j c)
paired_request (r ∷ rs) (s ∷ cs) j c = by_case (paired_request rs cs j) (first_or_later (record { request = r; codes = s }) (paired rs cs) j c)
  where
    by_case : (Contains (paired rs cs) j → Contains rs j.request) → (record { request = r; codes = s } ≡ j) ⊎ Contains (paired rs cs) j → Contains (r ∷ rs) j.request
    by_case rest (inl same) = subst (λ (x : TakenJob). Contains (r ∷ rs) x.request) same (contains_first r rs)
    by_case rest (inr d) = contains_later r rs j.request (rest d)

abbrev pub job : Request → Successes → TakenJob
job r c = record { request = r; codes = c }

-- Each request stands in a pair.
pub request_paired : (rs : List Request) (cs : List Successes) → length cs ≡ length rs → (r : Request) → Contains rs r → (j : TakenJob) × Contains (paired rs cs) j × (j.request ≡ r)
request_paired [] cs e r c = absurd (none_within r c)
request_paired (q ∷ rs) [] e r c = absurd (omega (arith, e))
request_paired (q ∷ rs) (s ∷ cs) e r c = by_case (request_paired rs cs (omega (arith, e)) r) (first_or_later q rs r c)
  where
    by_case : (Contains rs r → (j : TakenJob) × Contains (paired rs cs) j × (j.request ≡ r)) → (q ≡ r) ⊎ Contains rs r → (j : TakenJob) × Contains (paired (q ∷ rs) (s ∷ cs)) j × (j.request ≡ r)
    by_case rest (inl same) = (job q s, contains_first (job q s) (paired rs cs), same)
    by_case rest (inr d) = let p = rest d in (p.0, contains_later (job q s) (paired rs cs) p.0 p.1, p.2)

-- Pairs pass no more often than requests.
pub count_requests : (p : Request → Bool) (rs : List Request) (cs : List Successes) → count_by (λ (j : TakenJob). p j.request) (paired rs cs) ≤ count_by p rs
count_requests p [] cs = omega arith
count_requests p (r ∷ rs) [] = omega arith
count_requests p (r ∷ rs) (c ∷ cs) = omega (arith, count_cons (λ (j : TakenJob). p j.request) (job r c) (paired rs cs), count_cons p r rs, count_requests p rs cs)

-- ---- places and attempts

job_parts : (p : List Segment) (n : ℕ) (r : Request) → is_job_at p n r ≡ true → (r.place ≡ p) × (r.attempt ≡ n)
job_parts p n r h =
    let q = and_parts (same_place r.place p) (r.attempt == n) h in
    (place_same r.place p q.0, (Decides-eqb r.attempt n).0 q.1)

-- Of jobs that differ at most one is of a place and an attempt.
pub differ_once : (rs : List Request) → jobs_differ rs ≡ true → (p : List Segment) (n : ℕ) → count_by (is_job_at p n) rs ≤ 1
differ_once [] d p n = omega arith
differ_once (r ∷ rs) d p n =
    let q = and_parts (not (has_job rs r.place r.attempt)) (jobs_differ rs) d in
    by_test (differ_once rs q.1 p n) (not-true (has_job rs r.place r.attempt) q.0) (is_job_at p n r) refl
  where
    none : has_job rs r.place r.attempt ≡ false → is_job_at p n r ≡ true → 0 < count_by (is_job_at p n) rs → ⊥
    none apart here some =
        let x = found (is_job_at p n) rs some in
        let a = job_parts p n r here in
        let b = job_parts p n x.0 x.2 in
        false≢true (sym apart ∙ has_the_job rs x.0 x.1 r.place r.attempt (b.0 ∙ sym a.0) (b.1 ∙ sym a.1))

    by_test : count_by (is_job_at p n) rs ≤ 1 → has_job rs r.place r.attempt ≡ false → (b : Bool) → is_job_at p n r ≡ b → count_by (is_job_at p n) (r ∷ rs) ≤ 1
    by_test rest apart true e = omega (arith, count_cons (is_job_at p n) r rs, ap (λ b. cond {A = ℕ} b 1 0) e, zero_if (count_by (is_job_at p n) rs) (none apart e))
    by_test rest apart false e = omega (arith, count_cons (is_job_at p n) r rs, ap (λ b. cond {A = ℕ} b 1 0) e, rest)
