-- Lists of jobs that differ.
use Rattle.std.proofs.Common.{◌≡◌, ℕ, true, false, not, ◌==◌, ◌⊎◌, inl, inr, List, [], ◌∷◌, ◌++◌, Contains, sym, ap, ◌∙◌}
use Rattle.std.proofs.lemmas.Bool.{false≢true, and_from, and_parts, false_from_ne_true, not-true, not_from_false, or_cases, or_left, or_right}
use Rattle.std.proofs.lemmas.Bool.Decides.{Decides-eqb}
use Rattle.std.proofs.lemmas.List.Elements.{Contains-append_cases}
use Rattle.wdl_base.specs.declared.place.Segment.{Segment}
use Rattle.wdl_base.specs.declared.request.Request.{Request}
use Rattle.wdl_base.specs.Same.{same_place}
use Rattle.flow_laws.specs.Jobs.{has_job, is_job_at, jobs_differ}
use Rattle.flow_laws.proofs.SameRequests.{place_itself, place_same}
use Rattle.flow_laws.proofs.Elements.{contains_first, contains_later, first_or_later, none_within}

-- ---- jobs

pub job_found : (rs : List Request) (place : List Segment) (attempt : ℕ) → has_job rs place attempt ≡ true → (x : Request) × Contains rs x × (x.place ≡ place) × (x.attempt ≡ attempt)
job_found [] place attempt h = absurd (false≢true h)
job_found (r ∷ rs) place attempt h = by_case (job_found rs place attempt) (or_cases (is_job_at place attempt r) (has_job rs place attempt) h)
  where
    by_case : (has_job rs place attempt ≡ true → (x : Request) × Contains rs x × (x.place ≡ place) × (x.attempt ≡ attempt)) → (is_job_at place attempt r ≡ true) ⊎ (has_job rs place attempt ≡ true)
        → (x : Request) × Contains (r ∷ rs) x × (x.place ≡ place) × (x.attempt ≡ attempt)
    by_case rest (inl e) =
        let p = and_parts (same_place r.place place) (r.attempt == attempt) e in
        (r, contains_first r rs, place_same r.place place p.0, (Decides-eqb r.attempt attempt).0 p.1)
    by_case rest (inr e) = let q = rest e in (q.0, contains_later r rs q.0 q.1, q.2, q.3)

pub job_at : (x : Request) (place : List Segment) (attempt : ℕ) → x.place ≡ place → x.attempt ≡ attempt → is_job_at place attempt x ≡ true
job_at x place attempt e f =
    and_from (same_place x.place place) (x.attempt == attempt) (ap (same_place x.place) (sym e) ∙ place_itself x.place) ((Decides-eqb x.attempt attempt).1 f)

pub has_the_job : (rs : List Request) (x : Request) → Contains rs x → (place : List Segment) (attempt : ℕ) → x.place ≡ place → x.attempt ≡ attempt → has_job rs place attempt ≡ true
has_the_job [] x c place attempt e f = absurd (none_within x c)
has_the_job (r ∷ rs) x c place attempt e f = by_case (λ d. has_the_job rs x d place attempt e f) (first_or_later r rs x c)
  where
    by_case : (Contains rs x → has_job rs place attempt ≡ true) → (r ≡ x) ⊎ Contains rs x → has_job (r ∷ rs) place attempt ≡ true
    by_case rest (inl same) = or_left (is_job_at place attempt r) (has_job rs place attempt) (ap (is_job_at place attempt) same ∙ job_at x place attempt e f)
    by_case rest (inr d) = or_right (is_job_at place attempt r) (has_job rs place attempt) (rest d)

-- No two of these jobs have one place and attempt.
abbrev pub JobsApart : List Request → List Request → Type 0
JobsApart js ks = (x y : Request) → Contains js x → Contains ks y → x.place ≡ y.place → x.attempt ≡ y.attempt → ⊥

pub differ_one : (r : Request) (rs : List Request) → ((x : Request) → Contains rs x → x.place ≡ r.place → x.attempt ≡ r.attempt → ⊥) → jobs_differ rs ≡ true → jobs_differ (r ∷ rs) ≡ true
differ_one r rs apart h =
    and_from (not (has_job rs r.place r.attempt)) (jobs_differ rs)
    (not_from_false (has_job rs r.place r.attempt) (false_from_ne_true (has_job rs r.place r.attempt) (λ e. let q = job_found rs r.place r.attempt e in apart q.0 q.1 q.2 q.3))) h

pub differ_both : (js ks : List Request) → jobs_differ js ≡ true → jobs_differ ks ≡ true → JobsApart js ks → jobs_differ (js ++ ks) ≡ true
differ_both [] ks h j apart = j
differ_both (r ∷ js) ks h j apart =
    let p = and_parts (not (has_job js r.place r.attempt)) (jobs_differ js) h in
    differ_one r (js ++ ks) (λ x c e f. by_case x e f (not-true (has_job js r.place r.attempt) p.0) (Contains-append_cases js ks x c))
    (differ_both js ks p.1 j (λ x y c d. apart x y (contains_later r js x c) d))
  where
    by_case : (x : Request) → x.place ≡ r.place → x.attempt ≡ r.attempt → has_job js r.place r.attempt ≡ false → Contains js x ⊎ Contains ks x → ⊥
    by_case x e f n (inl c) = false≢true (sym n ∙ has_the_job js x c r.place r.attempt e f)
    by_case x e f n (inr c) = apart r x (contains_first r js) c (sym e) (sym f)

-- Jobs of one place and attempt are one job.
pub one_job : (rs : List Request) → jobs_differ rs ≡ true → (x y : Request) → Contains rs x → Contains rs y → x.place ≡ y.place → x.attempt ≡ y.attempt → x ≡ y
one_job [] h x y c d e f = absurd (none_within x c)
one_job (r ∷ rs) h x y c d e f =
    let p = and_parts (not (has_job rs r.place r.attempt)) (jobs_differ rs) h in
    by_case (not-true (has_job rs r.place r.attempt) p.0) (λ i j. one_job rs p.1 x y i j e f) (first_or_later r rs x c) (first_or_later r rs y d)
  where
    by_case : has_job rs r.place r.attempt ≡ false → (Contains rs x → Contains rs y → x ≡ y) → (r ≡ x) ⊎ Contains rs x → (r ≡ y) ⊎ Contains rs y → x ≡ y
    by_case n rest (inl i) (inl j) = sym i ∙ j
    by_case n rest (inl i) (inr j) =
        absurd (false≢true (sym n ∙ has_the_job rs y j r.place r.attempt (sym e ∙ ap (λ (z : Request). z.place) (sym i)) (sym f ∙ ap (λ (z : Request). z.attempt) (sym i))))
    by_case n rest (inr i) (inl j) =
        absurd (false≢true (sym n ∙ has_the_job rs x i r.place r.attempt (e ∙ ap (λ (z : Request). z.place) (sym j)) (f ∙ ap (λ (z : Request). z.attempt) (sym j))))
    by_case n rest (inr i) (inr j) = rest i j
