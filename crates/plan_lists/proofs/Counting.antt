-- Jobs and faults that are counted.
use Rattle.std.proofs.Common.{◌≡◌, ◌<◌, ◌⊎◌, inl, inr, ℕ, ◌+◌, Bool, true, false, ◌||◌, cond, List, [], ◌∷◌, Contains, Some, is_some, count_by, length, arith, ap, refl, ◌∙◌}
use Rattle.std.proofs.lemmas.Bool.{false≢true}
use Rattle.std.proofs.lemmas.List.Sums.{sum_by-cons}
use Rattle.wdl_base.specs.declared.fault.Fault.{Fault}
use Rattle.wdl_base.specs.declared.place.Segment.{Segment}
use Rattle.wdl_base.specs.declared.request.Request.{Request}
use Rattle.wdl_value.specs.Tables.{Row, answer_at, has_row, is_at}
use Rattle.wdl_typed.specs.Requests.{Successes}
use Rattle.flow_laws.proofs.Elements.{contains_first, contains_later, first_or_later}
use Rattle.plan_lists.specs.Lists.{JobTest, any_job, count_jobs}

pub all_jobs : (rs : List Request) (cs : List Successes) → length cs ≡ length rs → count_jobs any_job rs cs ≡ length rs
all_jobs [] [] e = refl
all_jobs [] (c ∷ cs) e = refl
all_jobs (r ∷ rs) [] e = absurd (omega (arith, e))
all_jobs (r ∷ rs) (c ∷ cs) e = let i = all_jobs rs cs (omega (arith, e)) in omega (arith, i)

pub no_jobs : (is : JobTest) (rs : List Request) (cs : List Successes) → ((r : Request) → Contains rs r → (c : Successes) → is r c ≡ false) → count_jobs is rs cs ≡ 0
no_jobs is [] cs h = refl
no_jobs is (r ∷ rs) [] h = refl
no_jobs is (r ∷ rs) (c ∷ cs) h =
    ap (λ (b : Bool). cond b 1 0 + count_jobs is rs cs) (h r (contains_first r rs) c) ∙ (let i = no_jobs is rs cs (λ q d. h q (contains_later r rs q d)) in omega (arith, i))

one_counted : (b : Bool) → b ≡ true → cond {A = ℕ} b 1 0 ≡ 1
one_counted true e = refl
one_counted false e = absurd (false≢true e)

pub some_job : (is : JobTest) (rs : List Request) (cs : List Successes) → length cs ≡ length rs → (r : Request) → Contains rs r → ((c : Successes) → is r c ≡ true) → 0 < count_jobs is rs cs
some_job is [] cs e r d h = absurd (omega (arith, d.1))
some_job is (q ∷ rs) [] e r d h = absurd (omega (arith, e))
some_job is (q ∷ rs) (c ∷ cs) e r d h = by_place (first_or_later q rs r d) (some_job is rs cs (omega (arith, e)) r)
  where
    by_place : (q ≡ r) ⊎ Contains rs r → (Contains rs r → ((b : Successes) → is r b ≡ true) → 0 < count_jobs is rs cs) → 0 < cond (is q c) 1 0 + count_jobs is rs cs
    by_place (inl s) rest = omega (arith, one_counted (is q c) (ap (λ (x : Request). is x c) s ∙ h c))
    by_place (inr d) rest = let i = rest d h in omega (arith, i)

pub no_faults : (xs : List Fault) → count_by (λ (f : Fault). true) xs ≡ 0 → xs ≡ []
no_faults [] e = refl
no_faults (x ∷ xs) e = let i = sum_by-cons (λ (f : Fault). cond true 1 0) x xs in absurd (omega (arith, e, i))

pub row_answers : (rows : List Row) (place : List Segment) (attempt : ℕ) → is_some (answer_at rows place attempt) ≡ has_row rows place attempt
row_answers [] place attempt = refl
row_answers (r ∷ rows) place attempt = by_test (is_at place attempt r) (row_answers rows place attempt)
  where
    by_test : (b : Bool) → is_some (answer_at rows place attempt) ≡ has_row rows place attempt → is_some (cond b (Some r.answer) (answer_at rows place attempt)) ≡ (b || has_row rows place attempt)
    by_test true h = refl
    by_test false h = h
