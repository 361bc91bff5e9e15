-- A call that is left stands at a place where there is no job and no row.
use Rattle.std.proofs.Common.{◌≡◌, ℕ, Bool, true, false, cond, ◌==◌, List, [], ◌∷◌, Contains, Some, None, arith, ap, refl, ◌∙◌}
use Rattle.std.proofs.lemmas.Bool.{and_parts, false_from_ne_true}
use Rattle.std.proofs.lemmas.List.Elements.{Contains-append_right}
use Rattle.wdl_base.specs.declared.place.Segment.{Segment}
use Rattle.wdl_base.specs.declared.request.Request.{Request}
use Rattle.wdl_base.specs.Same.{same_place}
use Rattle.wdl_value.specs.Tables.{answer_at, is_at}
use Rattle.wdl_typed.specs.Requests.{Successes}
use Rattle.flow_laws.proofs.SameRequests.{place_same}
use Rattle.plan_lists.specs.Lists.{JobTest, count_jobs, jobs_in}
use Rattle.plan_may.specs.May.{RowsNone, at_place}

-- No job passes.
pub none_pass : (is : JobTest) (rs : List Request) (cs : List Successes) → ((x : Request) (c : Successes) → Contains rs x → is x c ≡ true → ⊥) → count_jobs is rs cs ≡ 0
none_pass is [] cs h = refl
none_pass is (r ∷ rs) [] h = refl
none_pass is (r ∷ rs) (c ∷ cs) h =
    let first : ◌≡◌ {A = ℕ} (cond (is r c) 1 0) 0 = ap (λ (b : Bool). cond b 1 0) (false_from_ne_true (is r c) (h r c (0, omega arith, refl))) in
    let rest = none_pass is rs cs (λ x d k. h x d (Contains-append_right (r ∷ []) rs x k)) in
    omega (arith, first, rest)

pub rows_none : RowsNone
rows_none [] listed rowed place none attempt = refl
rows_none (r ∷ rows) listed rowed place none attempt =
    by_row (is_at place attempt r) refl (rows_none rows listed (λ q c. rowed q (Contains-append_right (r ∷ []) rows q c)) place none attempt)
  where
    by_row : (b : Bool) → is_at place attempt r ≡ b → answer_at rows place attempt ≡ None → cond b (Some r.answer) (answer_at rows place attempt) ≡ None
    by_row true e rest =
        let same = place_same r.place place (and_parts (same_place r.place place) (r.attempt == attempt) e).0 in
        let some = rowed r (0, omega arith, refl) in
        let zero_here : jobs_in listed (at_place r.place) ≡ 0 = ap (λ (q : List Segment). jobs_in listed (at_place q)) same ∙ none in
        absurd (omega (arith, some, zero_here))
    by_row false e rest = rest
