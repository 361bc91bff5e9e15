-- What the lowest of the broken rules says of the places of all rules.
use Rattle.std.proofs.Common.{◌≡◌, ℕ, ◌<◌, ◌&&◌, Bool, true, false, nat_lt, cond, IsSome, List, [], ◌∷◌, ◌++◌, Option, Some, None, ap, sym, ◌∙◌, subst, refl, arith}
use Rattle.std.proofs.lemmas.Bool.{eq-eqb, ltb-false, ltb-true, ne_eqb}
use Rattle.std.specs.List.{Any}
use Rattle.std.proofs.lemmas.Option.{same_Some}
use Rattle.wdl_base.specs.declared.span.Span.{Span}
use Rattle.cwl_image.specs.declared.broken.Broken.{Broken}
use Rattle.cwl_image.specs.Subset.{broken_in, is_empty, places_of}
use Rattle.cwl_rules.specs.Lowest.{lower, lowest}
use Rattle.wdl_typed.specs.Bodies.{Library}
use Rattle.cwl_image.specs.Kept.{is_kept}
use Rattle.cwl_image.specs.Named.{names_are_names}
use Rattle.cwl_subset.specs.declared.subset.SubsetFault.TheVariants.{NotInSubset}
use Rattle.cwl_subset.specs.Refusals.{IsLowest, Refuses, lowest_in}
use Rattle.wdl_base.proofs.Options.{some_none}

abbrev chosen : Bool → Span → List Span → List Span
chosen t s rest = cond t (s ∷ []) [] ++ rest

-- the places of a rule among the first, and among the others
at_own : (x : Broken) (bs : List Broken) → places_of x.rule (x ∷ bs) ≡ x.span ∷ places_of x.rule bs
at_own x bs = ap (λ t. chosen t x.span (places_of x.rule bs)) (eq-eqb x.rule x.rule refl)

at_other : (n : ℕ) (x : Broken) (bs : List Broken) → n < x.rule → places_of n (x ∷ bs) ≡ places_of n bs
at_other n x bs below =
    ap (λ t. chosen t x.span (places_of n bs)) (ne_eqb x.rule n (λ e. let h : x.rule ≡ n = e in omega (h, below, arith)))

-- the first of the broken rules, and the lowest of the others
Leads : Broken → List Broken → Option Broken → Type 0
Leads x bs o = (b : Broken) → lower (Some x) o ≡ Some b → IsLowest b (x ∷ bs)

first_lowest : (x : Broken) (bs : List Broken) → ((n : ℕ) → n < x.rule → places_of n bs ≡ []) → IsLowest x (x ∷ bs)
first_lowest x bs rest = (
  subst (λ ss. Any (λ s. s ≡ x.span) ss) (sym (at_own x bs)) (0, x.span, omega arith, refl, refl),
  λ n below. at_other n x bs below ∙ rest n below,
)

later_lowest : (x c : Broken) (bs : List Broken) → c.rule < x.rule → IsLowest c bs → IsLowest c (x ∷ bs)
later_lowest x c bs below l = (
  subst (λ ss. Any (λ s. s ≡ c.span) ss) (sym (at_other c.rule x bs below)) l.0,
  λ n h. at_other n x bs (let k : n < x.rule = omega (h, below, arith) in k) ∙ l.1 n h,
)

-- where nothing is the lowest, nothing is broken
pub none_broken : (bs : List Broken) → lowest bs ≡ None → bs ≡ []
none_broken [] e = refl
none_broken (x ∷ bs) e = absurd (some_lower (lowest bs) e)
  where
    tested : (c : Broken) (t : Bool) → cond t (Some c) (Some x) ≡ None → ⊥
    tested c true h = some_none c h
    tested c false h = some_none x h

    some_lower : (o : Option Broken) → lower (Some x) o ≡ None → ⊥
    some_lower None h = some_none x h
    some_lower (Some c) h = tested c (nat_lt c.rule x.rule) h

no_places : (n : ℕ) (bs : List Broken) → bs ≡ [] → places_of n bs ≡ []
no_places n bs e = ap (places_of n) e

pub some_broken : (bs : List Broken) (b : Broken) → lowest bs ≡ Some b → IsLowest b bs
some_broken [] b e = absurd (some_none b (sym e))
some_broken (x ∷ bs) b e = by_rest (lowest bs) refl (some_broken bs) e
  where
    by_test : (c : Broken) (t : Bool) → nat_lt c.rule x.rule ≡ t → IsLowest c bs → cond t (Some c) (Some x) ≡ Some b → IsLowest b (x ∷ bs)
    by_test c true is l h = subst (λ z. IsLowest z (x ∷ bs)) (same_Some c b h) (later_lowest x c bs (ltb-true c.rule x.rule is) l)
    by_test c false is l h =
        let above = ltb-false c.rule x.rule is in
        subst (λ z. IsLowest z (x ∷ bs)) (same_Some x b h)
        (first_lowest x bs (λ n below. l.1 n (let k : n < c.rule = omega (above, below, arith) in k)))

    by_rest : (o : Option Broken) → lowest bs ≡ o → ((c : Broken) → lowest bs ≡ Some c → IsLowest c bs) → lower (Some x) o ≡ Some b → IsLowest b (x ∷ bs)
    by_rest None is ih h =
        subst (λ z. IsLowest z (x ∷ bs)) (same_Some x b h) (first_lowest x bs (λ n below. no_places n bs (none_broken bs is)))
    by_rest (Some c) is ih h = by_test c (nat_lt c.rule x.rule) refl (ih c is) h

-- ---- checked forms

no_main : IsSome {T = ℕ} None → ⊥
no_main h = cc

pub form_is_kept : (lib : Library) (main : Option ℕ) → IsSome main → lowest_in lib main ≡ None → names_are_names lib ≡ true → is_kept lib main ≡ true
form_is_kept lib None s e n = absurd (no_main s)
form_is_kept lib (Some m) s e n =
    ap (λ b. b && names_are_names lib) (ap is_empty (none_broken (broken_in lib m) e)) ∙ n

pub form_is_refused : (lib : Library) (main : Option ℕ) (b : Broken) → lowest_in lib main ≡ Some b → Refuses lib main (NotInSubset b.rule b.span)
form_is_refused lib None b e = tt
form_is_refused lib (Some m) b e = some_broken (broken_in lib m) b e
