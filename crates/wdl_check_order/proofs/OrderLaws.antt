-- What is answered for the positions that are found.
use Rattle.std.proofs.Common.{◌≡◌, ℕ, zero, suc, List, [], ◌∷◌, Option, Some, None, Err, map, slice_get, ap, sym, subst, inl, inr}
use Rattle.wdl_base.specs.declared.span.Span.{Span}
use Rattle.wdl_typed.specs.Order.{Needing}
use Rattle.wdl_order.specs.Least.{least_order}
use Rattle.wdl_order.specs.Outcome.{IsCircular}
use Rattle.wdl_order.proofs.LeastLaws.{none}
use Rattle.wdl_check_rules.specs.declared.fault.CheckFault.TheVariants.{Bad}
use Rattle.wdl_check_rules.specs.Conditions.{is_among, unless}
use Rattle.wdl_check_types.specs.Outcome.{Answers}
use Rattle.wdl_check_order.specs.Ordered.{circular, ordered}

circular_has : {A : Type 0} (span_of : A → Span) (xs : List A) (p : ℕ) (x : A) → slice_get xs p ≡ Some x
    → is_among (Bad 320 (span_of x)) (circular (map span_of xs))
circular_has span_of [] p x h = absurd cc
circular_has {A} span_of (y ∷ xs) zero x h = inl (ap (λ (z : A). Bad 320 (span_of z)) (some_is x y (sym h)))
  where
    some_is : (a b : A) → Some a ≡ Some b → a ≡ b
    some_is a b e = cc
circular_has span_of (y ∷ xs) (suc p) x h = inr (circular_has span_of xs p x h)

pub answers_circle : {A : Type 0} (ns : List Needing) (span_of : A → Span) (xs : List A) (p : ℕ) (x : A) → IsCircular ns
    → slice_get xs p ≡ Some x → Answers (ordered ns (map span_of xs)) (Err (Bad 320 (span_of x)))
answers_circle ns span_of xs p x h got =
    let nothing : least_order ns ≡ None = none ns h in (
      nothing,
      subst (λ (o : Option (List ℕ)). is_among (Bad 320 (span_of x)) (unless o (circular (map span_of xs)))) (sym nothing)
          (circular_has span_of xs p x got),
    )
