-- What a check answers that goes on from another one.
use Rattle.std.proofs.Common.{◌≡◌, ◌≢◌, ℕ, [], ◌∷◌, ◌++◌, Option, Some, None, Result, Ok, Err, option_and_then, refl, sym, subst, inl, inr}
use Rattle.wdl_base.specs.declared.span.Span.{Span}
use Rattle.wdl_check_rules.specs.declared.fault.CheckFault.{CheckFault}
use Rattle.wdl_check_rules.specs.declared.fault.CheckFault.TheVariants.{Bad, NoMemory}
use Rattle.wdl_check_rules.specs.Checked.{Gives, or_bad}
use Rattle.wdl_check_rules.specs.Conditions as condition
use Rattle.wdl_check_types.specs.Outcome.{Outcome, Answers, or_refused, then_}

pub among_right : (f : CheckFault) (xs ys : condition.Conditions) → condition.is_among f ys → condition.is_among f (xs ++ ys)
among_right f [] ys h = h
among_right f (x ∷ xs) ys h = inr (among_right f xs ys h)

pub among_left : (f : CheckFault) (xs ys : condition.Conditions) → condition.is_among f xs → condition.is_among f (xs ++ ys)
among_left f [] ys h = absurd h
among_left f (x ∷ xs) ys (inl e) = inl e
among_left f (x ∷ xs) ys (inr h) = inr (among_left f xs ys h)

with_more : {A : Type 0} (t : Option A) (xs ys : condition.Conditions) (r : Result A CheckFault) → condition.Answers t ys r → condition.Answers t (xs ++ ys) r
with_more t xs ys (Ok a) h = h
with_more t xs ys (Err NoMemory) h = tt
with_more t xs ys (Err (Bad code span)) h = (h.0, among_right (Bad code span) xs ys h.1)

-- the second part answers for both, where the first gave something
pub then_ok : {A B : Type 0} (o : Outcome A) (f : A → Outcome B) (a : A) (r : Result B CheckFault) → o.typed ≡ Some a → Answers (f a) r → Answers (then_ o f) r
then_ok {A} {B} o f a r e h =
    subst (λ (t : Option A). condition.Answers (option_and_then (λ x. (f x).typed) t) (o.conditions ++ condition.given_that t (λ x. (f x).conditions)) r) (sym e)
    (with_more (f a).typed o.conditions (f a).conditions r h)

-- a fault of the first part is one of both
pub then_err : {A B : Type 0} (o : Outcome A) (f : A → Outcome B) (e : CheckFault) → Answers o (Err e) → Answers (then_ o f) (Err e)
then_err o f NoMemory h = tt
then_err {A} {B} o f (Bad code span) h = (
  subst (λ (t : Option A). option_and_then (λ x. (f x).typed) t ≡ None) (sym h.0) refl,
  among_left (Bad code span) o.conditions (condition.given_that o.typed (λ x. (f x).conditions)) h.1,
)

-- a code where a rule gives nothing
bad_is : {A : Type 0} (code n : ℕ) (span s : Span) → or_bad {A = A} code span None ≡ Err (Bad n s) → Bad n s ≡ Bad code span
bad_is code n span s h = cc

ok_is : {A : Type 0} (code : ℕ) (span : Span) (x a : A) → or_bad code span (Some x) ≡ Ok a → Some x ≡ Some a
ok_is code span x a h = cc

no_memory : (code : ℕ) (span : Span) → Bad code span ≢ NoMemory
no_memory code span e = cc

pub gives_answers : {A : Type 0} (code : ℕ) (span : Span) (o : Option A) (r : Result A CheckFault) → Gives (or_bad code span o) r → Answers (or_refused code span o) r
gives_answers code span (Some x) (Ok a) h = ok_is code span x a h
gives_answers code span None (Ok a) h = absurd cc
gives_answers code span o (Err NoMemory) h = tt
gives_answers code span (Some x) (Err (Bad n s)) h = let e = h (no_memory n s) in absurd cc
gives_answers {A} code span None (Err (Bad n s)) h = (refl, inl (bad_is {A = A} code n span s (h (no_memory n s))))
