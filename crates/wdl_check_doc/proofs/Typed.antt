-- What lists of checked members have.
use Rattle.std.proofs.Common.{◌≡◌, List, [], ◌∷◌, ◌++◌, Some, subst}
use Rattle.std.proofs.lemmas.Option.{same_Some}
use Rattle.wdl_check_types.specs.Outcome.{Outcome}
use Rattle.wdl_check_doc.specs.Outcomes.{each}
use Rattle.wdl_base.proofs.Options.{then_parts}

abbrev pub Have : {A : Type 0} → (A → Type 0) → List A → Type 0
Have P [] = Unit {0}
Have P (a ∷ as_) = P a × Have P as_

have_more : {A : Type 0} (P : A → Type 0) (xs : List A) (x : A) → Have P xs → P x → Have P (xs ++ x ∷ [])
have_more P [] x h k = (k, tt)
have_more P (y ∷ ys) x h k = (h.0, have_more P ys x h.1 k)

-- what is said of each thing that is made of a member
pub each_have : {A B : Type 0} (P : A → Type 0) (Q : B → Type 0) (f : A → Outcome B) (before : List B) (as_ : List A) (bs : List B)
    → ((a : A) (b : B) → P a → (f a).typed ≡ Some b → Q b) → Have Q before → Have P as_ → (each f before as_).typed ≡ Some bs → Have Q bs
each_have P Q f before [] bs h k l e = subst (Have Q) (same_Some before bs e) k
each_have {A} {B} P Q f before (a ∷ as_) bs h k l e =
    let s = then_parts (λ (b : B). (each f (before ++ b ∷ []) as_).typed) (f a).typed bs e in
    each_have P Q f (before ++ s.0 ∷ []) as_ bs h (have_more Q before s.0 k (h a s.0 l.0 s.1)) l.1 s.2
