-- Typing and evaluation, step by step.
use Rattle.std.proofs.Common.{◌≡◌, Bool, true, false, cond, Option, Some, None, Ok, Err, subst, refl}
use Rattle.std.proofs.lemmas.Option.{same_Some}
use Rattle.wdl_base.specs.declared.fault.EvalCode.TheVariants.{TooLarge}
use Rattle.wdl_value.specs.declared.ty.Ty.{Ty}
use Rattle.wdl_value.specs.declared.value.Value.{Value}
use Rattle.wdl_value.specs.Fits.{Structs, fits}
use Rattle.wdl_value.specs.Limits.{is_within, limited}
use Rattle.wdl_value.specs.Outcome.{Outcome}
use Rattle.wdl_stdlib.specs.Laws.{IsOfType}
use Rattle.wdl_typed.specs.Evaluation.{Met, met, then_}
use Rattle.wdl_typed.specs.Typing.{both, when}
use Rattle.wdl_eval.specs.Laws.{IsMet, IsSound}
use Rattle.wdl_eval.specs.Nodes.{within}

-- ---- types

pub both_in : (f : Ty → Ty → Option Ty) (o p : Option Ty) (w : Ty) → both f o p ≡ Some w → (t : Ty) × (u : Ty) × (o ≡ Some t) × (p ≡ Some u) × (f t u ≡ Some w)
both_in f (Some t) (Some u) w h = (t, u, refl, refl, h)
both_in f (Some t) None w h = cc
both_in f None p w h = cc

pub when_in : (b : Bool) (t w : Ty) → when b t ≡ Some w → (b ≡ true) × (t ≡ w)
when_in true t w h = (refl, same_Some _ _ h)
when_in false t w h = cc

-- ---- values

pub bind : {A B : Type 0} (P : A → Type 0) (Q : B → Type 0) (r : Met A) (f : A → Met B) → IsMet P r → ((a : A) → P a → IsMet Q (f a)) → IsMet Q (then_ r f)
bind P Q (Ok a) f h g = g a h
bind P Q (Err (Some c)) f h g = tt
bind P Q (Err None) f h g = h

module _ (structs : Structs) where
  abbrev pub Fits : Ty → Value → Type 0
  Fits t x = fits structs x t ≡ true

  -- an outcome that is sound at the type of an expression, if it has one
  abbrev pub Fine : Option Ty → Met Value → Type 0
  Fine o r = (t : Ty) → o ≡ Some t → IsSound structs t r

  pub at_type : {t u : Ty} (r : Met Value) → t ≡ u → IsSound structs t r → IsSound structs u r
  at_type r e h = subst (λ (w : Ty). IsSound structs w r) e h

  pub met_sound : (t : Ty) (o : Outcome Value) → IsOfType structs t o → IsSound structs t (met o)
  met_sound t (Ok x) h = h
  met_sound t (Err c) h = tt

  limited_sound : (t : Ty) (x : Value) → Fits t x → IsSound structs t (met (limited x))
  limited_sound t x h = elim (is_within x) as (λ b. IsSound structs t (met (cond b (Ok x) (Err TooLarge)))) [ true ↦ h | false ↦ tt ]

  pub within_sound : (t : Ty) (r : Met Value) → IsSound structs t r → IsSound structs t (within r)
  within_sound t r h = bind (Fits t) (Fits t) r (λ x. met (limited x)) h (limited_sound t)
