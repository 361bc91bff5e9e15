-- Placeholders, and strings that have them.
use Rattle.std.proofs.Common.{◌≡◌, ◌⊎◌, inl, inr, ℕ, Bool, true, cond, List, [], ◌∷◌, Option, Some, None, Ok, sym, ap, ◌∙◌, subst, refl}
use Rattle.std.specs.List.{join_by}
use Rattle.std.proofs.lemmas.Bool.{false≢true, and_parts, or_cases}
use Rattle.wdl_value.specs.declared.ty.Ty.{Ty, Ty-F, out-Ty, roll-Ty, roll-out-Ty}
use Rattle.wdl_value.specs.declared.ty.Ty.TheVariants as ty
use Rattle.wdl_value.specs.declared.ty.Ty.TheOpen as type
use Rattle.wdl_value.specs.declared.value.Value.{Value, Value-F, out-Value}
use Rattle.wdl_value.specs.declared.value.Value.TheOpen as layer
use Rattle.wdl_value.specs.Bare.{bare}
use Rattle.wdl_value.specs.Fits.{Structs, fits}
use Rattle.wdl_value.specs.Kinds.{is_absent, is_scalar}
use Rattle.wdl_value.specs.ValueText.{has_text_at, text_at}
use Rattle.wdl_value.proofs.FitsForms.{a_list, all_fit}
use Rattle.wdl_typed.specs.declared.expr.Choice.{Choice}
use Rattle.wdl_typed.specs.declared.expr.Choice.TheVariants as choice
use Rattle.wdl_typed.specs.Evaluation.{Met, hole_text, one_of_two, or_default, separated, text_met, texts_met, then_, wrong}
use Rattle.wdl_typed.specs.Typing.{hole_takes, scalar_items, takes_some}
use Rattle.wdl_eval.specs.Laws.{IsMet}
use Rattle.wdl_eval.proofs.Scalars.{an_absent, bool_or_absent, text_fits, text_or_absent}
use Rattle.wdl_eval.proofs.Steps.{Fine, Fits, bind}

-- any text
abbrev pub Any : {A : Type 0} → A → Type 0
Any a = Unit {0}

text_sound : (l : Value-F Value) → has_text_at l ≡ true → IsMet Any (text_met l)
text_sound l h = subst (λ b. IsMet Any (cond b (Ok (text_at l)) wrong)) (sym h) tt

or_text : (s : List ℕ) (l : Value-F Value) → has_text_at l ≡ true → IsMet Any (or_default s l)
or_text s (layer.Bool b) h = tt
or_text s (layer.Int n) h = tt
or_text s (layer.Str t) h = tt
or_text s (layer.File t) h = tt
or_text s l h = absurd (false≢true h)

default_sound : (s : List ℕ) (l : Value-F Value) → (l ≡ layer.Absent) ⊎ (has_text_at l ≡ true) → IsMet Any (or_default s l)
default_sound s l (inl e) = subst (λ (m : Value-F Value). IsMet Any (or_default s m)) (sym e) tt
default_sound s l (inr h) = or_text s l h

choice_sound : (first second : List ℕ) (l : Value-F Value) → (l ≡ layer.Absent) ⊎ ((b : Bool) × (l ≡ layer.Bool b)) → IsMet Any (one_of_two first second l)
choice_sound first second l (inl e) = subst (λ (m : Value-F Value). IsMet Any (one_of_two first second m)) (sym e) tt
choice_sound first second l (inr p) = subst (λ (m : Value-F Value). IsMet Any (one_of_two first second m)) (sym p.1) tt

module _ (structs : Structs) where
  texts_sound : (xs : List Value) (t : Ty) → is_scalar t ≡ true → all_fit structs xs t ≡ true → IsMet Any (texts_met xs)
  texts_sound [] t s h = tt
  texts_sound (x ∷ xs) t s h =
      let p = and_parts (fits structs x t) (all_fit structs xs t) h in
      bind Any Any (text_met (out-Value x)) (λ a. then_ (texts_met xs) (λ more. Ok (a ∷ more))) (text_sound (out-Value x) (text_fits structs x t s p.0)) (λ a i.
      bind Any Any (texts_met xs) (λ more. Ok (a ∷ more)) (texts_sound xs t s p.1) (λ more j. tt))

  separated_sound : (sep : List ℕ) (t : Ty) (x : Value) → scalar_items (out-Ty t) ≡ true → Fits structs t x → IsMet Any (separated sep (out-Value x))
  separated_sound sep t x s h = by_layer (out-Ty t) refl s
    where
      by_layer : (z : Ty-F Ty) → out-Ty t ≡ z → scalar_items z ≡ true → IsMet Any (separated sep (out-Value x))
      by_layer (type.Array a some) is s =
          let array : t ≡ ty.Array a some = sym (roll-out-Ty t) ∙ ap roll-Ty is ∙ ty.rolls-Array a some in
          let l = a_list structs x a some (subst (λ (u : Ty). Fits structs u x) array h) in
          subst (λ (m : Value-F Value). IsMet Any (separated sep m)) (sym l.2)
          (bind Any Any (texts_met l.0) (λ more. Ok (join_by (λ t. t) sep more)) (texts_sound l.0 a s l.3) (λ more j. tt))
      by_layer z is s = absurd (false≢true s)

  hole_sound : (c : Choice) (t : Ty) (x : Value) → hole_takes c t ≡ true → Fits structs t x → IsMet Any (hole_text c (out-Value x))
  hole_sound choice.Plain t x s h = by_type (or_cases (is_absent t) (is_scalar (bare t)) s)
    where
      by_type : (is_absent t ≡ true) ⊎ (is_scalar (bare t) ≡ true) → IsMet Any (or_default [] (out-Value x))
      by_type (inl k) = default_sound [] (out-Value x) (inl (an_absent structs x t k h))
      by_type (inr k) = default_sound [] (out-Value x) (text_or_absent structs x t k h)
  hole_sound (choice.Sep sep) t x s h = separated_sound sep t x s h
  hole_sound (choice.Both first second) t x s h = choice_sound first second (out-Value x) (bool_or_absent structs x t s h)
  hole_sound (choice.Default text) t x s h = default_sound text (out-Value x) (text_or_absent structs x t s h)

  -- a placeholder whose expression is sound
  pub hole_fine : (c : Choice) (o : Option Ty) (r : Met Value) → Fine structs o r → takes_some c o ≡ true → IsMet Any (then_ r (λ x. hole_text c (out-Value x)))
  hole_fine c (Some t) r f s = bind (Fits structs t) Any r (λ x. hole_text c (out-Value x)) (f t refl) (λ x h. hole_sound c t x s h)
  hole_fine c None r f s = absurd (false≢true s)
