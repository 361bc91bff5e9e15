-- Recursion over types: a step is given the type itself, and its layer with a result in the place of each type inside.
use Rattle.std.specs.Prelude.{◌≡◌, refl}
use Rattle.std.proofs.Common.{ap, sym, ◌∙◌}
use Rattle.wdl_value.specs.declared.ty.Ty.{Ty, Ty-F, out-Ty, roll-Ty, roll-out-Ty, map-Ty, para-Ty, para-roll-Ty}
use Rattle.wdl_value.specs.declared.ty.Ty.TheOpen as layer

module _ {A : Type 0} (h : Ty → A) where
  abbrev with_result : Ty → Ty × A
  with_result t = (t, h t)

  abbrev original : Ty × A → Ty
  original p = p.0

  abbrev outcome : Ty × A → A
  outcome p = p.1

  originals : (x : Ty-F Ty) → map-Ty _ _ original (map-Ty _ _ with_result x) ≡ x
  originals layer.Bool = refl
  originals layer.Int = refl
  originals layer.Str = refl
  originals layer.File = refl
  originals (layer.Array t some) = refl
  originals (layer.Map t u) = refl
  originals (layer.Pair t u) = refl
  originals (layer.Struct n) = refl
  originals (layer.Opt t) = refl
  originals layer.Absent = refl
  originals layer.Empty = refl

  outcomes : (x : Ty-F Ty) → map-Ty _ _ outcome (map-Ty _ _ with_result x) ≡ map-Ty _ _ h x
  outcomes layer.Bool = refl
  outcomes layer.Int = refl
  outcomes layer.Str = refl
  outcomes layer.File = refl
  outcomes (layer.Array t some) = refl
  outcomes (layer.Map t u) = refl
  outcomes (layer.Pair t u) = refl
  outcomes (layer.Struct n) = refl
  outcomes (layer.Opt t) = refl
  outcomes layer.Absent = refl
  outcomes layer.Empty = refl

module _ (A : Type 0) (step : Ty → Ty-F A → A) where
  abbrev para_step : Ty-F (Ty × A) → A
  para_step x = step (roll-Ty (map-Ty (Ty × A) Ty (λ (p : Ty × A). p.0) x)) (map-Ty (Ty × A) A (λ (p : Ty × A). p.1) x)

  pub recur_type : Ty → A
  recur_type = para-Ty A para_step

  parts_of : Ty-F Ty → Ty-F A
  parts_of x = map-Ty (Ty × A) A (λ (p : Ty × A). p.1) (map-Ty Ty (Ty × A) (λ (y : Ty). (y, recur_type y)) x)

  pub recur_type_out : (t : Ty) → recur_type t ≡ step t (map-Ty Ty A recur_type (out-Ty t))
  unfolding recur_type parts_of
  recur_type_out t =
      ap recur_type (sym (roll-out-Ty t))
      ∙ para-roll-Ty A para_step (out-Ty t)
      ∙ ap (λ (x : Ty-F Ty). step (roll-Ty x) (parts_of (out-Ty t))) (originals recur_type (out-Ty t))
      ∙ ap (λ (w : Ty). step w (parts_of (out-Ty t))) (roll-out-Ty t)
      ∙ ap (step t) (outcomes recur_type (out-Ty t))
