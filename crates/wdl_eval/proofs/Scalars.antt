-- Types by their tests, and what fits them.
use Rattle.std.proofs.Common.{◌≡◌, ◌⊎◌, inl, inr, ℤ, Bool, true, false, ◌||◌, sym, ap, ◌∙◌, subst, refl}
use Rattle.std.proofs.lemmas.Bool.{false≢true, and_parts}
use Rattle.wdl_value.specs.declared.ty.Ty.{Ty, Ty-F, out-Ty, roll-Ty, roll-out-Ty}
use Rattle.wdl_value.specs.declared.ty.Ty.TheVariants as ty
use Rattle.wdl_value.specs.declared.ty.Ty.TheOpen as type
use Rattle.wdl_value.specs.declared.value.Value.{Value, Value-F, out-Value}
use Rattle.wdl_value.specs.declared.value.Value.TheVariants as v
use Rattle.wdl_value.specs.declared.value.Value.TheOpen as layer
use Rattle.wdl_value.specs.Bare.{bare}
use Rattle.wdl_value.specs.Fits.{Structs, is_absent as no_value, takes, takes_at, fits}
use Rattle.wdl_value.specs.Keyed.{keyed}
use Rattle.wdl_value.specs.Kinds.{absent_at, bool_at, file_at, int_at, str_at, is_absent, is_bool, is_int, is_scalar}
use Rattle.wdl_value.specs.ValueText.{has_text_at}
use Rattle.wdl_value.proofs.FitsForms.{a_bool, an_int, a_str, a_file}
use Rattle.wdl_value.proofs.FitsLemmas.{absent_or, tests, tests_absent, takes_out, takes_plain, bool_layer, int_layer, str_layer, file_layer, absent_layer}

made : (t : Ty) (z : Ty-F Ty) → out-Ty t ≡ z → t ≡ roll-Ty z
made t z is = sym (roll-out-Ty t) ∙ ap roll-Ty is

pub bool_type : (t : Ty) → is_bool t ≡ true → t ≡ ty.Bool
bool_type t h = by_layer (out-Ty t) refl h
  where
    by_layer : (z : Ty-F Ty) → out-Ty t ≡ z → bool_at z ≡ true → t ≡ ty.Bool
    by_layer type.Bool is h = made t type.Bool is ∙ ty.rolls-Bool
    by_layer z is h = absurd (false≢true h)

pub int_type : (t : Ty) → is_int t ≡ true → t ≡ ty.Int
int_type t h = by_layer (out-Ty t) refl h
  where
    by_layer : (z : Ty-F Ty) → out-Ty t ≡ z → int_at z ≡ true → t ≡ ty.Int
    by_layer type.Int is h = made t type.Int is ∙ ty.rolls-Int
    by_layer z is h = absurd (false≢true h)

absent_type : (t : Ty) → is_absent t ≡ true → t ≡ ty.Absent
absent_type t h = by_layer (out-Ty t) refl h
  where
    by_layer : (z : Ty-F Ty) → out-Ty t ≡ z → absent_at z ≡ true → t ≡ ty.Absent
    by_layer type.Absent is h = made t type.Absent is ∙ ty.rolls-Absent
    by_layer z is h = absurd (false≢true h)

module _ (structs : Structs) where
  pub a_bool_layer : (x : Value) → fits structs x ty.Bool ≡ true → (b : Bool) × (out-Value x ≡ layer.Bool b)
  a_bool_layer x h = let p = a_bool structs x h in (p.0, ap out-Value p.1 ∙ v.outs-Bool p.0)

  pub an_int_layer : (x : Value) → fits structs x ty.Int ≡ true → (n : ℤ) × (out-Value x ≡ layer.Int n)
  an_int_layer x h = let p = an_int structs x h in (p.0, ap out-Value p.1 ∙ v.outs-Int p.0)

  -- what is not Absent is taken by the type without its question marks
  bare_takes : (x : Value) (t : Ty) → fits structs x t ≡ true → (out-Value x ≡ layer.Absent) ⊎ (takes_at structs (tests structs (out-Value x)) (out-Ty (bare t)) ≡ true)
  bare_takes x t h = by_absence (absent_or (out-Value x))
    where
      by_absence : (out-Value x ≡ layer.Absent) ⊎ (no_value (out-Value x) ≡ false) → (out-Value x ≡ layer.Absent) ⊎ (takes_at structs (tests structs (out-Value x)) (out-Ty (bare t)) ≡ true)
      by_absence (inl e) = inl e
      by_absence (inr n) =
          inr (sym (takes_plain structs (out-Value x) t (tests_absent structs (out-Value x) n)) ∙ sym (takes_out structs x t) ∙ (and_parts (takes structs x t) (keyed x) h).0)

  scalar_layer : (l : Value-F Value) (z : Ty-F Ty) → (bool_at z || int_at z || (str_at z || file_at z)) ≡ true → takes_at structs (tests structs l) z ≡ true → has_text_at l ≡ true
  scalar_layer l type.Bool s h = ap (λ (m : Value-F Value). has_text_at m) (bool_layer structs l h).1
  scalar_layer l type.Int s h = ap (λ (m : Value-F Value). has_text_at m) (int_layer structs l h).1
  scalar_layer l type.Str s h = ap (λ (m : Value-F Value). has_text_at m) (str_layer structs l h).1
  scalar_layer l type.File s h = ap (λ (m : Value-F Value). has_text_at m) (file_layer structs l h).1
  scalar_layer l z s h = absurd (false≢true s)

  -- a value of one of the four types, or of an optional of one, has a text or is Absent
  pub text_or_absent : (x : Value) (t : Ty) → is_scalar (bare t) ≡ true → fits structs x t ≡ true → (out-Value x ≡ layer.Absent) ⊎ (has_text_at (out-Value x) ≡ true)
  text_or_absent x t s h = by_absence (bare_takes x t h)
    where
      by_absence : (out-Value x ≡ layer.Absent) ⊎ (takes_at structs (tests structs (out-Value x)) (out-Ty (bare t)) ≡ true) → (out-Value x ≡ layer.Absent) ⊎ (has_text_at (out-Value x) ≡ true)
      by_absence (inl e) = inl e
      by_absence (inr k) = inr (scalar_layer (out-Value x) (out-Ty (bare t)) s k)

  pub bool_or_absent : (x : Value) (t : Ty) → is_bool (bare t) ≡ true → fits structs x t ≡ true → (out-Value x ≡ layer.Absent) ⊎ ((b : Bool) × (out-Value x ≡ layer.Bool b))
  bool_or_absent x t s h = by_absence (bare_takes x t h)
    where
      by_absence : (out-Value x ≡ layer.Absent) ⊎ (takes_at structs (tests structs (out-Value x)) (out-Ty (bare t)) ≡ true) → (out-Value x ≡ layer.Absent) ⊎ ((b : Bool) × (out-Value x ≡ layer.Bool b))
      by_absence (inl e) = inl e
      by_absence (inr k) = inr (bool_layer structs (out-Value x) (sym (ap (λ (u : Ty). takes_at structs (tests structs (out-Value x)) (out-Ty u)) (bool_type (bare t) s) ∙ ap (takes_at structs (tests structs (out-Value x))) ty.outs-Bool) ∙ k))

  pub an_absent : (x : Value) (t : Ty) → is_absent t ≡ true → fits structs x t ≡ true → out-Value x ≡ layer.Absent
  an_absent x t s h = by_absence (bare_takes x ty.Absent (subst (λ (u : Ty). fits structs x u ≡ true) (absent_type t s) h))
    where
      by_absence : (out-Value x ≡ layer.Absent) ⊎ (takes_at structs (tests structs (out-Value x)) (out-Ty (bare ty.Absent)) ≡ true) → out-Value x ≡ layer.Absent
      by_absence (inl e) = e
      by_absence (inr k) = absent_layer structs (out-Value x) (sym (ap (takes_at structs (tests structs (out-Value x))) ty.outs-Absent) ∙ k)

  -- a value of one of the four types has a text
  pub text_fits : (x : Value) (t : Ty) → is_scalar t ≡ true → fits structs x t ≡ true → has_text_at (out-Value x) ≡ true
  text_fits x t s h = by_layer (out-Ty t) refl s
    where
      at : (u : Ty) → t ≡ u → fits structs x u ≡ true
      at u e = subst (λ (u : Ty). fits structs x u ≡ true) e h

      by_layer : (z : Ty-F Ty) → out-Ty t ≡ z → (bool_at z || int_at z || (str_at z || file_at z)) ≡ true → has_text_at (out-Value x) ≡ true
      by_layer type.Bool is s = let p = a_bool structs x (at ty.Bool (made t type.Bool is ∙ ty.rolls-Bool)) in ap (λ (y : Value). has_text_at (out-Value y)) p.1 ∙ ap (λ (m : Value-F Value). has_text_at m) (v.outs-Bool p.0)
      by_layer type.Int is s = let p = an_int structs x (at ty.Int (made t type.Int is ∙ ty.rolls-Int)) in ap (λ (y : Value). has_text_at (out-Value y)) p.1 ∙ ap (λ (m : Value-F Value). has_text_at m) (v.outs-Int p.0)
      by_layer type.Str is s = let p = a_str structs x (at ty.Str (made t type.Str is ∙ ty.rolls-Str)) in ap (λ (y : Value). has_text_at (out-Value y)) p.1 ∙ ap (λ (m : Value-F Value). has_text_at m) (v.outs-Str p.0)
      by_layer type.File is s = let p = a_file structs x (at ty.File (made t type.File is ∙ ty.rolls-File)) in ap (λ (y : Value). has_text_at (out-Value y)) p.1 ∙ ap (λ (m : Value-F Value). has_text_at m) (v.outs-File p.0)
      by_layer z is s = absurd (false≢true s)
