-- The value of an operator fits the result of its row.
use Rattle.std.proofs.Common.{◌≡◌, ◌++◌, ◌⊎◌, inl, inr, Bool, true, false, cond, ◌&&◌, ◌||◌, Option, Some, None, Ok, Err, ℤ, ◌+ℤ◌, ◌-ℤ◌, ◌*ℤ◌, sym, ap, ◌∙◌, subst, refl, option_and_then, int_div, int_rem}
use Rattle.std.proofs.lemmas.Bool.{false≢true, and_left, and_right, and_parts, and_from, or_cases}
use Rattle.wdl_value.specs.declared.operator.Op.{Op}
use Rattle.wdl_value.specs.declared.operator.Op.TheVariants as op
use Rattle.wdl_value.specs.declared.ty.Ty.{Ty, Ty-F, out-Ty, roll-Ty, roll-out-Ty}
use Rattle.wdl_value.specs.declared.ty.Ty.TheVariants as ty
use Rattle.wdl_value.specs.declared.ty.Ty.TheOpen as type
use Rattle.wdl_value.specs.declared.typing.OpTyping.{OpTyping}
use Rattle.wdl_value.specs.declared.value.Value.{Value, Value-F, out-Value}
use Rattle.wdl_value.specs.declared.value.Value.TheVariants as v
use Rattle.wdl_value.specs.declared.value.Value.TheOpen as layer
use Rattle.wdl_base.specs.declared.fault.EvalCode.TheVariants.{Overflow, ZeroDivisor, TooLarge}
use Rattle.wdl_value.specs.Bare.{bare}
use Rattle.wdl_value.specs.Fits.{Structs, is_int, takes, takes_step, int_fits, fits}
use Rattle.wdl_value.specs.Join.{join}
use Rattle.wdl_value.specs.Keyed.{keyed}
use Rattle.wdl_value.specs.Kinds.{int_at, absent_at, str_at, file_at, is_absent, is_text, is_scalar, is_empty}
use Rattle.wdl_value.specs.Limits.{is_within, limited}
use Rattle.wdl_value.specs.Operate.{int_of, is_zero, sum, sum_maybe, operated, operate}
use Rattle.wdl_value.specs.OperatorTypes.{row, arithmetic_type, adds, add_type, is_loose, adds_maybe, add_maybe_type, or_else, order_type, equality_type, logic_type, only_if, operator_type}
use Rattle.wdl_value.specs.Outcome.{Outcome, and_then}
use Rattle.wdl_value.specs.Parts.{is_number_at, is_number, is_undefined, int_in}
use Rattle.wdl_value.specs.ValueText.{text_of}
use Rattle.wdl_value.proofs.FitsLemmas.{tests, takes_out}
use Rattle.wdl_value.proofs.FitsForms.{an_int, bool_fits, int_fits as made_int_fits, str_fits, absent_fits, opt_fits}
use Rattle.wdl_stdlib.specs.Laws.{IsOfType}

module _ (structs : Structs) where
  pub limited_fits : (t : Ty) (r : Outcome Value) → IsOfType structs t r → IsOfType structs t (and_then r limited)
  limited_fits t (Ok x) h = elim (is_within x) as (λ b. IsOfType structs t (cond b (Ok x) (Err TooLarge))) [ true ↦ h | false ↦ tt ]
  limited_fits t (Err c) h = tt

  pub int_of-fits : (z : ℤ) → IsOfType structs ty.Int (int_of z)
  int_of-fits z = by_test (is_int z) refl
    where
      by_test : (b : Bool) → is_int z ≡ b → IsOfType structs ty.Int (cond b (Ok (v.Int z)) (Err Overflow))
      by_test true h = made_int_fits structs z h
      by_test false h = tt

  divided_fits : (b : Bool) (z : ℤ) → IsOfType structs ty.Int (cond b (Err ZeroDivisor) (int_of z))
  divided_fits true z = tt
  divided_fits false z = int_of-fits z

  -- ---- numbers and texts

  int_at-fits : (z : ℤ) (t : Ty-F Ty) → int_fits z t ≡ true → int_at t ≡ true
  int_at-fits z type.Int h = refl
  int_at-fits z t h = absurd (false≢true h)

  -- what is a number has the type Int
  number_type : (x : Value) (l : Value-F Value) (t : Ty) → out-Value x ≡ l → is_number_at l ≡ true → fits structs x t ≡ true → int_at (out-Ty (bare t)) ≡ true
  number_type x (layer.Int z) t is n h =
      let k = and_parts (takes structs x t) (keyed x) h in
      int_at-fits z (out-Ty (bare t)) (sym (takes_out structs x t ∙ ap (λ (m : Value-F Value). takes_step structs (tests structs m) t) is) ∙ k.0)
  number_type x l t is n h = absurd (false≢true n)

  not_number : (x : Value) (t : Ty) → fits structs x t ≡ true → int_at (out-Ty (bare t)) ≡ false → is_number x ≡ false
  not_number x t h n = by_test (is_number x) refl
    where
      by_test : (b : Bool) → is_number x ≡ b → b ≡ false
      by_test true e = absurd (false≢true (sym n ∙ number_type x (out-Value x) t refl e h))
      by_test false e = refl

  sum_text : (x y : Value) → (is_number x && is_number y) ≡ false → sum x y ≡ Ok (v.Str (text_of x ++ text_of y))
  sum_text x y h = ap (λ b. cond b (int_of (int_in x +ℤ int_in y)) (Ok (v.Str (text_of x ++ text_of y)))) h

  neither_number : (x y : Value) → (is_number x ≡ false) ⊎ (is_number y ≡ false) → (is_number x && is_number y) ≡ false
  neither_number x y (inl h) = and_left (is_number x) (is_number y) h
  neither_number x y (inr h) = and_right (is_number x) (is_number y) h

  text_not_int : (z : Ty-F Ty) → (str_at z || file_at z) ≡ true → int_at z ≡ false
  text_not_int type.Int h = absurd (false≢true h)
  text_not_int z h = refl

  text_bare : (t : Ty) → is_text t ≡ true → int_at (out-Ty (bare t)) ≡ false
  text_bare t h = by_layer (out-Ty t) refl h
    where
      by_layer : (z : Ty-F Ty) → out-Ty t ≡ z → (str_at z || file_at z) ≡ true → int_at (out-Ty (bare t)) ≡ false
      by_layer type.Str is h = subst (λ (u : Ty). int_at (out-Ty (bare u)) ≡ false) (sym (sym (roll-out-Ty t) ∙ ap roll-Ty is ∙ ty.rolls-Str)) (ap int_at ty.outs-Str)
      by_layer type.File is h = subst (λ (u : Ty). int_at (out-Ty (bare u)) ≡ false) (sym (sym (roll-out-Ty t) ∙ ap roll-Ty is ∙ ty.rolls-File)) (ap int_at ty.outs-File)
      by_layer z is h = absurd (false≢true h)

  absent_bare : (t : Ty) → is_absent t ≡ true → int_at (out-Ty (bare t)) ≡ false
  absent_bare t h = by_layer (out-Ty t) refl h
    where
      by_layer : (z : Ty-F Ty) → out-Ty t ≡ z → absent_at z ≡ true → int_at (out-Ty (bare t)) ≡ false
      by_layer type.Absent is h = subst (λ (u : Ty). int_at (out-Ty (bare u)) ≡ false) (sym (sym (roll-out-Ty t) ∙ ap roll-Ty is ∙ ty.rolls-Absent)) (ap int_at ty.outs-Absent)
      by_layer z is h = absurd (false≢true h)

  -- what is joined is not two numbers
  adds_texts : (x y : Value) (t u : Ty) → adds t u ≡ true → (is_text t ≡ true → is_number x ≡ false) → (is_text u ≡ true → is_number y ≡ false) → (is_number x && is_number y) ≡ false
  adds_texts x y t u h f g = by_side (or_cases (is_text t && is_scalar u) (is_scalar t && is_text u) h)
    where
      by_side : ((is_text t && is_scalar u) ≡ true) ⊎ ((is_scalar t && is_text u) ≡ true) → (is_number x && is_number y) ≡ false
      by_side (inl k) = neither_number x y (inl (f (and_parts (is_text t) (is_scalar u) k).0))
      by_side (inr k) = neither_number x y (inr (g (and_parts (is_scalar t) (is_text u) k).1))

  maybe_texts : (x y : Value) (t u : Ty) → adds_maybe t u ≡ true → fits structs x t ≡ true → fits structs y u ≡ true → (is_number x && is_number y) ≡ false
  maybe_texts x y t u h f g = by_side (or_cases _ _ h)
    where
      left : is_absent t ≡ true → (is_number x && is_number y) ≡ false
      left k = neither_number x y (inl (not_number x t f (absent_bare t k)))

      right : is_absent u ≡ true → (is_number x && is_number y) ≡ false
      right k = neither_number x y (inr (not_number y u g (absent_bare u k)))

      by_absence : ((is_absent t && (is_absent u || is_scalar (bare u))) ≡ true) ⊎ ((is_absent u && is_scalar (bare t)) ≡ true) → (is_number x && is_number y) ≡ false
      by_absence (inl k) = left (and_parts (is_absent t) (is_absent u || is_scalar (bare u)) k).0
      by_absence (inr k) = right (and_parts (is_absent u) (is_scalar (bare t)) k).0

      by_side : ((is_absent t && (is_absent u || is_scalar (bare u)) || is_absent u && is_scalar (bare t)) ≡ true) ⊎ (adds (bare t) (bare u) ≡ true) → (is_number x && is_number y) ≡ false
      by_side (inl k) = by_absence (or_cases _ _ k)
      by_side (inr k) = adds_texts x y (bare t) (bare u) k (λ e. not_number x t f (text_not_int (out-Ty (bare t)) e)) (λ e. not_number y u g (text_not_int (out-Ty (bare u)) e))

  -- ---- rows

  only_some : {A : Type 0} (b : Bool) (r s : A) → cond b (Some r) None ≡ Some s → (b ≡ true) × (r ≡ s)
  only_some true r s h = (refl, cc)
  only_some false r s h = cc

  at_result : (r s : OpTyping) (o : Outcome Value) → r ≡ s → IsOfType structs r.result o → IsOfType structs s.result o
  at_result r s o e h = subst (λ (z : OpTyping). IsOfType structs z.result o) e h

  abbrev pub Fine : OpTyping → Value → Value → Outcome Value → Type 0
  Fine r x y o = fits structs x r.left ≡ true → fits structs y r.right ≡ true → IsOfType structs r.result o

  arithmetic_fits : (t u : Ty) (r : OpTyping) (o : Outcome Value) → arithmetic_type t u ≡ Some r → IsOfType structs ty.Int o → IsOfType structs r.result o
  arithmetic_fits t u r o h k = let p = only_some _ (record { left = ty.Int; right = ty.Int; result = ty.Int }) r h in at_result _ r o p.1 k

  order_fits : (t u : Ty) (r : OpTyping) (b : Bool) → order_type t u ≡ Some r → IsOfType structs r.result (Ok (v.Bool b))
  order_fits t u r b h = let p = only_some _ (record { left = t; right = u; result = ty.Bool }) r h in at_result _ r (Ok (v.Bool b)) p.1 (bool_fits structs b)

  logic_fits : (t u : Ty) (r : OpTyping) (b : Bool) → logic_type t u ≡ Some r → IsOfType structs r.result (Ok (v.Bool b))
  logic_fits t u r b h = let p = only_some _ (record { left = ty.Bool; right = ty.Bool; result = ty.Bool }) r h in at_result _ r (Ok (v.Bool b)) p.1 (bool_fits structs b)

  equality_fits : (t u : Ty) (r : OpTyping) (b : Bool) → equality_type t u ≡ Some r → IsOfType structs r.result (Ok (v.Bool b))
  equality_fits t u r b h = by_empty (is_empty t || is_empty u) h
    where
      joined : (j : Option Ty) → option_and_then (λ (j : Ty). row j j ty.Bool) j ≡ Some r → IsOfType structs r.result (Ok (v.Bool b))
      joined (Some j) h = at_result (record { left = j; right = j; result = ty.Bool }) r (Ok (v.Bool b)) (cc) (bool_fits structs b)
      joined None h = cc

      by_empty : (e : Bool) → cond e None (option_and_then (λ (j : Ty). row j j ty.Bool) (join t u)) ≡ Some r → IsOfType structs r.result (Ok (v.Bool b))
      by_empty true h = cc
      by_empty false h = joined (join t u) h

  -- ---- sums

  a_number : (x : Value) → fits structs x ty.Int ≡ true → is_number x ≡ true
  a_number x h = let p = an_int structs x h in ap is_number p.1 ∙ ap is_number_at (v.outs-Int p.0)

  sum_number : (x y : Value) → fits structs x ty.Int ≡ true → fits structs y ty.Int ≡ true → IsOfType structs ty.Int (sum x y)
  sum_number x y h k =
      subst (λ b. IsOfType structs ty.Int (cond b (int_of (int_in x +ℤ int_in y)) (Ok (v.Str (text_of x ++ text_of y)))))
      (sym (and_from (is_number x) (is_number y) (a_number x h) (a_number y k))) (int_of-fits (int_in x +ℤ int_in y))

  add_fits : (t u : Ty) (r : OpTyping) (x y : Value) → add_type t u ≡ Some r → Fine r x y (sum x y)
  add_fits t u r x y h = by_text (adds t u) refl h
    where
      texts : adds t u ≡ true → Fine (record { left = t; right = u; result = ty.Str }) x y (sum x y)
      texts a f g =
          let n = adds_texts x y t u a (λ e. not_number x t f (text_bare t e)) (λ e. not_number y u g (text_bare u e)) in
          subst (λ (o : Outcome Value). IsOfType structs ty.Str o) (sym (sum_text x y n)) (str_fits structs (text_of x ++ text_of y))

      by_text : (b : Bool) → adds t u ≡ b → cond b (row t u ty.Str) (arithmetic_type t u) ≡ Some r → Fine r x y (sum x y)
      by_text true a h = subst (λ (z : OpTyping). Fine z x y (sum x y)) (some_same h) (texts a)
        where
          some_same : {s z : OpTyping} → Some s ≡ Some z → s ≡ z
          some_same h = cc
      by_text false a h =
          let p = only_some _ (record { left = ty.Int; right = ty.Int; result = ty.Int }) r h in
          subst (λ (z : OpTyping). Fine z x y (sum x y)) p.1 (sum_number x y)

  maybe_fits : (t u : Ty) (r : OpTyping) (x y : Value) → add_maybe_type t u ≡ Some r → Fine r x y (sum x y) × Fine r x y (sum_maybe x y)
  maybe_fits t u r x y h =
      let p = only_some _ (record { left = t; right = u; result = ty.Opt ty.Str }) r h in
      let a = (and_parts (is_loose t || is_loose u) (adds_maybe t u) p.0).1 in
      (subst (λ (z : OpTyping). Fine z x y (sum x y)) p.1 (texts a), subst (λ (z : OpTyping). Fine z x y (sum_maybe x y)) p.1 (defined a))
    where
      texts : adds_maybe t u ≡ true → Fine (record { left = t; right = u; result = ty.Opt ty.Str }) x y (sum x y)
      texts a f g =
          subst (λ (o : Outcome Value). IsOfType structs (ty.Opt ty.Str) o) (sym (sum_text x y (maybe_texts x y t u a f g)))
          (opt_fits structs (v.Str (text_of x ++ text_of y)) ty.Str (str_fits structs (text_of x ++ text_of y)))

      defined : adds_maybe t u ≡ true → Fine (record { left = t; right = u; result = ty.Opt ty.Str }) x y (sum_maybe x y)
      defined a f g = elim (is_undefined x || is_undefined y) as (λ b. IsOfType structs (ty.Opt ty.Str) (cond b (Ok v.Absent) (sum x y))) [ true ↦ absent_fits structs ty.Str | false ↦ texts a f g ]

  only_maybe : (placeholder : Bool) (o : Option OpTyping) (r : OpTyping) → only_if placeholder o ≡ Some r → o ≡ Some r
  only_maybe true o r h = h
  only_maybe false o r h = cc

  operated_fits : (o : Op) (t u : Ty) (placeholder : Bool) (r : OpTyping) → operator_type o t u placeholder ≡ Some r → (x y : Value) → Fine r x y (operated o x y)
  operated_fits op.Mul t u placeholder r h x y f g = arithmetic_fits t u r _ h (int_of-fits (int_in x *ℤ int_in y))
  operated_fits op.Div t u placeholder r h x y f g = arithmetic_fits t u r _ h (divided_fits (is_zero (int_in y)) (int_div (int_in x) (int_in y)))
  operated_fits op.Rem t u placeholder r h x y f g = arithmetic_fits t u r _ h (divided_fits (is_zero (int_in y)) (int_rem (int_in x) (int_in y)))
  operated_fits op.Sub t u placeholder r h x y f g = arithmetic_fits t u r _ h (int_of-fits (int_in x -ℤ int_in y))
  operated_fits op.Add t u placeholder r h x y f g = by_plain (add_type t u) refl h f g
    where
      by_plain : (p : Option OpTyping) → add_type t u ≡ p → or_else p (only_if placeholder (add_maybe_type t u)) ≡ Some r → Fine r x y (sum x y)
      by_plain (Some s) e h = add_fits t u r x y (e ∙ h)
      by_plain None e h = (maybe_fits t u r x y (only_maybe placeholder (add_maybe_type t u) r h)).0
  operated_fits op.AddMaybe t u placeholder r h x y f g = (maybe_fits t u r x y (only_maybe placeholder (add_maybe_type t u) r h)).1 f g
  operated_fits op.Lt t u placeholder r h x y f g = order_fits t u r _ h
  operated_fits op.Le t u placeholder r h x y f g = order_fits t u r _ h
  operated_fits op.Gt t u placeholder r h x y f g = order_fits t u r _ h
  operated_fits op.Ge t u placeholder r h x y f g = order_fits t u r _ h
  operated_fits op.Eq t u placeholder r h x y f g = equality_fits t u r _ h
  operated_fits op.Ne t u placeholder r h x y f g = equality_fits t u r _ h
  operated_fits op.And t u placeholder r h x y f g = logic_fits t u r _ h
  operated_fits op.Or t u placeholder r h x y f g = logic_fits t u r _ h

  pub operator_fits : (o : Op) (t u : Ty) (placeholder : Bool) (r : OpTyping) → operator_type o t u placeholder ≡ Some r → (x y : Value) → Fine r x y (operate o x y)
  operator_fits o t u placeholder r h x y f g = limited_fits r.result (operated o x y) (operated_fits o t u placeholder r h x y f g)
