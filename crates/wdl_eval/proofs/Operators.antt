-- Literals, names, operators, `if` and casts.
use Rattle.std.proofs.Common.{◌≡◌, neg_ℤ, Bool, true, false, not, cond, ◌&&◌, ◌||◌, Option, Some, None, Ok, Err, option_and_then, sym, ap, ◌∙◌, subst, refl}
use Rattle.std.proofs.lemmas.Bool.{and_parts, and_from}
use Rattle.std.proofs.lemmas.Option.{same_Some}
use Rattle.wdl_value.specs.declared.operator.Op.{Op}
use Rattle.wdl_value.specs.declared.operator.Op.TheVariants as op
use Rattle.wdl_value.specs.declared.ty.Ty.{Ty, Ty-F}
use Rattle.wdl_value.specs.declared.ty.Ty.TheVariants as ty
use Rattle.wdl_value.specs.declared.typing.OpTyping.{OpTyping}
use Rattle.wdl_value.specs.declared.value.Value.{Value, Value-F, out-Value, roll-Value, roll-out-Value, map-Value}
use Rattle.wdl_value.specs.declared.value.Value.TheVariants as v
use Rattle.wdl_value.specs.declared.value.Value.TheOpen as layer
use Rattle.wdl_value.specs.Bare.{is_optional}
use Rattle.wdl_value.specs.Cast.{Checked, cast}
use Rattle.wdl_value.specs.Coerces.{coerces}
use Rattle.wdl_value.specs.Fits.{Structs, is_int as in_range, takes, takes_at, takes_step}
use Rattle.wdl_value.specs.Keyed.{keyed, keyed_out, keyed_step}
use Rattle.wdl_value.specs.Kinds.{is_bool, is_int}
use Rattle.wdl_value.specs.Operate.{negate, operate}
use Rattle.wdl_value.specs.OperatorTypes.{logic_type, operator_type}
use Rattle.wdl_value.specs.Parts.{int_in}
use Rattle.wdl_value.specs.SameType.{same_type}
use Rattle.wdl_value.proofs.CastParts.{casts_keep_keys}
use Rattle.wdl_value.proofs.CastTakes.{IsTaken, cast_takes}
use Rattle.wdl_value.proofs.FitsForms.{bool_fits, int_fits, str_fits}
use Rattle.wdl_value.proofs.FitsLemmas.{tests, takes_out}
use Rattle.wdl_value.proofs.SameTypeLemmas.{same_type-true}
use Rattle.wdl_stdlib.proofs.OperatorsFit.{int_of-fits, operator_fits}
use Rattle.wdl_typed.specs.Evaluation.{Met, after_left, and_at, chosen, found, from_cast, met, neg_at, not_at, only_bool, or_at, then_}
use Rattle.wdl_typed.specs.Typing.{binary_type, both, exact_row, is_maybe, literal_at, literal_type, when}
use Rattle.wdl_eval.specs.Laws.{IsSound}
use Rattle.wdl_eval.specs.Ready.{IsGiven}
use Rattle.wdl_eval.proofs.Scalars.{a_bool_layer, an_int_layer, bool_type, int_type}
use Rattle.wdl_eval.proofs.Steps.{Fine, Fits, at_type, bind, both_in, met_sound, when_in}
use Rattle.wdl_base.proofs.Options.{then_parts}

module _ (structs : Structs) where
  at_the : {t u : Ty} (x : Value) → t ≡ u → Fits structs t x → Fits structs u x
  at_the x e h = subst (λ (u : Ty). Fits structs u x) e h

  -- ---- literals and names

  absent_fits : Fits structs ty.Absent v.Absent
  absent_fits =
      and_from (takes structs v.Absent ty.Absent) (keyed v.Absent)
      (takes_out structs v.Absent ty.Absent
      ∙ ap (λ (l : Value-F Value). takes_step structs (tests structs l) ty.Absent) v.outs-Absent
      ∙ ap (λ (z : Ty-F Ty). is_optional z || takes_at structs (tests structs layer.Absent) z) ty.outs-Absent)
      (keyed_out v.Absent ∙ ap (λ (l : Value-F Value). keyed_step v.Absent (map-Value Value Bool keyed l)) v.outs-Absent)

  pub literal_fine : (x : Value) → Fine structs (literal_type x) (Ok x)
  literal_fine x w e = by_layer (out-Value x) refl e
    where
      made : (l : Value-F Value) → out-Value x ≡ l → x ≡ roll-Value l
      made l is = sym (roll-out-Value x) ∙ ap roll-Value is

      at : (y : Value) → x ≡ y → Fits structs w y → Fits structs w x
      at y e h = subst (λ (z : Value). Fits structs w z) (sym e) h

      by_layer : (l : Value-F Value) → out-Value x ≡ l → literal_at l ≡ Some w → Fits structs w x
      by_layer (layer.Bool b) is e = at (v.Bool b) (made (layer.Bool b) is ∙ v.rolls-Bool b) (at_the (v.Bool b) (same_Some _ _ e) (bool_fits structs b))
      by_layer (layer.Int n) is e =
          let q = when_in (in_range n) ty.Int w e in
          at (v.Int n) (made (layer.Int n) is ∙ v.rolls-Int n) (at_the (v.Int n) q.1 (int_fits structs n q.0))
      by_layer (layer.Str s) is e = at (v.Str s) (made (layer.Str s) is ∙ v.rolls-Str s) (at_the (v.Str s) (same_Some _ _ e) (str_fits structs s))
      by_layer layer.Absent is e = at v.Absent (made layer.Absent is ∙ v.rolls-Absent) (at_the v.Absent (same_Some _ _ e) absent_fits)
      by_layer l is e = cc

  pub given_fine : (o : Option Ty) (x : Option Value) → IsGiven structs o x → Fine structs o (found x)
  given_fine (Some t) (Some x) h w e = at_the x (same_Some _ _ e) h
  given_fine (Some t) None h w e = absurd h
  given_fine None x h w e = cc

  -- ---- operators

  not_sound : (x : Value) → Fits structs ty.Bool x → IsSound structs ty.Bool (not_at (out-Value x))
  not_sound x h =
      let p = a_bool_layer structs x h in
      subst (λ (l : Value-F Value). IsSound structs ty.Bool (not_at l)) (sym p.1) (bool_fits structs (not p.0))

  pub not_fine : (o : Option Ty) (r : Met Value) → Fine structs o r → Fine structs (option_and_then (λ t. when (is_bool t) ty.Bool) o) (then_ r (λ x. not_at (out-Value x)))
  not_fine o r f w e =
      let p = then_parts (λ (t : Ty). when (is_bool t) ty.Bool) o w e in
      let q = when_in (is_bool p.0) ty.Bool w p.2 in
      bind (Fits structs p.0) (Fits structs w) r (λ x. not_at (out-Value x)) (f p.0 p.1)
      (λ x h. at_type structs (not_at (out-Value x)) q.1 (not_sound x (at_the x (bool_type p.0 q.0) h)))

  neg_sound : (x : Value) → Fits structs ty.Int x → IsSound structs ty.Int (neg_at x (out-Value x))
  neg_sound x h =
      let p = an_int_layer structs x h in
      subst (λ (l : Value-F Value). IsSound structs ty.Int (neg_at x l)) (sym p.1) (met_sound structs ty.Int (negate x) (int_of-fits structs (neg_ℤ (int_in x))))

  pub neg_fine : (o : Option Ty) (r : Met Value) → Fine structs o r → Fine structs (option_and_then (λ t. when (is_int t) ty.Int) o) (then_ r (λ x. neg_at x (out-Value x)))
  neg_fine o r f w e =
      let p = then_parts (λ (t : Ty). when (is_int t) ty.Int) o w e in
      let q = when_in (is_int p.0) ty.Int w p.2 in
      bind (Fits structs p.0) (Fits structs w) r (λ x. neg_at x (out-Value x)) (f p.0 p.1)
      (λ x h. at_type structs (neg_at x (out-Value x)) q.1 (neg_sound x (at_the x (int_type p.0 q.0) h)))

  only_sound : (x : Value) → Fits structs ty.Bool x → IsSound structs ty.Bool (only_bool (out-Value x))
  only_sound x h =
      let p = a_bool_layer structs x h in
      subst (λ (l : Value-F Value). IsSound structs ty.Bool (only_bool l)) (sym p.1) (bool_fits structs p.0)

  right_sound : (q : Met Value) → IsSound structs ty.Bool q → IsSound structs ty.Bool (then_ q (λ y. only_bool (out-Value y)))
  right_sound q k = bind (Fits structs ty.Bool) (Fits structs ty.Bool) q (λ y. only_bool (out-Value y)) k only_sound

  and_sound : (x : Value) (q : Met Value) → Fits structs ty.Bool x → IsSound structs ty.Bool q → IsSound structs ty.Bool (and_at (out-Value x) q)
  and_sound x q h k =
      let p = a_bool_layer structs x h in
      subst (λ (l : Value-F Value). IsSound structs ty.Bool (and_at l q)) (sym p.1) (by_side p.0)
    where
      by_side : (b : Bool) → IsSound structs ty.Bool (and_at (layer.Bool b) q)
      by_side true = right_sound q k
      by_side false = bool_fits structs false

  or_sound : (x : Value) (q : Met Value) → Fits structs ty.Bool x → IsSound structs ty.Bool q → IsSound structs ty.Bool (or_at (out-Value x) q)
  or_sound x q h k =
      let p = a_bool_layer structs x h in
      subst (λ (l : Value-F Value). IsSound structs ty.Bool (or_at l q)) (sym p.1) (by_side p.0)
    where
      by_side : (b : Bool) → IsSound structs ty.Bool (or_at (layer.Bool b) q)
      by_side true = bool_fits structs true
      by_side false = right_sound q k

  logic_row : (t u : Ty) (row : OpTyping) → logic_type t u ≡ Some row → (t ≡ ty.Bool) × (u ≡ ty.Bool) × (row.result ≡ ty.Bool)
  logic_row t u row h = by_test (is_bool t && is_bool u) refl h
    where
      by_test : (b : Bool) → (is_bool t && is_bool u) ≡ b → cond b (Some (record { left = ty.Bool; right = ty.Bool; result = ty.Bool })) None ≡ Some row → (t ≡ ty.Bool) × (u ≡ ty.Bool) × (row.result ≡ ty.Bool)
      by_test true s h =
          let p = and_parts (is_bool t) (is_bool u) s in
          (bool_type t p.0, bool_type u p.1, sym (ap (λ (r : OpTyping). r.result) (same_Some _ _ h)))
      by_test false s h = cc

  strict_sound : (o : Op) (placeholder : Bool) (t u w : Ty) (row : OpTyping) (x : Value) (q : Met Value) → operator_type o t u placeholder ≡ Some row → row.left ≡ t → row.right ≡ u → row.result ≡ w
      → Fits structs t x → IsSound structs u q → IsSound structs w (then_ q (λ y. met (operate o x y)))
  strict_sound o placeholder t u w row x q e left right result h k =
      bind (Fits structs u) (Fits structs w) q (λ y. met (operate o x y)) k (λ y g.
      at_type structs (met (operate o x y)) result
      (met_sound structs row.result (operate o x y) (operator_fits structs o t u placeholder row e x y (at_the x (sym left) h) (at_the y (sym right) g))))

  row_sound : (o : Op) (placeholder : Bool) (t u w : Ty) (row : OpTyping) (x : Value) (q : Met Value) → operator_type o t u placeholder ≡ Some row → row.left ≡ t → row.right ≡ u → row.result ≡ w
      → Fits structs t x → IsSound structs u q → IsSound structs w (after_left o x q)
  row_sound op.And placeholder t u w row x q e left right result h k =
      let p = logic_row t u row e in
      at_type structs (and_at (out-Value x) q) (sym p.2 ∙ result) (and_sound x q (at_the x p.0 h) (at_type structs q p.1 k))
  row_sound op.Or placeholder t u w row x q e left right result h k =
      let p = logic_row t u row e in
      at_type structs (or_at (out-Value x) q) (sym p.2 ∙ result) (or_sound x q (at_the x p.0 h) (at_type structs q p.1 k))
  row_sound o placeholder t u w row x q e left right result h k = strict_sound o placeholder t u w row x q e left right result h k

  pub binary_fine : (o : Op) (placeholder : Bool) (l r : Option Ty) (p q : Met Value) → Fine structs l p → Fine structs r q → Fine structs (both (binary_type o placeholder) l r) (then_ p (λ x. after_left o x q))
  binary_fine o placeholder l r p q f g w e =
      let b = both_in (binary_type o placeholder) l r w e in
      let n = then_parts (exact_row b.0 b.1) (operator_type o b.0 b.1 (is_maybe o && placeholder)) w b.4 in
      let row : OpTyping = n.0 in
      let s = when_in (same_type row.left b.0 && same_type row.right b.1) row.result w n.2 in
      let same = and_parts (same_type row.left b.0) (same_type row.right b.1) s.0 in
      bind (Fits structs b.0) (Fits structs w) p (λ x. after_left o x q) (f b.0 b.2)
      (λ x h. row_sound o (is_maybe o && placeholder) b.0 b.1 w row x q n.1 (same_type-true row.left b.0 same.0) (same_type-true row.right b.1 same.1) s.1 h (g b.1 b.3))

  -- ---- `if`

  choice_sound : (t : Ty) (x : Value) (p q : Met Value) → Fits structs ty.Bool x → IsSound structs t p → IsSound structs t q → IsSound structs t (chosen (out-Value x) p q)
  choice_sound t x p q h j k =
      let b = a_bool_layer structs x h in
      subst (λ (l : Value-F Value). IsSound structs t (chosen l p q)) (sym b.1) (by_side b.0)
    where
      by_side : (b : Bool) → IsSound structs t (chosen (layer.Bool b) p q)
      by_side true = j
      by_side false = k

  pub choose_fine : (c l r : Option Ty) (m p q : Met Value) → Fine structs c m → Fine structs l p → Fine structs r q
      → Fine structs (option_and_then (λ b. both (λ t u. when (is_bool b && same_type t u) t) l r) c) (then_ m (λ x. chosen (out-Value x) p q))
  choose_fine c l r m p q f g k w e =
      let a = then_parts (λ (b : Ty). both (λ (t u : Ty). when (is_bool b && same_type t u) t) l r) c w e in
      let b = both_in (λ (t u : Ty). when (is_bool a.0 && same_type t u) t) l r w a.2 in
      let s = when_in (is_bool a.0 && same_type b.0 b.1) b.0 w b.4 in
      let same = and_parts (is_bool a.0) (same_type b.0 b.1) s.0 in
      bind (Fits structs a.0) (Fits structs w) m (λ x. chosen (out-Value x) p q) (f a.0 a.1)
      (λ x h. at_type structs (chosen (out-Value x) p q) s.1
      (choice_sound b.0 x p q (at_the x (bool_type a.0 same.0) h) (g b.0 b.2) (k b.0 (b.3 ∙ ap Some (sym (same_type-true b.0 b.1 same.1))))))

  -- ---- casts

  cast_sound : (x : Value) (t u : Ty) → Fits structs t x → coerces t u ≡ true → IsSound structs u (from_cast (cast x u))
  cast_sound x t u h k =
      let p = and_parts (takes structs x t) (keyed x) h in
      by_result (cast x u) refl (cast_takes structs x t u p.0 k) p.0 p.1
    where
      by_result : (r : Checked Value) → cast x u ≡ r → IsTaken structs u r → takes structs x t ≡ true → keyed x ≡ true → IsSound structs u (from_cast r)
      by_result (Ok a) is j m n = and_from (takes structs a u) (keyed a) j (casts_keep_keys structs x t u a m n is)
      by_result (Err e) is j m n = tt

  pub cast_fine : (u : Ty) (o : Option Ty) (r : Met Value) → Fine structs o r → Fine structs (option_and_then (λ t. when (coerces t u) u) o) (then_ r (λ x. from_cast (cast x u)))
  cast_fine u o r f w e =
      let p = then_parts (λ (t : Ty). when (coerces t u) u) o w e in
      let q = when_in (coerces p.0 u) u w p.2 in
      bind (Fits structs p.0) (Fits structs w) r (λ x. from_cast (cast x u)) (f p.0 p.1)
      (λ x h. at_type structs (from_cast (cast x u)) q.1 (cast_sound x p.0 u h q.0))
