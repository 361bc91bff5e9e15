-- Members of pairs and structs, items of lists, and values of maps.
use Rattle.std.proofs.Common.{◌≡◌, ℕ, zero, suc, ℤ, pos, negsuc, Bool, true, false, cond, ◌&&◌, List, [], ◌∷◌, Option, Some, None, Ok, option_and_then, sym, ap, ◌∙◌, subst, refl}
use Rattle.std.specs.Prelude.{slice_get, codes}
use Rattle.std.specs.Str.{bytes_eq}
use Rattle.std.proofs.lemmas.Bool.{false≢true, and_parts}
use Rattle.std.proofs.lemmas.Slice.Eq.{bytes_eq-Decides}
use Rattle.std.proofs.lemmas.Option.{same_Some}
use Rattle.wdl_value.specs.declared.ty.Member.{Member}
use Rattle.wdl_value.specs.declared.ty.Ty.{Ty, Ty-F, out-Ty, roll-Ty, roll-out-Ty}
use Rattle.wdl_value.specs.declared.ty.Ty.TheVariants as ty
use Rattle.wdl_value.specs.declared.ty.Ty.TheOpen as type
use Rattle.wdl_value.specs.declared.value.Field.{Field}
use Rattle.wdl_value.specs.declared.value.MapRow.{MapRow}
use Rattle.wdl_value.specs.declared.value.Value.{Value, Value-F, out-Value}
use Rattle.wdl_value.specs.declared.value.Value.TheOpen as layer
use Rattle.wdl_value.specs.Fits.{Structs, fits, members_of}
use Rattle.wdl_value.specs.Kinds.{is_int}
use Rattle.wdl_value.specs.SameType.{same_type}
use Rattle.wdl_value.specs.SameValue.{same_value}
use Rattle.wdl_value.proofs.FitsForms.{a_list, a_map, a_pair, all_fit, rows_fit}
use Rattle.wdl_typed.specs.Evaluation.{Met, field_among, indexed, item_at, item_of, member_at, then_, value_at, wrong}
use Rattle.wdl_typed.specs.Typing.{at_of, at_type, both, member_at as member_of, member_type, type_among}
use Rattle.wdl_eval.specs.Laws.{IsSound}
use Rattle.wdl_eval.proofs.Scalars.{an_int_layer, int_type}
use Rattle.wdl_eval.proofs.Steps.{Fine, Fits, at_type as at_the_type, bind, both_in, when_in}
use Rattle.wdl_eval.proofs.StructForms.{a_struct, members_fit}
use Rattle.wdl_base.proofs.Options.{then_parts}

pub made : (t : Ty) (z : Ty-F Ty) → out-Ty t ≡ z → t ≡ roll-Ty z
made t z is = sym (roll-out-Ty t) ∙ ap roll-Ty is

module _ (structs : Structs) where
  -- ---- members

  field_found : (fs : List (Field Value)) (ms : List Member) (name : _) (w : Ty) → members_fit structs fs ms ≡ true → type_among ms name ≡ Some w → IsSound structs w (field_among fs name)
  field_found [] [] name w h e = cc
  field_found [] (m ∷ ms) name w h e = absurd (false≢true h)
  field_found (f ∷ fs) [] name w h e = cc
  field_found (f ∷ fs) (m ∷ ms) name w h e =
      let p = and_parts (bytes_eq f.name m.name && fits structs f.value m.ty) (members_fit structs fs ms) h in
      let q = and_parts (bytes_eq f.name m.name) (fits structs f.value m.ty) p.0 in
      let same : f.name ≡ m.name = (bytes_eq-Decides f.name m.name).0 q.0 in
      subst (λ n. IsSound structs w (cond (bytes_eq n name) (Ok f.value) (field_among fs name))) (sym same) (by_test (bytes_eq m.name name) q.1 (field_found fs ms name w p.1) e)
    where
      by_test : (b : Bool) → Fits structs m.ty f.value → (type_among ms name ≡ Some w → IsSound structs w (field_among fs name)) → cond b (Some m.ty) (type_among ms name) ≡ Some w
          → IsSound structs w (cond b (Ok f.value) (field_among fs name))
      by_test true g more e = at_the_type structs (Ok f.value) (same_Some _ _ e) g
      by_test false g more e = more e

  side_found : (name : _) (x y : Value) (t u w : Ty) → Fits structs t x → Fits structs u y → member_of structs name (type.Pair t u) ≡ Some w → IsSound structs w (member_at name (layer.Pair x y))
  side_found name x y t u w h k e = by_left (bytes_eq name (codes "left")) e
    where
      by_right : (b : Bool) → cond b (Some u) None ≡ Some w → IsSound structs w (cond b (Ok y) wrong)
      by_right true e = at_the_type structs (Ok y) (same_Some _ _ e) k
      by_right false e = cc

      by_left : (b : Bool) → cond b (Some t) (cond (bytes_eq name (codes "right")) (Some u) None) ≡ Some w → IsSound structs w (cond b (Ok x) (cond (bytes_eq name (codes "right")) (Ok y) wrong))
      by_left true e = at_the_type structs (Ok x) (same_Some _ _ e) h
      by_left false e = by_right (bytes_eq name (codes "right")) e

  member_found : (t : Ty) (name : _) (w : Ty) (x : Value) → member_type structs name t ≡ Some w → Fits structs t x → IsSound structs w (member_at name (out-Value x))
  member_found t name w x e h = by_layer (out-Ty t) refl e
    where
      at : (u : Ty) → t ≡ u → Fits structs u x
      at u e = subst (λ (u : Ty). Fits structs u x) e h

      by_layer : (z : Ty-F Ty) → out-Ty t ≡ z → member_of structs name z ≡ Some w → IsSound structs w (member_at name (out-Value x))
      by_layer (type.Pair a b) is e =
          let p = a_pair structs x a b (at (ty.Pair a b) (made t (type.Pair a b) is ∙ ty.rolls-Pair a b)) in
          subst (λ (l : Value-F Value). IsSound structs w (member_at name l)) (sym p.3) (side_found name p.0 p.1 a b w p.4 p.5 e)
      by_layer (type.Struct s) is e =
          let q = then_parts (λ ms. type_among ms name) (members_of structs s) w e in
          let p = a_struct structs x s q.0 q.1 (at (ty.Struct s) (made t (type.Struct s) is ∙ ty.rolls-Struct s)) in
          subst (λ (l : Value-F Value). IsSound structs w (member_at name l)) (sym p.2) (field_found p.1 q.0 name w p.3 q.2)
      by_layer z is e = cc

  pub member_fine : (o : Option Ty) (name : _) (r : Met Value) → Fine structs o r → Fine structs (option_and_then (member_type structs name) o) (then_ r (λ x. member_at name (out-Value x)))
  member_fine o name r f w e =
      let p = then_parts (member_type structs name) o w e in
      bind (Fits structs p.0) (Fits structs w) r (λ x. member_at name (out-Value x)) (f p.0 p.1) (λ x h. member_found p.0 name w x p.2 h)

  -- ---- items

  item_found : (xs : List Value) (n : ℕ) (t : Ty) → all_fit structs xs t ≡ true → IsSound structs t (item_of (slice_get xs n))
  item_found [] n t h = tt
  item_found (x ∷ xs) zero t h = (and_parts (fits structs x t) (all_fit structs xs t) h).0
  item_found (x ∷ xs) (suc n) t h = item_found xs n t (and_parts (fits structs x t) (all_fit structs xs t) h).1

  by_sign : (xs : List Value) (n : ℤ) (t : Ty) → all_fit structs xs t ≡ true → IsSound structs t (item_at xs n)
  by_sign xs (pos n) t h = item_found xs n t h
  by_sign xs (negsuc n) t h = tt

  value_found : (rows : List (MapRow Value)) (key : Value) (t u : Ty) → rows_fit structs rows t u ≡ true → IsSound structs u (value_at rows key)
  value_found [] key t u h = tt
  value_found (r ∷ rows) key t u h =
      let p = and_parts (fits structs r.key t && fits structs r.value u) (rows_fit structs rows t u) h in
      by_test (same_value r.key key) (and_parts (fits structs r.key t) (fits structs r.value u) p.0).1 (value_found rows key t u p.1)
    where
      by_test : (b : Bool) → Fits structs u r.value → IsSound structs u (value_at rows key) → IsSound structs u (cond b (Ok r.value) (value_at rows key))
      by_test true g h = g
      by_test false g h = h

  index_found : (t u w : Ty) (x y : Value) → at_type t u ≡ Some w → Fits structs t x → Fits structs u y → IsSound structs w (indexed (out-Value x) y (out-Value y))
  index_found t u w x y e h k = by_layer (out-Ty t) refl e
    where
      at : (a : Ty) → t ≡ a → Fits structs a x
      at a e = subst (λ (a : Ty). Fits structs a x) e h

      by_layer : (z : Ty-F Ty) → out-Ty t ≡ z → at_of u z ≡ Some w → IsSound structs w (indexed (out-Value x) y (out-Value y))
      by_layer (type.Array a some) is e =
          let q = when_in (is_int u) a w e in
          let l = a_list structs x a some (at (ty.Array a some) (made t (type.Array a some) is ∙ ty.rolls-Array a some)) in
          let n = an_int_layer structs y (subst (λ (a : Ty). Fits structs a y) (int_type u q.0) k) in
          subst (λ (m : Value-F Value). IsSound structs w (indexed m y (out-Value y))) (sym l.2)
          (subst (λ (m : Value-F Value). IsSound structs w (indexed (layer.List l.0) y m)) (sym n.1)
          (at_the_type structs (item_at l.0 n.0) q.1 (by_sign l.0 n.0 a l.3)))
      by_layer (type.Map a b) is e =
          let q = when_in (same_type u a) b w e in
          let m = a_map structs x a b (at (ty.Map a b) (made t (type.Map a b) is ∙ ty.rolls-Map a b)) in
          subst (λ (l : Value-F Value). IsSound structs w (indexed l y (out-Value y))) (sym m.2) (at_the_type structs (value_at m.0 y) q.1 (value_found m.0 y a b m.3))
      by_layer z is e = cc

  pub at_fine : (o p : Option Ty) (r q : Met Value) → Fine structs o r → Fine structs p q → Fine structs (both at_type o p) (then_ r (λ x. then_ q (λ y. indexed (out-Value x) y (out-Value y))))
  at_fine o p r q f g w e =
      let b = both_in at_type o p w e in
      bind (Fits structs b.0) (Fits structs w) r _ (f b.0 b.2) (λ x h. bind (Fits structs b.1) (Fits structs w) q _ (g b.1 b.3) (λ y k. index_found b.0 b.1 w x y b.4 h k))
