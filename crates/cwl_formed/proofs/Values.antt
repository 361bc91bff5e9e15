-- Values of a type, as they are written in an input object and as they are read.
use Rattle.std.proofs.Common.{◌≡◌, true, List, [], ◌∷◌, map, Some, option_map, option_and_then, sym, ap, ◌∙◌, subst, refl}
use Rattle.std.proofs.lemmas.Bool.{false≢true, and_from, and_parts}
use Rattle.std.specs.List.{list_all}
use Rattle.std.proofs.lemmas.Option.{none-some}
use Rattle.serde_json.specs.Data.{Data, null, Members, no_members}
use Rattle.serde_json.specs.View.{items_of}
use Rattle.wdl_value.specs.declared.value.Field.{Field}
use Rattle.wdl_value.specs.declared.value.Value.{Value, Value-F, fold-roll-Value, ind-Value, map-Value, out-Value, roll-Value, roll-out-Value}
use Rattle.wdl_value.specs.declared.value.Value.TheOpen as value
use Rattle.wdl_value.specs.declared.value.Value.TheVariants as v
use Rattle.wdl_value.proofs.ValueLayers.{Known, first_fields, firsts, plain}
use Rattle.json_values.specs.Ordered.{is_ordered, items_ordered, members_ordered}
use Rattle.json_values.proofs.OrderLemmas.{put_ordered}
use Rattle.cwl_model.specs.declared.ty.CwlTy.{CwlTy, CwlTy-F, fold-roll-CwlTy, ind-CwlTy, map-CwlTy, roll-CwlTy}
use Rattle.cwl_model.specs.declared.ty.CwlTy.TheOpen as type
use Rattle.cwl_model.specs.Means.{Test, has_type, typed_at}
use Rattle.cwl_emit.specs.Objects.{fields_put, object_step, value_object}
use Rattle.cwl_emit.specs.Reading.{all_of}
use Rattle.cwl_formed.specs.Objects.{Reader, typed_in, value_in}
use Rattle.cwl_emit.proofs.Formed.{int_back}

-- ---- what is written is read

abbrev Back : CwlTy → Type 0
Back t = (x : Value) → has_type t x ≡ true → value_in t (value_object x) ≡ Some x

abbrev NullOnly : CwlTy → Type 0
NullOnly t = (x : Value) → value_in t null ≡ Some x → Some v.Absent ≡ Some x

module _ (Holds : CwlTy → Type 0) where
  abbrev Child : Type 0
  Child = (t : CwlTy) × Holds t

  abbrev plain_type : CwlTy-F Child → CwlTy-F CwlTy
  plain_type = map-CwlTy Child CwlTy (λ (k : Child). k.0)

-- `null` is read as nothing else.
null_layer : (y : CwlTy-F (Child NullOnly)) (x : Value) → typed_in (map-CwlTy CwlTy Reader value_in (plain_type NullOnly y)) null ≡ Some x → Some v.Absent ≡ Some x
null_layer (type.Null k) x h = h
null_layer y x h = absurd (none-some _ h)

null_only : (t : CwlTy) → NullOnly t
null_only = ind-CwlTy NullOnly (λ l y is. subst (λ (z : CwlTy-F CwlTy). NullOnly (roll-CwlTy z)) is (λ x h.
    null_layer y x (sym (ap (λ (r : Reader). r null) (fold-roll-CwlTy Reader typed_in (plain_type NullOnly y))) ∙ h)))

null_back : (t : CwlTy) (d : Data) (x : Value) → value_in t d ≡ Some x → typed_in (type.Null (value_in t)) d ≡ Some x
null_back t null x h = null_only t x h
null_back t d x h = h

list_back : (k : Child Back) (xs : List Value) → list_all (has_type k.0) xs ≡ true → all_of (value_in k.0) (items_of (map value_object xs)) ≡ Some xs
list_back k [] h = refl
list_back k (x ∷ xs) h =
    let p = and_parts (has_type k.0 x) (list_all (has_type k.0) xs) h in
    ap (option_and_then (λ y. option_map (λ ys. y ∷ ys) (all_of (value_in k.0) (items_of (map value_object xs))))) (k.1 x p.0) ∙ ap (option_map (λ ys. x ∷ ys)) (list_back k xs p.1)

either_back : (k : Child Back) (z : Value-F Value) → has_type k.0 (roll-Value z) ≡ true → typed_in (type.Null (value_in k.0)) (object_step (map-Value Value Data value_object z)) ≡ Some (roll-Value z)
either_back k z h = null_back k.0 _ (roll-Value z) (ap (value_in k.0) (sym (fold-roll-Value Data object_step z)) ∙ k.1 (roll-Value z) h)

value_layer : (y : CwlTy-F (Child Back)) (z : Value-F Value) → typed_at (map-CwlTy CwlTy Test has_type (plain_type Back y)) (roll-Value z) z ≡ true
    → typed_in (map-CwlTy CwlTy Reader value_in (plain_type Back y)) (object_step (map-Value Value Data value_object z)) ≡ Some (roll-Value z)
value_layer type.Bool (value.Bool b) h = ap Some (sym (v.rolls-Bool b))
value_layer type.Long (value.Int n) h = int_back n h ∙ ap Some (sym (v.rolls-Int n))
value_layer type.Str (value.Str s) h = ap Some (sym (v.rolls-Str s))
value_layer type.File (value.File s) h = ap Some (sym (v.rolls-File s))
value_layer (type.List k) (value.List xs) h = ap (option_map v.List) (list_back k xs h) ∙ ap Some (sym (v.rolls-List xs))
value_layer (type.Null k) value.Absent h = ap Some (sym v.rolls-Absent)
value_layer (type.Null k) z h = either_back k z h
value_layer y z h = absurd (false≢true h)

pub value_back : (t : CwlTy) → Back t
value_back = ind-CwlTy Back (λ l y is. subst (λ (z : CwlTy-F CwlTy). Back (roll-CwlTy z)) is (λ x h.
    let p = plain_type Back y in
    let whole = value_layer y (out-Value x)
    (ap (λ w. typed_at (map-CwlTy CwlTy Test has_type p) w (out-Value x)) (roll-out-Value x) ∙ sym (ap (λ (q : Test). q x) (fold-roll-CwlTy Test (λ t w. typed_at t w (out-Value w)) p)) ∙ h) in
    ap (λ (r : Reader). r (value_object x)) (fold-roll-CwlTy Reader typed_in p)
    ∙ ap (typed_in (map-CwlTy CwlTy Reader value_in p)) (ap value_object (sym (roll-out-Value x)) ∙ fold-roll-Value Data object_step (out-Value x))
    ∙ whole ∙ ap Some (roll-out-Value x)))

-- ---- the order of members

abbrev Ordered : Value → Type 0
Ordered x = is_ordered (value_object x) ≡ true

list_ordered : (ks : List (Known Ordered)) → items_ordered (items_of (map value_object (firsts Ordered ks))) ≡ true
list_ordered [] = refl
list_ordered (k ∷ ks) = and_from (is_ordered (value_object k.0)) (items_ordered (items_of (map value_object (firsts Ordered ks)))) k.1 (list_ordered ks)

abbrev written_fields : List (Field Value) → List (Field Data)
written_fields = map (λ (f : Field Value). record { name = f.name; value = value_object f.value })

fields_ordered : (fs : List (Field (Known Ordered))) (ms : Members) → members_ordered ms ≡ true → members_ordered (fields_put (written_fields (first_fields Ordered fs)) ms) ≡ true
fields_ordered [] ms h = h
fields_ordered (f ∷ fs) ms h = fields_ordered fs _ (put_ordered f.name (value_object f.value.0) ms f.value.1 h)

ordered_layer : (y : Value-F (Known Ordered)) → is_ordered (object_step (map-Value Value Data value_object (plain Ordered y))) ≡ true
ordered_layer (value.List ks) = list_ordered ks
ordered_layer (value.Struct name fields) = fields_ordered fields no_members refl
ordered_layer y = refl

pub value_ordered : (x : Value) → Ordered x
value_ordered = ind-Value Ordered (λ l y is. subst (λ (z : Value-F Value). Ordered (roll-Value z)) is
    (ap is_ordered (fold-roll-Value Data object_step (plain Ordered y)) ∙ ordered_layer y))
