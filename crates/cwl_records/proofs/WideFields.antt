-- Each field and input that JSON stands for is written as that JSON.
use Rattle.std.proofs.Common.{◌≡◌, ℕ, Bool, true, false, cond, List, [], ◌∷◌, map, codes, Option, Some, None, option_map, refl, sym, ap, ◌∙◌, subst}
use Rattle.std.proofs.lemmas.Bool.{and_parts}
use Rattle.std.proofs.lemmas.Option.{same_Some}
use Rattle.serde_json.specs.Data.{Data, null, boolean, number, string, array, object, Items, no_items, item, Members, no_members, member}
use Rattle.serde_json.specs.View.{items_of}
use Rattle.cwl_model.specs.declared.ty.CwlTy.{CwlTy}
use Rattle.cwl_emit.specs.Reading.{has_names, input_of, is_member, is_text, member_of, text_of, type_of, with2}
use Rattle.cwl_emit.specs.Writing.{list, type_json}
use Rattle.cwl_emit.proofs.Parts.{of_two, Is, ItemsAre, no_item, item_is, array_is, no_member, member_is, object_is, text_is, word_is, shape_of, shape_is}
use Rattle.cwl_emit.proofs.Values.{type_is, input_is, Found, first_named, found_at, found_is}
use Rattle.cwl_records.specs.declared.wide.FieldTy.{FieldTy, fold-roll-FieldTy}
use Rattle.cwl_records.specs.declared.wide.FieldTy.TheOpen as layer
use Rattle.cwl_records.specs.declared.wide.FieldTy.TheVariants as field
use Rattle.cwl_records.specs.declared.wide.RecordField.{RecordField}
use Rattle.cwl_records.specs.declared.wide.WideIn.{WideIn}
use Rattle.cwl_records.specs.declared.wide.WideIn.TheVariants as wide
use Rattle.cwl_records.specs.WideReading.{all_fields, field_of, field_ty_of, fields_in, fields_of, is_record, name_of, record_field, record_fields, record_in, record_of, record_or_plain, type_in, wide_in_of}
use Rattle.cwl_records.specs.WideWriting.{field_json, field_ty_json, field_ty_step, fields_json, wide_in_json, with_json}
use Rattle.cwl_records.proofs.WidePaths.{name_is}
use Rattle.wdl_base.proofs.Options.{map_parts, then_parts, chosen_parts}

-- ---- what is written for the type of a field

one_json : (t : CwlTy) → field_ty_json (field.One t) ≡ type_json t
one_json t = ap field_ty_json (sym (field.rolls-One t)) ∙ fold-roll-FieldTy Data field_ty_step (layer.One t)

fields_ty_json : (fs : List (RecordField FieldTy)) → field_ty_json (field.Fields fs) ≡ fields_json fs
fields_ty_json fs = ap field_ty_json (sym (field.rolls-Fields fs)) ∙ fold-roll-FieldTy Data field_ty_step (layer.Fields fs)

plain_type_is : (d : Data) (t : FieldTy) → option_map field.One (type_of d) ≡ Some t → Is d (field_ty_json t)
plain_type_is d t h =
    let p = map_parts field.One (type_of d) t h in
    subst (λ x. Is d (field_ty_json x)) p.2 (subst (Is d) (sym (one_json p.0)) (type_is d p.0 p.1))

-- ---- records

abbrev written : List (RecordField FieldTy) → Data
written fs = list field_json (map with_json fs)

abbrev record_names : List (List ℕ)
record_names = codes "fields" ∷ codes "type" ∷ []

record_is : (ms : Members) (fs : List (RecordField FieldTy)) → is_record ms ≡ true → Found (codes "fields") ms (written fs) → Is (object ms) (fields_json fs)
record_is ms fs h f =
    let p = and_parts (has_names record_names ms) (is_member (codes "type") (is_text (codes "record")) ms) h in
    let s = shape_of record_names ms p.0 in
    let is : ms ≡ member (codes "fields") s.0 (member (codes "type") s.3.0 no_members) = shape_is record_names ms s in
    let own = found_is (codes "fields") ms s.0 (written fs) (ap (first_named (codes "fields")) is) f in
    let word = word_is (codes "record") s.3.0 (sym (ap (is_member (codes "type") (is_text (codes "record"))) is) ∙ p.1) in
    subst (λ m. Is (object m) (fields_json fs)) (sym is)
    (object_is _ _ (member_is (codes "fields") s.0 (written fs) _ _ own (member_is (codes "type") s.3.0 (string (codes "record")) _ _ word no_member)) refl)

object_type_is : (ms : Members) (t : FieldTy) → cond (is_record ms) (option_map field.Fields (fields_in ms)) (option_map field.One (type_of (object ms))) ≡ Some t
    → ((fs : List (RecordField FieldTy)) → fields_in ms ≡ Some fs → Found (codes "fields") ms (written fs)) → Is (object ms) (field_ty_json t)
object_type_is ms t h inner = by_test (is_record ms) refl h
  where
    by_test : (b : Bool) → is_record ms ≡ b → cond b (option_map field.Fields (fields_in ms)) (option_map field.One (type_of (object ms))) ≡ Some t → Is (object ms) (field_ty_json t)
    by_test true e k =
        let p = map_parts field.Fields (fields_in ms) t k in
        subst (λ x. Is (object ms) (field_ty_json x)) p.2 (subst (Is (object ms)) (sym (fields_ty_json p.0)) (record_is ms p.0 e (inner p.0 p.1)))
    by_test false e k = plain_type_is (object ms) t k

abbrev field_names : List (List ℕ)
field_names = codes "name" ∷ codes "type" ∷ []

field_members_are : (ms : Members) (f : RecordField FieldTy) → cond (has_names field_names ms) (with2 record_field (member_of (codes "name") name_of ms) (type_in ms)) None ≡ Some f
    → ((t : FieldTy) → type_in ms ≡ Some t → Found (codes "type") ms (field_ty_json t)) → Is (object ms) (field_json (with_json f))
field_members_are ms f h inner =
    let c = chosen_parts (has_names field_names ms) (with2 record_field (member_of (codes "name") name_of ms) (type_in ms)) f h in
    let s = shape_of field_names ms c.0 in
    let is : ms ≡ member (codes "name") s.0 (member (codes "type") s.3.0 no_members) = shape_is field_names ms s in
    let r = of_two record_field (member_of (codes "name") name_of ms) (type_in ms) f c.1 in
    let own = name_is s.0 r.x (sym (ap (member_of (codes "name") name_of) is) ∙ r.first) in
    let typed = found_is (codes "type") ms s.3.0 (field_ty_json r.y) (ap (first_named (codes "type")) is) (inner r.y r.second) in
    subst (λ m. Is (object m) (field_json (with_json f))) (sym is)
    (subst (λ (x : RecordField FieldTy). Is (object (member (codes "name") s.0 (member (codes "type") s.3.0 no_members))) (field_json (with_json x))) r.made
    (object_is _ _ (member_is (codes "name") s.0 (string r.x) _ _ own (member_is (codes "type") s.3.0 (field_ty_json r.y) _ _ typed no_member)) refl))

mutual
  pub field_ty_is : (d : Data) (t : FieldTy) → field_ty_of d ≡ Some t → Is d (field_ty_json t)
  field_ty_is null t h = cc
  field_ty_is (boolean b) t h = cc
  field_ty_is (number n) t h = cc
  field_ty_is (string s) t h = plain_type_is (string s) t h
  field_ty_is (array ds) t h = plain_type_is (array ds) t h
  field_ty_is (object ms) t h = object_type_is ms t h (fields_found ms)

  pub fields_found : (ms : Members) (fs : List (RecordField FieldTy)) → fields_in ms ≡ Some fs → Found (codes "fields") ms (written fs)
  fields_found no_members fs h = cc
  fields_found (member k d ms) fs h = found_at (codes "fields") k d ms (fields_of d) (fields_in ms) fs written h (fields_are d fs) (fields_found ms fs)

  fields_are : (d : Data) (fs : List (RecordField FieldTy)) → fields_of d ≡ Some fs → Is d (written fs)
  fields_are null fs h = cc
  fields_are (boolean b) fs h = cc
  fields_are (number n) fs h = cc
  fields_are (string s) fs h = cc
  fields_are (array ds) fs h = array_is ds _ (all_fields_are ds fs h)
  fields_are (object ms) fs h = cc

  all_fields_are : (ds : Items) (fs : List (RecordField FieldTy)) → all_fields ds ≡ Some fs → ItemsAre ds (items_of (map field_json (map with_json fs)))
  all_fields_are no_items fs h = subst (λ xs. ItemsAre no_items (items_of (map field_json (map with_json xs)))) (same_Some [] fs h) no_item
  all_fields_are (item d ds) fs h =
      let p = then_parts (λ f. option_map (λ gs. f ∷ gs) (all_fields ds)) (field_of d) fs h in
      let q = map_parts (λ gs. p.0 ∷ gs) (all_fields ds) fs p.2 in
      subst (λ xs. ItemsAre (item d ds) (items_of (map field_json (map with_json xs)))) q.2 (item_is d (field_json (with_json p.0)) ds (items_of (map field_json (map with_json q.0))) (field_is d p.0 p.1) (all_fields_are ds q.0 q.1))

  field_is : (d : Data) (f : RecordField FieldTy) → field_of d ≡ Some f → Is d (field_json (with_json f))
  field_is null f h = cc
  field_is (boolean b) f h = cc
  field_is (number n) f h = cc
  field_is (string s) f h = cc
  field_is (array ds) f h = cc
  field_is (object ms) f h = field_members_are ms f h (type_found ms)

  type_found : (ms : Members) (t : FieldTy) → type_in ms ≡ Some t → Found (codes "type") ms (field_ty_json t)
  type_found no_members t h = cc
  type_found (member k d ms) t h = found_at (codes "type") k d ms (field_ty_of d) (type_in ms) t field_ty_json h (field_ty_is d t) (type_found ms t)

-- ---- inputs

record_type_is : (d : Data) (fs : List (RecordField FieldTy)) → record_fields d ≡ Some fs → Is d (fields_json fs)
record_type_is (object ms) fs h =
    let c = chosen_parts (is_record ms) (fields_in ms) fs h in
    record_is ms fs c.0 (fields_found ms fs c.1)
record_type_is d fs h = cc

abbrev input_names : List (List ℕ)
input_names = codes "id" ∷ codes "type" ∷ []

abbrev reads_record : Members → Option WideIn
reads_record ms = with2 wide.Record (member_of (codes "id") text_of ms) (member_of (codes "type") record_fields ms)

record_members_are : (ms : Members) (i : WideIn) → record_in ms ≡ Some i → Is (object ms) (wide_in_json i)
record_members_are ms i h =
    let c = chosen_parts (has_names input_names ms) (reads_record ms) i h in
    let s = shape_of input_names ms c.0 in
    let is : ms ≡ member (codes "id") s.0 (member (codes "type") s.3.0 no_members) = shape_is input_names ms s in
    let r = of_two wide.Record (text_of s.0) (record_fields s.3.0) i (sym (ap reads_record is) ∙ c.1) in
    subst (λ m. Is (object m) (wide_in_json i)) (sym is)
    (subst (λ (x : WideIn). Is (object (member (codes "id") s.0 (member (codes "type") s.3.0 no_members))) (wide_in_json x)) r.made
    (object_is _ _ (member_is (codes "id") s.0 (string r.x) _ _ (text_is s.0 r.x r.first) (member_is (codes "type") s.3.0 (fields_json r.y) _ _ (record_type_is s.3.0 r.y r.second) no_member)) refl))

record_input_is : (d : Data) (i : WideIn) → record_of d ≡ Some i → Is d (wide_in_json i)
record_input_is (object ms) i h = record_members_are ms i h
record_input_is d i h = cc

pub wide_in_is : (d : Data) (i : WideIn) → wide_in_of d ≡ Some i → Is d (wide_in_json i)
wide_in_is d i h = by_kind (record_of d) refl h
  where
    by_kind : (o : Option WideIn) → record_of d ≡ o → record_or_plain o (option_map wide.Plain (input_of d)) ≡ Some i → Is d (wide_in_json i)
    by_kind None e k =
        let p = map_parts wide.Plain (input_of d) i k in
        subst (λ (x : WideIn). Is d (wide_in_json x)) p.2 (input_is d p.0 p.1)
    by_kind (Some r) e k = record_input_is d i (e ∙ k)
