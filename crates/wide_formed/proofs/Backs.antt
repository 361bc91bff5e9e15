-- What is written for a process with records, read part by part.
use Rattle.std.proofs.Common.{◌≡◌, ℕ, Bool, true, false, not, cond, ◌==◌, ◌&&◌, ◌||◌, List, [], ◌∷◌, ◌++◌, map, Option, Some, None, option_map, option_and_then, refl, sym, ap, ◌∙◌, subst}
use Rattle.std.proofs.lemmas.Bool.{false≢true, and_from, and_parts}
use Rattle.std.proofs.lemmas.List.{append-nil, append_assoc}
use Rattle.std.specs.Char.{is_ascii_alphabetic, is_ascii_alphanumeric}
use Rattle.std.specs.List.{list_all}
use Rattle.std.specs.Str.{bytes_eq}
use Rattle.std.proofs.lemmas.Option.{none-some, same_Some}
use Rattle.serde_json.specs.Data.{Data, string, array, Items}
use Rattle.serde_json.specs.View.{items_of}
use Rattle.wdl_base.specs.Names.{is_name, is_word, is_word_from}
use Rattle.wdl_base.specs.Plain.{has_nul}
use Rattle.wdl_base.proofs.PlainLemmas.{has_nul-append, name_is_plain}
use Rattle.wdl_value.specs.declared.value.Value.{Value}
use Rattle.cwl_model.specs.declared.process.CwlFlow.{CwlFlow}
use Rattle.cwl_model.specs.declared.process.FlowOut.{FlowOut}
use Rattle.cwl_model.specs.declared.process.Link.TheVariants as link
use Rattle.cwl_model.specs.declared.process.Process.{Process, Process-F, out-Process, fold-roll-Process}
use Rattle.cwl_model.specs.declared.process.Process.TheVariants as process
use Rattle.cwl_model.specs.declared.process.Process.TheOpen as layer
use Rattle.cwl_model.specs.declared.tool.CwlIn.{CwlIn}
use Rattle.cwl_model.specs.declared.ty.CwlTy.{CwlTy, CwlTy-F, map-CwlTy, roll-CwlTy, ind-CwlTy, fold-roll-CwlTy, fold_out-CwlTy, out-CwlTy, out-roll-CwlTy}
use Rattle.cwl_model.specs.declared.ty.CwlTy.TheOpen as type
use Rattle.cwl_laws.proofs.Files.{number_same}
use Rattle.cwl_emit.specs.Formed.{flow_out_formed, input_formed, is_formed, is_plain, link_formed, process_formed_at}
use Rattle.cwl_emit.specs.Reading.{cwl_in, cwl_of, flow, flow_out_of, input_of, list_of, text_of, tool_or_flow, type_of, with2, with3}
use Rattle.cwl_emit.specs.Writing.{flow_json, flow_out_json, input_json, list, process_json, process_step, type_json, type_step}
use Rattle.cwl_emit.proofs.Formed.{formed_processes_stand, two_are, three_are, text_back, input_back}
use Rattle.cwl_records.specs.declared.wide.FieldTy.{FieldTy, FieldTy-F, map-FieldTy, roll-FieldTy, ind-FieldTy, fold-roll-FieldTy}
use Rattle.cwl_records.specs.declared.wide.FieldTy.TheVariants as field
use Rattle.cwl_records.specs.declared.wide.FieldTy.TheOpen as open_field
use Rattle.cwl_records.specs.declared.wide.RecordField.{RecordField}
use Rattle.cwl_records.specs.declared.wide.WideIn.{WideIn}
use Rattle.cwl_records.specs.declared.wide.WideIn.TheVariants as wide
use Rattle.cwl_records.specs.declared.wide.WideWire.{WideWire}
use Rattle.cwl_records.specs.WideReading.{are_ids, are_outer, field_ty_of, all_fields, is_end, is_from_body, name_by, name_of, names_from, or_name, path_by, path_of, record_field, record_fields, record_of, record_or_plain, same_at, same_type, Test, wide_in_of, wide_wire, wide_wire_of}
use Rattle.cwl_records.specs.WideWriting.{body_id, dotted, field_json, field_ty_json, field_ty_step, fields_json, flow_out_id, outer_out, value_from, wide_in_json, wide_wire_json, with_json}
use Rattle.wide_formed.specs.Forms.{field_named, field_step, fields_named, is_named, wire_named, with_test}
use Rattle.wdl_base.proofs.PlaceLemmas.{name_word as a_word}
use Rattle.wdl_stdlib.proofs.Keys.{bytes_eq-refl as bytes_same}

-- ---- inputs, outputs and types, out of processes that are read

abbrev flow_of : List CwlIn → List FlowOut → CwlFlow Process
flow_of ins outs = flow ins outs []

abbrev read_by : Option (List CwlIn) → Option (List FlowOut) → Option Process
read_by ins outs = tool_or_flow None (with3 flow ins outs (Some []))

flow_read : (ins : List CwlIn) (outs : List FlowOut) → list_all input_formed ins ≡ true → list_all flow_out_formed outs ≡ true
    → read_by (list_of input_of (list input_json ins)) (list_of flow_out_of (list flow_out_json outs)) ≡ Some (process.Flow (flow_of ins outs))
flow_read ins outs a b =
    let p = process.Flow (flow_of ins outs) in
    let json : process_json p false ≡ flow_json false ins outs (array (items_of [])) =
    ap (λ (q : Process). process_json q false) (sym (process.rolls-Flow (flow_of ins outs))) ∙ ap (λ (w : Bool → Data). w false) (fold-roll-Process (Bool → Data) process_step (layer.Flow (flow_of ins outs))) in
    let formed : is_formed p ≡ true =
    ap is_formed (sym (process.rolls-Flow (flow_of ins outs))) ∙ fold-roll-Process Bool process_formed_at (layer.Flow (flow_of ins outs))
    ∙ and_from (list_all input_formed ins && list_all flow_out_formed outs) true (and_from (list_all input_formed ins) (list_all flow_out_formed outs) a b) refl in
    ap (cwl_of false) (sym json) ∙ formed_processes_stand false p formed

abbrev parts_of : Process-F Process → List CwlIn × List FlowOut
parts_of (layer.Flow f) = (f.inputs, f.outputs)
parts_of (layer.Tool t) = ([], [])

flow_same : (f g : CwlFlow Process) → process.Flow f ≡ process.Flow g → (f.inputs ≡ g.inputs) × (f.outputs ≡ g.outputs)
flow_same f g e =
    let q = sym (process.outs-Flow f) ∙ ap out-Process e ∙ process.outs-Flow g in
    (ap (λ z. (parts_of z).0) q, ap (λ z. (parts_of z).1) q)

pub inputs_back : (ins : List CwlIn) → list_all input_formed ins ≡ true → list_of input_of (list input_json ins) ≡ Some ins
inputs_back ins h = by_read (list_of input_of (list input_json ins)) (flow_read ins [] h refl)
  where
    by_read : (o : Option (List CwlIn)) → read_by o (Some []) ≡ Some (process.Flow (flow_of ins [])) → o ≡ Some ins
    by_read None e = absurd (none-some _ e)
    by_read (Some is) e = ap Some (flow_same (flow_of is []) (flow_of ins []) (same_Some _ _ e)).0

pub outputs_back : (outs : List FlowOut) → list_all flow_out_formed outs ≡ true → list_of flow_out_of (list flow_out_json outs) ≡ Some outs
outputs_back outs h = by_read (list_of flow_out_of (list flow_out_json outs)) (flow_read [] outs refl h)
  where
    by_read : (o : Option (List FlowOut)) → read_by (Some []) o ≡ Some (process.Flow (flow_of [] outs)) → o ≡ Some outs
    by_read None e = absurd (none-some _ e)
    by_read (Some os) e = ap Some (flow_same (flow_of [] os) (flow_of [] outs) (same_Some _ _ e)).1

type_back : (t : CwlTy) → type_of (type_json t) ≡ Some t
type_back t = by_type (type_of (type_json t)) (input_back (cwl_in [] t None) refl)
  where
    by_type : (o : Option CwlTy) → with3 cwl_in (Some []) o (Some None) ≡ Some (cwl_in [] t None) → o ≡ Some t
    by_type None e = absurd (none-some _ e)
    by_type (Some u) e = ap (λ o. option_map (λ (i : CwlIn). i.ty) o) e

-- ---- types of fields

-- A type of CWL is no record.
not_record : (t : CwlTy) → record_fields (type_json t) ≡ None
not_record t = ap record_fields (json_by t) ∙ by_layer (map-CwlTy CwlTy Data type_json (out-CwlTy t))
  where
    json_by : (u : CwlTy) → type_json u ≡ type_step (map-CwlTy CwlTy Data type_json (out-CwlTy u))
    json_by u = fold_out-CwlTy Data type_step u

    by_layer : (z : CwlTy-F Data) → record_fields (type_step z) ≡ None
    by_layer type.Bool = refl
    by_layer type.Long = refl
    by_layer type.Str = refl
    by_layer type.File = refl
    by_layer (type.List d) = refl
    by_layer (type.Null d) = refl

one_back : (t : CwlTy) → field_ty_of (type_json t) ≡ Some (field.One t)
one_back t = ap field_ty_of (json_by t) ∙ by_layer (map-CwlTy CwlTy Data type_json (out-CwlTy t)) ∙ ap (λ d. option_map field.One (type_of d)) (sym (json_by t)) ∙ ap (option_map field.One) (type_back t)
  where
    json_by : (u : CwlTy) → type_json u ≡ type_step (map-CwlTy CwlTy Data type_json (out-CwlTy u))
    json_by u = fold_out-CwlTy Data type_step u

    by_layer : (z : CwlTy-F Data) → field_ty_of (type_step z) ≡ option_map field.One (type_of (type_step z))
    by_layer type.Bool = refl
    by_layer type.Long = refl
    by_layer type.Str = refl
    by_layer type.File = refl
    by_layer (type.List d) = refl
    by_layer (type.Null d) = refl

name_plain : (s : List ℕ) → is_name s ≡ true → is_plain s ≡ true
name_plain s h = ap not (name_is_plain s h)

name_by_is : (s : List ℕ) → is_name s ≡ true → name_by s ≡ Some s
name_by_is s h = ap (λ b. cond b (Some s) None) h

name_back : (s : List ℕ) → is_name s ≡ true → name_of (string s) ≡ Some s
name_back s h = ap (option_and_then name_by) (text_back s (name_plain s h)) ∙ name_by_is s h

abbrev FieldBack : FieldTy → Type 0
FieldBack t = field_named t ≡ true → field_ty_of (field_ty_json t) ≡ Some t

abbrev Known : Type 0
Known = (t : FieldTy) × FieldBack t

abbrev plain_field : RecordField Known → RecordField FieldTy
plain_field f = record { name = f.name; ty = f.ty.0 }

abbrev plain_fields : List (RecordField Known) → List (RecordField FieldTy)
plain_fields = map plain_field

abbrev written : List (RecordField FieldTy) → Items
written fs = items_of (map field_json (map with_json fs))

fields_back : (ks : List (RecordField Known)) → list_all is_named (map with_test (plain_fields ks)) ≡ true → all_fields (written (plain_fields ks)) ≡ Some (plain_fields ks)
fields_back [] h = refl
fields_back (k ∷ ks) h =
    let p = and_parts (is_name k.name && field_named k.ty.0) (list_all is_named (map with_test (plain_fields ks))) h in
    let q = and_parts (is_name k.name) (field_named k.ty.0) p.0 in
    ap (option_and_then (λ f. option_map (λ fs. f ∷ fs) (all_fields (written (plain_fields ks)))))
    (two_are record_field (name_of (string k.name)) (field_ty_of (field_ty_json k.ty.0)) k.name k.ty.0 (name_back k.name q.0) (k.ty.1 q.1))
    ∙ ap (option_map (λ fs. plain_field k ∷ fs)) (fields_back ks p.1)

abbrev plain_ty : FieldTy-F Known → FieldTy-F FieldTy
plain_ty = map-FieldTy Known FieldTy (λ (k : Known). k.0)

field_layer : (y : FieldTy-F Known) → field_step (map-FieldTy FieldTy Bool field_named (plain_ty y)) ≡ true
    → field_ty_of (field_ty_step (map-FieldTy FieldTy Data field_ty_json (plain_ty y))) ≡ Some (roll-FieldTy (plain_ty y))
field_layer (open_field.One t) h = one_back t ∙ ap Some (sym (field.rolls-One t))
field_layer (open_field.Fields ks) h = ap (option_map field.Fields) (fields_back ks h) ∙ ap Some (sym (field.rolls-Fields (plain_fields ks)))

field_back : (t : FieldTy) → FieldBack t
field_back = ind-FieldTy FieldBack (λ l y is. subst (λ (z : FieldTy-F FieldTy). FieldBack (roll-FieldTy z)) is (λ h.
    ap field_ty_of (fold-roll-FieldTy Data field_ty_step (plain_ty y)) ∙ field_layer y (sym (fold-roll-FieldTy Bool field_step (plain_ty y)) ∙ h)))

abbrev known_fields : List (RecordField FieldTy) → List (RecordField Known)
known_fields = map (λ (f : RecordField FieldTy). record { name = f.name; ty = (f.ty, field_back f.ty) })

plain_known : (fs : List (RecordField FieldTy)) → plain_fields (known_fields fs) ≡ fs
plain_known [] = refl
plain_known (f ∷ fs) = ap (λ gs. f ∷ gs) (plain_known fs)

record_back : (fs : List (RecordField FieldTy)) → fields_named fs ≡ true → record_fields (fields_json fs) ≡ Some fs
record_back fs h =
    let e = plain_known fs in
    subst (λ gs. all_fields (written gs) ≡ Some gs) e (fields_back (known_fields fs) (subst (λ gs. list_all is_named (map with_test gs) ≡ true) (sym e) h))

-- ---- inputs

-- what is asked of an input
abbrev pub input_fine : WideIn → Bool
input_fine (wide.Plain i) = input_formed i
input_fine (wide.Record id fields) = is_plain id && fields_named fields

plain_in : (id : List ℕ) (t : CwlTy) (preset : Option Value) → record_of (input_json (cwl_in id t preset)) ≡ None
plain_in id t None = two_none (text_of (string id)) (not_record t)
  where
    two_none : (a : Option (List ℕ)) → record_fields (type_json t) ≡ None → with2 wide.Record a (record_fields (type_json t)) ≡ None
    two_none None e = refl
    two_none (Some s) e = ap (option_map (wide.Record s)) e
plain_in id t (Some x) = refl

pub wide_in_back : (i : WideIn) → input_fine i ≡ true → wide_in_of (wide_in_json i) ≡ Some i
wide_in_back (wide.Plain i) h =
    ap (λ o. record_or_plain o (option_map wide.Plain (input_of (input_json i)))) (plain_in i.id i.ty i.preset) ∙ ap (option_map wide.Plain) (input_back i h)
wide_in_back (wide.Record id fields) h =
    let p = and_parts (is_plain id) (fields_named fields) h in
    ap (λ o. record_or_plain o (option_map wide.Plain (input_of (wide_in_json (wide.Record id fields)))))
    (two_are wide.Record (text_of (string id)) (record_fields (fields_json fields)) id fields (text_back id p.0) (record_back fields p.1))

-- ---- paths

-- neither a point nor a closing mark
no_mark : (f : ℕ → Bool) (c m : ℕ) → f m ≡ false → f c ≡ true → (c == m) ≡ false
no_mark f c m n h = by_test (c == m) refl
  where
    by_test : (b : Bool) → (c == m) ≡ b → b ≡ false
    by_test false e = refl
    by_test true e = absurd (false≢true (sym n ∙ ap f (sym (number_same c m e)) ∙ h))

on_char : (word cs : List ℕ) (c : ℕ) → (c == 46) ≡ false → (c == 41) ≡ false → names_from word (c ∷ cs) ≡ names_from (word ++ c ∷ []) cs
on_char word cs c a b =
    ap (λ w. cond w (or_name word (names_from [] cs)) (cond (c == 41) (cond (is_end cs) (or_name word (Some [])) None) (names_from (word ++ c ∷ []) cs))) a
    ∙ ap (λ w. cond w (cond (is_end cs) (or_name word (Some [])) None) (names_from (word ++ c ∷ []) cs)) b

past_word_from : (word s rest : List ℕ) → is_word_from s ≡ true → names_from word (s ++ rest) ≡ names_from (word ++ s) rest
past_word_from word [] rest h = ap (λ w. names_from w rest) (sym (append-nil word))
past_word_from word (c ∷ s) rest h =
    let p = and_parts (is_ascii_alphanumeric c || c == 95) (is_word_from s) h in
    let test : ℕ → Bool = λ d. is_ascii_alphanumeric d || d == 95 in
    on_char word (s ++ rest) c (no_mark test c 46 refl p.0) (no_mark test c 41 refl p.0) ∙ past_word_from (word ++ c ∷ []) s rest p.1
    ∙ ap (λ w. names_from w rest) (append_assoc word (c ∷ []) s)

past_word : (s rest : List ℕ) → is_word s ≡ true → names_from [] (s ++ rest) ≡ names_from s rest
past_word [] rest h = absurd (false≢true h)
past_word (c ∷ s) rest h =
    let p = and_parts (is_ascii_alphabetic c) (is_word_from s) h in
    on_char [] (s ++ rest) c (no_mark is_ascii_alphabetic c 46 refl p.0) (no_mark is_ascii_alphabetic c 41 refl p.0) ∙ past_word_from (c ∷ []) s rest p.1

first_name : (n : List ℕ) (ns : List (List ℕ)) → is_name n ≡ true → names_from [] ((n ++ dotted ns) ++ 41 ∷ []) ≡ names_from n (dotted ns ++ 41 ∷ [])
first_name n ns h = ap (names_from []) (append_assoc n (dotted ns) (41 ∷ [])) ∙ past_word n (dotted ns ++ 41 ∷ []) (a_word n h)

names_back : (n : List ℕ) (ns : List (List ℕ)) → is_name n ≡ true → list_all is_name ns ≡ true → names_from [] ((n ++ dotted ns) ++ 41 ∷ []) ≡ Some (n ∷ ns)
names_back n [] h k = first_name n [] h ∙ ap (option_and_then (λ s. option_map (λ ss. s ∷ ss) (Some []))) (name_by_is n h)
names_back n (m ∷ ms) h k =
    let p = and_parts (is_name m) (list_all is_name ms) k in
    first_name n (m ∷ ms) h ∙ ap (or_name n) (names_back m ms p.0 p.1) ∙ ap (option_and_then (λ s. option_map (λ ss. s ∷ ss) (Some (m ∷ ms)))) (name_by_is n h)

path_plain : (ns : List (List ℕ)) → list_all is_name ns ≡ true → has_nul (dotted ns ++ 41 ∷ []) ≡ false
path_plain [] h = refl
path_plain (n ∷ ns) h =
    let p = and_parts (is_name n) (list_all is_name ns) h in
    ap has_nul (append_assoc n (dotted ns) (41 ∷ [])) ∙ has_nul-append n (dotted ns ++ 41 ∷ []) (name_is_plain n p.0) (path_plain ns p.1)

path_back : (n : List ℕ) (ns : List (List ℕ)) → is_name n ≡ true → list_all is_name ns ≡ true → path_of (string (value_from (n ∷ ns))) ≡ Some (n ∷ ns)
path_back n ns h k =
    ap (option_and_then path_by) (text_back (value_from (n ∷ ns)) (ap not (path_plain (n ∷ ns) (and_from (is_name n) (list_all is_name ns) h k)))) ∙ names_back n ns h k

wire_parts_back : (id source : List ℕ) (path : List (List ℕ)) → is_plain id ≡ true → is_plain source ≡ true → list_all is_name path ≡ true
    → wide_wire_of (wide_wire_json (wide_wire id source path)) ≡ Some (wide_wire id source path)
wire_parts_back id source [] a b c = three_are wide_wire (text_of (string id)) (text_of (string source)) (Some []) id source [] (text_back id a) (text_back source b) refl
wire_parts_back id source (n ∷ ns) a b c =
    let p = and_parts (is_name n) (list_all is_name ns) c in
    three_are wide_wire (text_of (string id)) (text_of (string source)) (path_of (string (value_from (n ∷ ns)))) id source (n ∷ ns) (text_back id a) (text_back source b) (path_back n ns p.0 p.1)

pub wire_back : (w : WideWire) → wire_named w ≡ true → wide_wire_of (wide_wire_json w) ≡ Some w
wire_back w h =
    let p = and_parts (is_plain w.id && is_plain w.source) (list_all is_name w.path) h in
    let q = and_parts (is_plain w.id) (is_plain w.source) p.0 in
    wire_parts_back w.id w.source w.path q.0 q.1 p.1

-- ---- outputs

abbrev SameType : CwlTy → Type 0
SameType t = same_type t t ≡ true

abbrev SameChild : Type 0
SameChild = (t : CwlTy) × SameType t

abbrev plain_type : CwlTy-F SameChild → CwlTy-F CwlTy
plain_type = map-CwlTy SameChild CwlTy (λ (k : SameChild). k.0)

same_layer : (y : CwlTy-F SameChild) → same_at (map-CwlTy CwlTy Test same_type (plain_type y)) (plain_type y) ≡ true
same_layer type.Bool = refl
same_layer type.Long = refl
same_layer type.Str = refl
same_layer type.File = refl
same_layer (type.List k) = k.1
same_layer (type.Null k) = k.1

type_same : (t : CwlTy) → SameType t
type_same = ind-CwlTy SameType (λ l y is. subst (λ (z : CwlTy-F CwlTy). SameType (roll-CwlTy z)) is
    (ap (λ (f : Test). f (roll-CwlTy (plain_type y))) (fold-roll-CwlTy Test (λ t u. same_at t (out-CwlTy u)) (plain_type y))
    ∙ ap (same_at (map-CwlTy CwlTy Test same_type (plain_type y))) (out-roll-CwlTy (plain_type y)) ∙ same_layer y))

pub outer_same : (os : List FlowOut) → are_outer (map outer_out os) os ≡ true
outer_same [] = refl
outer_same (o ∷ os) =
    and_from (bytes_eq o.id o.id && same_type o.ty o.ty && is_from_body o.id (link.Out body_id o.id)) (are_outer (map outer_out os) os)
    (and_from (bytes_eq o.id o.id && same_type o.ty o.ty) (is_from_body o.id (link.Out body_id o.id)) (and_from (bytes_eq o.id o.id) (same_type o.ty o.ty) (bytes_same o.id) (type_same o.ty))
    (and_from (bytes_eq body_id body_id) (bytes_eq o.id o.id) (bytes_same body_id) (bytes_same o.id))) (outer_same os)

pub ids_same : (os : List FlowOut) → are_ids (map flow_out_id os) os ≡ true
ids_same [] = refl
ids_same (o ∷ os) = and_from (bytes_eq o.id o.id) (are_ids (map flow_out_id os) os) (bytes_same o.id) (ids_same os)

pub ids_plain : (os : List FlowOut) → list_all flow_out_formed os ≡ true → list_all is_plain (map flow_out_id os) ≡ true
ids_plain [] h = refl
ids_plain (o ∷ os) h =
    let p = and_parts (flow_out_formed o) (list_all flow_out_formed os) h in
    and_from (is_plain o.id) (list_all is_plain (map flow_out_id os)) (and_parts (is_plain o.id) (link_formed o.source) p.0).0 (ids_plain os p.1)

pub outer_formed : (os : List FlowOut) → list_all flow_out_formed os ≡ true → list_all flow_out_formed (map outer_out os) ≡ true
outer_formed [] h = refl
outer_formed (o ∷ os) h =
    let p = and_parts (flow_out_formed o) (list_all flow_out_formed os) h in
    let id = (and_parts (is_plain o.id) (link_formed o.source) p.0).0 in
    and_from (flow_out_formed (outer_out o)) (list_all flow_out_formed (map outer_out os)) (and_from (is_plain o.id) (link_formed (link.Out body_id o.id)) id id) (outer_formed os p.1)
