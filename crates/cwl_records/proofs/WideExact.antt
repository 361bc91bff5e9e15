-- What is written for a process with record inputs has no float.
use Rattle.std.proofs.Common.{◌≡◌, ℕ, false, List, [], ◌∷◌, map, refl, ap, ◌∙◌, subst}
use Rattle.std.proofs.lemmas.Bool.{or_from}
use Rattle.serde_json.specs.Data.{string}
use Rattle.serde_json.specs.View.{items_of}
use Rattle.serde_json.specs.Written.{has_float, items_have_float, members_have_float}
use Rattle.cwl_model.specs.declared.process.FlowOut.{FlowOut}
use Rattle.cwl_model.specs.declared.process.Process.TheVariants as process
use Rattle.cwl_emit.specs.Writing.{flow_out_json, process_json}
use Rattle.cwl_emit.proofs.Exact.{all_exact, flow_out_exact, input_exact, process_exact, type_exact}
use Rattle.cwl_records.specs.declared.wide.FieldTy.{FieldTy, FieldTy-F, fold-roll-FieldTy, ind-FieldTy, map-FieldTy, roll-FieldTy}
use Rattle.cwl_records.specs.declared.wide.FieldTy.TheOpen as layer
use Rattle.cwl_records.specs.declared.wide.RecordField.{RecordField}
use Rattle.cwl_records.specs.declared.wide.RecordProcess.{RecordProcess}
use Rattle.cwl_records.specs.declared.wide.WideIn.{WideIn}
use Rattle.cwl_records.specs.declared.wide.WideIn.TheVariants as wide
use Rattle.cwl_records.specs.declared.wide.WideWire.{WideWire}
use Rattle.cwl_records.specs.WideWriting.{field_json, field_ty_json, field_ty_step, fields_json, flow_out_id, outer_out, path_members, wide_in_json, wide_json, wide_wire_json, with_json}

-- ---- fields

abbrev TypeExact : FieldTy → Type 0
TypeExact t = has_float (field_ty_json t) ≡ false

abbrev Known : Type 0
Known = (t : FieldTy) × TypeExact t

abbrev plain : FieldTy-F Known → FieldTy-F FieldTy
plain = map-FieldTy Known FieldTy (λ (k : Known). k.0)

abbrev first_field : RecordField Known → RecordField FieldTy
first_field f = record { name = f.name; ty = f.ty.0 }

known_exact : (fs : List (RecordField Known)) → items_have_float (items_of (map field_json (map with_json (map first_field fs)))) ≡ false
known_exact [] = refl
known_exact (f ∷ fs) =
    or_from (has_float (field_json (with_json (first_field f)))) (items_have_float (items_of (map field_json (map with_json (map first_field fs)))))
    (or_from (has_float (field_ty_json f.ty.0)) false f.ty.1 refl) (known_exact fs)

type_layer : (y : FieldTy-F Known) → has_float (field_ty_step (map-FieldTy FieldTy _ field_ty_json (plain y))) ≡ false
type_layer (layer.One t) = type_exact t
type_layer (layer.Fields fs) = or_from (items_have_float (items_of (map field_json (map with_json (map first_field fs))))) false (known_exact fs) refl

field_ty_exact : (t : FieldTy) → TypeExact t
field_ty_exact = ind-FieldTy TypeExact (λ l y is. subst (λ (z : FieldTy-F FieldTy). TypeExact (roll-FieldTy z)) is (ap has_float (fold-roll-FieldTy _ field_ty_step (plain y)) ∙ type_layer y))

all_fields_exact : (fs : List (RecordField FieldTy)) → items_have_float (items_of (map field_json (map with_json fs))) ≡ false
all_fields_exact [] = refl
all_fields_exact (f ∷ fs) =
    or_from (has_float (field_json (with_json f))) (items_have_float (items_of (map field_json (map with_json fs))))
    (or_from (has_float (field_ty_json f.ty)) false (field_ty_exact f.ty) refl) (all_fields_exact fs)

fields_exact : (fs : List (RecordField FieldTy)) → has_float (fields_json fs) ≡ false
fields_exact fs = or_from (items_have_float (items_of (map field_json (map with_json fs)))) false (all_fields_exact fs) refl

-- ---- inputs, wires and processes

wide_in_exact : (i : WideIn) → has_float (wide_in_json i) ≡ false
wide_in_exact (wide.Plain i) = input_exact i
wide_in_exact (wide.Record id fs) = or_from (has_float (fields_json fs)) false (fields_exact fs) refl

path_exact : (path : List (List ℕ)) → members_have_float (path_members path) ≡ false
path_exact [] = refl
path_exact (n ∷ ns) = refl

wire_exact : (w : WideWire) → has_float (wide_wire_json w) ≡ false
wire_exact w = path_exact w.path

outs_exact : (os : List FlowOut) → items_have_float (items_of (map flow_out_json (map outer_out os))) ≡ false
outs_exact os = all_exact flow_out_json flow_out_exact (map outer_out os)

pub wide_exact : (p : RecordProcess) → has_float (wide_json p) ≡ false
wide_exact p =
    or_from (items_have_float (items_of (map wide_in_json p.inputs))) _ (all_exact wide_in_json wide_in_exact p.inputs)
    (or_from (items_have_float (items_of (map flow_out_json (map outer_out p.body.outputs)))) _ (outs_exact p.body.outputs)
    (or_from _ false
    (or_from _ false
    (or_from (items_have_float (items_of (map wide_wire_json p.wires))) _ (all_exact wide_wire_json wire_exact p.wires)
    (or_from (items_have_float (items_of (map string (map flow_out_id p.body.outputs)))) _ (all_exact string (λ t. refl) (map flow_out_id p.body.outputs))
    (or_from (has_float (process_json (process.Flow p.body) false)) false (process_exact (process.Flow p.body) false) refl)))
    refl)
    refl))
