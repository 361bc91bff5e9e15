-- How a process with record inputs is written as JSON (CWL v1.2, Workflow, "InputRecordSchema" and
-- "StepInputExpressionRequirement"): the members of each object in byte order.
use Rattle.std.specs.Prelude.{ℕ, false, List, [], ◌∷◌, ◌++◌, map, codes}
use Rattle.serde_json.specs.Data.{Data, string, array, object, no_items, item, Members, no_members, member, put}
use Rattle.cwl_model.specs.declared.process.FlowOut.{FlowOut}
use Rattle.cwl_model.specs.declared.process.Link.TheVariants as link
use Rattle.cwl_model.specs.declared.process.Process.TheVariants as process
use Rattle.cwl_emit.specs.Writing.{class_json, flow_out_json, input_json, list, process_json, type_json}
use Rattle.cwl_records.specs.declared.wide.FieldTy.{FieldTy, FieldTy-F, fold-FieldTy}
use Rattle.cwl_records.specs.declared.wide.FieldTy.TheOpen as layer
use Rattle.cwl_records.specs.declared.wide.RecordField.{RecordField}
use Rattle.cwl_records.specs.declared.wide.RecordProcess.{RecordProcess}
use Rattle.cwl_records.specs.declared.wide.WideIn.{WideIn}
use Rattle.cwl_records.specs.declared.wide.WideIn.TheVariants as wide
use Rattle.cwl_records.specs.declared.wide.WideWire.{WideWire}

-- ---- inputs

abbrev pub field_json : RecordField Data → Data
field_json f = object (member (codes "name") (string f.name) (member (codes "type") f.ty no_members))

abbrev pub record_of : Data → Data
record_of fields = object (member (codes "fields") fields (member (codes "type") (string (codes "record")) no_members))

abbrev pub record_json : List (RecordField Data) → Data
record_json fs = record_of (list field_json fs)

abbrev pub field_ty_step : FieldTy-F Data → Data
field_ty_step (layer.One t) = type_json t
field_ty_step (layer.Fields fs) = record_json fs

abbrev pub field_ty_json : FieldTy → Data
field_ty_json = fold-FieldTy Data field_ty_step

-- the same field, whose type is what is written for it
abbrev pub with_json : RecordField FieldTy → RecordField Data
with_json f = record { name = f.name; ty = field_ty_json f.ty }

abbrev pub fields_json : List (RecordField FieldTy) → Data
fields_json fs = record_json (map with_json fs)

abbrev pub record_input : List ℕ → Data → Data
record_input id t = object (member (codes "id") (string id) (member (codes "type") t no_members))

abbrev pub wide_in_json : WideIn → Data
wide_in_json (wide.Plain i) = input_json i
wide_in_json (wide.Record id fields) = record_input id (fields_json fields)

-- ---- wires

abbrev pub dotted : List (List ℕ) → List ℕ
dotted [] = []
dotted (n ∷ ns) = 46 ∷ (n ++ dotted ns)

-- `$(self.a.b)`
abbrev pub value_from : List (List ℕ) → List ℕ
value_from path = codes "$(self" ++ (dotted path ++ 41 ∷ [])

abbrev pub path_members : List (List ℕ) → Members
path_members [] = no_members
path_members (n ∷ ns) = member (codes "valueFrom") (string (value_from (n ∷ ns))) no_members

abbrev pub with_path : List (List ℕ) → Members → Members
with_path [] ms = ms
with_path (n ∷ ns) ms = put (codes "valueFrom") (string (value_from (n ∷ ns))) ms

abbrev pub wide_wire_json : WideWire → Data
wide_wire_json w = object (member (codes "id") (string w.id) (member (codes "source") (string w.source) (path_members w.path)))

-- ---- the outer workflow

abbrev pub body_id : List ℕ
body_id = codes "_body"

-- an output of the body, handed on
abbrev pub outer_out : FlowOut → FlowOut
outer_out o = record { id = o.id; ty = o.ty; source = link.Out body_id o.id }

abbrev pub flow_out_id : FlowOut → List ℕ
flow_out_id o = o.id

-- the step of the body, with its process as JSON
abbrev pub step_json : List WideWire → List FlowOut → Data → Data
step_json wires outputs run =
    object
    (member (codes "id") (string body_id)
    (member (codes "in") (list wide_wire_json wires)
    (member (codes "out") (list string (map flow_out_id outputs))
    (member (codes "run") run no_members))))

abbrev pub outer_requirements : Data
outer_requirements =
    array (item (class_json (codes "StepInputExpressionRequirement")) (item (class_json (codes "SubworkflowFeatureRequirement")) no_items))

abbrev pub only : Data → Data
only step = array (item step no_items)

-- the outer workflow, with its inputs and its step as JSON
abbrev pub outer_json : Data → List FlowOut → Data → Data
outer_json inputs outputs step =
    object
    (member (codes "class") (string (codes "Workflow"))
    (member (codes "cwlVersion") (string (codes "v1.2"))
    (member (codes "inputs") inputs
    (member (codes "outputs") (list flow_out_json (map outer_out outputs))
    (member (codes "requirements") outer_requirements
    (member (codes "steps") (only step) no_members))))))

abbrev pub wide_json : RecordProcess → Data
wide_json p =
    outer_json (list wide_in_json p.inputs) p.body.outputs (step_json p.wires p.body.outputs (process_json (process.Flow p.body) false))
