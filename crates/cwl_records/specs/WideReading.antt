-- The process with record inputs that a JSON value stands for (CWL v1.2, Workflow, in this profile). Each object has the
-- members that are named here and no others.
use Rattle.std.specs.Prelude.{ℕ, ◌==◌, Bool, true, false, ◌&&◌, List, [], ◌∷◌, ◌++◌, Option, Some, None, option_map, option_and_then, if◌then◌else◌, codes}
use Rattle.std.specs.Str.{bytes_eq}
use Rattle.serde_json.specs.Data.{Data, null, boolean, number, string, array, object, Items, no_items, item, Members, no_members, member}
use Rattle.wdl_base.specs.Names.{is_name}
use Rattle.wdl_value.specs.Files.{stripped}
use Rattle.cwl_model.specs.declared.process.CwlFlow.{CwlFlow}
use Rattle.cwl_model.specs.declared.process.FlowOut.{FlowOut}
use Rattle.cwl_model.specs.declared.process.Link.{Link}
use Rattle.cwl_model.specs.declared.process.Link.TheVariants as link
use Rattle.cwl_model.specs.declared.process.Process.{Process, Process-F, out-Process}
use Rattle.cwl_model.specs.declared.process.Process.TheOpen as process
use Rattle.cwl_model.specs.declared.ty.CwlTy.{CwlTy, CwlTy-F, fold-CwlTy, out-CwlTy}
use Rattle.cwl_model.specs.declared.ty.CwlTy.TheOpen as type
use Rattle.cwl_emit.specs.Reading.{are_classes, cwl_of, flow_out_of, has_names, input_of, is_member, is_text, is_version, list_of, member_of, text_of, type_of, with2, with3}
use Rattle.cwl_records.specs.declared.wide.FieldTy.{FieldTy}
use Rattle.cwl_records.specs.declared.wide.FieldTy.TheVariants as field
use Rattle.cwl_records.specs.declared.wide.RecordField.{RecordField}
use Rattle.cwl_records.specs.declared.wide.RecordProcess.{RecordProcess}
use Rattle.cwl_records.specs.declared.wide.WideIn.{WideIn}
use Rattle.cwl_records.specs.declared.wide.WideIn.TheVariants as wide
use Rattle.cwl_records.specs.declared.wide.WideWire.{WideWire}
use Rattle.cwl_records.specs.WideWriting.{body_id}

-- ---- names

abbrev pub name_by : List ℕ → Option (List ℕ)
name_by s = if is_name s then Some s else None

abbrev pub name_of : Data → Option (List ℕ)
name_of d = option_and_then name_by (text_of d)

abbrev pub or_name : List ℕ → Option (List (List ℕ)) → Option (List (List ℕ))
or_name word names = option_and_then (λ n. option_map (λ ns. n ∷ ns) names) (name_by word)

abbrev pub is_end : List ℕ → Bool
is_end [] = true
is_end (c ∷ cs) = false

-- names with points between them, and `)` at the end; the first one has begun
abbrev pub names_from : List ℕ → List ℕ → Option (List (List ℕ))
names_from word [] = None
names_from word (c ∷ cs) =
    if c == 46 then or_name word (names_from [] cs)
    else (if c == 41 then (if is_end cs then or_name word (Some []) else None) else names_from (word ++ c ∷ []) cs)

-- `$(self.a.b)`
abbrev pub path_by : List ℕ → Option (List (List ℕ))
path_by s = option_and_then (names_from []) (stripped (codes "$(self.") s)

abbrev pub path_of : Data → Option (List (List ℕ))
path_of d = option_and_then path_by (text_of d)

-- ---- inputs

abbrev pub record_field : List ℕ → FieldTy → RecordField FieldTy
record_field name t = record { name = name; ty = t }

abbrev pub is_record : Members → Bool
is_record ms = has_names (codes "fields" ∷ codes "type" ∷ []) ms && is_member (codes "type") (is_text (codes "record")) ms

abbrev mutual
  pub field_ty_of : Data → Option FieldTy
  field_ty_of null = None
  field_ty_of (boolean b) = None
  field_ty_of (number n) = None
  field_ty_of (string s) = option_map field.One (type_of (string s))
  field_ty_of (array ds) = option_map field.One (type_of (array ds))
  field_ty_of (object ms) = if is_record ms then option_map field.Fields (fields_in ms) else option_map field.One (type_of (object ms))

  pub fields_in : Members → Option (List (RecordField FieldTy))
  fields_in no_members = None
  fields_in (member k d ms) = if bytes_eq k (codes "fields") then fields_of d else fields_in ms

  pub fields_of : Data → Option (List (RecordField FieldTy))
  fields_of null = None
  fields_of (boolean b) = None
  fields_of (number n) = None
  fields_of (string s) = None
  fields_of (array ds) = all_fields ds
  fields_of (object ms) = None

  pub all_fields : Items → Option (List (RecordField FieldTy))
  all_fields no_items = Some []
  all_fields (item d ds) = option_and_then (λ f. option_map (λ fs. f ∷ fs) (all_fields ds)) (field_of d)

  pub field_of : Data → Option (RecordField FieldTy)
  field_of null = None
  field_of (boolean b) = None
  field_of (number n) = None
  field_of (string s) = None
  field_of (array ds) = None
  field_of (object ms) =
      if has_names (codes "name" ∷ codes "type" ∷ []) ms then with2 record_field (member_of (codes "name") name_of ms) (type_in ms) else None

  pub type_in : Members → Option FieldTy
  type_in no_members = None
  type_in (member k d ms) = if bytes_eq k (codes "type") then field_ty_of d else type_in ms

-- the fields of a record type
abbrev pub record_fields : Data → Option (List (RecordField FieldTy))
record_fields (object ms) = if is_record ms then fields_in ms else None
record_fields d = None

abbrev pub record_in : Members → Option WideIn
record_in ms =
    if has_names (codes "id" ∷ codes "type" ∷ []) ms
    then with2 wide.Record (member_of (codes "id") text_of ms) (member_of (codes "type") record_fields ms) else None

abbrev pub record_or_plain : Option WideIn → Option WideIn → Option WideIn
record_or_plain None i = i
record_or_plain (Some r) i = Some r

abbrev pub record_of : Data → Option WideIn
record_of (object ms) = record_in ms
record_of d = None

abbrev pub wide_in_of : Data → Option WideIn
wide_in_of d = record_or_plain (record_of d) (option_map wide.Plain (input_of d))

-- ---- wires

abbrev pub wide_wire : List ℕ → List ℕ → List (List ℕ) → WideWire
wide_wire id source path = record { id = id; source = source; path = path }

-- `id` and `source`, and `valueFrom` where there is a path
abbrev pub wire_path : Members → Option (List (List ℕ))
wire_path ms =
    if has_names (codes "id" ∷ codes "source" ∷ []) ms then Some []
    else (if has_names (codes "id" ∷ codes "source" ∷ codes "valueFrom" ∷ []) ms then member_of (codes "valueFrom") path_of ms else None)

abbrev pub wide_wire_of : Data → Option WideWire
wide_wire_of (object ms) = with3 wide_wire (member_of (codes "id") text_of ms) (member_of (codes "source") text_of ms) (wire_path ms)
wide_wire_of d = None

-- ---- the outer workflow

abbrev pub flow_in : Process-F Process → Option (CwlFlow Process)
flow_in (process.Tool t) = None
flow_in (process.Flow f) = Some f

-- the body, a workflow that is not the outermost process
abbrev pub body_of : Data → Option (CwlFlow Process)
body_of d = option_and_then (λ p. flow_in (out-Process p)) (cwl_of false d)

abbrev pub Test : Type 0
Test = CwlTy → Bool

abbrev pub same_at : CwlTy-F Test → CwlTy-F CwlTy → Bool
same_at type.Bool type.Bool = true
same_at type.Long type.Long = true
same_at type.Str type.Str = true
same_at type.File type.File = true
same_at (type.List p) (type.List t) = p t
same_at (type.Null p) (type.Null t) = p t
same_at t u = false

abbrev pub same_type : CwlTy → Test
same_type = fold-CwlTy Test (λ t u. same_at t (out-CwlTy u))

abbrev pub is_from_body : List ℕ → Link → Bool
is_from_body id (link.Input i) = false
is_from_body id (link.Out step out) = bytes_eq step body_id && bytes_eq out id

-- The outputs are those of the body, handed on.
abbrev pub are_outer : List FlowOut → List FlowOut → Bool
are_outer [] [] = true
are_outer (o ∷ os) (b ∷ bs) = bytes_eq o.id b.id && same_type o.ty b.ty && is_from_body b.id o.source && are_outer os bs
are_outer os bs = false

abbrev pub are_ids : List (List ℕ) → List FlowOut → Bool
are_ids [] [] = true
are_ids (s ∷ ss) (b ∷ bs) = bytes_eq s b.id && are_ids ss bs
are_ids ss bs = false

-- the wires and the body of the step, whose outputs are those of the body
pub record BodyStep : Type 0 where
  pub wires : List WideWire
  pub outs : List (List ℕ)
  pub body : CwlFlow Process

abbrev pub body_step : List WideWire → List (List ℕ) → CwlFlow Process → BodyStep
body_step wires outs body = record { wires = wires; outs = outs; body = body }

abbrev pub if_ids : BodyStep → Option BodyStep
if_ids s = if are_ids s.outs s.body.outputs then Some s else None

abbrev pub body_step_in : Members → Option BodyStep
body_step_in ms =
    if has_names (codes "id" ∷ codes "in" ∷ codes "out" ∷ codes "run" ∷ []) ms && is_member (codes "id") (is_text body_id) ms
    then option_and_then if_ids
    (with3 body_step (member_of (codes "in") (list_of wide_wire_of) ms) (member_of (codes "out") (list_of text_of) ms) (member_of (codes "run") body_of ms))
    else None

abbrev pub body_step_of : Data → Option BodyStep
body_step_of (object ms) = body_step_in ms
body_step_of d = None

-- a list of one step
abbrev pub only_step : Data → Option BodyStep
only_step (array (item d no_items)) = body_step_of d
only_step d = None

abbrev pub are_requirements : Data → Bool
are_requirements (array ds) = are_classes (codes "StepInputExpressionRequirement" ∷ codes "SubworkflowFeatureRequirement" ∷ []) ds
are_requirements d = false

abbrev pub is_outer : Members → Bool
is_outer ms =
    has_names (codes "class" ∷ codes "cwlVersion" ∷ codes "inputs" ∷ codes "outputs" ∷ codes "requirements" ∷ codes "steps" ∷ []) ms
    && is_version true ms && is_member (codes "class") (is_text (codes "Workflow")) ms && is_member (codes "requirements") are_requirements ms

abbrev pub process_by : List WideIn → List FlowOut → BodyStep → Option RecordProcess
process_by inputs outputs s =
    if are_outer outputs s.body.outputs then Some (record { inputs = inputs; wires = s.wires; body = s.body }) else None

abbrev pub wide_in_members : Members → Option RecordProcess
wide_in_members ms =
    if is_outer ms
    then option_and_then (λ is. option_and_then (λ os. option_and_then (process_by is os) (member_of (codes "steps") only_step ms))
    (member_of (codes "outputs") (list_of flow_out_of) ms)) (member_of (codes "inputs") (list_of wide_in_of) ms)
    else None

-- the process that a JSON value stands for
abbrev pub wide_of : Data → Option RecordProcess
wide_of (object ms) = wide_in_members ms
wide_of d = None
