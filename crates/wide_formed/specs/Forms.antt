-- Checked forms without aliases and struct inputs, and the CWL documents of their main workflows.
use Rattle.std.specs.Prelude.{◌≡◌, ℕ, Bool, true, false, ◌&&◌, List, [], ◌∷◌, ◌++◌, Option, Some, None, option_and_then, codes, map}
use Rattle.std.specs.List.{list_all}
use Rattle.serde_json.specs.Data.{Data}
use Rattle.serde_json.specs.Written.{compact_text}
use Rattle.wdl_base.specs.Names.{is_name}
use Rattle.wdl_value.specs.declared.env.Bind.{Bind}
use Rattle.wdl_value.specs.declared.value.Value.{Value}
use Rattle.wdl_value.specs.Fits.{Structs}
use Rattle.wdl_typed.specs.declared.task.TInput.{TInput}
use Rattle.wdl_typed.specs.Bodies.{Library, library}
use Rattle.wdl_typed.specs.Declarations.{plain_key}
use Rattle.wdl_typed.specs.Scope.{lookup}
use Rattle.cwl_model.specs.declared.process.CwlFlow.{CwlFlow}
use Rattle.cwl_model.specs.declared.process.Process.{Process, Process-F, out-Process}
use Rattle.cwl_model.specs.declared.process.Process.TheOpen as process
use Rattle.cwl_model.specs.Means.{Ground, Meaning, Named, means}
use Rattle.cwl_image.specs.Image.{image}
use Rattle.cwl_emit.specs.Formed.{is_plain}
use Rattle.cwl_emit.specs.Writing.{process_json}
use Rattle.cwl_formed.specs.Plain.{texts_are_plain}
use Rattle.cwl_records.specs.declared.leaf.RecordLeaf.{RecordLeaf}
use Rattle.cwl_records.specs.declared.wide.FieldTy.{FieldTy, FieldTy-F, fold-FieldTy}
use Rattle.cwl_records.specs.declared.wide.FieldTy.TheOpen as field
use Rattle.cwl_records.specs.declared.wide.RecordField.{RecordField}
use Rattle.cwl_records.specs.declared.wide.RecordProcess.{RecordProcess}
use Rattle.cwl_records.specs.declared.wide.WideIn.{WideIn}
use Rattle.cwl_records.specs.declared.wide.WideIn.TheVariants as wide
use Rattle.cwl_records.specs.declared.wide.WideWire.{WideWire}
use Rattle.cwl_records.specs.Lowered.{Lowered, lowered}
use Rattle.cwl_records.specs.Wide.{means_wide, through}
use Rattle.cwl_records.specs.WideWriting.{wide_json}
use Rattle.cwl_records.specs.Wrapping.{leaf_named, wrapped}

-- a library without aliases and struct inputs, the leaves of its main workflow's struct inputs, and the inputs of that as they were
pub record LoweredForm : Type 0 where
  pub lib : Library
  pub records : List RecordLeaf
  pub source : List TInput

abbrev pub form_by : Library → Lowered → LoweredForm
form_by lib l = record { lib = library lib.structs lib.tasks l.flows; records = l.records; source = l.source }

abbrev pub lowering : Library → ℕ → LoweredForm
lowering lib main = form_by lib (lowered lib main)

-- ---- processes

abbrev pub is_flow : Process-F Process → Bool
is_flow (process.Flow f) = true
is_flow (process.Tool t) = false

-- (the process of a workflow is a Workflow)
abbrev pub flow_part : Process-F Process → CwlFlow Process
flow_part (process.Flow f) = f
flow_part (process.Tool t) = record { inputs = []; outputs = []; steps = [] }

-- the process with records round a process
abbrev pub wide_process : List RecordLeaf → List TInput → Structs → Process → RecordProcess
wide_process records source structs p = wrapped records source structs (flow_part (out-Process p))

-- the JSON that is written for the process of a lowered form: with records where struct inputs were replaced
abbrev pub document_json : List RecordLeaf → List TInput → Structs → Process → Data
document_json [] source structs p = process_json p true
document_json (r ∷ rs) source structs p = wide_json (wide_process (r ∷ rs) source structs p)

-- ---- names

abbrev pub is_named : RecordField Bool → Bool
is_named f = is_name f.name && f.ty

abbrev pub field_step : FieldTy-F Bool → Bool
field_step (field.One t) = true
field_step (field.Fields fs) = list_all is_named fs

abbrev pub field_named : FieldTy → Bool
field_named = fold-FieldTy Bool field_step

abbrev pub with_test : RecordField FieldTy → RecordField Bool
with_test f = record { name = f.name; ty = field_named f.ty }

abbrev pub fields_named : List (RecordField FieldTy) → Bool
fields_named fs = list_all is_named (map with_test fs)

abbrev pub input_named : WideIn → Bool
input_named (wide.Plain i) = true
input_named (wide.Record id fields) = is_plain id && fields_named fields

abbrev pub wire_named : WideWire → Bool
wire_named w = is_plain w.id && is_plain w.source && list_all is_name w.path

-- The names of fields are NAMEs, and the ids of records and wires hold no NUL.
abbrev pub wide_named : RecordProcess → Bool
wide_named p = list_all input_named p.inputs && list_all wire_named p.wires

abbrev pub are_named : List RecordLeaf → List TInput → Structs → Process → Bool
are_named [] source structs p = true
are_named (r ∷ rs) source structs p = wide_named (wide_process (r ∷ rs) source structs p)

-- ---- documents

-- the text of the JSON that is written for the process, whose texts hold no NUL, and a newline
pub record Says (l : LoweredForm) (main : ℕ) (text : List ℕ) : Type 0 where
  pub plain : texts_are_plain (image l.lib main) ≡ true
  pub named : are_named l.records l.source l.lib.structs (image l.lib main) ≡ true
  pub written : text ≡ compact_text (document_json l.records l.source l.lib.structs (image l.lib main)) ++ codes "\n"

-- ---- inputs

-- what is given for an input of the lowered form: the value of a leaf is at the end of its path
abbrev pub leaf_value : List Bind → List ℕ → Option RecordLeaf → Option Value
leaf_value given name None = lookup given (plain_key name)
leaf_value given name (Some l) = option_and_then (through l.path) (lookup given (plain_key l.input))

abbrev pub bind_of : List ℕ → Option Value → List Bind
bind_of name None = []
bind_of name (Some x) = record { key = plain_key name; value = x } ∷ []

-- what is given for each of these inputs of the lowered form
abbrev pub lowered_given : List RecordLeaf → List Bind → List TInput → List Bind
lowered_given records given [] = []
lowered_given records given (i ∷ is) = bind_of i.name (leaf_value given i.name (leaf_named records i.name)) ++ lowered_given records given is

-- ---- meanings

-- what the document means for an object, at the empty place
abbrev pub form_means : Ground → List RecordLeaf → List TInput → Structs → Process → List Named → Meaning
form_means g [] source structs p object = means g p object []
form_means g (r ∷ rs) source structs p object = means_wide g (wide_process (r ∷ rs) source structs p) object []

abbrev pub lowered_means : Ground → LoweredForm → ℕ → List Named → Meaning
lowered_means g l main object = form_means g l.records l.source l.lib.structs (image l.lib main) object
