-- The process with records round the process of a lowered form.
use Rattle.std.specs.Prelude.{ℕ, zero, suc, List, [], ◌∷◌, Option, Some, None, if◌then◌else◌, map}
use Rattle.std.specs.Str.{bytes_eq}
use Rattle.wdl_value.specs.declared.ty.Member.{Member}
use Rattle.wdl_value.specs.declared.ty.Ty.{Ty, Ty-F, out-Ty}
use Rattle.wdl_value.specs.declared.ty.Ty.TheOpen as type
use Rattle.wdl_value.specs.Fits.{Structs, members_of}
use Rattle.wdl_typed.specs.declared.task.TInput.{TInput}
use Rattle.cwl_model.specs.declared.process.CwlFlow.{CwlFlow}
use Rattle.cwl_model.specs.declared.process.Process.{Process}
use Rattle.cwl_model.specs.declared.tool.CwlIn.{CwlIn}
use Rattle.cwl_image.specs.Image.{cwl_in, type_of}
use Rattle.cwl_records.specs.declared.leaf.RecordLeaf.{RecordLeaf}
use Rattle.cwl_records.specs.declared.wide.FieldTy.{FieldTy}
use Rattle.cwl_records.specs.declared.wide.FieldTy.TheVariants as field
use Rattle.cwl_records.specs.declared.wide.RecordField.{RecordField}
use Rattle.cwl_records.specs.declared.wide.RecordProcess.{RecordProcess}
use Rattle.cwl_records.specs.declared.wide.WideIn.{WideIn}
use Rattle.cwl_records.specs.declared.wide.WideIn.TheVariants as wide
use Rattle.cwl_records.specs.declared.wide.WideWire.{WideWire}
use Rattle.leaf_image.specs.Leaves.{is_record}

-- ---- inputs

abbrev pub all_fields : (Ty → FieldTy) → List Member → List (RecordField FieldTy)
all_fields f [] = []
all_fields f (m ∷ ms) = record { name = m.name; ty = f m.ty } ∷ all_fields f ms

abbrev pub some_fields : (Ty → FieldTy) → Option (List Member) → List (RecordField FieldTy)
some_fields f None = []
some_fields f (Some ms) = all_fields f ms

abbrev pub struct_field : Structs → (Ty → FieldTy) → Ty → Ty-F Ty → FieldTy
struct_field structs f t (type.Struct s) = field.Fields (some_fields f (members_of structs s))
struct_field structs f t u = field.One (type_of t)

-- the type of a member; members lead through at most 32 structs
unfoldable pub field_ty : Structs → ℕ → Ty → FieldTy
field_ty structs zero t = field.One (type_of t)
field_ty structs (suc n) t = struct_field structs (field_ty structs n) t (out-Ty t)

abbrev pub struct_fields : Structs → Ty-F Ty → List (RecordField FieldTy)
struct_fields structs (type.Struct s) = some_fields (field_ty structs 32) (members_of structs s)
struct_fields structs t = []

abbrev pub wide_in : Structs → TInput → WideIn
wide_in structs i = if is_record i then wide.Record i.name (struct_fields structs (out-Ty i.ty)) else wide.Plain (cwl_in i)

-- ---- wires

abbrev pub leaf_named : List RecordLeaf → List ℕ → Option RecordLeaf
leaf_named [] id = None
leaf_named (l ∷ ls) id = if bytes_eq l.leaf id then Some l else leaf_named ls id

abbrev pub wire_by : List ℕ → Option RecordLeaf → WideWire
wire_by id None = record { id = id; source = id; path = [] }
wire_by id (Some l) = record { id = id; source = l.input; path = l.path }

abbrev pub wire_in : List RecordLeaf → CwlIn → WideWire
wire_in records i = wire_by i.id (leaf_named records i.id)

abbrev pub wrapped : List RecordLeaf → List TInput → Structs → CwlFlow Process → RecordProcess
wrapped records source structs body =
    record { inputs = map (wide_in structs) source; wires = map (wire_in records) body.inputs; body = body }
