-- What a process with record inputs means (CWL v1.2, Workflow, "InputRecordSchema" and "StepInputExpressionRequirement").
use Rattle.std.specs.Prelude.{ℕ, Bool, true, false, ◌&&◌, List, [], ◌∷◌, Option, Some, None, option_and_then, option_map, if◌then◌else◌}
use Rattle.std.specs.Str.{bytes_eq}
use Rattle.wdl_base.specs.declared.place.Segment.{Segment}
use Rattle.wdl_value.specs.declared.value.Field.{Field}
use Rattle.wdl_value.specs.declared.value.Value.{Value, Value-F, out-Value}
use Rattle.wdl_value.specs.declared.value.Value.TheOpen as value
use Rattle.cwl_model.specs.declared.process.Process.TheVariants as process
use Rattle.cwl_model.specs.Means.{Ground, Meaning, Named, Test, has_type, incomplete, means, named, taken, value_at}
use Rattle.cwl_records.specs.declared.wide.FieldTy.{FieldTy, FieldTy-F, fold-FieldTy}
use Rattle.cwl_records.specs.declared.wide.FieldTy.TheOpen as layer
use Rattle.cwl_records.specs.declared.wide.RecordField.{RecordField}
use Rattle.cwl_records.specs.declared.wide.RecordProcess.{RecordProcess}
use Rattle.cwl_records.specs.declared.wide.WideIn.{WideIn}
use Rattle.cwl_records.specs.declared.wide.WideIn.TheVariants as wide
use Rattle.cwl_records.specs.declared.wide.WideWire.{WideWire}

-- ---- fields

abbrev pub field_in : List (Field Value) → List ℕ → Option Value
field_in [] name = None
field_in (f ∷ fs) name = if bytes_eq f.name name then Some f.value else field_in fs name

-- A record is a struct, whose name is not read.
abbrev pub field_at : List ℕ → Value-F Value → Option Value
field_at name (value.Struct s fields) = field_in fields name
field_at name x = None

abbrev pub field_of : List ℕ → Value → Option Value
field_of name x = field_at name (out-Value x)

-- the value at the end of these fields
abbrev pub through : List (List ℕ) → Value → Option Value
through [] x = Some x
through (n ∷ ns) x = option_and_then (through ns) (field_of n x)

abbrev pub some_typed : Test → Option Value → Bool
some_typed p None = false
some_typed p (Some x) = p x

-- Each field is there and of its type.
abbrev pub fields_typed : List (RecordField Test) → Test
fields_typed [] x = true
fields_typed (f ∷ fs) x = some_typed f.ty (field_of f.name x) && fields_typed fs x

abbrev pub is_record : Value-F Value → Bool
is_record (value.Struct s fields) = true
is_record x = false

abbrev pub record_typed : List (RecordField Test) → Test
record_typed fs x = is_record (out-Value x) && fields_typed fs x

abbrev pub field_step : FieldTy-F Test → Test
field_step (layer.One t) = has_type t
field_step (layer.Fields fs) = record_typed fs

abbrev pub has_field_type : FieldTy → Test
has_field_type = fold-FieldTy Test field_step

-- ---- inputs

abbrev pub test_of : RecordField FieldTy → RecordField Test
test_of f = record { name = f.name; ty = has_field_type f.ty }

abbrev pub tests_of : List (RecordField FieldTy) → List (RecordField Test)
tests_of [] = []
tests_of (f ∷ fs) = test_of f ∷ tests_of fs

-- An input of this profile has its default where it is missing or null; a record has none.
abbrev pub wide_taken : List Named → WideIn → Option Named
wide_taken object (wide.Plain i) = if has_type i.ty (taken object i).value then Some (taken object i) else None
wide_taken object (wide.Record id fields) =
    if some_typed (record_typed (tests_of fields)) (value_at object id) then option_map (named id) (value_at object id) else None

-- the values of all inputs, if each is of its type
abbrev pub all_wide : List Named → List WideIn → Option (List Named)
all_wide object [] = Some []
all_wide object (i ∷ is) = option_and_then (λ n. option_map (λ ns. n ∷ ns) (all_wide object is)) (wide_taken object i)

-- ---- wires

abbrev pub wide_wired : List Named → List WideWire → Option (List Named)
wide_wired object [] = Some []
wide_wired object (w ∷ ws) =
    option_and_then (λ x. option_map (λ ns. named w.id x ∷ ns) (wide_wired object ws)) (option_and_then (through w.path) (value_at object w.source))

abbrev pub body_means : Ground → RecordProcess → List Segment → Option (List Named) → Meaning
body_means g p place None = incomplete
body_means g p place (Some object) = means g (process.Flow p.body) object place

-- The outer step adds no segment to a place.
abbrev pub means_wide : Ground → RecordProcess → List Named → List Segment → Meaning
means_wide g p object place = body_means g p place (option_and_then (λ ns. wide_wired ns p.wires) (all_wide object p.inputs))
