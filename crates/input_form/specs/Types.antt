-- Types as a document writes them (OpenWDL 1.1, "Types").
use Rattle.std.specs.Prelude.{ℕ, Bool, List, ◌++◌, if◌then◌else◌, codes}
use Rattle.wdl_value.specs.declared.ty.Ty.{Ty, Ty-F, fold-Ty}
use Rattle.wdl_value.specs.declared.ty.Ty.TheOpen as type

abbrev pub array_text : List ℕ → Bool → List ℕ
array_text item some = codes "Array[" ++ item ++ (if some then codes "]+" else codes "]")

abbrev pub map_text : List ℕ → List ℕ → List ℕ
map_text key value = codes "Map[" ++ key ++ codes ", " ++ value ++ codes "]"

abbrev pub pair_text : List ℕ → List ℕ → List ℕ
pair_text left right = codes "Pair[" ++ left ++ codes ", " ++ right ++ codes "]"

abbrev pub optional_text : List ℕ → List ℕ
optional_text inner = inner ++ codes "?"

abbrev pub type_step : Ty-F (List ℕ) → List ℕ
type_step type.Bool = codes "Boolean"
type_step type.Int = codes "Int"
type_step type.Str = codes "String"
type_step type.File = codes "File"
type_step (type.Array item some) = array_text item some
type_step (type.Map key value) = map_text key value
type_step (type.Pair left right) = pair_text left right
type_step (type.Struct name) = name
type_step (type.Opt inner) = optional_text inner
type_step type.Absent = codes "None"
type_step type.Empty = codes "Any"

abbrev pub type_text : Ty → List ℕ
type_text = fold-Ty (List ℕ) type_step
