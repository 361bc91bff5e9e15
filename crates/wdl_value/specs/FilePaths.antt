-- The paths of the files in a value, from left to right.
use Rattle.std.specs.Prelude.{ℕ, List, [], ◌∷◌, ◌++◌, map}
use Rattle.wdl_value.specs.declared.value.Value.{Value, Value-F, fold-Value}
use Rattle.wdl_value.specs.declared.value.Value.TheOpen as layer
use Rattle.wdl_value.specs.declared.value.MapRow.{MapRow}
use Rattle.wdl_value.specs.declared.value.Field.{Field}

abbrev pub Paths : Type 0
Paths = List (List ℕ)

abbrev pub all_paths : List Paths → Paths
all_paths [] = []
all_paths (p ∷ ps) = p ++ all_paths ps

abbrev pub row_paths : List (MapRow Paths) → Paths
row_paths [] = []
row_paths (r ∷ rows) = r.key ++ (r.value ++ row_paths rows)

abbrev pub field_paths : List (Field Paths) → Paths
field_paths [] = []
field_paths (f ∷ fields) = f.value ++ field_paths fields

abbrev pub paths_step : Value-F Paths → Paths
paths_step (layer.File path) = path ∷ []
paths_step (layer.List ps) = all_paths ps
paths_step (layer.Pair a b) = a ++ b
paths_step (layer.Map rows) = row_paths rows
paths_step (layer.Struct name fields) = field_paths fields
paths_step x = []

abbrev pub file_paths : Value → Paths
file_paths = fold-Value Paths paths_step

abbrev pub paths_in : List Value → Paths
paths_in xs = all_paths (map file_paths xs)

abbrev pub paths_in_rows : List (MapRow Value) → Paths
paths_in_rows rows = row_paths (map (λ r. record { key = file_paths r.key; value = file_paths r.value }) rows)

abbrev pub paths_in_fields : List (Field Value) → Paths
paths_in_fields fields = field_paths (map (λ f. record { name = f.name; value = file_paths f.value }) fields)
