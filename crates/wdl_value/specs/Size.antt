-- The size of a value: one for each value in it, and the bytes of texts and names.
use Rattle.std.specs.Prelude.{ℕ, ◌+◌, List, [], ◌∷◌, length, map}
use Rattle.wdl_value.specs.declared.value.Value.{Value, Value-F, fold-Value}
use Rattle.wdl_value.specs.declared.value.Value.TheOpen as layer
use Rattle.wdl_value.specs.declared.value.MapRow.{MapRow}
use Rattle.wdl_value.specs.declared.value.Field.{Field}

abbrev pub sum_of : List ℕ → ℕ
sum_of [] = 0
sum_of (n ∷ ns) = n + sum_of ns

abbrev pub sum_of_rows : List (MapRow ℕ) → ℕ
sum_of_rows [] = 0
sum_of_rows (r ∷ rows) = r.key + r.value + sum_of_rows rows

abbrev pub sum_of_fields : List (Field ℕ) → ℕ
sum_of_fields [] = 0
sum_of_fields (f ∷ fields) = length f.name + f.value + sum_of_fields fields

abbrev pub size_step : Value-F ℕ → ℕ
size_step (layer.Bool b) = 1
size_step (layer.Int n) = 1
size_step (layer.Str s) = 1 + length s
size_step (layer.File s) = 1 + length s
size_step (layer.List ns) = 1 + sum_of ns
size_step (layer.Pair a b) = 1 + (a + b)
size_step (layer.Map rows) = 1 + sum_of_rows rows
size_step (layer.Struct name fields) = 1 + (length name + sum_of_fields fields)
size_step layer.Absent = 1

abbrev pub size : Value → ℕ
size = fold-Value ℕ size_step

abbrev pub size_list : List Value → ℕ
size_list xs = sum_of (map size xs)

abbrev pub size_row_list : List (MapRow Value) → ℕ
size_row_list rows = sum_of_rows (map (λ r. record { key = size r.key; value = size r.value }) rows)

abbrev pub size_field_list : List (Field Value) → ℕ
size_field_list fields = sum_of_fields (map (λ f. record { name = f.name; value = size f.value }) fields)
