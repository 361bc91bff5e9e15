-- What stands in a value of a kind that its type makes sure of. A value of another kind, which no well-typed expression
-- has there, counts as 0, false, no items, no rows, or as itself.
use Rattle.std.specs.Prelude.{ℤ, pos, Bool, true, false, List, []}
use Rattle.wdl_value.specs.declared.value.Value.{Value, Value-F, out-Value}
use Rattle.wdl_value.specs.declared.value.Value.TheOpen as layer
use Rattle.wdl_value.specs.declared.value.MapRow.{MapRow}

abbrev pub is_number_at : {A : Type 0} → Value-F A → Bool
is_number_at (layer.Int n) = true
is_number_at x = false

abbrev pub is_number : Value → Bool
is_number x = is_number_at (out-Value x)

abbrev pub is_undefined_at : {A : Type 0} → Value-F A → Bool
is_undefined_at layer.Absent = true
is_undefined_at x = false

abbrev pub is_undefined : Value → Bool
is_undefined x = is_undefined_at (out-Value x)

abbrev pub bool_at : {A : Type 0} → Value-F A → Bool
bool_at (layer.Bool b) = b
bool_at x = false

abbrev pub bool_in : Value → Bool
bool_in x = bool_at (out-Value x)

abbrev pub int_at : {A : Type 0} → Value-F A → ℤ
int_at (layer.Int n) = n
int_at x = pos 0

abbrev pub int_in : Value → ℤ
int_in x = int_at (out-Value x)

abbrev pub items_at : {A : Type 0} → Value-F A → List A
items_at (layer.List xs) = xs
items_at x = []

abbrev pub items_in : Value → List Value
items_in x = items_at (out-Value x)

abbrev pub rows_at : {A : Type 0} → Value-F A → List (MapRow A)
rows_at (layer.Map rows) = rows
rows_at x = []

abbrev pub rows_in : Value → List (MapRow Value)
rows_in x = rows_at (out-Value x)

abbrev pub left_at : {A : Type 0} → A → Value-F A → A
left_at x (layer.Pair a b) = a
left_at x y = x

abbrev pub left_in : Value → Value
left_in x = left_at x (out-Value x)

abbrev pub right_at : {A : Type 0} → A → Value-F A → A
right_at x (layer.Pair a b) = b
right_at x y = x

abbrev pub right_in : Value → Value
right_in x = right_at x (out-Value x)
