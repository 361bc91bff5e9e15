-- The limits of a value: a list or a map has at most 100,000 items or rows, and its size is at most 4,194,304.
use Rattle.std.specs.Prelude.{Bool, true, ◌&&◌, nat_le, List, [], ◌∷◌, length, map, Ok, Err, if◌then◌else◌}
use Rattle.wdl_base.specs.declared.fault.EvalCode.TheVariants.{TooLarge}
use Rattle.wdl_value.specs.declared.value.Value.{Value, Value-F, fold-Value}
use Rattle.wdl_value.specs.declared.value.Value.TheOpen as layer
use Rattle.wdl_value.specs.declared.value.MapRow.{MapRow}
use Rattle.wdl_value.specs.declared.value.Field.{Field}
use Rattle.wdl_value.specs.Outcome.{Outcome}
use Rattle.wdl_value.specs.Size.{size}

abbrev pub all_short : List Bool → Bool
all_short [] = true
all_short (b ∷ bs) = b && all_short bs

abbrev pub rows_short : List (MapRow Bool) → Bool
rows_short [] = true
rows_short (r ∷ rows) = r.key && r.value && rows_short rows

abbrev pub fields_short : List (Field Bool) → Bool
fields_short [] = true
fields_short (f ∷ fields) = f.value && fields_short fields

abbrev pub short_step : Value-F Bool → Bool
short_step (layer.List bs) = nat_le (length bs) 100000 && all_short bs
short_step (layer.Pair a b) = a && b
short_step (layer.Map rows) = nat_le (length rows) 100000 && rows_short rows
short_step (layer.Struct name fields) = fields_short fields
short_step x = true

-- each list and each map in the value has at most 100,000 items or rows
abbrev pub is_short : Value → Bool
is_short = fold-Value Bool short_step

abbrev pub list_is_short : List Value → Bool
list_is_short xs = all_short (map is_short xs)

abbrev pub rows_are_short : List (MapRow Value) → Bool
rows_are_short rows = rows_short (map (λ r. record { key = is_short r.key; value = is_short r.value }) rows)

abbrev pub fields_are_short : List (Field Value) → Bool
fields_are_short fields = fields_short (map (λ f. record { name = f.name; value = is_short f.value }) fields)

abbrev pub is_within : Value → Bool
is_within x = nat_le (size x) 4194304 && is_short x

-- a value that keeps the limits
abbrev pub limited : Value → Outcome Value
limited x = if is_within x then Ok x else Err TooLarge
