-- Maps with distinct keys.
use Rattle.std.specs.Prelude.{◌≡◌, Bool, true, false, not, ◌&&◌, ◌||◌, List, [], ◌∷◌, map}
use Rattle.wdl_value.specs.declared.value.Value.{Value, Value-F, out-Value, map-Value}
use Rattle.wdl_value.specs.declared.value.Value.TheVariants as v
use Rattle.wdl_value.specs.declared.value.Value.TheOpen as layer
use Rattle.wdl_value.specs.declared.value.MapRow.{MapRow}
use Rattle.wdl_value.specs.declared.value.Field.{Field}
use Rattle.wdl_value.specs.Recur.{recur, recur_out}
use Rattle.wdl_value.specs.SameValue.{same_value}

abbrev pub has_key : Value → List (MapRow Value) → Bool
has_key k [] = false
has_key k (r ∷ rows) = same_value k r.key || has_key k rows

abbrev pub distinct_keys : List (MapRow Value) → Bool
distinct_keys [] = true
distinct_keys (r ∷ rows) = not (has_key r.key rows) && distinct_keys rows

abbrev pub rows_of : Value-F Value → List (MapRow Value)
rows_of (layer.Map rows) = rows
rows_of x = []

abbrev pub all_true : List Bool → Bool
all_true [] = true
all_true (b ∷ bs) = b && all_true bs

abbrev pub rows_true : List (MapRow Bool) → Bool
rows_true [] = true
rows_true (r ∷ rows) = r.key && r.value && rows_true rows

abbrev pub fields_true : List (Field Bool) → Bool
fields_true [] = true
fields_true (f ∷ fields) = f.value && fields_true fields

abbrev pub keyed_step : Value → Value-F Bool → Bool
keyed_step x (layer.List bs) = all_true bs
keyed_step x (layer.Pair a b) = a && b
keyed_step x (layer.Map rows) = distinct_keys (rows_of (out-Value x)) && rows_true rows
keyed_step x (layer.Struct n fields) = fields_true fields
keyed_step x other = true

-- each map in the value has distinct keys
unfoldable pub keyed : Value → Bool
keyed = recur Bool keyed_step

pub keyed_out : (x : Value) → keyed x ≡ keyed_step x (map-Value Value Bool keyed (out-Value x))
unfolding keyed
keyed_out = recur_out Bool keyed_step

abbrev pub keyed_all : List Value → Bool
keyed_all xs = all_true (map keyed xs)

abbrev pub keyed_rows : List (MapRow Value) → Bool
keyed_rows rows = rows_true (map (λ r. record { key = keyed r.key; value = keyed r.value }) rows)

abbrev pub keyed_fields : List (Field Value) → Bool
keyed_fields fields = fields_true (map (λ f. record { name = f.name; value = keyed f.value }) fields)

-- what a proof of code about `keyed` uses
pub ruleset keyed_steps = (keyed_out, v.outs-List, v.outs-Pair, v.outs-Map, v.outs-Struct)
