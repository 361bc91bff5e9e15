-- How a value is written as JSON (OpenWDL 1.1, "JSON Serialization of WDL Types").
use Rattle.std.specs.Prelude.{ℕ, List, [], ◌∷◌, codes, map}
use Rattle.serde_json.specs.Data.{Data, null, boolean, number, string, array, object, Items, Members, no_members, put}
use Rattle.serde_json.specs.Find.{of_integer}
use Rattle.serde_json.specs.View.{items_of}
use Rattle.wdl_value.specs.declared.value.Value.{Value, Value-F, fold-Value}
use Rattle.wdl_value.specs.declared.value.Value.TheOpen as layer
use Rattle.wdl_value.specs.declared.value.Field.{Field}
use Rattle.wdl_value.specs.declared.value.MapRow.{MapRow}
use Rattle.wdl_value.specs.ValueText.{text_at}

-- a value as a key of a map, and as JSON
pub record Written : Type 0 where
  pub text : List ℕ
  pub json : Data

abbrev pub all_items : List Written → Items
all_items ws = items_of (map (λ (w : Written). w.json) ws)

-- with a member for each row, at the text of its key
abbrev pub rows_put : List (MapRow Written) → Members → Members
rows_put [] ms = ms
rows_put (r ∷ rows) ms = rows_put rows (put r.key.text r.value.json ms)

-- with a member for each field
abbrev pub fields_put : List (Field Written) → Members → Members
fields_put [] ms = ms
fields_put (f ∷ fs) ms = fields_put fs (put f.name f.value.json ms)

abbrev pub pair_members : Data → Data → Members
pair_members left right = put (codes "right") right (put (codes "left") left no_members)

abbrev pub data_at : Value-F Written → Data
data_at (layer.Bool b) = boolean b
data_at (layer.Int n) = number (of_integer n)
data_at (layer.Str s) = string s
data_at (layer.File s) = string s
data_at (layer.List ws) = array (all_items ws)
data_at (layer.Pair a b) = object (pair_members a.json b.json)
data_at (layer.Map rows) = object (rows_put rows no_members)
data_at (layer.Struct name fields) = object (fields_put fields no_members)
data_at layer.Absent = null

abbrev pub written_step : Value-F Written → Written
written_step x = record { text = text_at x; json = data_at x }

abbrev pub written : Value → Written
written = fold-Value Written written_step

-- the value as JSON
abbrev pub json_of : Value → Data
json_of x = (written x).json

abbrev pub items_json : List Value → Items
items_json xs = all_items (map written xs)

abbrev pub with_rows : List (MapRow Value) → Members → Members
with_rows rows = rows_put (map (λ r. record { key = written r.key; value = written r.value }) rows)

abbrev pub with_fields : List (Field Value) → Members → Members
with_fields fields = fields_put (map (λ f. record { name = f.name; value = written f.value }) fields)
