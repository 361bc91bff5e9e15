-- The input object of a process (CWL v1.2, "Executing CWL documents as scripts"): the values of its inputs as JSON.
use Rattle.std.specs.Prelude.{ℕ, List, [], ◌∷◌, codes, map}
use Rattle.serde_json.specs.Data.{Data, null, boolean, number, string, array, object, Members, no_members, member, put}
use Rattle.serde_json.specs.Find.{of_integer}
use Rattle.serde_json.specs.View.{items_of}
use Rattle.serde_json.specs.Written.{compact_text}
use Rattle.wdl_value.specs.declared.env.Bind.{Bind}
use Rattle.wdl_value.specs.declared.value.Field.{Field}
use Rattle.wdl_value.specs.declared.value.Value.{Value, Value-F, fold-Value}
use Rattle.wdl_value.specs.declared.value.Value.TheOpen as layer

abbrev pub file_object : List ℕ → Data
file_object path = object (member (codes "class") (string (codes "File")) (member (codes "path") (string path) no_members))

-- with a member for each field, in byte order of their names
abbrev pub fields_put : List (Field Data) → Members → Members
fields_put [] ms = ms
fields_put (f ∷ fs) ms = fields_put fs (put f.name f.value ms)

-- A list is an array, a struct an object of its members. CWL has no maps and no pairs.
abbrev pub object_step : Value-F Data → Data
object_step (layer.Bool b) = boolean b
object_step (layer.Int n) = number (of_integer n)
object_step (layer.Str s) = string s
object_step (layer.File s) = file_object s
object_step (layer.List ds) = array (items_of ds)
object_step (layer.Struct name fields) = object (fields_put fields no_members)
object_step x = null

abbrev pub value_object : Value → Data
value_object = fold-Value Data object_step

abbrev pub with_fields : List (Field Value) → Members → Members
with_fields fields = fields_put (map (λ f. record { name = f.name; value = value_object f.value }) fields)

-- these members and one for each input, in byte order of their names
abbrev pub with_given : List Bind → Members → Members
with_given [] ms = ms
with_given (b ∷ bs) ms = with_given bs (put b.key.first (value_object b.value) ms)

abbrev pub object_json : List Bind → Data
object_json given = object (with_given given no_members)

-- one object with a member for each given input, without blanks
abbrev pub object_text : List Bind → List ℕ
object_text given = compact_text (object_json given)
