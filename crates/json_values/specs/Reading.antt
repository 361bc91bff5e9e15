-- How JSON is read at a type (OpenWDL 1.1, "JSON Serialization of WDL Types").
use Rattle.std.specs.Prelude.{ℕ, ℤ, ◌==◌, Bool, true, false, ◌&&◌, ◌||◌, List, [], ◌∷◌, length, map, codes, Option, Some, None, option_map, option_and_then, if◌then◌else◌}
use Rattle.std.specs.Fmt.{signed_decimal}
use Rattle.std.specs.List.{list_all}
use Rattle.std.specs.Str.{bytes_eq}
use Rattle.std.specs.Str.Parse.{signed_digits_value}
use Rattle.serde_json.specs.Data.{Num, Data, null, boolean, number, string, array, object, Items, no_items, item, Members, no_members, member}
use Rattle.serde_json.specs.Find.{as_i64}
use Rattle.wdl_base.specs.Plain.{has_nul}
use Rattle.wdl_value.specs.declared.value.Value.{Value}
use Rattle.wdl_value.specs.declared.value.Value.TheVariants as v
use Rattle.wdl_value.specs.declared.value.Field.{Field}
use Rattle.wdl_value.specs.declared.value.MapRow.{MapRow}
use Rattle.wdl_value.specs.declared.ty.Member.{Member}
use Rattle.wdl_value.specs.declared.ty.Ty.{Ty, Ty-F, out-Ty}
use Rattle.wdl_value.specs.declared.ty.Ty.TheOpen as type
use Rattle.wdl_value.specs.Bare.{bare, is_optional}
use Rattle.wdl_value.specs.Fits.{Structs, is_int, members_of}
use Rattle.wdl_value.specs.Kinds.{absent_at}

-- the value that JSON is at a type, if it is one
abbrev pub Reader : Type 0
Reader = Ty → Option Value

-- a member of an object
pub record Named : Type 0 where
  pub name : List ℕ
  pub reader : Reader

-- ---- Boolean, Int, String and File

-- an optional type takes `null`, and so does the type of `None`
abbrev pub null_read : Reader
null_read t = if is_optional (out-Ty t) || absent_at (out-Ty (bare t)) then Some v.Absent else None

abbrev pub bool_read : Bool → Ty-F Ty → Option Value
bool_read b type.Bool = Some (v.Bool b)
bool_read b t = None

-- a number of 64 bits
abbrev pub int_of : ℤ → Option Value
int_of n = if is_int n then Some (v.Int n) else None

abbrev pub number_read : Num → Ty-F Ty → Option Value
number_read n type.Int = option_and_then int_of (as_i64 n)
number_read n t = None

-- a text without NUL
abbrev pub str_of : List ℕ → Option Value
str_of s = if has_nul s then None else Some (v.Str s)

abbrev pub file_of : List ℕ → Option Value
file_of s = if has_nul s then None else Some (v.File s)

abbrev pub string_read : List ℕ → Ty-F Ty → Option Value
string_read s type.Str = str_of s
string_read s type.File = file_of s
string_read s t = None

-- ---- keys of maps: the texts of Boolean, Int, String and File values

abbrev pub bool_key : List ℕ → Option Value
bool_key k = if bytes_eq k (codes "true") then Some (v.Bool true) else (if bytes_eq k (codes "false") then Some (v.Bool false) else None)

-- The number that the sign and the digits say is that of 64 bits whose decimal this is.
abbrev pub is_decimal : ℤ → List ℕ → Bool
is_decimal n k = is_int n && bytes_eq (signed_decimal n) k

abbrev pub int_key : List ℕ → Option Value
int_key k = if is_decimal (signed_digits_value 10 k) k then Some (v.Int (signed_digits_value 10 k)) else None

abbrev pub key_at : List ℕ → Ty-F Ty → Option Value
key_at k type.Bool = bool_key k
key_at k type.Int = int_key k
key_at k type.Str = str_of k
key_at k type.File = file_of k
key_at k t = None

abbrev pub key_read : List ℕ → Ty → Option Value
key_read k t = key_at k (out-Ty (bare t))

-- ---- arrays

abbrev pub all_read : List Reader → Ty → Option (List Value)
all_read [] t = Some []
all_read (r ∷ rs) t = option_and_then (λ x. option_map (λ xs. x ∷ xs) (all_read rs t)) (r t)

-- an array with `+` has an item
abbrev pub list_read : List Reader → Ty → Bool → Option Value
list_read [] t some = if some then None else Some (v.List [])
list_read (r ∷ rs) t some = option_map v.List (all_read (r ∷ rs) t)

abbrev pub array_read : List Reader → Ty-F Ty → Option Value
array_read rs (type.Array t some) = list_read rs t some
array_read rs t = None

-- ---- objects, whose members are in byte order of their names

abbrev pub reader_of : List ℕ → List Named → Option Reader
reader_of name [] = None
reader_of name (m ∷ ms) = if bytes_eq name m.name then Some m.reader else reader_of name ms

abbrev pub part_read : List ℕ → List Named → Ty → Option Value
part_read name ms t = option_and_then (λ (r : Reader). r t) (reader_of name ms)

-- the members `left` and `right`, and no others
abbrev pub pair_read : List Named → Ty → Ty → Option Value
pair_read ms t u =
    if length ms == 2
    then option_and_then (λ x. option_map (λ y. v.Pair x y) (part_read (codes "right") ms u)) (part_read (codes "left") ms t)
    else None

abbrev pub rows_read : List Named → Ty → Ty → Option (List (MapRow Value))
rows_read [] t u = Some []
rows_read (m ∷ ms) t u =
    option_and_then (λ k. option_and_then (λ x. option_map (λ rows. record { key = k; value = x } ∷ rows) (rows_read ms t u)) (m.reader u)) (key_read m.name t)

-- a row for each member, in their order
abbrev pub map_read : List Named → Ty → Ty → Option Value
map_read ms t u = option_map v.Map (rows_read ms t u)

abbrev pub is_declared : List ℕ → List Member → Bool
is_declared name [] = false
is_declared name (d ∷ ds) = bytes_eq name d.name || is_declared name ds

abbrev pub all_declared : List (List ℕ) → List Member → Bool
all_declared names ds = list_all (λ name. is_declared name ds) names

abbrev pub names_of : List Named → List (List ℕ)
names_of = map (λ (m : Named). m.name)

-- a member that may be left out
abbrev pub left_out : Reader
left_out t = if is_optional (out-Ty t) then Some v.Absent else None

abbrev pub member_at : Option Reader → Reader
member_at None t = left_out t
member_at (Some r) t = r t

abbrev pub member_read : List Named → Member → Option Value
member_read ms d = member_at (reader_of d.name ms) d.ty

abbrev pub field_of : List ℕ → Value → Field Value
field_of name x = record { name = name; value = x }

abbrev pub fields_read : List Named → List Member → Option (List (Field Value))
fields_read ms [] = Some []
fields_read ms (d ∷ ds) = option_and_then (λ x. option_map (λ fs. field_of d.name x ∷ fs) (fields_read ms ds)) (member_read ms d)

-- the declared members, in the order of the struct, and no others
abbrev pub struct_read : List ℕ → List Named → List Member → Option Value
struct_read name ms ds = if all_declared (names_of ms) ds then option_map (v.Struct name) (fields_read ms ds) else None

abbrev pub struct_in : List ℕ → List Named → Option (List Member) → Option Value
struct_in name ms None = None
struct_in name ms (Some ds) = struct_read name ms ds

abbrev pub object_read : Structs → List Named → Ty-F Ty → Option Value
object_read structs ms (type.Pair t u) = pair_read ms t u
object_read structs ms (type.Map t u) = map_read ms t u
object_read structs ms (type.Struct name) = struct_in name ms (members_of structs name)
object_read structs ms t = None

-- ---- by the kind of the JSON, and the type without its question marks

abbrev mutual
  pub reads : Structs → Data → Reader
  reads structs null t = null_read t
  reads structs (boolean b) t = bool_read b (out-Ty (bare t))
  reads structs (number n) t = number_read n (out-Ty (bare t))
  reads structs (string s) t = string_read s (out-Ty (bare t))
  reads structs (array ds) t = array_read (item_readers structs ds) (out-Ty (bare t))
  reads structs (object ms) t = object_read structs (member_readers structs ms) (out-Ty (bare t))

  pub item_readers : Structs → Items → List Reader
  item_readers structs no_items = []
  item_readers structs (item d ds) = reads structs d ∷ item_readers structs ds

  pub member_readers : Structs → Members → List Named
  member_readers structs no_members = []
  member_readers structs (member k d ms) = record { name = k; reader = reads structs d } ∷ member_readers structs ms
