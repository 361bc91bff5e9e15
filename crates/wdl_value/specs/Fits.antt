-- Which values a type takes (OpenWDL 1.1, "Types").
use Rattle.std.specs.Prelude.{ℕ, ℤ, pos, negsuc, ◌^◌, nat_lt, Bool, true, false, not, ◌&&◌, ◌||◌, List, [], ◌∷◌, Option, Some, None, if◌then◌else◌, map}
use Rattle.std.specs.Str.{bytes_eq}
use Rattle.wdl_value.specs.declared.value.Value.{Value, Value-F, fold-Value}
use Rattle.wdl_value.specs.declared.value.Value.TheOpen as layer
use Rattle.wdl_value.specs.declared.value.MapRow.{MapRow}
use Rattle.wdl_value.specs.declared.value.Field.{Field}
use Rattle.wdl_value.specs.declared.ty.Ty.{Ty, Ty-F, out-Ty}
use Rattle.wdl_value.specs.declared.ty.Ty.TheOpen as type
use Rattle.wdl_value.specs.declared.ty.StructDef.{StructDef}
use Rattle.wdl_value.specs.declared.ty.Member.{Member}
use Rattle.wdl_value.specs.Bare.{bare, is_optional}
use Rattle.wdl_value.specs.Keyed.{keyed}

abbrev pub Structs : Type 0
Structs = List StructDef

-- the members of the first struct of that name
abbrev pub members_of : Structs → List ℕ → Option (List Member)
members_of [] name = None
members_of (d ∷ ds) name = if bytes_eq d.name name then Some d.members else members_of ds name

-- from -9223372036854775808 to 9223372036854775807
unfoldable pub is_int : ℤ → Bool
is_int (pos n) = nat_lt n (2 ^ 63)
is_int (negsuc n) = nat_lt n (2 ^ 63)

abbrev pub int_fits : ℤ → Ty-F Ty → Bool
int_fits n type.Int = is_int n
int_fits n t = false

-- which types take a value
abbrev pub Test : Type 0
Test = Ty → Bool

abbrev pub all_fit : List Test → Ty → Bool
all_fit [] t = true
all_fit (f ∷ fs) t = f t && all_fit fs t

-- an array with `+` has an item
abbrev pub list_fits : List Test → Ty → Bool → Bool
list_fits [] t some = not some
list_fits (f ∷ fs) t some = all_fit (f ∷ fs) t

abbrev pub rows_fit : List (MapRow Test) → Ty → Ty → Bool
rows_fit [] t u = true
rows_fit (r ∷ rows) t u = r.key t && r.value u && rows_fit rows t u

-- the members' names in order, and their types
abbrev pub fields_fit : List (Field Test) → List Member → Bool
fields_fit [] [] = true
fields_fit [] (m ∷ ms) = false
fields_fit (f ∷ fs) [] = false
fields_fit (f ∷ fs) (m ∷ ms) = bytes_eq f.name m.name && f.value m.ty && fields_fit fs ms

abbrev pub fields_fit_some : List (Field Test) → Option (List Member) → Bool
fields_fit_some fs None = false
fields_fit_some fs (Some ms) = fields_fit fs ms

-- by the value's kind, and the type without its question marks
abbrev pub takes_at : Structs → Value-F Test → Ty-F Ty → Bool
takes_at structs (layer.Bool b) type.Bool = true
takes_at structs (layer.Int n) t = int_fits n t
takes_at structs (layer.Str s) type.Str = true
takes_at structs (layer.File s) type.File = true
takes_at structs (layer.List fs) (type.Array t some) = list_fits fs t some
takes_at structs (layer.Pair f g) (type.Pair t u) = f t && g u
takes_at structs (layer.Map rows) (type.Map t u) = rows_fit rows t u
takes_at structs (layer.Struct name fs) (type.Struct n) = bytes_eq name n && fields_fit_some fs (members_of structs n)
takes_at structs layer.Absent type.Absent = true
takes_at structs x t = false

abbrev pub is_absent : {A : Type 0} → Value-F A → Bool
is_absent layer.Absent = true
is_absent x = false

-- an optional type takes Absent and what its inner type takes
abbrev pub takes_step : Structs → Value-F Test → Test
takes_step structs x t = is_absent x && is_optional (out-Ty t) || takes_at structs x (out-Ty (bare t))

-- the value fits but for the keys of its maps, which may be repeated
abbrev pub takes : Structs → Value → Ty → Bool
takes structs = fold-Value Test (takes_step structs)

abbrev pub takes_all : Structs → List Value → Ty → Bool
takes_all structs xs = all_fit (map (takes structs) xs)

abbrev pub takes_list : Structs → List Value → Ty → Bool → Bool
takes_list structs xs = list_fits (map (takes structs) xs)

abbrev pub takes_rows : Structs → List (MapRow Value) → Ty → Ty → Bool
takes_rows structs rows = rows_fit (map (λ r. record { key = takes structs r.key; value = takes structs r.value }) rows)

abbrev pub takes_fields : Structs → List (Field Value) → List Member → Bool
takes_fields structs fields = fields_fit (map (λ f. record { name = f.name; value = takes structs f.value }) fields)

-- the value is of the type, and each map in it has distinct keys
abbrev pub fits : Structs → Value → Ty → Bool
fits structs x t = takes structs x t && keyed x
