-- The parameters and the result of each function (OpenWDL 1.1, "Standard Library").
use Rattle.std.specs.Prelude.{Bool, true, false, ◌&&◌, ◌||◌, List, [], ◌∷◌, Option, Some, None, option_and_then, if◌then◌else◌}
use Rattle.wdl_value.specs.declared.operator.Func.{Func}
use Rattle.wdl_value.specs.declared.operator.Func.TheVariants as func
use Rattle.wdl_value.specs.declared.ty.Ty.{Ty, Ty-F, out-Ty}
use Rattle.wdl_value.specs.declared.ty.Ty.TheVariants as ty
use Rattle.wdl_value.specs.declared.ty.Ty.TheOpen as type
use Rattle.wdl_value.specs.declared.typing.FuncTyping.{FuncTyping}
use Rattle.wdl_value.specs.Coerces.{coerces}
use Rattle.wdl_value.specs.Kinds.{is_scalar, is_empty}

abbrev pub array : Ty → Ty
array t = ty.Array t false

-- the type of the items; Empty where an argument has no type at that place
abbrev pub item_of : Ty → Ty-F Ty → Option Ty
item_of t (type.Array u some) = Some u
item_of t type.Empty = Some t
item_of t x = None

abbrev pub item_type : Ty → Option Ty
item_type t = item_of t (out-Ty t)

-- the inner type of an optional, and Empty for that of `None`
abbrev pub known_at : Ty → Ty-F Ty → Ty
known_at t (type.Opt u) = u
known_at t type.Absent = ty.Empty
known_at t x = t

abbrev pub known_type : Ty → Ty
known_type t = known_at t (out-Ty t)

-- Boolean, Int, String, File, or no type at all
abbrev pub is_plain : Ty → Bool
is_plain t = is_scalar t || is_empty t

abbrev pub nullary : Ty → Option FuncTyping
nullary result = Some (record { args = []; result = result })

abbrev pub unary : Ty → Ty → Option FuncTyping
unary arg result = Some (record { args = arg ∷ []; result = result })

abbrev pub binary : Ty → Ty → Ty → Option FuncTyping
binary first second result = Some (record { args = first ∷ second ∷ []; result = result })

-- one parameter of a given type
abbrev pub taking : Ty → Ty → Ty → Option FuncTyping
taking t param result = if coerces t param then unary param result else None

-- Array[X]
abbrev pub with_items : Ty → (Ty → Option FuncTyping) → Option FuncTyping
with_items t f = option_and_then f (item_type t)

-- Array[Array[X]]
abbrev pub with_rows : Ty → (Ty → Option FuncTyping) → Option FuncTyping
with_rows t f = option_and_then f (option_and_then item_type (item_type t))

abbrev pub plain_only : Ty → Option Ty
plain_only t = if is_plain t then Some t else None

-- Array[P]
abbrev pub with_plain_items : Ty → (Ty → Option FuncTyping) → Option FuncTyping
with_plain_items t f = option_and_then f (option_and_then plain_only (item_type t))

-- the left and the right part
abbrev pub parts_at : Ty → Ty-F Ty → Option (Ty × Ty)
parts_at t (type.Pair u w) = Some (u, w)
parts_at t type.Empty = Some (t, t)
parts_at t x = None

abbrev pub part_types : Ty → Option (Ty × Ty)
part_types t = parts_at t (out-Ty t)

-- the type of the keys and of the values
abbrev pub entries_at : Ty → Ty-F Ty → Option (Ty × Ty)
entries_at t (type.Map u w) = Some (u, w)
entries_at t type.Empty = Some (t, t)
entries_at t x = None

abbrev pub entry_types : Ty → Option (Ty × Ty)
entry_types t = entries_at t (out-Ty t)

abbrev pub plain_first : Ty × Ty → Option (Ty × Ty)
plain_first p = if is_plain p.0 then Some p else None

abbrev pub with_two : (Ty → Ty → Option FuncTyping) → Option (Ty × Ty) → Option FuncTyping
with_two f = option_and_then (λ (p : Ty × Ty). f p.0 p.1)

-- Array[Pair[X, Y]]
abbrev pub with_pairs : Ty → (Ty → Ty → Option FuncTyping) → Option FuncTyping
with_pairs t f = with_two f (option_and_then part_types (item_type t))

-- Array[Pair[P, Y]]
abbrev pub with_plain_pairs : Ty → (Ty → Ty → Option FuncTyping) → Option FuncTyping
with_plain_pairs t f = with_two f (option_and_then plain_first (option_and_then part_types (item_type t)))

-- Map[P, Y]
abbrev pub with_entries : Ty → (Ty → Ty → Option FuncTyping) → Option FuncTyping
with_entries t f = with_two f (option_and_then plain_first (entry_types t))

abbrev pub length_type : Ty → Option FuncTyping
length_type t = with_items t (λ x. unary (array x) ty.Int)

abbrev pub transpose_type : Ty → Option FuncTyping
transpose_type t = with_rows t (λ x. unary (array (array x)) (array (array x)))

abbrev pub flatten_type : Ty → Option FuncTyping
flatten_type t = with_rows t (λ x. unary (array (array x)) (array x))

abbrev pub unzip_type : Ty → Option FuncTyping
unzip_type t = with_pairs t (λ x y. unary (array (ty.Pair x y)) (ty.Pair (array x) (array y)))

abbrev pub quote_type : Ty → Option FuncTyping
quote_type t = with_plain_items t (λ p. unary (array p) (array ty.Str))

abbrev pub as_pairs_type : Ty → Option FuncTyping
as_pairs_type t = with_entries t (λ p y. unary (ty.Map p y) (array (ty.Pair p y)))

abbrev pub keys_type : Ty → Option FuncTyping
keys_type t = with_entries t (λ p y. unary (ty.Map p y) (array p))

abbrev pub as_map_type : Ty → Option FuncTyping
as_map_type t = with_plain_pairs t (λ p y. unary (array (ty.Pair p y)) (ty.Map p y))

abbrev pub collect_by_key_type : Ty → Option FuncTyping
collect_by_key_type t = with_plain_pairs t (λ p y. unary (array (ty.Pair p y)) (ty.Map p (array y)))

abbrev pub select_first_type : Ty → Option FuncTyping
select_first_type t = with_items t (λ x. unary (array (ty.Opt (known_type x))) (known_type x))

abbrev pub select_all_type : Ty → Option FuncTyping
select_all_type t = with_items t (λ x. unary (array (ty.Opt (known_type x))) (array (known_type x)))

abbrev pub defined_type : Ty → Option FuncTyping
defined_type t = unary t ty.Bool

-- the functions of one parameter whose type is given
abbrev pub simple_type : Func → Ty → Option FuncTyping
simple_type func.Range t = taking t ty.Int (array ty.Int)
simple_type func.Basename t = taking t ty.Str ty.Str
simple_type func.Glob t = taking t ty.Str (array ty.File)
simple_type func.ReadString t = taking t ty.File ty.Str
simple_type func.ReadLines t = taking t ty.File (array ty.Str)
simple_type func.ReadInt t = taking t ty.File ty.Int
simple_type func.ReadBoolean t = taking t ty.File ty.Bool
simple_type func.ReadTsv t = taking t ty.File (array (array ty.Str))
simple_type func.ReadMap t = taking t ty.File (ty.Map ty.Str ty.Str)
simple_type func.WriteLines t = taking t (array ty.Str) ty.File
simple_type func.WriteTsv t = taking t (array (array ty.Str)) ty.File
simple_type func.WriteMap t = taking t (ty.Map ty.Str ty.Str) ty.File
simple_type f t = None

-- the functions of one parameter
abbrev pub unary_type : Func → Ty → Option FuncTyping
unary_type func.Length t = length_type t
unary_type func.Transpose t = transpose_type t
unary_type func.Unzip t = unzip_type t
unary_type func.Flatten t = flatten_type t
unary_type func.Quote t = quote_type t
unary_type func.Squote t = quote_type t
unary_type func.AsPairs t = as_pairs_type t
unary_type func.AsMap t = as_map_type t
unary_type func.Keys t = keys_type t
unary_type func.CollectByKey t = collect_by_key_type t
unary_type func.Defined t = defined_type t
unary_type func.SelectFirst t = select_first_type t
unary_type func.SelectAll t = select_all_type t
unary_type f t = simple_type f t

-- two parameters of one given type
abbrev pub taking_both : Ty → Ty → Ty → Ty → Option FuncTyping
taking_both t u param result = if coerces t param && coerces u param then binary param param result else None

-- String, Array[P]
abbrev pub texts_type : Ty → Ty → Ty → Option FuncTyping
texts_type t u result = if coerces t ty.Str then with_plain_items u (λ p. binary ty.Str (array p) result) else None

-- Array[X], Array[Y]
abbrev pub pairing_type : Ty → Ty → Option FuncTyping
pairing_type t u = with_items t (λ x. with_items u (λ y. binary (array x) (array y) (array (ty.Pair x y))))

-- the functions of two parameters
abbrev pub binary_type : Func → Ty → Ty → Option FuncTyping
binary_type func.Min t u = taking_both t u ty.Int ty.Int
binary_type func.Max t u = taking_both t u ty.Int ty.Int
binary_type func.Cross t u = pairing_type t u
binary_type func.Zip t u = pairing_type t u
binary_type func.Prefix t u = texts_type t u (array ty.Str)
binary_type func.Suffix t u = texts_type t u (array ty.Str)
binary_type func.Sep t u = texts_type t u ty.Str
binary_type func.Basename t u = taking_both t u ty.Str ty.Str
binary_type f t u = None

abbrev pub nullary_type : Func → Option FuncTyping
nullary_type func.Stdout = nullary ty.File
nullary_type func.Stderr = nullary ty.File
nullary_type f = None

-- the row of the table for a function and the types of its arguments
abbrev pub function_type : Func → List Ty → Option FuncTyping
function_type f [] = nullary_type f
function_type f (t ∷ []) = unary_type f t
function_type f (t ∷ (u ∷ [])) = binary_type f t u
function_type f (t ∷ (u ∷ (w ∷ more))) = None

-- the functions that write files
abbrev pub writes : Func → Bool
writes func.WriteLines = true
writes func.WriteTsv = true
writes func.WriteMap = true
writes f = false

-- the functions that see what the command of a job left
abbrev pub reads : Func → Bool
reads func.Stdout = true
reads func.Stderr = true
reads func.Glob = true
reads func.ReadString = true
reads func.ReadLines = true
reads func.ReadInt = true
reads func.ReadBoolean = true
reads func.ReadTsv = true
reads func.ReadMap = true
reads f = false

-- the functions that read what the command of a job wrote
abbrev pub reads_text : Func → Bool
reads_text func.ReadString = true
reads_text func.ReadLines = true
reads_text func.ReadInt = true
reads_text func.ReadBoolean = true
reads_text func.ReadTsv = true
reads_text func.ReadMap = true
reads_text f = false
