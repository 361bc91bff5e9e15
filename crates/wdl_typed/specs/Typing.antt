-- Which typed expressions are well typed, and the type of each (OpenWDL 1.1, "Expressions"). A typed expression has each
-- cast written out, so operands and arguments have exactly the types that their form takes.
use Rattle.std.specs.Prelude.{ℕ, Bool, true, false, not, ◌&&◌, ◌||◌, List, [], ◌∷◌, Option, Some, None, option_and_then, if◌then◌else◌, codes}
use Rattle.std.specs.Str.{bytes_eq}
use Rattle.wdl_value.specs.declared.operator.Func.{Func}
use Rattle.wdl_value.specs.declared.operator.Op.{Op}
use Rattle.wdl_value.specs.declared.operator.Op.TheVariants as op
use Rattle.wdl_value.specs.declared.ty.Member.{Member}
use Rattle.wdl_value.specs.declared.ty.Ty.{Ty, Ty-F, out-Ty}
use Rattle.wdl_value.specs.declared.ty.Ty.TheVariants as ty
use Rattle.wdl_value.specs.declared.ty.Ty.TheOpen as type
use Rattle.wdl_value.specs.declared.typing.FuncTyping.{FuncTyping}
use Rattle.wdl_value.specs.declared.typing.OpTyping.{OpTyping}
use Rattle.wdl_value.specs.declared.value.Value.{Value, Value-F, out-Value}
use Rattle.wdl_value.specs.declared.value.Value.TheOpen as value
use Rattle.wdl_value.specs.Bare.{bare}
use Rattle.wdl_value.specs.Coerces.{coerces}
use Rattle.wdl_value.specs.Fits.{Structs, members_of, is_int as in_range}
use Rattle.wdl_value.specs.FunctionTypes.{function_type, is_plain, reads, writes}
use Rattle.wdl_value.specs.Kinds.{is_absent, is_bool, is_int, is_scalar}
use Rattle.wdl_value.specs.OperatorTypes.{operator_type}
use Rattle.wdl_value.specs.SameType.{same_type}
use Rattle.wdl_typed.specs.declared.expr.Choice.{Choice}
use Rattle.wdl_typed.specs.declared.expr.Choice.TheVariants as choice
use Rattle.wdl_typed.specs.declared.expr.TExpr.{TExpr, TExpr-F, fold-TExpr}
use Rattle.wdl_typed.specs.declared.expr.TExpr.TheOpen as layer
use Rattle.wdl_typed.specs.declared.expr.TField.{TField}
use Rattle.wdl_typed.specs.declared.expr.TPair.{TPair}
use Rattle.wdl_typed.specs.declared.expr.TPart.{TPart}
use Rattle.wdl_typed.specs.declared.expr.TPart.TheVariants as part
use Rattle.wdl_typed.specs.declared.scope.Bound.{Bound}
use Rattle.wdl_typed.specs.Scope.{type_in}

-- the structs, the names with their types, and whether functions may see what the command of a job left
pub record Context : Type 0 where
  pub structs : Structs
  pub names : List Bound
  pub outputs : Bool

-- the type, by whether the expression stands in a placeholder
abbrev pub Typing : Type 0
Typing = Bool → Option Ty

abbrev pub when : Bool → Ty → Option Ty
when b t = if b then Some t else None

abbrev pub both : (Ty → Ty → Option Ty) → Option Ty → Option Ty → Option Ty
both f t u = option_and_then (λ a. option_and_then (λ b. f a b) u) t

abbrev pub all_types : List (Option Ty) → Option (List Ty)
all_types [] = Some []
all_types (t ∷ ts) = option_and_then (λ a. option_and_then (λ as_. Some (a ∷ as_)) (all_types ts)) t

abbrev pub all_same : Ty → List Ty → Bool
all_same t [] = true
all_same t (u ∷ us) = same_type u t && all_same t us

abbrev pub are_same : List Ty → List Ty → Bool
are_same [] [] = true
are_same [] (u ∷ us) = false
are_same (t ∷ ts) [] = false
are_same (t ∷ ts) (u ∷ us) = same_type t u && are_same ts us

-- the types of literal values; other values stand in no literal
abbrev pub literal_at : Value-F Value → Option Ty
literal_at (value.Bool b) = Some ty.Bool
literal_at (value.Int n) = when (in_range n) ty.Int
literal_at (value.Str s) = Some ty.Str
literal_at value.Absent = Some ty.Absent
literal_at x = None

abbrev pub literal_type : Value → Option Ty
literal_type x = literal_at (out-Value x)

abbrev pub type_among : List Member → List ℕ → Option Ty
type_among [] name = None
type_among (m ∷ ms) name = if bytes_eq m.name name then Some m.ty else type_among ms name

-- the parts of a pair, and the members of a struct
abbrev pub member_at : Structs → List ℕ → Ty-F Ty → Option Ty
member_at structs name (type.Pair t u) =
    if bytes_eq name (codes "left") then Some t else (if bytes_eq name (codes "right") then Some u else None)
member_at structs name (type.Struct s) = option_and_then (λ ms. type_among ms name) (members_of structs s)
member_at structs name t = None

abbrev pub member_type : Structs → List ℕ → Ty → Option Ty
member_type structs name t = member_at structs name (out-Ty t)

-- the items of an array by their numbers, the values of a map by their keys
abbrev pub at_of : Ty → Ty-F Ty → Option Ty
at_of index (type.Array t some) = when (is_int index) t
at_of index (type.Map k t) = when (same_type index k) t
at_of index t = None

abbrev pub at_type : Ty → Ty → Option Ty
at_type t index = at_of index (out-Ty t)

abbrev pub exact_row : Ty → Ty → OpTyping → Option Ty
exact_row t u row = when (same_type row.left t && same_type row.right u) row.result

-- `AddMaybe` alone has a meaning of its own in a placeholder
abbrev pub is_maybe : Op → Bool
is_maybe op.AddMaybe = true
is_maybe o = false

abbrev pub binary_type : Op → Bool → Ty → Ty → Option Ty
binary_type o placeholder t u = option_and_then (exact_row t u) (operator_type o t u (is_maybe o && placeholder))

abbrev pub list_type : List Ty → Option Ty
list_type [] = Some (ty.Array ty.Empty false)
list_type (t ∷ ts) = when (all_same t ts) (ty.Array t true)

abbrev pub map_type : List Ty → List Ty → Option Ty
map_type [] [] = Some (ty.Map ty.Empty ty.Empty)
map_type (k ∷ ks) (t ∷ ts) = when (is_plain k && all_same k ks && all_same t ts) (ty.Map k t)
map_type ks ts = None

abbrev pub is_type : Option Ty → Ty → Bool
is_type None t = false
is_type (Some u) t = same_type u t

-- the members of the struct, in their order and of their types
abbrev pub fields_have : List (TField (Option Ty)) → List Member → Bool
fields_have [] [] = true
fields_have [] (m ∷ ms) = false
fields_have (f ∷ fs) [] = false
fields_have (f ∷ fs) (m ∷ ms) = bytes_eq f.name m.name && is_type f.value m.ty && fields_have fs ms

abbrev pub struct_type : Structs → List ℕ → List (TField (Option Ty)) → Option Ty
struct_type structs name fields = option_and_then (λ ms. when (fields_have fields ms) (ty.Struct name)) (members_of structs name)

abbrev pub exact_args : List Ty → FuncTyping → Option Ty
exact_args ts row = when (are_same row.args ts) row.result

-- The functions that write files have no type here: where they may stand they are typed with their place.
abbrev pub apply_type : Bool → Func → List Ty → Option Ty
apply_type outputs f ts = if writes f || reads f && not outputs then None else option_and_then (exact_args ts) (function_type f ts)

abbrev pub scalar_items : Ty-F Ty → Bool
scalar_items (type.Array t some) = is_scalar t
scalar_items t = false

-- which types a placeholder takes, by its option
abbrev pub hole_takes : Choice → Ty → Bool
hole_takes choice.Plain t = is_absent t || is_scalar (bare t)
hole_takes (choice.Sep s) t = scalar_items (out-Ty t)
hole_takes (choice.Both first second) t = is_bool (bare t)
hole_takes (choice.Default s) t = is_scalar (bare t)

abbrev pub takes_some : Choice → Option Ty → Bool
takes_some c None = false
takes_some c (Some t) = hole_takes c t

abbrev pub parts_typed : List (TPart Typing) → Bool
parts_typed [] = true
parts_typed (part.Chars s ∷ parts) = parts_typed parts
parts_typed (part.Hole h ∷ parts) = takes_some h.choice (h.expr true) && parts_typed parts

abbrev pub keys_in : List (TPair Typing) → Bool → List (Option Ty)
keys_in [] placeholder = []
keys_in (r ∷ rows) placeholder = r.key placeholder ∷ keys_in rows placeholder

abbrev pub values_in : List (TPair Typing) → Bool → List (Option Ty)
values_in [] placeholder = []
values_in (r ∷ rows) placeholder = r.value placeholder ∷ values_in rows placeholder

abbrev pub fields_in : List (TField Typing) → Bool → List (TField (Option Ty))
fields_in [] placeholder = []
fields_in (f ∷ fs) placeholder = record { name = f.name; value = f.value placeholder } ∷ fields_in fs placeholder

abbrev pub items_in : List Typing → Bool → List (Option Ty)
items_in [] placeholder = []
items_in (f ∷ fs) placeholder = f placeholder ∷ items_in fs placeholder

abbrev pub type_step : Context → TExpr-F Typing → Typing
type_step c (layer.Lit x) p = literal_type x
type_step c (layer.Get key) p = type_in c.names key
type_step c (layer.Member f name) p = option_and_then (member_type c.structs name) (f p)
type_step c (layer.At f g) p = both at_type (f p) (g p)
type_step c (layer.Not f) p = option_and_then (λ t. when (is_bool t) ty.Bool) (f p)
type_step c (layer.Neg f) p = option_and_then (λ t. when (is_int t) ty.Int) (f p)
type_step c (layer.Binary o f g) p = both (binary_type o p) (f p) (g p)
type_step c (layer.Choose d f g) p = option_and_then (λ b. both (λ t u. when (is_bool b && same_type t u) t) (f p) (g p)) (d p)
type_step c (layer.ListOf fs) p = option_and_then list_type (all_types (items_in fs p))
type_step c (layer.MapOf rows) p =
    option_and_then (λ ks. option_and_then (λ ts. map_type ks ts) (all_types (values_in rows p))) (all_types (keys_in rows p))
type_step c (layer.PairOf f g) p = both (λ t u. Some (ty.Pair t u)) (f p) (g p)
type_step c (layer.StructOf name fields) p = struct_type c.structs name (fields_in fields p)
type_step c (layer.Apply f fs) p = option_and_then (apply_type c.outputs f) (all_types (items_in fs p))
type_step c (layer.Strung parts) p = when (parts_typed parts) ty.Str
type_step c (layer.Cast f u) p = option_and_then (λ t. when (coerces t u) u) (f p)

-- the type of an expression in a context, outside a placeholder and in one
abbrev pub type_of : Context → TExpr → Bool → Option Ty
type_of c = fold-TExpr Typing (type_step c)
