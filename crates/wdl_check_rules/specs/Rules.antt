-- The rule of each form of expression, given its typed parts: its type and its typed expression, or nothing (OpenWDL
-- 1.1, "Expressions"). A part whose type differs from the one that is asked for stands under a cast.
use Rattle.std.specs.Prelude.{ℕ, ℤ, Bool, true, false, List, [], ◌∷◌, ◌++◌, Option, Some, None, option_map, option_and_then, if◌then◌else◌, map}
use Rattle.wdl_base.specs.declared.name.Key.{Key}
use Rattle.wdl_value.specs.declared.operator.Func.{Func}
use Rattle.wdl_value.specs.declared.operator.Op.{Op}
use Rattle.wdl_value.specs.declared.operator.Op.TheVariants as op
use Rattle.wdl_value.specs.declared.ty.Ty.{Ty, Ty-F, out-Ty}
use Rattle.wdl_value.specs.declared.ty.Ty.TheVariants as ty
use Rattle.wdl_value.specs.declared.ty.Ty.TheOpen as type
use Rattle.wdl_value.specs.declared.typing.FuncTyping.{FuncTyping}
use Rattle.wdl_value.specs.declared.typing.OpTyping.{OpTyping}
use Rattle.wdl_value.specs.declared.value.Value.{Value}
use Rattle.wdl_value.specs.declared.value.Value.TheVariants as v
use Rattle.wdl_value.specs.Coerces.{coerces}
use Rattle.wdl_value.specs.Fits.{Structs, is_int as in_range}
use Rattle.wdl_value.specs.FunctionTypes.{function_type, is_plain}
use Rattle.wdl_value.specs.Join.{join}
use Rattle.wdl_value.specs.Kinds.{is_bool, is_int}
use Rattle.wdl_value.specs.OperatorTypes.{operator_type}
use Rattle.wdl_value.specs.SameType.{same_type}
use Rattle.wdl_ast.specs.declared.expr.BinaryOperator.{BinaryOperator}
use Rattle.wdl_ast.specs.declared.expr.BinaryOperator.TheVariants as binary
use Rattle.wdl_ast.specs.declared.expr.UnaryOperator.{UnaryOperator}
use Rattle.wdl_ast.specs.declared.expr.UnaryOperator.TheVariants as unary
use Rattle.wdl_ast.specs.declared.leaf.Chars.{Chars}
use Rattle.wdl_ast.specs.declared.string.PlaceholderOption.{PlaceholderOption}
use Rattle.wdl_ast.specs.declared.string.PlaceholderOptions.{PlaceholderOptions}
use Rattle.wdl_ast.specs.declared.string.PlaceholderOptions.TheVariants as options
use Rattle.wdl_ast.specs.declared.string.StringPart.{StringPart}
use Rattle.wdl_ast.specs.declared.string.StringPart.TheVariants as part
use Rattle.wdl_typed.specs.declared.expr.Choice.{Choice}
use Rattle.wdl_typed.specs.declared.expr.Choice.TheVariants as choice
use Rattle.wdl_typed.specs.declared.expr.TExpr.{TExpr}
use Rattle.wdl_typed.specs.declared.expr.TExpr.TheVariants as te
use Rattle.wdl_typed.specs.declared.expr.TPair.{TPair}
use Rattle.wdl_typed.specs.declared.expr.TPart.{TPart}
use Rattle.wdl_typed.specs.declared.expr.TPart.TheVariants as tp
use Rattle.wdl_typed.specs.declared.scope.Bound.{Bound}
use Rattle.wdl_typed.specs.Scope.{type_in}
use Rattle.wdl_typed.specs.Typing.{hole_takes, member_type}
use Rattle.wdl_check_rules.specs.declared.typed.Typed.{Typed}

abbrev pub typing : TExpr → Ty → Typed
typing e t = record { expr = e; ty = t }

abbrev pub or_else : {A : Type 0} → Option A → Option A → Option A
or_else (Some a) o = Some a
or_else None o = o

abbrev pub cast_to : Typed → Ty → TExpr
cast_to x t = if same_type x.ty t then x.expr else te.Cast x.expr t

-- under a cast to a type, where it coerces to that
abbrev pub coerced : Typed → Ty → Option TExpr
coerced x t = if coerces x.ty t then Some (cast_to x t) else None

-- ---- literals and names

abbrev pub literal : Value → Ty → Typed
literal x t = typing (te.Lit x) t

-- a number of 64 bits; a document has no other
abbrev pub int_literal : ℤ → Option Typed
int_literal n = if in_range n then Some (literal (v.Int n) ty.Int) else None

abbrev pub key_of : List ℕ → Option (List ℕ) → Key
key_of first second = record { first = first; second = second }

abbrev pub named : List Bound → Key → Option Typed
named names key = option_map (λ t. typing (te.Get key) t) (type_in names key)

-- `call.output` is one name, where the scope has it
abbrev pub output_named : List Bound → Option (List ℕ) → List ℕ → Option Typed
output_named names None m = None
output_named names (Some x) m = named names (key_of x (Some m))

-- ---- members and items

abbrev pub member_of : Structs → List ℕ → Typed → Option Typed
member_of structs m x = option_map (λ t. typing (te.Member x.expr m) t) (member_type structs m x.ty)

-- an array takes an Int, a map what coerces to its keys
abbrev pub array_item : TExpr → Ty → Typed → Option Typed
array_item e t i = if is_int i.ty then Some (typing (te.At e i.expr) t) else None

abbrev pub map_item : TExpr → Ty → Ty → Typed → Option Typed
map_item e k t i = option_map (λ key. typing (te.At e key) t) (coerced i k)

abbrev pub item_at : TExpr → Typed → Ty-F Ty → Option Typed
item_at e i (type.Array t some) = array_item e t i
item_at e i (type.Map k t) = map_item e k t i
item_at e i t = None

abbrev pub item_of : Typed → Typed → Option Typed
item_of x i = item_at x.expr i (out-Ty x.ty)

-- ---- operators

abbrev pub unary_of : UnaryOperator → Typed → Option Typed
unary_of unary.Not x = if is_bool x.ty then Some (typing (te.Not x.expr) ty.Bool) else None
unary_of unary.Negate x = if is_int x.ty then Some (typing (te.Neg x.expr) ty.Int) else None
unary_of unary.Plus x = if is_int x.ty then Some x else None

abbrev pub op_of : BinaryOperator → Op
op_of binary.Or = op.Or
op_of binary.And = op.And
op_of binary.Equal = op.Eq
op_of binary.NotEqual = op.Ne
op_of binary.Less = op.Lt
op_of binary.LessEqual = op.Le
op_of binary.Greater = op.Gt
op_of binary.GreaterEqual = op.Ge
op_of binary.Add = op.Add
op_of binary.Subtract = op.Sub
op_of binary.Multiply = op.Mul
op_of binary.Divide = op.Div
op_of binary.Remainder = op.Rem

-- in a placeholder, `+` with an operand that may be undefined is `AddMaybe`
abbrev pub maybe_row : Op → Ty → Ty → Bool → Option (Op × OpTyping)
maybe_row op.Add t u placeholder = option_map (λ r. (op.AddMaybe, r)) (operator_type op.AddMaybe t u placeholder)
maybe_row o t u placeholder = None

-- the operator with its row of the table
abbrev pub row_of : Op → Ty → Ty → Bool → Option (Op × OpTyping)
row_of o t u placeholder = or_else (option_map (λ r. (o, r)) (operator_type o t u false)) (maybe_row o t u placeholder)

abbrev pub by_row : Typed → Typed → Op × OpTyping → Typed
by_row x y r = typing (te.Binary r.0 (cast_to x r.1.left) (cast_to y r.1.right)) r.1.result

abbrev pub binary_of : BinaryOperator → Bool → Typed → Typed → Option Typed
binary_of o placeholder x y = option_map (by_row x y) (row_of (op_of o) x.ty y.ty placeholder)

abbrev pub condition_of : Typed → Option TExpr
condition_of c = if is_bool c.ty then Some c.expr else None

abbrev pub choose_of : TExpr → Typed → Typed → Option Typed
choose_of c x y = option_map (λ t. typing (te.Choose c (cast_to x t) (cast_to y t)) t) (join x.ty y.ty)

-- ---- collections

abbrev pub type_of_part : Typed → Ty
type_of_part x = x.ty

abbrev pub types_of : List Typed → List Ty
types_of = map type_of_part

-- the join with all of these, from left to right
abbrev pub join_all : Ty → List Ty → Option Ty
join_all t [] = Some t
join_all t (u ∷ us) = option_and_then (λ j. join_all j us) (join t u)

abbrev pub cast_all : Ty → List Typed → List TExpr
cast_all t [] = []
cast_all t (x ∷ xs) = cast_to x t ∷ cast_all t xs

abbrev pub has_items : {A : Type 0} → List A → Bool
has_items [] = false
has_items (a ∷ as_) = true

-- the items' type is the join of all, which of none is Empty
abbrev pub list_of : List Typed → Option Typed
list_of xs = option_map (λ t. typing (te.ListOf (cast_all t xs)) (ty.Array t (has_items xs))) (join_all ty.Empty (types_of xs))

abbrev pub key_types : List (TPair Typed) → List Ty
key_types [] = []
key_types (r ∷ rows) = r.key.ty ∷ key_types rows

abbrev pub value_types : List (TPair Typed) → List Ty
value_types [] = []
value_types (r ∷ rows) = r.value.ty ∷ value_types rows

abbrev pub cast_row : Ty → Ty → TPair Typed → TPair TExpr
cast_row k t r = record { key = cast_to r.key k; value = cast_to r.value t }

abbrev pub cast_rows : Ty → Ty → List (TPair Typed) → List (TPair TExpr)
cast_rows k t [] = []
cast_rows k t (r ∷ rows) = cast_row k t r ∷ cast_rows k t rows

abbrev pub keys_join : List (TPair Typed) → Option Ty
keys_join rows = join_all ty.Empty (key_types rows)

abbrev pub values_join : List (TPair Typed) → Option Ty
values_join rows = join_all ty.Empty (value_types rows)

abbrev pub plain_key : Ty → Option Ty
plain_key k = if is_plain k then Some k else None

abbrev pub map_with : List (TPair Typed) → Ty → Ty → Typed
map_with rows k t = typing (te.MapOf (cast_rows k t rows)) (ty.Map k t)

abbrev pub map_of : List (TPair Typed) → Option Typed
map_of rows =
    option_and_then (λ k. option_map (λ t. map_with rows k t) (values_join rows)) (option_and_then plain_key (keys_join rows))

abbrev pub pair_of : Typed → Typed → Typed
pair_of x y = typing (te.PairOf x.expr y.expr) (ty.Pair x.ty y.ty)

-- ---- functions

abbrev pub cast_args : List Ty → List Typed → List TExpr
cast_args [] xs = []
cast_args (t ∷ ts) [] = []
cast_args (t ∷ ts) (x ∷ xs) = cast_to x t ∷ cast_args ts xs

abbrev pub applied : Func → List Typed → FuncTyping → Typed
applied f xs row = typing (te.Apply f (cast_args row.args xs)) row.result

abbrev pub apply_of : Func → List Typed → Option Typed
apply_of f xs = option_map (applied f xs) (function_type f (types_of xs))

-- ---- strings

abbrev pub text_of : Option Chars → List ℕ
text_of None = []
text_of (Some c) = c.text

abbrev pub option_text : PlaceholderOption → List ℕ
option_text o = text_of o.value.chars

abbrev pub choice_of : PlaceholderOptions → Choice
choice_of options.Plain = choice.Plain
choice_of (options.Sep o) = choice.Sep (option_text o)
choice_of (options.Default o) = choice.Default (option_text o)
choice_of (options.TrueFalse o q) = choice.Both (option_text o) (option_text q)
choice_of (options.FalseTrue o q) = choice.Both (option_text q) (option_text o)

abbrev pub hole_of : Choice → Typed → Option (TPart TExpr)
hole_of c x = if hole_takes c x.ty then Some (tp.Hole (record { expr = x.expr; choice = c })) else None

-- the text of a string without a placeholder
abbrev pub plain_text : {E : Type 0} → List (StringPart E) → Option (List ℕ)
plain_text [] = Some []
plain_text (part.Chars c ∷ ps) = option_map (λ t. c.text ++ t) (plain_text ps)
plain_text (part.Placeholder h ∷ ps) = None

abbrev pub string_literal : List ℕ → Typed
string_literal s = literal (v.Str s) ty.Str

abbrev pub strung : List (TPart TExpr) → Typed
strung parts = typing (te.Strung parts) ty.Str
