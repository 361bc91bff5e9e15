-- Types, casts, references and literals of the subset.
use Rattle.std.specs.Prelude.{ℕ, ◌==◌, nat_le, ℤ, pos, Bool, true, false, not, ◌&&◌, ◌||◌, List, [], ◌∷◌, Option, Some, None, length, codes}
use Rattle.std.specs.Char.{is_ascii_alphanumeric}
use Rattle.std.specs.List.{list_all, list_any}
use Rattle.std.specs.Str.{bytes_eq}
use Rattle.wdl_base.specs.declared.name.Key.{Key}
use Rattle.wdl_value.specs.declared.operator.Func.{Func}
use Rattle.wdl_value.specs.declared.operator.Func.TheVariants as func
use Rattle.wdl_value.specs.declared.ty.Ty.{Ty, Ty-F, fold-Ty, out-Ty}
use Rattle.wdl_value.specs.declared.ty.Ty.TheOpen as type
use Rattle.wdl_value.specs.declared.value.Value.{Value, Value-F, out-Value}
use Rattle.wdl_value.specs.declared.value.Value.TheOpen as value
use Rattle.wdl_value.specs.Bare.{bare}
use Rattle.wdl_value.specs.Coerces.{opt_coerces}
use Rattle.wdl_value.specs.Kinds.{file_at}
use Rattle.wdl_value.specs.RecurType.{recur_type}
use Rattle.wdl_value.specs.SameType.{TypeTest, same_type}
use Rattle.wdl_typed.specs.declared.expr.TExpr.{TExpr, TExpr-F, fold-TExpr, out-TExpr, para-TExpr}
use Rattle.wdl_typed.specs.declared.expr.TExpr.TheOpen as layer
use Rattle.wdl_typed.specs.declared.expr.TField.{TField}
use Rattle.wdl_typed.specs.declared.expr.TPair.{TPair}
use Rattle.wdl_typed.specs.declared.expr.TPart.{TPart}
use Rattle.wdl_typed.specs.declared.expr.TPart.TheVariants as part
use Rattle.wdl_typed.specs.declared.scope.Bound.{Bound}
use Rattle.wdl_typed.specs.Declarations.{output_context, type_in_place}
use Rattle.wdl_typed.specs.KnownTypes.{is_some}
use Rattle.wdl_typed.specs.Lists.{has_name}
use Rattle.wdl_typed.specs.Typing.{Context}
use Rattle.wdl_value.specs.Fits.{Structs}
use Rattle.cwl_image.specs.declared.literal.Literal.{Literal}
use Rattle.cwl_image.specs.Image.{negated, reference}

-- ---- types

abbrev pub simple_step : Ty-F Bool → Bool
simple_step type.Bool = true
simple_step type.Int = true
simple_step type.Str = true
simple_step type.File = true
simple_step (type.Array item some) = item
simple_step (type.Opt inner) = inner
simple_step t = false

-- Int, String, Boolean, File, arrays and optionals of these
abbrev pub is_simple : Ty → Bool
is_simple = fold-Ty Bool simple_step

abbrev pub default_step : Ty-F Bool → Bool
default_step type.Bool = true
default_step type.Int = true
default_step type.Str = true
default_step (type.Array item some) = item
default_step t = false

-- Int, String, Boolean and arrays of these
abbrev pub takes_default : Ty → Bool
takes_default = fold-Ty Bool default_step

-- ---- casts

-- an array is an array of what its items are cast to, and may lose its `+`
abbrev pub array_widens : TypeTest → Bool → Ty-F Ty → Bool
array_widens f some (type.Array u also) = f u && (some || not also)
array_widens f some u = false

abbrev pub widens_step : Ty → Ty-F TypeTest → TypeTest
widens_step t (type.Opt f) u = opt_coerces f (out-Ty u)
widens_step t (type.Array f some) u = array_widens f some (out-Ty (bare u))
widens_step t other u = same_type t (bare u)

-- A cast from the first type to the second makes T to `T?` and `Array[T]+` to `Array[T]` alone, also inside arrays and
-- optionals.
unfoldable pub widens : Ty → Ty → Bool
widens = recur_type TypeTest widens_step

abbrev pub some_widens : Option Ty → Ty → Bool
some_widens None u = false
some_widens (Some t) u = widens t u

-- a test of an expression, by whether it stands in a placeholder
abbrev pub Placing : Type 0
Placing = Bool → Bool

abbrev pub items_hold : List (TExpr × Placing) → Placing
items_hold [] p = true
items_hold (e ∷ es) p = e.1 p && items_hold es p

abbrev pub rows_hold : List (TPair (TExpr × Placing)) → Placing
rows_hold [] p = true
rows_hold (r ∷ rows) p = r.key.1 p && r.value.1 p && rows_hold rows p

abbrev pub fields_hold : List (TField (TExpr × Placing)) → Placing
fields_hold [] p = true
fields_hold (f ∷ fs) p = f.value.1 p && fields_hold fs p

abbrev pub parts_hold : List (TPart (TExpr × Placing)) → Bool
parts_hold [] = true
parts_hold (part.Chars s ∷ parts) = parts_hold parts
parts_hold (part.Hole h ∷ parts) = h.expr.1 true && parts_hold parts

abbrev pub casts_step : Context → TExpr-F (TExpr × Placing) → Placing
casts_step c (layer.Lit x) p = true
casts_step c (layer.Get key) p = true
casts_step c (layer.Member a name) p = a.1 p
casts_step c (layer.At a b) p = a.1 p && b.1 p
casts_step c (layer.Not a) p = a.1 p
casts_step c (layer.Neg a) p = a.1 p
casts_step c (layer.Binary o a b) p = a.1 p && b.1 p
casts_step c (layer.Choose d a b) p = d.1 p && a.1 p && b.1 p
casts_step c (layer.ListOf es) p = items_hold es p
casts_step c (layer.MapOf rows) p = rows_hold rows p
casts_step c (layer.PairOf a b) p = a.1 p && b.1 p
casts_step c (layer.StructOf name fields) p = fields_hold fields p
casts_step c (layer.Apply f es) p = items_hold es p
casts_step c (layer.Strung parts) p = parts_hold parts
casts_step c (layer.Cast a u) p = some_widens (type_in_place c a.0 p) u && a.1 p

-- each cast in the expression, by the type of what it casts
unfoldable pub casts_widen : Context → TExpr → Placing
casts_widen c = para-TExpr Placing (casts_step c)

-- The same where these names are seen, wherever the expression stands.
abbrev pub are_allowed : Structs → List Bound → TExpr → Placing
are_allowed structs names = casts_widen (output_context structs names)

abbrev pub default_allowed : Structs → List Bound → Option TExpr → Bool
default_allowed structs names None = true
default_allowed structs names (Some e) = are_allowed structs names e false

-- ---- references

abbrev pub is_call_output : Option Key → Bool
is_call_output None = false
is_call_output (Some k) = is_some k.second

-- an input, a scatter item, or an output of a call; no name that the body declares
abbrev pub is_source : List (List ℕ) → Option Key → Bool
is_source declared None = false
is_source declared (Some k) = is_some k.second || not (has_name k.first declared)

-- A reference may stand under casts that are allowed.
abbrev pub refers : Structs → List (List ℕ) → List Bound → TExpr → Bool
refers structs declared names e = is_source declared (reference e) && are_allowed structs names e false

abbrev pub refers_to_output : Structs → List Bound → TExpr → Bool
refers_to_output structs names e = is_call_output (reference e) && are_allowed structs names e false

-- ---- literals

abbrev pub number_at : Value-F Value → Option ℤ
number_at (value.Int n) = Some n
number_at x = None

abbrev pub is_written_at : Value-F Value → Bool
is_written_at (value.Bool b) = true
is_written_at (value.Int n) = true
is_written_at (value.Str s) = true
is_written_at x = false

-- `-` before an Int literal that is not negative
abbrev pub minus : Option ℤ → Option ℤ
minus (Some (pos n)) = Some (negated (pos n))
minus n = None

abbrev pub is_zero : Option ℤ → Bool
is_zero (Some (pos n)) = n == 0
is_zero n = false

abbrev pub no_literal : Literal
no_literal = record { number = None; is_literal = false; are_codes = false }

abbrev pub literal_in : Value-F Value → Literal
literal_in x = record { number = number_at x; is_literal = is_written_at x; are_codes = false }

abbrev pub number_literal : Option ℤ → Literal
number_literal n = record { number = n; is_literal = is_some n; are_codes = false }

abbrev pub list_literal : List Literal → Literal
list_literal ls =
    record {
      number = None;
      is_literal = list_all (λ (l : Literal). l.is_literal) ls;
      are_codes =
          nat_le (length ls) 256
          && list_all (λ (l : Literal). is_some l.number) ls
          && list_any (λ (l : Literal). is_zero l.number) ls;
    }

abbrev pub literal_step : TExpr-F Literal → Literal
literal_step (layer.Lit x) = literal_in (out-Value x)
literal_step (layer.Neg l) = number_literal (minus l.number)
literal_step (layer.ListOf ls) = list_literal ls
literal_step (layer.Cast l t) = l
literal_step y = no_literal

-- what an expression is as a literal, casts aside
abbrev pub literal_of : TExpr → Literal
literal_of = fold-TExpr Literal literal_step

-- ---- outputs of tasks

abbrev pub is_file_type : Ty → Bool
is_file_type t = file_at (out-Ty t)

-- a letter, a digit, `.`, `_` or `-`
abbrev pub is_file_char : ℕ → Bool
is_file_char c = is_ascii_alphanumeric c || c == 46 || c == 95 || c == 45

-- the names that the job's directory has for other things
abbrev pub is_taken : List ℕ → Bool
is_taken s = bytes_eq s (codes "cwl.output.json") || bytes_eq s (codes "_stdout") || bytes_eq s (codes "_stderr")

abbrev pub is_file_name : List ℕ → Bool
is_file_name s = list_all is_file_char s && list_any is_ascii_alphanumeric s && not (is_taken s)

abbrev pub names_file_at : Value-F Value → Bool
names_file_at (value.Str s) = is_file_name s
names_file_at x = false

abbrev pub is_stdout : Func → Bool
is_stdout func.Stdout = true
is_stdout f = false

abbrev pub file_step : TExpr-F Bool → Bool
file_step (layer.Lit x) = names_file_at (out-Value x)
file_step (layer.Apply f es) = is_stdout f
file_step (layer.Cast b t) = b
file_step y = false

-- `stdout()`, or the name of a file, casts aside
abbrev pub is_file : TExpr → Bool
is_file = fold-TExpr Bool file_step

abbrev pub is_text_at : Value-F Value → Bool
is_text_at (value.Str s) = true
is_text_at x = false

abbrev pub is_text_layer : TExpr-F TExpr → Bool
is_text_layer (layer.Lit x) = is_text_at (out-Value x)
is_text_layer y = false

-- a string literal under its cast to File
abbrev pub is_file_literal : TExpr-F TExpr → Bool
is_file_literal (layer.Cast a t) = is_text_layer (out-TExpr a) && is_file_type t
is_file_literal y = false

-- The cast of an output's string to File is left out of account.
abbrev pub output_allowed : Structs → List Bound → TExpr → Bool
output_allowed structs names e = is_file_literal (out-TExpr e) || are_allowed structs names e false
