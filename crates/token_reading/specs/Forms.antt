-- The forms of WDL 1.1 that are left out, and their codes.
use Rattle.std.specs.Prelude.{ℕ, Bool, false, ◌==◌, ◌||◌, ◌&&◌, if◌then◌else◌, List, [], ◌∷◌, Option, Some, None, codes}
use Rattle.std.specs.Str.{bytes_eq}
use Rattle.wdl_ast.specs.declared.token.Mark.TheVariants as mark
use Rattle.wdl_ast.specs.declared.token.Kind.{Kind}
use Rattle.wdl_ast.specs.declared.token.Kind.TheVariants as kind
use Rattle.wdl_ast.specs.Words.{Words}
use Rattle.token_reading.specs.Outcome.{is_mark}

-- functions that give a fraction
abbrev pub gives_fraction : List ℕ → Bool
gives_fraction n = bytes_eq n (codes "floor") || bytes_eq n (codes "ceil") || bytes_eq n (codes "round") || bytes_eq n (codes "size") || bytes_eq n (codes "read_float")

-- functions of objects
abbrev pub takes_object : List ℕ → Bool
takes_object n = bytes_eq n (codes "read_object") || bytes_eq n (codes "read_objects") || bytes_eq n (codes "write_object") || bytes_eq n (codes "write_objects")

abbrev pub takes_json : List ℕ → Bool
takes_json n = bytes_eq n (codes "read_json") || bytes_eq n (codes "write_json")

-- the code of a function that is left out
abbrev pub left_out : List ℕ → Option ℕ
left_out n =
    if gives_fraction n then Some 120
    else if takes_object n then Some 121
    else if bytes_eq n (codes "sub") then Some 122
    else if takes_json n then Some 123
    else None

abbrev pub is_code : ℕ → Option ℕ → Bool
is_code c (Some d) = d == c
is_code c None = false

abbrev pub is_open_paren : Words → Bool
is_open_paren [] = false
is_open_paren (t ∷ ts) = is_mark mark.OpenParen t.kind

-- whether a form of that code stands here as an expression, before these tokens: a fraction, the word object, or the call of a function that is
-- left out
abbrev pub expr_form : ℕ → Kind → Words → Bool
expr_form c (kind.Frac w) ts = c == 120
expr_form c (kind.Word w) ts = (c == 121 && bytes_eq w (codes "object")) || (is_open_paren ts && is_code c (left_out w))
expr_form c _ ts = false

-- the same as a type: Float or Object
abbrev pub type_form : ℕ → Kind → Bool
type_form c (kind.Word w) = (c == 120 && bytes_eq w (codes "Float")) || (c == 121 && bytes_eq w (codes "Object"))
type_form c _ = false
