-- The types of lists of expressions, and of those that may write a file.
use Rattle.std.specs.Prelude.{ℕ, Bool, List, Option, None, option_and_then, if◌then◌else◌, map}
use Rattle.wdl_value.specs.declared.operator.Func.{Func}
use Rattle.wdl_value.specs.declared.ty.Member.{Member}
use Rattle.wdl_value.specs.declared.ty.Ty.{Ty}
use Rattle.wdl_value.specs.FunctionTypes.{function_type, writes}
use Rattle.wdl_typed.specs.declared.expr.TExpr.{TExpr, fold-TExpr}
use Rattle.wdl_typed.specs.declared.expr.TField.{TField}
use Rattle.wdl_typed.specs.declared.expr.TPair.{TPair}
use Rattle.wdl_typed.specs.declared.expr.TPart.{TPart}
use Rattle.wdl_typed.specs.Declarations.{Placed, placed_step}
use Rattle.wdl_typed.specs.Typing.{Context, Typing, all_types, exact_args, fields_have, fields_in, items_in, keys_in, parts_typed, struct_type, type_of, values_in}
use Rattle.wdl_typing.specs.Pieces.{parts_of}
use Rattle.wdl_typing.specs.declared.typing.Context.{Context as Seeing}

abbrev pub context_of : Seeing → Context
context_of s = record { structs = s.structs.now; names = s.names.now; outputs = s.outputs }

abbrev pub items_types : Context → List TExpr → Bool → Option (List Ty)
items_types c es p = all_types (items_in (map (type_of c) es) p)

abbrev pub typed_row : Context → TPair TExpr → TPair Typing
typed_row c r = record { key = type_of c r.key; value = type_of c r.value }

abbrev pub key_types : Context → List (TPair TExpr) → Bool → Option (List Ty)
key_types c rows p = all_types (keys_in (map (typed_row c) rows) p)

abbrev pub value_types : Context → List (TPair TExpr) → Bool → Option (List Ty)
value_types c rows p = all_types (values_in (map (typed_row c) rows) p)

abbrev pub typed_field : Context → TField TExpr → TField Typing
typed_field c f = record { name = f.name; value = type_of c f.value }

abbrev pub fields_fit : Context → List (TField TExpr) → List Member → Bool → Bool
fields_fit c fields ms p = fields_have (fields_in (map (typed_field c) fields) p) ms

abbrev pub parts_fit : Context → List (TPart TExpr) → Bool
parts_fit c parts = parts_typed (parts_of (type_of c) parts)

abbrev pub literal_type : Context → List ℕ → List (TField TExpr) → Bool → Option Ty
literal_type c name fields p = struct_type c.structs name (fields_in (map (typed_field c) fields) p)

-- the type of a call of a function that writes a file
abbrev pub write_call : Context → Func → List TExpr → Bool → Option Ty
write_call c f es p =
    if writes f then option_and_then (λ ts. option_and_then (exact_args ts) (function_type f ts)) (items_types c es p) else None

-- the same, casts round the call aside
abbrev pub write_type : Context → TExpr → Bool → Option Ty
write_type c e p = (fold-TExpr Placed (placed_step c) e).write p
