-- What declarations and blocks give out.
use Rattle.std.specs.Prelude.{ℕ, Bool, false, List, [], ◌∷◌, Option, Some, None, option_and_then}
use Rattle.wdl_value.specs.declared.ty.Ty.{Ty, Ty-F, out-Ty}
use Rattle.wdl_value.specs.declared.ty.Ty.TheOpen as type
use Rattle.wdl_value.specs.Fits.{Structs}
use Rattle.wdl_value.specs.Kinds.{is_bool}
use Rattle.wdl_typed.specs.declared.expr.TExpr.{TExpr}
use Rattle.wdl_typed.specs.declared.flow.Statement.{Statement}
use Rattle.wdl_typed.specs.declared.scope.Bound.{Bound}
use Rattle.wdl_typed.specs.declared.task.TDecl.{TDecl}
use Rattle.wdl_typed.specs.Bodies.{Giving, Library, Seen, body_gives, if_over, scatter_over}
use Rattle.wdl_typed.specs.Declarations.{bound, in_body}

abbrev pub declared : TDecl → Seen
declared d = record { names = bound d.name d.ty ∷ []; calls = [] }

-- the item type of an array, and whether it has `+`
abbrev pub items_at : Ty-F Ty → Option (Ty × Bool)
items_at (type.Array t some) = Some (t, some)
items_at t = None

abbrev pub items_of : Structs → List Bound → TExpr → Option (Ty × Bool)
items_of structs names over = option_and_then (λ t. items_at (out-Ty t)) (in_body structs names over)

abbrev pub bool_type : Option Ty → Bool
bool_type None = false
bool_type (Some t) = is_bool t

abbrev pub is_condition : Structs → List Bound → TExpr → Bool
is_condition structs names e = bool_type (in_body structs names e)

abbrev pub scatter_gives : Library → List Statement → List ℕ → TExpr → Giving
scatter_gives lib body item over seen =
    option_and_then (λ t. scatter_over item (body_gives lib body) seen (out-Ty t)) (in_body lib.structs seen.names over)

abbrev pub if_gives : Library → List Statement → TExpr → Giving
if_gives lib body cond seen = option_and_then (if_over (body_gives lib body) seen) (in_body lib.structs seen.names cond)
