-- What is true of every typing.
use Rattle.std.specs.Prelude.{◌≡◌, Bool, Some}
use Rattle.wdl_value.specs.declared.ty.Ty.{Ty}
use Rattle.wdl_ast.specs.declared.expr.Expr.{Expr}
use Rattle.wdl_typed.specs.declared.expr.TExpr.{TExpr}
use Rattle.wdl_typed.specs.Typing.{Context, type_of}
use Rattle.wdl_check_rules.specs.Scopes.{Scope}
use Rattle.wdl_check_rules.specs.declared.typed.Typed.{Typed}
use Rattle.wdl_check_rules.specs.Typed.{typed_at, typed_as}

abbrev pub context : Scope → Context
context s = record { structs = s.structs; names = s.names; outputs = s.outputs }

-- the typed tree of an expression is well typed in the scope, and has the type that the expression has
abbrev pub WellTyped : Type 0
WellTyped = (s : Scope) (e : Expr) (p : Bool) (x : Typed) → typed_at s e p ≡ Some x → type_of (context s) x.expr p ≡ Some x.ty

-- under the cast to a type it has that type
abbrev pub WellCast : Type 0
WellCast = (s : Scope) (e : Expr) (t : Ty) (x : TExpr) → typed_as s e t ≡ Some x → type_of (context s) x s.placeholder ≡ Some t
