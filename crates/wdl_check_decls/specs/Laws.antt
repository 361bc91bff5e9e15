-- What is true of every expression, input and declaration that is typed: each is well typed where it stands.
use Rattle.std.specs.Prelude.{◌≡◌, Bool, true, false, ◌&&◌, List, [], Option, Some}
use Rattle.wdl_value.specs.declared.ty.Ty.{Ty}
use Rattle.wdl_value.specs.Fits.{Structs}
use Rattle.wdl_ast.specs.declared.expr.Expr.{Expr}
use Rattle.wdl_ast.specs.declared.section.Declaration.{Declaration}
use Rattle.wdl_ast.specs.declared.section.InputDeclaration.{InputDeclaration}
use Rattle.wdl_typed.specs.declared.expr.TExpr.{TExpr}
use Rattle.wdl_typed.specs.declared.scope.Bound.{Bound}
use Rattle.wdl_typed.specs.declared.task.TDecl.{TDecl}
use Rattle.wdl_typed.specs.declared.task.TInput.{TInput}
use Rattle.wdl_typed.specs.Declarations as well
use Rattle.wdl_typed.specs.Declarations.{in_body, in_output, in_place, type_in_place}
use Rattle.wdl_typed.specs.KnownTypes.{is_written}
use Rattle.wdl_typed.specs.Typing.{Context, is_type, type_of}
use Rattle.wdl_check_rules.specs.declared.typed.Typed.{Typed}
use Rattle.wdl_check_types.specs.Laws.{AreKnown}
use Rattle.wdl_check_decls.specs.declared.standing.Standing.{Standing}
use Rattle.wdl_check_decls.specs.declared.standing.Standing.TheVariants.{Private, Output, Body}
use Rattle.wdl_check_decls.specs.Declarations.{decl_typed, decls_typed, inputs_typed}
use Rattle.wdl_check_decls.specs.Expressions.{World, expr_as, expr_typed}
use Rattle.wdl_check_decls.specs.Writes.{placed_typed}

-- what a typed expression sees
abbrev pub context : World → List Bound → Bool → Context
context w names outputs = record { structs = w.structs; names = names; outputs = outputs }

-- each name of the document stands for a struct of the library
abbrev pub IsKnown : World → Type 0
IsKnown w = AreKnown w.structs w.locals

-- ---- expressions

abbrev pub ExprTypes : Type 0
ExprTypes = (w : World) (names : List Bound) (outputs placeholder : Bool) (e : Expr) (x : Typed)
    → (expr_typed w names outputs placeholder e).typed ≡ Some x → type_of (context w names outputs) x.expr placeholder ≡ Some x.ty

abbrev pub CastTypes : Type 0
CastTypes = (w : World) (names : List Bound) (outputs : Bool) (e : Expr) (t : Ty) (x : TExpr)
    → (expr_as w names outputs e t).typed ≡ Some x → type_of (context w names outputs) x false ≡ Some t

abbrev pub PlacedTypes : Type 0
PlacedTypes = (w : World) (names : List Bound) (placeholder : Bool) (e : Expr) (x : Typed)
    → (placed_typed w names placeholder e).typed ≡ Some x → type_in_place (context w names false) x.expr placeholder ≡ Some x.ty

-- ---- inputs and declarations

abbrev pub InputsTypes : Type 0
InputsTypes = (w : World) (is : List InputDeclaration) (ts : List TInput)
    → IsKnown w → (inputs_typed w is).typed ≡ Some ts → well.inputs_typed w.structs [] ts ≡ true

-- the type of the expression of a declaration, by where it stands
abbrev pub typing_at : Standing → Structs → List Bound → TExpr → Option Ty
typing_at Private = in_place
typing_at Output = in_output
typing_at Body = in_body

abbrev pub is_declared : Standing → Structs → List Bound → TDecl → Bool
is_declared standing structs names t = is_written structs t.ty && is_type (typing_at standing structs names t.value) t.ty

abbrev pub DeclTypes : Type 0
DeclTypes = (standing : Standing) (w : World) (names : List Bound) (d : Declaration) (t : TDecl)
    → IsKnown w → (decl_typed standing w names d).typed ≡ Some t → is_declared standing w.structs names t ≡ true

abbrev pub DeclsTypes : Type 0
DeclsTypes = (standing : Standing) (w : World) (names : List Bound) (ds : List Declaration) (ts : List TDecl)
    → IsKnown w → (decls_typed standing w names ds).typed ≡ Some ts
    → well.decls_typed (typing_at standing w.structs) w.structs names ts ≡ true
