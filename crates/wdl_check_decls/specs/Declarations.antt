-- Inputs and declarations (OpenWDL 1.1, "Task Definition" and "Workflow Definition"): each list is put into its dependency
-- order, and each member sees those before it.
use Rattle.std.specs.Prelude.{true, false, List, [], ◌∷◌, ◌++◌, Option, Some, None, map}
use Rattle.wdl_value.specs.declared.ty.Ty.{Ty}
use Rattle.wdl_ast.specs.declared.expr.Expr.{Expr}
use Rattle.wdl_ast.specs.declared.section.Assigned.{Assigned}
use Rattle.wdl_ast.specs.declared.section.Declaration.{Declaration}
use Rattle.wdl_ast.specs.declared.section.InputDeclaration.{InputDeclaration}
use Rattle.wdl_typed.specs.declared.expr.TExpr.{TExpr}
use Rattle.wdl_typed.specs.declared.scope.Bound.{Bound}
use Rattle.wdl_typed.specs.declared.task.TDecl.{TDecl}
use Rattle.wdl_typed.specs.declared.task.TInput.{TInput}
use Rattle.wdl_typed.specs.Declarations.{decls_bound, inputs_bound}
use Rattle.wdl_typed.specs.Order.{picked}
use Rattle.wdl_check_rules.specs.Rules.{coerced}
use Rattle.wdl_check_rules.specs.Spans.{span_of}
use Rattle.wdl_check_types.specs.Outcome.{Outcome, done, then_, or_refused}
use Rattle.wdl_check_types.specs.Places.{declaration_span, input_span}
use Rattle.wdl_check_types.specs.Written.{written}
use Rattle.wdl_check_order.specs.Needs.{declaration_needing, input_needing}
use Rattle.wdl_check_order.specs.Ordered.{ordered}
use Rattle.wdl_check_decls.specs.declared.standing.Standing.{Standing}
use Rattle.wdl_check_decls.specs.declared.standing.Standing.TheVariants.{Private, Output, Body}
use Rattle.wdl_check_decls.specs.Expressions.{World, expr_as}
use Rattle.wdl_check_decls.specs.Writes.{placed_typed}

-- ---- inputs

abbrev pub preset_typed : World → List Bound → Ty → Option Assigned → Outcome (Option TExpr)
preset_typed w names t None = done None
preset_typed w names t (Some a) = then_ (expr_as w names false a.value t) (λ e. done (Some e))

abbrev pub input : InputDeclaration → Ty → Option TExpr → TInput
input i t value = record { name = i.name.name; ty = t; value = value; span = input_span i }

abbrev pub input_as : World → List Bound → InputDeclaration → Ty → Outcome TInput
input_as w names i t = then_ (preset_typed w names t i.preset) (λ v. done (input i t v))

abbrev pub input_typed : World → List Bound → InputDeclaration → Outcome TInput
input_typed w names i = then_ (written w.locals i.ty) (input_as w names i)

-- the inputs behind those before
abbrev pub inputs_behind : World → List TInput → List InputDeclaration → Outcome (List TInput)
inputs_behind w before [] = done before
inputs_behind w before (i ∷ is) = then_ (input_typed w (inputs_bound before) i) (λ t. inputs_behind w (before ++ t ∷ []) is)

abbrev pub inputs_typed : World → List InputDeclaration → Outcome (List TInput)
inputs_typed w is = then_ (ordered (map input_needing is) (map input_span is)) (λ ps. inputs_behind w [] (picked is ps))

-- ---- declarations

-- A private declaration of a task may write a file, and an output of a task may read what its command left.
abbrev pub value_typed : Standing → World → List Bound → Expr → Ty → Outcome TExpr
value_typed Private w names e t = then_ (placed_typed w names false e) (λ x. or_refused 303 (span_of e) (coerced x t))
value_typed Output w names e t = expr_as w names true e t
value_typed Body w names e t = expr_as w names false e t

abbrev pub declared : Declaration → Ty → TExpr → TDecl
declared d t e = record { name = d.name.name; ty = t; value = e; span = declaration_span d }

abbrev pub decl_as : Standing → World → List Bound → Declaration → Ty → Outcome TDecl
decl_as standing w names d t = then_ (value_typed standing w names d.value t) (λ e. done (declared d t e))

abbrev pub decl_typed : Standing → World → List Bound → Declaration → Outcome TDecl
decl_typed standing w names d = then_ (written w.locals d.ty) (decl_as standing w names d)

-- the declarations behind those before, which see these names too
abbrev pub decls_behind : Standing → World → List Bound → List TDecl → List Declaration → Outcome (List TDecl)
decls_behind standing w names before [] = done before
decls_behind standing w names before (d ∷ ds) =
    then_ (decl_typed standing w (names ++ decls_bound before) d) (λ t. decls_behind standing w names (before ++ t ∷ []) ds)

abbrev pub decls_typed : Standing → World → List Bound → List Declaration → Outcome (List TDecl)
decls_typed standing w names ds =
    then_ (ordered (map declaration_needing ds) (map declaration_span ds)) (λ ps. decls_behind standing w names [] (picked ds ps))
