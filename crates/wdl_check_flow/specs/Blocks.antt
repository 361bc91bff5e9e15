-- The collections of scatters, and the conditions of blocks (OpenWDL 1.1, "Scatter Statement" and "Conditional Statement").
use Rattle.std.specs.Prelude.{false, Option, Some, None}
use Rattle.wdl_value.specs.declared.ty.Ty.{Ty, Ty-F, out-Ty}
use Rattle.wdl_value.specs.declared.ty.Ty.TheOpen as type
use Rattle.wdl_ast.specs.declared.expr.Expr.{Expr}
use Rattle.wdl_typed.specs.declared.expr.TExpr.{TExpr}
use Rattle.wdl_typed.specs.Bodies.{Seen}
use Rattle.wdl_check_rules.specs.declared.typed.Typed.{Typed}
use Rattle.wdl_check_rules.specs.Rules.{condition_of}
use Rattle.wdl_check_rules.specs.Spans.{span_of}
use Rattle.wdl_check_types.specs.Outcome.{Outcome, then_, or_refused}
use Rattle.wdl_check_decls.specs.Expressions.{expr_typed}
use Rattle.wdl_check_flow.specs.declared.collection.Collection.{Collection}
use Rattle.wdl_check_flow.specs.Targets.{Place, world_at}

abbrev pub items_at : TExpr → Ty-F Ty → Option Collection
items_at e (type.Array t some) = Some (record { expr = e; item = t; some = some })
items_at e t = None

abbrev pub collection_of : Typed → Option Collection
collection_of x = items_at x.expr (out-Ty x.ty)

-- 326: no array
abbrev pub collection_typed : Place → Seen → Expr → Outcome Collection
collection_typed p seen e = then_ (expr_typed (world_at p seen) seen.names false false e) (λ x. or_refused 326 (span_of e) (collection_of x))

-- 325: no Boolean
abbrev pub condition_typed : Place → Seen → Expr → Outcome TExpr
condition_typed p seen e = then_ (expr_typed (world_at p seen) seen.names false false e) (λ x. or_refused 325 (span_of e) (condition_of x))
