-- Calls of the functions that write files, where one may stand: as a whole expression, parentheses round it aside.
use Rattle.std.specs.Prelude.{ℕ, Bool, false, List, [], ◌∷◌, Option, Some, None, option_map, if◌then◌else◌, codes}
use Rattle.std.specs.Str.{bytes_eq}
use Rattle.wdl_base.specs.declared.span.Span.{Span}
use Rattle.wdl_value.specs.declared.operator.Func.{Func}
use Rattle.wdl_value.specs.declared.operator.Func.TheVariants as func
use Rattle.wdl_ast.specs.declared.expr.Expr.{Expr, Expr-F, para-Expr}
use Rattle.wdl_ast.specs.declared.expr.Expr.TheOpen as layer
use Rattle.wdl_ast.specs.declared.leaf.Ident.{Ident}
use Rattle.wdl_ast.specs.declared.leaf.ListItem.{ListItem}
use Rattle.wdl_typed.specs.declared.scope.Bound.{Bound}
use Rattle.wdl_check_rules.specs.declared.typed.Typed.{Typed}
use Rattle.wdl_check_rules.specs.Rules.{apply_of}
use Rattle.wdl_check_rules.specs.Spans.{joined}
use Rattle.wdl_check_types.specs.Outcome.{Outcome, refused, then_, or_refused}
use Rattle.wdl_check_decls.specs.Expressions.{World, expr_typed}

-- ---- the functions (OpenWDL 1.1, "Standard Library")

abbrev pub write_func : List ℕ → Option Func
write_func name =
    if bytes_eq name (codes "write_lines") then Some func.WriteLines
    else (if bytes_eq name (codes "write_tsv") then Some func.WriteTsv
    else (if bytes_eq name (codes "write_map") then Some func.WriteMap else None))

-- ---- the call

pub record WholeCall : Type 0 where
  pub name : Ident
  pub arguments : List (ListItem Expr)
  pub closing : Span

abbrev pub firsts : {A : Type 0} → List (ListItem (Expr × A)) → List (ListItem Expr)
firsts [] = []
firsts (i ∷ is) = record { item = i.item.0; comma = i.comma } ∷ firsts is

abbrev pub call_step : Expr-F (Expr × Option WholeCall) → Option WholeCall
call_step (layer.Call n o items c) = Some (record { name = n; arguments = firsts items; closing = c })
call_step (layer.Group o x c) = x.1
call_step y = None

-- the call that an expression is
unfoldable pub whole_call : Expr → Option WholeCall
whole_call = para-Expr (Option WholeCall) call_step

pub record WriteCall : Type 0 where
  pub func : Func
  pub arguments : List (ListItem Expr)
  pub span : Span

abbrev pub write_among : Option WholeCall → Option WriteCall
write_among None = None
write_among (Some c) =
    option_map (λ f. record { func = f; arguments = c.arguments; span = joined c.name.span c.closing }) (write_func c.name.name)

abbrev pub write_call : Expr → Option WriteCall
write_call e = write_among (whole_call e)

-- ---- its typing

-- 305: an argument of another type
abbrev pub applied : Func → Span → Typed → Outcome Typed
applied f span x = or_refused 305 span (apply_of f (x ∷ []))

-- 305: another number of arguments
abbrev pub arguments_typed : World → List Bound → Bool → Func → Span → List (ListItem Expr) → Outcome Typed
arguments_typed w names placeholder f span (a ∷ []) = then_ (expr_typed w names false placeholder a.item) (applied f span)
arguments_typed w names placeholder f span as_ = refused 305 span

abbrev pub call_typed : World → List Bound → Bool → WriteCall → Outcome Typed
call_typed w names placeholder c = arguments_typed w names placeholder c.func c.span c.arguments

abbrev pub placed : World → List Bound → Bool → Expr → Option WriteCall → Outcome Typed
placed w names placeholder e None = expr_typed w names false placeholder e
placed w names placeholder e (Some c) = call_typed w names placeholder c

-- the typing of an expression that may be, as a whole, a call of a function that writes a file
abbrev pub placed_typed : World → List Bound → Bool → Expr → Outcome Typed
placed_typed w names placeholder e = placed w names placeholder e (write_call e)
