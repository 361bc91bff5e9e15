use Rattle.std.proofs.Common.{◌≡◌, List, Option, IfOk, option_and_then, ap, subst, sym, ◌∙◌}
use Rattle.wdl_value.specs.declared.ty.Ty.{Ty}
use Rattle.wdl_typed.specs.declared.expr.TExpr.{TExpr, TExpr-F, fold_out-TExpr, map-TExpr}
use Rattle.wdl_typed.specs.declared.expr.TExpr.TheVariants as expr
use Rattle.wdl_typed.specs.Typing.{Typing, map_type, type_of, type_step}
use Rattle.wdl_typing.specs.Types.{context_of, key_types, value_types}
use Rattle.wdl_typing.proofs.typing.+typing.Goals as goal

abbrev both_lists : Option (List Ty) → Option (List Ty) → Option Ty
both_lists keys values = option_and_then (λ ks. option_and_then (λ ts. map_type ks ts) values) keys

pub type_of-returns-in_ok-values-in-MapOf : goal.type_of-returns-in_ok-values-in-MapOf
type_of-returns-in_ok-values-in-MapOf t c =
    subst (λ (r : Option Ty). IfOk c.map.result (λ u. u ≡ r))
    (ap (λ ks. both_lists ks c.in_ok-values-in-MapOf.values)
    (c.in_ok-keys-in-MapOf.ensures ∙ ap (λ rs. key_types (context_of c.args.seen.now) rs c.args.placeholder) c.as_slice-in-MapOf.ensures)
    ∙ ap (both_lists (key_types (context_of c.args.seen.now) c.in-MapOf.rows c.args.placeholder))
    (c.in_ok-values-in-MapOf.ensures ∙ ap (λ rs. value_types (context_of c.args.seen.now) rs c.args.placeholder) c.as_slice-in-MapOf-2.ensures)
    ∙ sym (ap (λ (e : TExpr). type_of (context_of c.args.seen.now) e c.args.placeholder) c.in-MapOf.is
    ∙ ap (λ (f : Typing). f c.args.placeholder) (fold_out-TExpr Typing (type_step (context_of c.args.seen.now)) (expr.MapOf c.in-MapOf.rows))
    ∙ ap (λ (y : TExpr-F TExpr). type_step (context_of c.args.seen.now) (map-TExpr TExpr Typing (type_of (context_of c.args.seen.now)) y) c.args.placeholder) (expr.outs-MapOf c.in-MapOf.rows)))
    c.map.ensures
