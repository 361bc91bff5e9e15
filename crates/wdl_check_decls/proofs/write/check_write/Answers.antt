use Rattle.std.proofs.Common.{◌≡◌, ◌<◌, ◌≤◌, false, arith, length, get_or, List, [], ◌∷◌, ap, subst}
use Rattle.wdl_ast.specs.declared.expr.Expr.{Expr}
use Rattle.wdl_ast.specs.declared.leaf.ListItem.{ListItem}
use Rattle.wdl_check_types.specs.Outcome.{Answers}
use Rattle.wdl_check_types.proofs.OutcomeLaws.{then_ok}
use Rattle.wdl_check_decls.specs.Expressions.{expr_typed, world}
use Rattle.wdl_check_decls.specs.Writes.{applied, arguments_typed}
use Rattle.wdl_check_decls.proofs.write.check_write.Goals as goal

alone : (xs : List (ListItem Expr)) (a : ListItem Expr) → 1 ≤ length xs → length xs < 2 → a ≡ get_or xs 0 a → a ∷ [] ≡ xs
alone [] a h k e = absurd (omega arith)
alone (x ∷ []) a h k e = ap (λ z. z ∷ []) e
alone (x ∷ y ∷ xs) a h k e = absurd (omega arith)

pub returns : goal.returns
returns c =
    let w = world c.args.seeing.now in
    let more = c.in-len1.len_at_least in
    let less = c.in-len1.len_below in
    subst (λ (xs : List (ListItem Expr)). Answers (arguments_typed w c.args.names.now c.args.placeholder c.args.call.now.func c.args.call.now.span xs) c.apply_to.result)
    (alone c.args.call.now.arguments.now c.argument-item.result (omega arith) (omega arith) c.argument-item.is)
    (then_ok (expr_typed w c.args.names.now false c.args.placeholder c.argument-item.result.item) (applied c.args.call.now.func c.args.call.now.span)
    c.in_ok-typed.typed c.apply_to.result c.in_ok-typed.ensures c.apply_to.ensures)
