use Rattle.std.proofs.Common.{◌≡◌, true, subst}
use Rattle.wdl_typed.specs.declared.expr.TExpr.{TExpr}
use Rattle.wdl_same.specs.Exprs.{same_expr}
use Rattle.wdl_same.proofs.Equal.{expr_equal, expr_itself}
use Rattle.wdl_same.proofs.laws.same_exprs_are_equal.Goals as goal

pub returns : goal.returns
returns c = record { law = λ e f. (expr_equal e f, λ i. subst (λ (w : TExpr). same_expr e w ≡ true) i (expr_itself e)) }
