-- Which expressions end in a choice.
use Rattle.std.proofs.Common.{◌≡◌, Bool, true, ap, sym, ◌∙◌}
use Rattle.wdl_base.specs.declared.span.Span.{Span}
use Rattle.wdl_ast.specs.declared.expr.BinaryOperator.{BinaryOperator}
use Rattle.wdl_ast.specs.declared.expr.UnaryOperator.{UnaryOperator}
use Rattle.wdl_ast.specs.declared.expr.Expr.{Expr, fold-roll-Expr}
use Rattle.wdl_ast.specs.declared.expr.Expr.TheOpen as layer
use Rattle.wdl_ast.specs.declared.expr.Expr.TheVariants as e
use Rattle.wdl_parse_expr.specs.Grammar.{last_step, ends_in_choice}

pub ends_if : (i : Span) (c : Expr) (t : Span) (a : Expr) (s : Span) (r : Expr) → ends_in_choice (e.If i c t a s r) ≡ true
unfolding ends_in_choice
ends_if i c t a s r = ap ends_in_choice (sym (e.rolls-If i c t a s r)) ∙ fold-roll-Expr Bool last_step (layer.If i c t a s r)

pub ends_binary : (l : Expr) (o : BinaryOperator) (s : Span) (r : Expr) → ends_in_choice (e.Binary l o s r) ≡ ends_in_choice r
unfolding ends_in_choice
ends_binary l o s r = ap ends_in_choice (sym (e.rolls-Binary l o s r)) ∙ fold-roll-Expr Bool last_step (layer.Binary l o s r)

pub ends_unary : (o : UnaryOperator) (s : Span) (x : Expr) → ends_in_choice (e.Unary o s x) ≡ ends_in_choice x
unfolding ends_in_choice
ends_unary o s x = ap ends_in_choice (sym (e.rolls-Unary o s x)) ∙ fold-roll-Expr Bool last_step (layer.Unary o s x)
