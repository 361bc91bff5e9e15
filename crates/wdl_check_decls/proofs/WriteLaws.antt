-- The call that an expression is.
use Rattle.std.proofs.Common.{◌≡◌, List, [], ◌∷◌, Option, Some, None, refl, ap, sym, ◌∙◌}
use Rattle.wdl_base.specs.declared.span.Span.{Span}
use Rattle.wdl_ast.specs.declared.expr.Expr.{Expr, Expr-F, map-Expr, out-Expr, roll-Expr, roll-out-Expr, para-roll-Expr}
use Rattle.wdl_ast.specs.declared.expr.Expr.TheOpen as layer
use Rattle.wdl_ast.specs.declared.expr.Expr.TheVariants as form
use Rattle.wdl_ast.specs.declared.expr.Expr.TheShapes.{former-Expr-Call-2}
use Rattle.wdl_ast.specs.declared.leaf.Ident.{Ident}
use Rattle.wdl_ast.specs.declared.leaf.ListItem.{ListItem}
use Rattle.wdl_check_decls.specs.Writes.{WholeCall, call_step, firsts, whole_call}

abbrev with_call : Expr → Expr × Option WholeCall
with_call e = (e, whole_call e)

arguments : (is : List (ListItem Expr)) → firsts ((former-Expr-Call-2).map Expr (Expr × Option WholeCall) with_call is) ≡ is
arguments [] = refl
arguments (i ∷ is) = ap (λ z. i ∷ z) (arguments is)

pub whole_of_call : (n : Ident) (o : Span) (is : List (ListItem Expr)) (c : Span) → whole_call (form.Call n o is c) ≡ Some (record { name = n; arguments = is; closing = c })
unfolding whole_call
whole_of_call n o is c =
    ap whole_call (sym (form.rolls-Call n o is c))
    ∙ para-roll-Expr (Option WholeCall) call_step (layer.Call n o is c)
    ∙ ap (λ (z : List (ListItem Expr)). Some (record { name = n; arguments = z; closing = c })) (arguments is)

pub whole_group : (o : Span) (x : Expr) (c : Span) → whole_call (form.Group o x c) ≡ whole_call x
unfolding whole_call
whole_group o x c = ap whole_call (sym (form.rolls-Group o x c)) ∙ para-roll-Expr (Option WholeCall) call_step (layer.Group o x c)

abbrev NoCall : Expr → Type 0
NoCall e = (n : Ident) (o : Span) (is : List (ListItem Expr)) (c : Span) → e ≡ form.Call n o is c → ⊥

abbrev NoGroup : Expr → Type 0
NoGroup e = (o : Span) (x : Expr) (c : Span) → e ≡ form.Group o x c → ⊥

other_layer : (y : Expr-F Expr) → NoCall (roll-Expr y) → NoGroup (roll-Expr y) → call_step (map-Expr Expr (Expr × Option WholeCall) with_call y) ≡ None
other_layer (layer.Call n o is c) h k = absurd (h n o is c (form.rolls-Call n o is c))
other_layer (layer.Group o x c) h k = absurd (k o x c (form.rolls-Group o x c))
other_layer y h k = refl

-- no other form is a call
pub whole_other : (e : Expr) → NoCall e → NoGroup e → whole_call e ≡ None
unfolding whole_call
whole_other e h k =
    ap whole_call (sym (roll-out-Expr e))
    ∙ para-roll-Expr (Option WholeCall) call_step (out-Expr e)
    ∙ other_layer (out-Expr e) (λ n o is c i. h n o is c (sym (roll-out-Expr e) ∙ i)) (λ o x c i. k o x c (sym (roll-out-Expr e) ∙ i))

pub ruleset equations = (whole_of_call, whole_group)
