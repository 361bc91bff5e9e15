use Rattle.std.proofs.Common.{◌≡◌, Bool, List, ap, sym, ◌∙◌, subst}
use Rattle.wdl_base.specs.declared.span.Span.{Span}
use Rattle.wdl_ast.specs.declared.expr.Expr.{Expr}
use Rattle.wdl_ast.specs.declared.expr.Expr.TheVariants as form
use Rattle.wdl_ast.specs.declared.leaf.Ident.{Ident}
use Rattle.wdl_ast.specs.declared.leaf.ListItem.{ListItem}
use Rattle.wdl_check_rules.specs.Checked.{Checked, Gives, call_checked, checked, items_checked}
use Rattle.wdl_check_rules.specs.Scopes.{Scope, scope_of}
use Rattle.wdl_check_rules.specs.Spans.{span_of}
use Rattle.wdl_check_rules.specs.declared.typed.Typed.{Typed}
use Rattle.wdl_check_laws.proofs.CheckedLaws.{checked_call}
use Rattle.wdl_check_expr.proofs.check.+check.Goals as goal

call_gives : (s : Scope) (e : Expr) (n : Ident) (o : Span) (is items : List (ListItem Expr)) (c span : Span) (p : Bool) (r : Checked Typed)
    → e ≡ form.Call n o is c → span ≡ span_of e → items ≡ is
    → Gives (call_checked s n span (items_checked (checked s) items p)) r → Gives (checked s e p) r
call_gives s e n o is items c span p r h at same g =
    subst (λ (z : Checked Typed). Gives z r)
    (sym (
    ap (λ (x : Expr). checked s x p) h ∙ checked_call s n o is c p
    ∙ ap (λ (z : Span). call_checked s n z (items_checked (checked s) is p)) (ap span_of (sym h) ∙ sym at)
    ∙ ap (λ (z : List (ListItem Expr)). call_checked s n span (items_checked (checked s) z p)) (sym same)
    ))
    g

pub check-returns-in-Call : goal.check-returns-in-Call
check-returns-in-Call t c =
    call_gives (scope_of c.args.scope.now) c.args.e.now c.in-Call.name c.in-Call.opening c.in-Call.arguments c.as_slice-in-Call.result.now c.in-Call.closing c.span_of-in-Call.result
    c.args.placeholder c.check_call.result c.in-Call.is c.span_of-in-Call.ensures c.as_slice-in-Call.ensures c.check_call.ensures
