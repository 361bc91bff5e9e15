use Rattle.std.proofs.Common.{Err, false, sym, ◌∙◌, subst}
use Rattle.wdl_base.specs.declared.span.Span.{Span}
use Rattle.wdl_check_rules.specs.declared.fault.CheckFault.TheVariants.{Bad}
use Rattle.wdl_check_rules.specs.Rules.{coerced}
use Rattle.wdl_check_rules.specs.Spans.{span_of}
use Rattle.wdl_check_types.specs.Outcome.{Answers, or_refused}
use Rattle.wdl_check_types.proofs.OutcomeLaws.{then_ok}
use Rattle.wdl_check_decls.specs.Expressions.{world}
use Rattle.wdl_check_decls.specs.Writes.{placed_typed}
use Rattle.wdl_check_decls.proofs.ListLaws.{refused_answers}
use Rattle.wdl_check_decls.proofs.declaration.check_private.Goals as goal

pub returns-in-None : goal.returns-in-None
returns-in-None c =
    let e = c.args.e.now in
    let t = c.args.t.now in
    then_ok (placed_typed (world c.args.seeing.now) c.args.names.now false e) (λ x. or_refused 303 (span_of e) (coerced x t)) c.in_ok-typed.typed
    (Err (Bad 303 c.span_of.result)) c.in_ok-typed.ensures
    (subst (λ (s : Span). Answers (or_refused 303 s (coerced c.in_ok-typed.typed t)) (Err (Bad 303 c.span_of.result))) c.span_of.ensures
    (refused_answers 303 c.span_of.result (coerced c.in_ok-typed.typed t) (sym c.in_ok-expr.ensures ∙ c.in-None.is)))
