use Rattle.std.proofs.Common.{◌≡◌, false, Some, Err, ap, sym, ◌∙◌, subst}
use Rattle.wdl_check_rules.specs.declared.fault.CheckFault.TheVariants.{Bad}
use Rattle.wdl_check_rules.specs.Rules.{condition_of}
use Rattle.wdl_check_rules.specs.Spans.{span_of}
use Rattle.wdl_check_types.specs.Outcome.{Answers}
use Rattle.wdl_check_decls.specs.Expressions.{World, expr_typed, world}
use Rattle.wdl_check_flow.specs.Blocks.{condition_typed}
use Rattle.wdl_check_flow.specs.Given.{seen_of}
use Rattle.wdl_check_flow.specs.Targets.{place_of, world_at}
use Rattle.wdl_check_flow.proofs.StateLaws.{refused_by}
use Rattle.wdl_check_flow.proofs.collection.check_condition.Goals as goal

pub returns-in-None : goal.returns-in-None
returns-in-None c =
    subst (λ span. Answers (condition_typed (place_of c.args.context.now) (seen_of c.args.visible.now) c.args.condition.now) (Err (Bad 325 span))) (sym c.span_of.ensures)
    (refused_by (expr_typed (world_at (place_of c.args.context.now) (seen_of c.args.visible.now)) c.args.visible.now.names false false c.args.condition.now) condition_of 325 (span_of c.args.condition.now) c.in_ok-typed.typed
    (subst (λ (w : World). (expr_typed w c.args.visible.now.names false false c.args.condition.now).typed ≡ Some c.in_ok-typed.typed) (ap world c.with_calls-seeing.ensures) c.in_ok-typed.ensures)
    (sym c.in_ok-expr.ensures ∙ c.in-None.is))
