use Rattle.wdl_check_rules.specs.Rules.{choice_of, hole_of}
use Rattle.wdl_check_rules.specs.Spans.{span_of}
use Rattle.wdl_check_types.proofs.OutcomeLaws.{gives_answers, then_ok}
use Rattle.wdl_check_decls.specs.Expressions.{world}
use Rattle.wdl_check_task.specs.Command.{hole_from, hole_value}
use Rattle.wdl_check_task.proofs.command.check_hole.Goals as goal

pub returns : goal.returns
returns c =
    let h = c.args.hole.now in
    then_ok (hole_value (world c.args.seeing.now) c.args.names.now h.options h.expr) (hole_from h) _ _ c.in_ok-typed.ensures
    (gives_answers 308 (span_of h.expr) (hole_of (choice_of h.options) c.in_ok-typed.typed) _ (rw c.span_of.ensures at c.hole_at.ensures))
