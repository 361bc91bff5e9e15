use Rattle.std.proofs.Common.{◌≡◌, [], ◌∷◌, ◌++◌, Some, sym, ap, ◌∙◌, subst}
use Rattle.wdl_typed.specs.Bodies.{arg_names}
use Rattle.wdl_check_flow.specs.Calls.{arguments_behind, next_argument}
use Rattle.wdl_check_flow.specs.Given.{seen_of}
use Rattle.wdl_check_flow.specs.Targets.{offer_of, place_of}
use Rattle.wdl_check_flow.proofs.CallLaws.{arguments_all, arguments_next, names_pushed}
use Rattle.wdl_check_flow.proofs.call.check_arguments.Goals as goal

pub loop-argument-preserved : goal.loop-argument-preserved
loop-argument-preserved c = record {
  given = c.in_ok-next_argument.ensures.given
      ∙ ap (λ ns. ns ++ c.in_ok-next_argument.field-0.name ∷ []) c.loop-argument.invariant.given
      ∙ sym (names_pushed c.loop-argument.done c.in_ok-next_argument.field-0)
      ∙ ap arg_names (sym c.in_ok-push.ensures.ok);
  leads = arguments_next (place_of c.args.context.now) (seen_of c.args.visible.now) (offer_of c.args.callable.now) c.loop-argument.done c.push.new.self c.args.arguments.now
      c.loop-argument.argument-index c.argument-item.result c.in_ok-next_argument.field-0
      (arguments_behind (place_of c.args.context.now) (seen_of c.args.visible.now) (offer_of c.args.callable.now) [] c.args.arguments.now)
      c.loop-argument-test.true c.argument-item.is
      (subst (λ ns. (next_argument (place_of c.args.context.now) (seen_of c.args.visible.now) (offer_of c.args.callable.now) ns c.argument-item.result.item).typed ≡ Some c.in_ok-next_argument.field-0)
      c.loop-argument.invariant.given c.in_ok-next_argument.ensures.value)
      c.in_ok-push.ensures.ok c.loop-argument.invariant.leads;
}

pub returns-clause-value : goal.returns-clause-value
returns-clause-value c =
    arguments_all (place_of c.args.context.now) (seen_of c.args.visible.now) (offer_of c.args.callable.now) c.loop-argument.done c.args.arguments.now c.loop-argument.argument-index
    (arguments_behind (place_of c.args.context.now) (seen_of c.args.visible.now) (offer_of c.args.callable.now) [] c.args.arguments.now)
    c.loop-argument-test.false c.loop-argument.invariant.leads
