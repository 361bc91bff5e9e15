use Rattle.std.proofs.Common.{◌≡◌, [], Some, Err, sym, subst, arith}
use Rattle.wdl_check_types.specs.Outcome.{Answers}
use Rattle.wdl_check_types.specs.Places.{call_span}
use Rattle.wdl_check_flow.specs.Calls.{after_typed, arguments_behind, call_to, required_given}
use Rattle.wdl_check_flow.specs.Given.{seen_of}
use Rattle.wdl_check_flow.specs.Targets.{offer_of, place_of}
use Rattle.wdl_check_flow.proofs.CallLaws.{after_refused, required_refused}
use Rattle.wdl_check_flow.proofs.call.check_call_of.Goals as goal

pub returns-in_err-check_required : goal.returns-in_err-check_required
returns-in_err-check_required c =
    let p = place_of c.args.context.now in
    let seen = seen_of c.args.visible.now in
    let o = offer_of c.args.callable.now in
    let gone : c.from_residual-in_err-check_required.result ≡ Err c.in_err-check_required.field-0.0 = grind arith in
    subst (λ r. Answers (call_to p seen o c.args.call.now) r) (sym gone)
    (required_refused p seen o c.args.call.now c.in_ok-args.args c.in_err-check_required.field-0.0
    (subst (λ as_. (arguments_behind p seen o [] as_).typed ≡ Some c.in_ok-args.args) c.call_arguments-arguments.ensures c.in_ok-args.ensures.value)
    (subst (λ ns. Answers (required_given (call_span c.args.call.now) o ns) (Err c.in_err-check_required.field-0.0)) c.in_ok-args.ensures.given
    (subst (λ span. Answers (required_given span o c.check_arguments.new.given) (Err c.in_err-check_required.field-0.0)) c.call_span.ensures c.in_err-check_required.ensures)))

pub returns-in_err-after : goal.returns-in_err-after
returns-in_err-after c =
    let p = place_of c.args.context.now in
    let seen = seen_of c.args.visible.now in
    let o = offer_of c.args.callable.now in
    let gone : c.from_residual-in_err-after.result ≡ Err c.in_err-after.field-0.0 = grind arith in
    subst (λ r. Answers (call_to p seen o c.args.call.now) r) (sym gone)
    (after_refused p seen o c.args.call.now c.in_ok-args.args c.in_ok-check_required.field-0 c.in_err-after.field-0.0
    (subst (λ as_. (arguments_behind p seen o [] as_).typed ≡ Some c.in_ok-args.args) c.call_arguments-arguments.ensures c.in_ok-args.ensures.value)
    (subst (λ ns. (required_given (call_span c.args.call.now) o ns).typed ≡ Some c.in_ok-check_required.field-0) c.in_ok-args.ensures.given
    (subst (λ span. (required_given span o c.check_arguments.new.given).typed ≡ Some c.in_ok-check_required.field-0) c.call_span.ensures c.in_ok-check_required.ensures))
    (subst (λ as_. Answers (after_typed seen as_) (Err c.in_err-after.field-0.0)) c.as_slice.ensures c.in_err-after.ensures))
