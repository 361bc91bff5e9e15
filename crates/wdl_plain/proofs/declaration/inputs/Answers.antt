use Rattle.std.proofs.Common.{◌+◌, List, drop, map, refl, sym, ap, ◌∙◌, subst}
use Rattle.wdl_value.specs.declared.env.Bind.{Bind}
use Rattle.wdl_typed.specs.declared.task.TInput.{TInput}
use Rattle.wdl_typed.specs.Declarations.{plain_key}
use Rattle.wdl_typed.specs.Flow as flow
use Rattle.wdl_typed.specs.Scope.{lookup}
use Rattle.flow_soundness.specs.Readiness.{AreInputsReady}
use Rattle.wdl_plain.specs.Views.{env_in, flowing_of, sight_of}
use Rattle.wdl_plain.proofs.Few.{few_input}
use Rattle.wdl_plain.proofs.Loops.{cut, runs_on, sum_is_many}
use Rattle.wdl_plain.proofs.Statements.{handed_on}
use Rattle.wdl_plain.proofs.Turns.{begins_none}
use Rattle.wdl_plain.proofs.declaration.inputs.Goals as goal

abbrev run : List Bind → TInput → flow.Runner
run given i s = flow.input_of s i (lookup given (plain_key i.name))

abbrev runs : List Bind → List TInput → List flow.Runner
runs given is = map (run given) is

pub loop-input-init : goal.loop-input-init
loop-input-init g c = (begins_none (flowing_of c.counted-total.result) (runs (env_in c.args.given.now) c.args.inputs.now) (sight_of c.args.sight.now) c.counted-total.ensures, c.requires.ready)

pub input_of-requires : goal.input_of-requires
input_of-requires g c =
    let rest = subst (λ (is : List TInput). AreInputsReady (env_in c.args.given.now) is (sight_of c.loop-input.sight))
    (cut c.args.inputs.now c.loop-input.input-index c.input-item.result c.loop-input-test.true c.input-item.is) c.loop-input.invariant.1 in
    record { ready = rest.0 }

pub and-requires-clause-first : goal.and-requires-clause-first
and-requires-clause-first g c = c.loop-input.invariant.0.within

pub and-requires-clause-second : goal.and-requires-clause-second
and-requires-clause-second g c =
    ap flow.too_many c.in_ok-more.ensures
    ∙ few_input (sight_of c.loop-input.sight) c.input-item.result (lookup (env_in c.args.given.now) (plain_key c.input-item.result.name))

pub loop-input-preserved : goal.loop-input-preserved
loop-input-preserved g c =
    let rest = subst (λ (is : List TInput). AreInputsReady (env_in c.args.given.now) is (sight_of c.loop-input.sight))
    (cut c.args.inputs.now c.loop-input.input-index c.input-item.result c.loop-input-test.true c.input-item.is) c.loop-input.invariant.1 in
    let seen = c.in_ok-enter.ensures ∙ ap (flow.seeing (sight_of c.loop-input.sight)) c.in_ok-more.ensures in (
      runs_on (run (env_in c.args.given.now)) (runs (env_in c.args.given.now)) (λ x xs. refl) c.args.inputs.now c.loop-input.input-index c.input-item.result
          (flowing_of c.loop-input.total) (flowing_of c.in_ok-more.more) (flowing_of c.in_ok-total.total) (flow.inputs (env_in c.args.given.now) c.args.inputs.now (sight_of c.args.sight.now))
          (sight_of c.loop-input.sight) (sight_of c.enter.new.self) (sight_of c.args.sight.now) c.loop-input-test.true c.input-item.is c.in_ok-more.ensures c.in_ok-enter.ensures
          c.in_ok-total.ensures.0 c.in_ok-total.ensures.1 c.loop-input.invariant.0,
      subst (λ (s : flow.Sight). AreInputsReady (env_in c.args.given.now) (drop (c.loop-input.input-index + 1) c.args.inputs.now) s) (sym seen) rest.1,
    )

pub returns-in_err-total-clause-flow : goal.returns-in_err-total-clause-flow
returns-in_err-total-clause-flow g c =
    handed_on _ c.from_residual-in_err-total.result c.in_err-total.field-0.0 c.from_residual-in_err-total.ensures (λ e.
    sum_is_many (run (env_in c.args.given.now)) (runs (env_in c.args.given.now)) (λ x xs. refl) c.args.inputs.now c.loop-input.input-index c.input-item.result
    (flowing_of c.loop-input.total) (flowing_of c.in_ok-more.more) (flow.inputs (env_in c.args.given.now) c.args.inputs.now (sight_of c.args.sight.now))
    (sight_of c.loop-input.sight) (sight_of c.args.sight.now) c.loop-input-test.true c.input-item.is c.in_ok-more.ensures (c.in_err-total.ensures e) c.loop-input.invariant.0)
