use Rattle.std.proofs.Common.{rules, List, ◌∷◌, [], ◌++◌, ◌+◌, ◌≤◌, length, sym, ap, ◌∙◌, subst, arith}
use Rattle.wdl_value.specs.declared.env.Bind.{Bind}
use Rattle.flow_soundness.proofs.Taken.{Taking, taken_ready, taking_begins, taking_ends, taking_goes}
use Rattle.plan_steps.proofs.arguments.args_met.Goals as goal

pub loop-arg-init : goal.loop-arg-init
loop-arg-init g c =
    (subst (λ (met : List Bind). Taking c.args.env.now c.args.args.now 0 met) (sym c.new-met.ensures) (taking_begins c.args.env.now c.args.args.now c.requires.ready), omega arith)

pub argument-requires : goal.argument-requires
argument-requires g c = record { ready = taken_ready c.args.env.now c.args.args.now c.loop-arg.arg-index c.arg-item.result c.loop-arg.met c.arg-item.is c.loop-arg-test.true c.loop-arg.invariant.0 }

pub loop-arg-preserved : goal.loop-arg-preserved
loop-arg-preserved g c = (
  subst (λ (met : List Bind). Taking c.args.env.now c.args.args.now (c.loop-arg.arg-index + 1) met)
      (sym (c.in_ok-push.ensures.ok ∙ ap (λ (b : Bind). c.loop-arg.met ++ b ∷ []) c.in_ok-plain.ensures))
      (taking_goes c.args.env.now c.args.args.now c.loop-arg.arg-index c.arg-item.result c.loop-arg.met c.arg-item.is c.loop-arg-test.true c.loop-arg.invariant.0 c.in_ok-value.value c.in_ok-value.ensures.value),
  omega (arith, c.in_ok-value.ensures.steps, c.loop-arg.invariant.1),
)

pub returns-clause-value : goal.returns-clause-value
returns-clause-value g c =
    let l : length c.args.args.now ≤ c.loop-arg.arg-index = search rules in
    taking_ends c.args.env.now c.args.args.now c.loop-arg.arg-index c.loop-arg.met l c.loop-arg.invariant.0
