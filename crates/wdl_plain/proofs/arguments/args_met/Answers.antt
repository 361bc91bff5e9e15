use Rattle.std.proofs.Common.{rules, List, ◌∷◌, [], ◌++◌, ◌+◌, ◌≤◌, length, sym, ap, ◌∙◌, subst}
use Rattle.wdl_value.specs.declared.env.Bind.{Bind}
use Rattle.wdl_plain.specs.Views.{knowns_of}
use Rattle.wdl_typed.specs.Flow.{env_of}
use Rattle.flow_soundness.proofs.Taken.{taking_ends}
use Rattle.wdl_plain.proofs.ArgLoop.{Going, going_begins, going_known, going_on, going_ready}
use Rattle.wdl_plain.proofs.arguments.args_met.Goals as goal

pub loop-arg-init : goal.loop-arg-init
loop-arg-init g c =
    subst (λ (env : List Bind). Going (knowns_of c.args.names.now) c.args.args.now 0 env) (sym c.new-env.ensures)
    (going_begins (knowns_of c.args.names.now) c.args.args.now c.requires.known c.requires.ready)

pub argument-requires : goal.argument-requires
argument-requires g c = record {
  known = going_known (knowns_of c.args.names.now) c.args.args.now c.loop-arg.arg-index c.arg-item.result c.loop-arg.env c.arg-item.is c.loop-arg-test.true c.loop-arg.invariant;
  ready = going_ready (knowns_of c.args.names.now) c.args.args.now c.loop-arg.arg-index c.arg-item.result c.loop-arg.env c.arg-item.is c.loop-arg-test.true c.loop-arg.invariant;
}

pub loop-arg-preserved : goal.loop-arg-preserved
loop-arg-preserved g c =
    subst (λ (env : List Bind). Going (knowns_of c.args.names.now) c.args.args.now (c.loop-arg.arg-index + 1) env)
    (sym (c.in_ok-push.ensures.ok ∙ ap (λ (b : Bind). c.loop-arg.env ++ b ∷ []) c.in_ok-plain.ensures))
    (going_on (knowns_of c.args.names.now) c.args.args.now c.loop-arg.arg-index c.arg-item.result c.loop-arg.env c.arg-item.is c.loop-arg-test.true c.loop-arg.invariant
    c.in_ok-value.value c.in_ok-value.ensures)

pub returns : goal.returns
returns g c =
    let l : length c.args.args.now ≤ c.loop-arg.arg-index = search rules in
    taking_ends (env_of (knowns_of c.args.names.now)) c.args.args.now c.loop-arg.arg-index c.loop-arg.env l c.loop-arg.invariant.taking
