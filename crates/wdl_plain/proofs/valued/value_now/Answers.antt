use Rattle.std.proofs.Common.{List, None, sym, ap, ◌∙◌, subst}
use Rattle.wdl_value.specs.declared.env.Bind.{Bind}
use Rattle.wdl_stdlib.specs.Gives.{Gives}
use Rattle.wdl_typed.specs.Evaluation.{value_of}
use Rattle.wdl_typed.specs.Requests.{before}
use Rattle.wdl_eval.specs.Ready.{IsReady}
use Rattle.wdl_plain.proofs.Picked.{picked_ready, picked_value}
use Rattle.wdl_plain.proofs.valued.value_now.Goals as goal

pub eval-requires : goal.eval-requires
eval-requires g c = record {
  ready = subst (λ (env : List Bind). IsReady c.args.e.now env) (sym c.in_ok-env.ensures) (picked_ready c.args.names.now c.args.e.now c.requires.known c.requires.ready);
}

pub returns : goal.returns
returns g c =
    subst (λ o. Gives o c.eval-2.result) (
    ap (λ dir. value_of (record { env = c.in_ok-env.env; dir = dir; answer = None }) c.args.e.now) c.empty.ensures
    ∙ ap (λ (env : List Bind). value_of (before env) c.args.e.now) c.in_ok-env.ensures
    ∙ picked_value c.args.names.now c.args.e.now c.requires.known
    ) c.eval-2.ensures.value
