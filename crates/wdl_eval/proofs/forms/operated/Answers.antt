use Rattle.std.proofs.Common.{sym, subst}
use Rattle.wdl_value.specs.Operate.{operate, operated}
use Rattle.wdl_eval.specs.Meets.{Meets}
use Rattle.wdl_eval.proofs.Limited.{met_within}
use Rattle.wdl_eval.proofs.forms.operated.Goals as goal

pub returns : goal.returns
returns c =
    subst (λ m. Meets m c.given.result) (sym (met_within (operated c.args.op c.args.left.now c.args.right.now)))
    (c.given.ensures (operate c.args.op c.args.left.now c.args.right.now) c.operate.ensures.value)
