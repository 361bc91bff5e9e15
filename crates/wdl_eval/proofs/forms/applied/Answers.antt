use Rattle.std.proofs.Common.{sym, subst, rules}
use Rattle.std.specs.Option.{option_copied}
use Rattle.wdl_value.specs.Apply.{applied, apply}
use Rattle.wdl_eval.specs.Meets.{Meets}
use Rattle.wdl_eval.proofs.Limited.{met_within}
use Rattle.wdl_eval.proofs.forms.applied.Goals as goal

pub returns : goal.returns
returns c =
    subst (λ m. Meets m c.given.result) (sym (met_within (applied c.args.setting.now.dir.now (option_copied c.args.setting.now.answer) c.args.f c.args.args.now)))
    (c.given.ensures (apply c.args.setting.now.dir.now (option_copied c.args.setting.now.answer) c.args.f c.args.args.now) (search rules))
