use Rattle.std.proofs.Common.{sym, subst}
use Rattle.wdl_value.specs.declared.value.Value.{Value}
use Rattle.wdl_typed.specs.Evaluation.{Met}
use Rattle.wdl_eval.specs.Meets.{Lends}
use Rattle.wdl_eval.proofs.MemberLimits.{member_kept}
use Rattle.wdl_eval.proofs.lent.member_lent.Goals as goal

pub returns : goal.returns
returns c =
    subst (λ (m : Met Value). Lends m c.member_in.result) (sym (member_kept c.args.value.now c.args.name.now c.requires.within)) c.member_in.ensures
