use Rattle.std.proofs.Common.{◌≡◌, Ok}
use Rattle.wdl_typed.specs.Evaluation.{value_met}
use Rattle.wdl_eval.specs.Nodes.{setting_of}
use Rattle.wdl_eval.proofs.MemberLimits.{given_within}
use Rattle.wdl_eval.proofs.lent.+lent.Goals as goal

pub member_lent-requires : goal.member_lent-requires
member_lent-requires t c =
    let s = setting_of c.args.setting.now in
    let is = c.in-Some.is in
    let was = c.in_ok-value-in-Member.is in
    let given : value_met s c.get.result.now ≡ Ok c.in-Some.value.now = rw is at c.in_ok-value-in-Member.ensures in
    record { within = given_within s c.get.result.now c.in-Some.value.now given }
