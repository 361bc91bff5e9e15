use Rattle.std.proofs.Common.{◌+◌, drop, rules}
use Rattle.wdl_check_doc.proofs.Lists.{all_end, all_err, all_on, drop_end}
use Rattle.wdl_check_doc.proofs.section.check_members.Goals as goal
use Rattle.wdl_check_rules.proofs.MemberLaws.{at_front as drop_at}

pub returns-in_err-check_member : goal.returns-in_err-check_member
returns-in_err-check_member c =
    let h = all_err _ (drop c.loop-member.member-index c.args.members.now) c.member-item.result (drop (c.loop-member.member-index + 1) c.args.members.now) _ c.in_err-check_member.field-0.0
    (drop_at c.args.members.now c.loop-member.member-index c.member-item.result c.loop-member-test.true c.member-item.is) c.loop-member.invariant c.in_err-check_member.ensures in
    search rules

pub loop-member-preserved : goal.loop-member-preserved
loop-member-preserved c =
    all_on _ (drop c.loop-member.member-index c.args.members.now) c.member-item.result (drop (c.loop-member.member-index + 1) c.args.members.now) _
    (drop_at c.args.members.now c.loop-member.member-index c.member-item.result c.loop-member-test.true c.member-item.is) c.loop-member.invariant c.in_ok-check_member.ensures

pub returns : goal.returns
returns c = all_end _ _ _ (drop_end c.args.members.now c.loop-member.member-index c.loop-member-test.false) c.loop-member.invariant
