use Rattle.std.proofs.Common.{◌+◌, drop, rules}
use Rattle.wdl_check_doc.proofs.Lists.{all_end, all_err, all_on, drop_end}
use Rattle.wdl_check_doc.proofs.nesting.check_each.Goals as goal
use Rattle.wdl_check_rules.proofs.MemberLaws.{at_front as drop_at}

pub returns-in_err-check_flow : goal.returns-in_err-check_flow
returns-in_err-check_flow c =
    let h = all_err _ (drop c.loop-flow.flow-index c.args.flows.now) c.flow-item.result (drop (c.loop-flow.flow-index + 1) c.args.flows.now) _ c.in_err-check_flow.field-0.0
    (drop_at c.args.flows.now c.loop-flow.flow-index c.flow-item.result c.loop-flow-test.true c.flow-item.is) c.loop-flow.invariant c.in_err-check_flow.ensures in
    search rules

pub loop-flow-preserved : goal.loop-flow-preserved
loop-flow-preserved c =
    all_on _ (drop c.loop-flow.flow-index c.args.flows.now) c.flow-item.result (drop (c.loop-flow.flow-index + 1) c.args.flows.now) _
    (drop_at c.args.flows.now c.loop-flow.flow-index c.flow-item.result c.loop-flow-test.true c.flow-item.is) c.loop-flow.invariant c.in_ok-check_flow.ensures

pub returns : goal.returns
returns c = all_end _ _ _ (drop_end c.args.flows.now c.loop-flow.flow-index c.loop-flow-test.false) c.loop-flow.invariant
