use Rattle.std.proofs.Common.{◌+◌, ◌∙◌, ap, drop, map, rules}
use Rattle.wdl_check_doc.specs.Runnables.{flow_of, headed_of}
use Rattle.wdl_check_doc.proofs.Lists.{each_end, each_err, each_on_to, drop_end, mapped_more}
use Rattle.wdl_check_doc.proofs.flow.check_heads.Goals as goal
use Rattle.wdl_check_rules.proofs.MemberLaws.{at_front as drop_at}

pub returns-in_err-check_head_in : goal.returns-in_err-check_head_in
returns-in_err-check_head_in c =
    let h = each_err _ (map headed_of c.loop-flow.heads.items) (map flow_of (drop c.loop-flow.flow-index c.args.flows.now)) (flow_of c.flow-item.result) (map flow_of (drop (c.loop-flow.flow-index + 1) c.args.flows.now)) _ c.in_err-check_head_in.field-0.0
    (ap (map flow_of) (drop_at c.args.flows.now c.loop-flow.flow-index c.flow-item.result c.loop-flow-test.true c.flow-item.is)) c.loop-flow.invariant c.in_err-check_head_in.ensures in
    search rules

pub loop-flow-preserved : goal.loop-flow-preserved
loop-flow-preserved c =
    each_on_to _ (map headed_of c.loop-flow.heads.items) (map headed_of c.push.new.self.items) (map flow_of (drop c.loop-flow.flow-index c.args.flows.now)) (flow_of c.flow-item.result) (map flow_of (drop (c.loop-flow.flow-index + 1) c.args.flows.now)) _ (headed_of c.in_ok-check_head_in.field-0) (ap (map headed_of) c.in_ok-push.ensures.items ∙ mapped_more headed_of _ _)
    (ap (map flow_of) (drop_at c.args.flows.now c.loop-flow.flow-index c.flow-item.result c.loop-flow-test.true c.flow-item.is)) c.loop-flow.invariant c.in_ok-check_head_in.ensures

pub returns : goal.returns
returns c = each_end _ _ _ _ (ap (map flow_of) (drop_end c.args.flows.now c.loop-flow.flow-index c.loop-flow-test.false)) c.loop-flow.invariant
