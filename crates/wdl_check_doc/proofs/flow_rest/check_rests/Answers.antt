use Rattle.std.proofs.Common.{◌+◌, ap, drop, map, rules}
use Rattle.wdl_check_doc.specs.Runnables.{headed_of}
use Rattle.wdl_check_doc.proofs.Lists.{each_end, each_err, each_on_to, drop_end}
use Rattle.wdl_check_doc.proofs.flow_rest.check_rests.Goals as goal
use Rattle.wdl_check_rules.proofs.MemberLaws.{at_front as drop_at}

pub returns-in_err-check_rest_in : goal.returns-in_err-check_rest_in
returns-in_err-check_rest_in c =
    let h = each_err _ c.loop-headed.rests.items (map headed_of (drop c.loop-headed.headed-index c.args.heads.now)) (headed_of c.headed-item.result) (map headed_of (drop (c.loop-headed.headed-index + 1) c.args.heads.now)) _ c.in_err-check_rest_in.field-0.0
    (ap (map headed_of) (drop_at c.args.heads.now c.loop-headed.headed-index c.headed-item.result c.loop-headed-test.true c.headed-item.is)) c.loop-headed.invariant c.in_err-check_rest_in.ensures in
    search rules

pub loop-headed-preserved : goal.loop-headed-preserved
loop-headed-preserved c =
    each_on_to _ c.loop-headed.rests.items c.push_back.new.self.items (map headed_of (drop c.loop-headed.headed-index c.args.heads.now)) (headed_of c.headed-item.result) (map headed_of (drop (c.loop-headed.headed-index + 1) c.args.heads.now)) _ c.in_ok-check_rest_in.field-0 (search rules)
    (ap (map headed_of) (drop_at c.args.heads.now c.loop-headed.headed-index c.headed-item.result c.loop-headed-test.true c.headed-item.is)) c.loop-headed.invariant c.in_ok-check_rest_in.ensures

pub returns : goal.returns
returns c = each_end _ _ _ _ (ap (map headed_of) (drop_end c.args.heads.now c.loop-headed.headed-index c.loop-headed-test.false)) c.loop-headed.invariant
