use Rattle.std.proofs.Common.{◌+◌, drop}
use Rattle.wdl_typed.specs.Bodies.{library}
use Rattle.cwl_rules.proofs.ListLemmas.{drop_item}
use Rattle.cwl_records.specs.Lowered.{unaliased_where}
use Rattle.cwl_records.proofs.FlowLists.{flow_goes}
use Rattle.cwl_records.proofs.unaliased.unaliased_where.Goals as goal

pub loop-flow-preserved : goal.loop-flow-preserved
loop-flow-preserved c =
    let i = c.loop-flow.flow-index in
    let flows = c.args.flows.now in
    let lib = library c.args.structs.now c.args.tasks.now flows in
    flow_goes lib c.loop-flow.all c.push_where.new.all (unaliased_where lib flows c.args.marks.now) c.flow-item.result (drop (i + 1) flows) (drop i flows) c.in-Some.first.now c.in-Some.rest.now c.loop-flow.left.now
    (drop_item flows i c.flow-item.result c.loop-flow-test.true c.flow-item.is)
    c.in-Some.ensures.cases.0 c.in_ok-push_where.ensures c.loop-flow.invariant
