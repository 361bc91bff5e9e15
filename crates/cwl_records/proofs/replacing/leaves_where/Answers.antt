use Rattle.std.proofs.Common.{◌+◌, drop, sym, ◌∙◌}
use Rattle.leaf_image.specs.Replaced.{leaves_where}
use Rattle.cwl_rules.proofs.ListLemmas.{drop_item}
use Rattle.cwl_records.proofs.LeafLists.{goes_on}
use Rattle.cwl_records.proofs.replacing.leaves_where.Goals as goal

pub loop-flow-preserved : goal.loop-flow-preserved
loop-flow-preserved c =
    let i = c.loop-flow.flow-index in
    let flows = c.args.flows.now in
    goes_on c.args.structs.now c.loop-flow.all c.push.new.self c.flow-item.result (drop (i + 1) flows) (drop i flows) c.in-Some.first.now c.in-Some.rest.now c.loop-flow.left.now c.in-Some-2.leaves
    (leaves_where c.args.structs.now flows c.args.marks.now)
    (drop_item flows i c.flow-item.result c.loop-flow-test.true c.flow-item.is)
    c.in-Some.ensures.cases.0 (sym c.in_ok-leaves.ensures ∙ c.in-Some-2.is) c.in_ok-push.ensures.ok c.loop-flow.invariant
