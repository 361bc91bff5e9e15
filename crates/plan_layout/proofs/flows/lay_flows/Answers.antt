use Rattle.std.proofs.Common.{◌≡◌, ◌+◌, ◌<◌, ◌≤◌, List, Some, length, get_or, slice_get, sym, ap, ◌∙◌, subst, refl, arith}
use Rattle.std.proofs.lemmas.Option.{slice_get_read}
use Rattle.wdl_typed.specs.declared.flow.FlowDef.{FlowDef}
use Rattle.wdl_typed.specs.Bodies.{Library, library}
use Rattle.plan_layout.specs.declared.layout.FlowLayout.{FlowLayout}
use Rattle.plan_layout.proofs.Workflows.{LaidBelow, all_below, one_below}
use Rattle.plan_layout.proofs.flows.lay_flows.Goals as goal

pub loop-flow-preserved : goal.loop-flow-preserved
loop-flow-preserved c =
    let lib : Library = library c.args.checked.now.structs c.args.checked.now.tasks c.args.checked.now.flows in
    let k = c.loop-flow.flow in
    let f = c.index-as_slice-flow.result in
    let size : c.len-flow-end.result ≡ length c.args.checked.now.flows = c.len-flow-end.ensures in
    let test : k < c.len-flow-end.result = c.loop-flow-test.true in
    let below : k < length c.args.checked.now.flows = omega (arith, size, test) in
    let at : slice_get c.args.checked.now.flows k ≡ Some f =
    slice_get_read c.args.checked.now.flows (length c.args.checked.now.flows) k f refl below (c.index-as_slice-flow.is ∙ ap (λ (fs : List FlowDef). get_or fs k f) c.as_slice.ensures) in
    subst (λ (ls : List FlowLayout). LaidBelow lib (k + 1) ls c.lay_flow.new.bodies) (sym c.in_ok-push.ensures.ok)
    (one_below _ f c.loop-flow.flows c.loop-flow.bodies c.lay_flow.new.bodies c.in_ok-laid.laid at c.loop-flow.invariant c.in_ok-laid.ensures)

pub returns : goal.returns
returns c =
    let lib : Library = library c.args.checked.now.structs c.args.checked.now.tasks c.args.checked.now.flows in
    let size : c.len-flow-end.result ≡ length c.args.checked.now.flows = c.len-flow-end.ensures in
    let test : c.len-flow-end.result ≤ c.loop-flow.flow = c.loop-flow-test.false in
    let within : c.loop-flow.flow ≤ c.len-flow-end.result = c.loop-flow.auto.flow-end in
    let most : length c.args.checked.now.flows ≤ c.loop-flow.flow = omega (arith, size, test) in
    let least : c.loop-flow.flow ≤ length c.args.checked.now.flows = omega (arith, size, within) in
    all_below lib c.loop-flow.flows c.loop-flow.bodies c.loop-flow.flow most least c.loop-flow.invariant
