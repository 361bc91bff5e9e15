use Rattle.std.proofs.Common.{◌≡◌, ◌+◌, length, ◌∙◌, arith}
use Rattle.value_net.specs.Nets.{view}
use Rattle.plan_bodies.specs.Plots.{plot}
use Rattle.plan_bodies.proofs.Counts.{cells_few, copied_count, flow_count}
use Rattle.plan_bodies.proofs.Dones.{flow_dones_there}
use Rattle.plan_bodies.proofs.blocks.enter_call.Goals as goal

pub flow_dones-requires-clause-cells : goal.flow_dones-requires-clause-cells
flow_dones-requires-clause-cells c =
    let count : length (view c.enter_flow.new.entered.net).values ≡ length (view c.args.entered.now.net).values + c.args.body.now.cells =
    flow_count c.args.flow.now c.args.args.now c.args.place c.args.layout.now c.args.body.now (plot c.args.entered.now) (plot c.enter_flow.new.entered) c.in_ok-first.ensures.entered in
    omega (arith, count, c.in_ok-first.ensures.first, cells_few c.enter_flow.new.entered.net)

pub copy_cells-requires-clause-inner : goal.copy_cells-requires-clause-inner
copy_cells-requires-clause-inner c = λ some.
    let count : length (view c.enter_flow.new.entered.net).values ≡ length (view c.args.entered.now.net).values + c.args.body.now.cells =
    flow_count c.args.flow.now c.args.args.now c.args.place c.args.layout.now c.args.body.now (plot c.args.entered.now) (plot c.enter_flow.new.entered) c.in_ok-first.ensures.entered in
    omega (arith, count, c.in_ok-first.ensures.first, c.requires.room.outputs, c.requires.outputs)

pub copy_cells-requires-clause-outer : goal.copy_cells-requires-clause-outer
copy_cells-requires-clause-outer c = λ some.
    let count : length (view c.enter_flow.new.entered.net).values ≡ length (view c.args.entered.now.net).values + c.args.body.now.cells =
    flow_count c.args.flow.now c.args.args.now c.args.place c.args.layout.now c.args.body.now (plot c.args.entered.now) (plot c.enter_flow.new.entered) c.in_ok-first.ensures.entered in
    omega (arith, count, c.last_base-base.ensures, c.requires.runs.names some)

pub add_step-requires-clause-there : goal.add_step-requires-clause-there
add_step-requires-clause-there c =
    let count : length (view c.enter_flow.new.entered.net).values ≡ length (view c.args.entered.now.net).values + c.args.body.now.cells =
    flow_count c.args.flow.now c.args.args.now c.args.place c.args.layout.now c.args.body.now (plot c.args.entered.now) (plot c.enter_flow.new.entered) c.in_ok-first.ensures.entered in
    let same : length (view c.copy_cells.new.net).values ≡ length (view c.enter_flow.new.entered.net).values =
    copied_count (c.in_ok-first.first + c.args.layout.now.first_output) (c.last_base-base.result + c.args.line.now.first_name) c.args.line.now.names (view c.enter_flow.new.entered.net) (view c.copy_cells.new.net) c.in_ok-copy_cells.ensures.copies in
    flow_dones_there (length (view c.args.entered.now.net).values) (length (view c.copy_cells.new.net).values) c.in_ok-first.first c.args.flow.now c.args.layout.now c.args.body.now c.as_slice.result.now
    (c.as_slice.ensures ∙ c.in_ok-dones.ensures) (omega (arith, count, same, c.in_ok-first.ensures.first)) c.requires.room
