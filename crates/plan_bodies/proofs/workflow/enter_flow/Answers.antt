use Rattle.std.proofs.Common.{◌≡◌, ◌+◌, List, [], length, ap, ◌∙◌, arith}
use Rattle.wdl_typed.specs.declared.task.TInput.{TInput}
use Rattle.value_net.specs.Nets.{view}
use Rattle.plan_bodies.specs.Plots.{plot}
use Rattle.plan_bodies.proofs.Counts.{entered_count, inputs_count}
use Rattle.plan_bodies.proofs.Reach.{all_reached_moved}
use Rattle.plan_bodies.proofs.workflow.enter_flow.Goals as goal

pub add_inputs-requires-clause-cells : goal.add_inputs-requires-clause-cells
add_inputs-requires-clause-cells c =
    let count : length (view c.add_instance.new.entered.net).values ≡ length (view c.args.entered.now.net).values + c.args.body.now.cells =
    entered_count c.args.layout.now.body [] c.args.place c.args.body.now (plot c.args.entered.now) (plot c.add_instance.new.entered) c.in_ok-first.ensures.entered in
    let size : length c.as_slice.result.now ≡ length c.args.flow.now.inputs = ap (λ (xs : List TInput). length xs) c.as_slice.ensures in
    omega (arith, count, size, c.in_ok-first.ensures.first, c.requires.room.inputs)

pub add_inputs-requires-clause-reached : goal.add_inputs-requires-clause-reached
add_inputs-requires-clause-reached c =
    all_reached_moved (length (view c.args.entered.now.net).values + c.args.body.now.cells) (length (view c.add_instance.new.entered.net).values) (length (view c.args.entered.now.net).values) c.in_ok-first.first c.args.layout.now.inputs c.as_slice-needs.result.now
    (entered_count c.args.layout.now.body [] c.args.place c.args.body.now (plot c.args.entered.now) (plot c.add_instance.new.entered) c.in_ok-first.ensures.entered)
    c.in_ok-first.ensures.first c.as_slice-needs.ensures (c.requires.room.inputs_reached (length (view c.args.entered.now.net).values) (omega arith))

pub add_outputs-requires-clause-reached : goal.add_outputs-requires-clause-reached
add_outputs-requires-clause-reached c =
    all_reached_moved (length (view c.args.entered.now.net).values + c.args.body.now.cells) (length (view c.add_inputs.new.net).values) (length (view c.args.entered.now.net).values) c.in_ok-first.first c.args.layout.now.outputs c.as_slice-2.result.now
    (inputs_count c.args.given.now c.len-instance.result c.in_ok-first.first 0 c.as_slice.result.now c.as_slice-needs.result.now (view c.add_instance.new.entered.net) (view c.add_inputs.new.net) c.in_ok-add_inputs.ensures.inputs
    ∙ entered_count c.args.layout.now.body [] c.args.place c.args.body.now (plot c.args.entered.now) (plot c.add_instance.new.entered) c.in_ok-first.ensures.entered)
    c.in_ok-first.ensures.first c.as_slice-2.ensures (c.requires.room.outputs_reached (length (view c.args.entered.now.net).values) (omega arith))
