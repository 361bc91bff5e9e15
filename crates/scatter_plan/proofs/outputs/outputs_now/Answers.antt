use Rattle.std.proofs.Common.{List, ap, arith, length, subst, sym, ◌∙◌, ◌<◌, ◌≡◌, ◌≤◌}
use Rattle.std.proofs.lemmas.Option.{same_Some}
use Rattle.wdl_typed.specs.declared.flow.FlowDef.{FlowDef}
use Rattle.value_net.specs.Nets.{view}
use Rattle.plan_layout.specs.declared.layout.BodyLayout.{BodyLayout}
use Rattle.plan_layout.specs.declared.layout.FlowLayout.{FlowLayout}
use Rattle.plan_steps.specs.Doing.{state}
use Rattle.scatter_plan.proofs.Beginning.{body_found, body_within, found_in, is_over_if, main_of, outputs_shown, room_there}
use Rattle.scatter_plan.proofs.outputs.outputs_now.Goals as goal

pub bounds-as_slice-layout : goal.bounds-as_slice-layout
bounds-as_slice-layout c =
    let form = c.args.ground.now.checked.now in
    let laid = c.args.ground.now.layout.now in
    let given = c.requires.made.0 in
    let made = c.requires.made.1 in
    let m = main_of form laid c.args.main given made in
    let flow = c.index-as_slice-main.result in
    let line = c.index-as_slice-main-2.result in
    let there = found_in form.flows c.as_slice-3.result.now c.args.main m.flow flow c.as_slice-3.ensures m.there c.index-as_slice-main.is in
    let line_there = found_in laid.flows c.as_slice-4.result.now c.args.main m.line line c.as_slice-4.ensures m.line_there c.index-as_slice-main-2.is in
    let inside : line.body < length c.as_slice-5.result.now = subst (λ (l : List BodyLayout). line.body < length l) (sym c.as_slice-5.ensures) (body_within form laid c.args.main given made flow line m.body there line_there) in
    inside

pub bounds-as_slice-layout-else-as_slice-gt0-2 : goal.bounds-as_slice-layout-else-as_slice-gt0-2
bounds-as_slice-layout-else-as_slice-gt0-2 c =
    let form = c.args.ground.now.checked.now in
    let laid = c.args.ground.now.layout.now in
    let given = c.requires.made.0 in
    let made = c.requires.made.1 in
    let m = main_of form laid c.args.main given made in
    let flow = c.index-as_slice-main.result in
    let line = c.index-as_slice-main-2.result in
    let there = found_in form.flows c.as_slice-3.result.now c.args.main m.flow flow c.as_slice-3.ensures m.there c.index-as_slice-main.is in
    let line_there = found_in laid.flows c.as_slice-4.result.now c.args.main m.line line c.as_slice-4.ensures m.line_there c.index-as_slice-main-2.is in
    let inside : line.body < length c.as_slice-5.result.now = subst (λ (l : List BodyLayout). line.body < length l) (sym c.as_slice-5.ensures) (body_within form laid c.args.main given made flow line m.body there line_there) in
    inside

pub offset_bounds-as_slice-layout : goal.offset_bounds-as_slice-layout
offset_bounds-as_slice-layout c =
    let form = c.args.ground.now.checked.now in
    let laid = c.args.ground.now.layout.now in
    let given = c.requires.made.0 in
    let made = c.requires.made.1 in
    let m = main_of form laid c.args.main given made in
    let flow = c.index-as_slice-main.result in
    let line = c.index-as_slice-main-2.result in
    let there = found_in form.flows c.as_slice-3.result.now c.args.main m.flow flow c.as_slice-3.ensures m.there c.index-as_slice-main.is in
    let line_there = found_in laid.flows c.as_slice-4.result.now c.args.main m.line line c.as_slice-4.ensures m.line_there c.index-as_slice-main-2.is in
    let inside : line.body < length c.as_slice-5.result.now = subst (λ (l : List BodyLayout). line.body < length l) (sym c.as_slice-5.ensures) (body_within form laid c.args.main given made flow line m.body there line_there) in
    omega (arith, inside, c.as_slice-5.type_inv)

pub outputs_at-requires : goal.outputs_at-requires
outputs_at-requires c =
    let form = c.args.ground.now.checked.now in
    let laid = c.args.ground.now.layout.now in
    let given = c.requires.made.0 in
    let made = c.requires.made.1 in
    let m = main_of form laid c.args.main given made in
    let flow = c.index-as_slice-main.result in
    let line = c.index-as_slice-main-2.result in
    let there = found_in form.flows c.as_slice-3.result.now c.args.main m.flow flow c.as_slice-3.ensures m.there c.index-as_slice-main.is in
    let line_there = found_in laid.flows c.as_slice-4.result.now c.args.main m.line line c.as_slice-4.ensures m.line_there c.index-as_slice-main-2.is in
    let body = c.index-as_slice-layout.result in
    let body_there = found_in laid.bodies c.as_slice-5.result.now line.body m.body body c.as_slice-5.ensures (body_found form laid c.args.main given made flow line m.body there line_there) c.index-as_slice-layout.is in
    let slice : c.as_slice-outputs.result.now ≡ flow.outputs = c.as_slice-outputs.ensures ∙ ap (λ (x : FlowDef). x.outputs) (sym c.index-as_slice-main.is) in
    let room = room_there form laid c.args.main given made flow line body there line_there body_there in
    record { within = omega (arith, room.outputs, ap length slice, ap (λ (x : BodyLayout). x.cells) c.index-as_slice-layout.is, ap (λ (x : FlowLayout). x.first_output) c.index-as_slice-main-2.is) }

pub returns : goal.returns
returns c =
    let form = c.args.ground.now.checked.now in
    let laid = c.args.ground.now.layout.now in
    let given = c.requires.made.0 in
    let made = c.requires.made.1 in
    let m = main_of form laid c.args.main given made in
    let flow = c.index-as_slice-main.result in
    let line = c.index-as_slice-main-2.result in
    let there = found_in form.flows c.as_slice-3.result.now c.args.main m.flow flow c.as_slice-3.ensures m.there c.index-as_slice-main.is in
    let line_there = found_in laid.flows c.as_slice-4.result.now c.args.main m.line line c.as_slice-4.ensures m.line_there c.index-as_slice-main-2.is in
    let s = state c.args.growth.now c.args.asking.now in
    let slice : c.as_slice-outputs.result.now ≡ flow.outputs = c.as_slice-outputs.ensures ∙ ap (λ (x : FlowDef). x.outputs) (sym c.index-as_slice-main.is) in
    let ready : length s.asks.ready ≤ 0 = omega (arith, c.if-as_slice-gt0.false, ap length c.as_slice.ensures.value) in
    let faults : length s.field.faults ≤ 0 = omega (arith, c.if-as_slice-gt0-2.false, ap length c.as_slice-2.ensures) in
    record {
      outputs =
          λ f l ft lt. outputs_shown s (view c.args.growth.now.entered.net).values c.in_ok-outputs_at.field-0 c.as_slice-outputs.result.now flow f line l c.in_ok-outputs_at.ensures.outputs slice
          (same_Some flow f (sym there ∙ ft)) (same_Some line l (sym line_there ∙ lt)) (is_over_if s ready faults);
    }
