use Rattle.std.proofs.Common.{List, arith, length, subst, sym, ◌<◌}
use Rattle.plan_layout.specs.declared.layout.BodyLayout.{BodyLayout}
use Rattle.scatter_plan.proofs.Beginning.{body_found, body_within, enters_there, found_in, main_of, room_there}
use Rattle.scatter_plan.proofs.begin.enter_main.Goals as goal

pub bounds-as_slice-layout : goal.bounds-as_slice-layout
bounds-as_slice-layout c =
    let form = c.args.ground.now.checked.now in
    let laid = c.args.ground.now.layout.now in
    let m = main_of form laid c.args.main c.args.inputs.now c.requires.made in
    let flow = c.index-as_slice-main.result in
    let line = c.index-as_slice-main-2.result in
    let there = found_in form.flows c.as_slice.result.now c.args.main m.flow flow c.as_slice.ensures m.there c.index-as_slice-main.is in
    let line_there = found_in laid.flows c.as_slice-2.result.now c.args.main m.line line c.as_slice-2.ensures m.line_there c.index-as_slice-main-2.is in
    let inside : line.body < length c.as_slice-3.result.now =
    subst (λ (l : List BodyLayout). line.body < length l) (sym c.as_slice-3.ensures) (body_within form laid c.args.main c.args.inputs.now c.requires.made flow line m.body there line_there) in
    inside

pub offset_bounds-as_slice-layout : goal.offset_bounds-as_slice-layout
offset_bounds-as_slice-layout c =
    let form = c.args.ground.now.checked.now in
    let laid = c.args.ground.now.layout.now in
    let m = main_of form laid c.args.main c.args.inputs.now c.requires.made in
    let flow = c.index-as_slice-main.result in
    let line = c.index-as_slice-main-2.result in
    let there = found_in form.flows c.as_slice.result.now c.args.main m.flow flow c.as_slice.ensures m.there c.index-as_slice-main.is in
    let line_there = found_in laid.flows c.as_slice-2.result.now c.args.main m.line line c.as_slice-2.ensures m.line_there c.index-as_slice-main-2.is in
    let inside : line.body < length c.as_slice-3.result.now =
    subst (λ (l : List BodyLayout). line.body < length l) (sym c.as_slice-3.ensures) (body_within form laid c.args.main c.args.inputs.now c.requires.made flow line m.body there line_there) in
    omega (arith, inside, c.as_slice-3.type_inv)

pub enter_first-requires : goal.enter_first-requires
enter_first-requires c =
    let form = c.args.ground.now.checked.now in
    let laid = c.args.ground.now.layout.now in
    let m = main_of form laid c.args.main c.args.inputs.now c.requires.made in
    let flow = c.index-as_slice-main.result in
    let line = c.index-as_slice-main-2.result in
    let there = found_in form.flows c.as_slice.result.now c.args.main m.flow flow c.as_slice.ensures m.there c.index-as_slice-main.is in
    let line_there = found_in laid.flows c.as_slice-2.result.now c.args.main m.line line c.as_slice-2.ensures m.line_there c.index-as_slice-main-2.is in
    let body = c.index-as_slice-layout.result in
    let body_there =
    found_in laid.bodies c.as_slice-3.result.now line.body m.body body c.as_slice-3.ensures (body_found form laid c.args.main c.args.inputs.now c.requires.made flow line m.body there line_there) c.index-as_slice-layout.is in
    record { room = room_there form laid c.args.main c.args.inputs.now c.requires.made flow line body there line_there body_there }

pub returns : goal.returns
returns c =
    let form = c.args.ground.now.checked.now in
    let laid = c.args.ground.now.layout.now in
    let m = main_of form laid c.args.main c.args.inputs.now c.requires.made in
    let flow = c.index-as_slice-main.result in
    let line = c.index-as_slice-main-2.result in
    let there = found_in form.flows c.as_slice.result.now c.args.main m.flow flow c.as_slice.ensures m.there c.index-as_slice-main.is in
    let line_there = found_in laid.flows c.as_slice-2.result.now c.args.main m.line line c.as_slice-2.ensures m.line_there c.index-as_slice-main-2.is in
    let body = c.index-as_slice-layout.result in
    let body_there =
    found_in laid.bodies c.as_slice-3.result.now line.body m.body body c.as_slice-3.ensures (body_found form laid c.args.main c.args.inputs.now c.requires.made flow line m.body there line_there) c.index-as_slice-layout.is in
    record {
      enters =
          enters_there form laid c.args.main c.args.inputs.now c.requires.made flow line body there line_there body_there c.flows_see.ensures c.args.ground.now.site.now c.enter_first.result c.enter_first.ensures.enters;
    }
