use Rattle.std.proofs.Common.{◌≡◌, ◌<◌, ◌≤◌, ℕ, List, length, refl, sym, subst, arith}
use Rattle.value_net.specs.Nets.{view}
use Rattle.plan_layout.specs.declared.layout.BodyLayout.{BodyLayout}
use Rattle.plan_room.specs.Reached.{HasRoom}
use Rattle.plan_room.specs.Room.{HasInner}
use Rattle.plan_steps.specs.Doing.{state}
use Rattle.plan_steps.proofs.Standing.{call_done, call_within, can_if, can_scatter, found_same, if_done, inside_of, scatter_done}
use Rattle.plan_steps.proofs.statement.do_statement.Goals as goal

pub scatter-requires-clause-room : goal.scatter-requires-clause-room
scatter-requires-clause-room g c =
    let h = can_scatter c.args.ground.now.checked.now c.args.ground.now.layout.now c.args.ground.now.site.now c.args.spot.now.bases c.args.spot.now.place c.args.step c.args.line.now (state c.args.growth.now c.args.asking.now) c.args.statement.now c.in-Scatter.it c.in-Scatter.is c.requires.can.can in
    let n = length (view c.args.growth.now.entered.net).values in
    let same : c.index-bodies-line.result ≡ h.0 = found_same c.args.ground.now.layout.now.bodies c.as_slice-bodies.result.now c.args.line.now.inner h.0 c.index-bodies-line.result c.as_slice-bodies.ensures h.1 c.index-bodies-line.is in
    subst (λ (b : BodyLayout). HasRoom n c.as_slice-bases.result.now b) (sym same) (subst (λ (bs : List ℕ). HasRoom n bs h.0) (sym c.as_slice-bases.ensures) h.3)

pub scatter-requires-clause-inner : goal.scatter-requires-clause-inner
scatter-requires-clause-inner g c =
    let h = can_scatter c.args.ground.now.checked.now c.args.ground.now.layout.now c.args.ground.now.site.now c.args.spot.now.bases c.args.spot.now.place c.args.step c.args.line.now (state c.args.growth.now c.args.asking.now) c.args.statement.now c.in-Scatter.it c.in-Scatter.is c.requires.can.can in
    let same : c.index-bodies-line.result ≡ h.0 = found_same c.args.ground.now.layout.now.bodies c.as_slice-bodies.result.now c.args.line.now.inner h.0 c.index-bodies-line.result c.as_slice-bodies.ensures h.1 c.index-bodies-line.is in
    subst (λ (b : BodyLayout). HasInner c.args.line.now b) (sym same) h.4

pub bounds-bodies-line-in-If : goal.bounds-bodies-line-in-If
bounds-bodies-line-in-If g c =
    let h = can_if c.args.ground.now.checked.now c.args.ground.now.layout.now c.args.ground.now.site.now c.args.spot.now.bases c.args.spot.now.place c.args.step c.args.line.now (state c.args.growth.now c.args.asking.now) c.args.statement.now c.in-If.it c.in-If.is c.requires.can.can in
    inside_of c.args.ground.now.layout.now.bodies c.as_slice-bodies-in-If.result.now c.args.line.now.inner h.0 c.as_slice-bodies-in-If.ensures h.1

pub offset_bounds-bodies-line-in-If : goal.offset_bounds-bodies-line-in-If
offset_bounds-bodies-line-in-If g c =
    let h = can_if c.args.ground.now.checked.now c.args.ground.now.layout.now c.args.ground.now.site.now c.args.spot.now.bases c.args.spot.now.place c.args.step c.args.line.now (state c.args.growth.now c.args.asking.now) c.args.statement.now c.in-If.it c.in-If.is c.requires.can.can in
    let inside : c.args.line.now.inner < length c.as_slice-bodies-in-If.result.now = inside_of c.args.ground.now.layout.now.bodies c.as_slice-bodies-in-If.result.now c.args.line.now.inner h.0 c.as_slice-bodies-in-If.ensures h.1 in
    omega (arith, inside, c.as_slice-bodies-in-If.type_inv)

pub condition-requires-clause-room : goal.condition-requires-clause-room
condition-requires-clause-room g c =
    let h = can_if c.args.ground.now.checked.now c.args.ground.now.layout.now c.args.ground.now.site.now c.args.spot.now.bases c.args.spot.now.place c.args.step c.args.line.now (state c.args.growth.now c.args.asking.now) c.args.statement.now c.in-If.it c.in-If.is c.requires.can.can in
    let n = length (view c.args.growth.now.entered.net).values in
    let same : c.index-bodies-line-in-If.result ≡ h.0 = found_same c.args.ground.now.layout.now.bodies c.as_slice-bodies-in-If.result.now c.args.line.now.inner h.0 c.index-bodies-line-in-If.result c.as_slice-bodies-in-If.ensures h.1 c.index-bodies-line-in-If.is in
    subst (λ (b : BodyLayout). HasRoom n c.as_slice-bases.result.now b) (sym same) (subst (λ (bs : List ℕ). HasRoom n bs h.0) (sym c.as_slice-bases.ensures) h.2)

pub condition-requires-clause-inner : goal.condition-requires-clause-inner
condition-requires-clause-inner g c =
    let h = can_if c.args.ground.now.checked.now c.args.ground.now.layout.now c.args.ground.now.site.now c.args.spot.now.bases c.args.spot.now.place c.args.step c.args.line.now (state c.args.growth.now c.args.asking.now) c.args.statement.now c.in-If.it c.in-If.is c.requires.can.can in
    let same : c.index-bodies-line-in-If.result ≡ h.0 = found_same c.args.ground.now.layout.now.bodies c.as_slice-bodies-in-If.result.now c.args.line.now.inner h.0 c.index-bodies-line-in-If.result c.as_slice-bodies-in-If.ensures h.1 c.index-bodies-line-in-If.is in
    subst (λ (b : BodyLayout). HasInner c.args.line.now b) (sym same) h.3

pub returns-in-Call-clause-done : goal.returns-in-Call-clause-done
returns-in-Call-clause-done g c =
    call_done c.args.ground.now.checked.now c.args.ground.now.layout.now c.args.ground.now.site.now c.args.spot.now.bases c.args.spot.now.place c.args.step c.args.line.now (state c.args.growth.now c.args.asking.now)
    (state c.call.new.growth c.call.new.asking) (Unit {0}) c.call.result c.args.statement.now c.in-Call.it c.as_slice-bases.result.now c.in-Call.is c.as_slice-bases.ensures c.call.ensures.called

pub returns-in-Call-clause-steps : goal.returns-in-Call-clause-steps
returns-in-Call-clause-steps g c =
    call_within c.args.ground.now.checked.now c.args.ground.now.layout.now c.args.ground.now.site.now c.args.spot.now.bases c.args.spot.now.place c.args.step c.args.line.now (state c.args.growth.now c.args.asking.now)
    c.args.statement.now c.in-Call.it c.as_slice-bases.result.now c.args.steps.now c.call.new.steps c.in-Call.is c.as_slice-bases.ensures c.call.ensures.steps

pub returns-in-Scatter-clause-done : goal.returns-in-Scatter-clause-done
returns-in-Scatter-clause-done g c =
    let h = can_scatter c.args.ground.now.checked.now c.args.ground.now.layout.now c.args.ground.now.site.now c.args.spot.now.bases c.args.spot.now.place c.args.step c.args.line.now (state c.args.growth.now c.args.asking.now) c.args.statement.now c.in-Scatter.it c.in-Scatter.is c.requires.can.can in
    let same : c.index-bodies-line.result ≡ h.0 = found_same c.args.ground.now.layout.now.bodies c.as_slice-bodies.result.now c.args.line.now.inner h.0 c.index-bodies-line.result c.as_slice-bodies.ensures h.1 c.index-bodies-line.is in
    scatter_done c.args.ground.now.checked.now c.args.ground.now.layout.now c.args.ground.now.site.now c.args.spot.now.bases c.args.spot.now.place c.args.step c.args.line.now (state c.args.growth.now c.args.asking.now)
    (state c.scatter.new.growth c.args.asking.now) (c.scatter.new.growth.count ≤ 1000000) c.scatter.result c.args.statement.now c.in-Scatter.it c.index-bodies-line.result h.0 c.as_slice-bases.result.now c.in-Scatter.is c.as_slice-bases.ensures same h.1 refl c.scatter.ensures.done

pub returns-in-If-clause-done : goal.returns-in-If-clause-done
returns-in-If-clause-done g c =
    let h = can_if c.args.ground.now.checked.now c.args.ground.now.layout.now c.args.ground.now.site.now c.args.spot.now.bases c.args.spot.now.place c.args.step c.args.line.now (state c.args.growth.now c.args.asking.now) c.args.statement.now c.in-If.it c.in-If.is c.requires.can.can in
    let same : c.index-bodies-line-in-If.result ≡ h.0 = found_same c.args.ground.now.layout.now.bodies c.as_slice-bodies-in-If.result.now c.args.line.now.inner h.0 c.index-bodies-line-in-If.result c.as_slice-bodies-in-If.ensures h.1 c.index-bodies-line-in-If.is in
    if_done c.args.ground.now.checked.now c.args.ground.now.layout.now c.args.ground.now.site.now c.args.spot.now.bases c.args.spot.now.place c.args.step c.args.line.now (state c.args.growth.now c.args.asking.now)
    (state c.condition.new.growth c.args.asking.now) (c.condition.new.growth.count ≤ 1000000) c.condition.result c.args.statement.now c.in-If.it c.index-bodies-line-in-If.result h.0 c.as_slice-bases.result.now c.in-If.is c.as_slice-bases.ensures same h.1 refl c.condition.ensures.done
