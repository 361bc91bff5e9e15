use Rattle.std.proofs.Common.{◌≡◌, ◌<◌, ℕ, ◌+◌, List, length, slice_get, ap, subst, sym, ◌∙◌, arith}
use Rattle.wdl_typed.specs.declared.flow.FlowDef.{FlowDef}
use Rattle.wdl_typed.specs.declared.task.TDecl.{TDecl}
use Rattle.value_net.specs.Nets.{view}
use Rattle.plan_layout.specs.declared.layout.BodyLayout.{BodyLayout}
use Rattle.plan_layout.specs.declared.layout.FlowLayout.{FlowLayout}
use Rattle.plan_steps.specs.Doing.{field}
use Rattle.plan_bodies.specs.Bases.{last_base}
use Rattle.plan_bodies.proofs.Counts.{cells_few}
use Rattle.plan_steps.proofs.Standing.{declared_as, found_same, reached_at, ready_as, same_bases, same_place_in}
use Rattle.plan_steps.proofs.taking.take_output.Goals as goal

pub overflow_add-slot : goal.overflow_add-slot
overflow_add-slot g c =
    let h = c.requires.can in
    let q = h.instance in
    let b = h.body in
    let f = h.flow in
    let l = h.line in
    let x = h.output in
    let needs = h.needs in
    let at = h.here in
    let body : c.layout_of.result.now ≡ b = c.layout_of.ensures q b at.of_instance.there at.of_instance.body_there in
    let line : c.index-as_slice-flow.result ≡ l =
    found_same c.args.ground.now.layout.now.flows c.as_slice.result.now c.layout_of.result.now.flow l c.index-as_slice-flow.result c.as_slice.ensures (ap (λ (z : BodyLayout). slice_get c.args.ground.now.layout.now.flows z.flow) body ∙ at.layout_there) c.index-as_slice-flow.is in
    let slot : c.index-as_slice-flow.result.first_output + c.args.output ≡ l.first_output + c.args.output = ap (λ (z : FlowLayout). z.first_output + c.args.output) line in
    omega (arith, slot, h.can.cell, cells_few c.args.growth.now.entered.net)

pub declare-requires-clause-cell : goal.declare-requires-clause-cell
declare-requires-clause-cell g c =
    let h = c.requires.can in
    let q = h.instance in
    let b = h.body in
    let f = h.flow in
    let l = h.line in
    let x = h.output in
    let needs = h.needs in
    let at = h.here in
    let body : c.layout_of.result.now ≡ b = c.layout_of.ensures q b at.of_instance.there at.of_instance.body_there in
    let line : c.index-as_slice-flow.result ≡ l =
    found_same c.args.ground.now.layout.now.flows c.as_slice.result.now c.layout_of.result.now.flow l c.index-as_slice-flow.result c.as_slice.ensures (ap (λ (z : BodyLayout). slice_get c.args.ground.now.layout.now.flows z.flow) body ∙ at.layout_there) c.index-as_slice-flow.is in
    let flow : c.index-as_slice-flow-2.result ≡ f =
    found_same c.args.ground.now.checked.now.flows c.as_slice-3.result.now c.layout_of.result.now.flow f c.index-as_slice-flow-2.result c.as_slice-3.ensures (ap (λ (z : BodyLayout). slice_get c.args.ground.now.checked.now.flows z.flow) body ∙ at.of_instance.flow_there) c.index-as_slice-flow-2.is in
    let bases : c.as_slice-bases.result.now ≡ q.bases =
    c.as_slice-bases.ensures ∙ same_bases c.as_slice-5.result.now c.args.growth.now.entered.instances c.args.instance q c.in_ok-spot.spot c.as_slice-5.ensures c.in_ok-spot.ensures at.of_instance.there in
    let place : c.in_ok-spot.spot.place ≡ q.place =
    same_place_in c.as_slice-5.result.now c.args.growth.now.entered.instances c.args.instance q c.in_ok-spot.spot c.as_slice-5.ensures c.in_ok-spot.ensures at.of_instance.there in
    let own : c.as_slice-needs.result.now ≡ needs =
    c.as_slice-needs.ensures ∙ found_same l.outputs c.as_slice-2.result.now c.args.output needs c.index-as_slice-output.result (c.as_slice-2.ensures ∙ ap (λ (z : FlowLayout). z.outputs) line) at.needs_there c.index-as_slice-output.is in
    let decl : c.index-as_slice-output-2.result ≡ x =
    found_same f.outputs c.as_slice-4.result.now c.args.output x c.index-as_slice-output-2.result (c.as_slice-4.ensures ∙ ap (λ (z : FlowDef). z.outputs) (sym c.index-as_slice-flow-2.is ∙ flow)) at.output c.index-as_slice-output-2.is in
    let value : c.index-as_slice-output-2.result.value ≡ x.value = ap (λ (z : TDecl). z.value) decl in
    let slot : c.index-as_slice-flow.result.first_output + c.args.output ≡ l.first_output + c.args.output = ap (λ (z : FlowLayout). z.first_output + c.args.output) line in
    subst (λ (bs : List ℕ). last_base bs + (c.index-as_slice-flow.result.first_output + c.args.output) < length (view c.args.growth.now.entered.net).values) (sym bases)
    (subst (λ (s : ℕ). last_base q.bases + s < length (view c.args.growth.now.entered.net).values) (sym slot) h.can.cell)

pub declare-requires-clause-reached : goal.declare-requires-clause-reached
declare-requires-clause-reached g c =
    let h = c.requires.can in
    let q = h.instance in
    let b = h.body in
    let f = h.flow in
    let l = h.line in
    let x = h.output in
    let needs = h.needs in
    let at = h.here in
    let body : c.layout_of.result.now ≡ b = c.layout_of.ensures q b at.of_instance.there at.of_instance.body_there in
    let line : c.index-as_slice-flow.result ≡ l =
    found_same c.args.ground.now.layout.now.flows c.as_slice.result.now c.layout_of.result.now.flow l c.index-as_slice-flow.result c.as_slice.ensures (ap (λ (z : BodyLayout). slice_get c.args.ground.now.layout.now.flows z.flow) body ∙ at.layout_there) c.index-as_slice-flow.is in
    let flow : c.index-as_slice-flow-2.result ≡ f =
    found_same c.args.ground.now.checked.now.flows c.as_slice-3.result.now c.layout_of.result.now.flow f c.index-as_slice-flow-2.result c.as_slice-3.ensures (ap (λ (z : BodyLayout). slice_get c.args.ground.now.checked.now.flows z.flow) body ∙ at.of_instance.flow_there) c.index-as_slice-flow-2.is in
    let bases : c.as_slice-bases.result.now ≡ q.bases =
    c.as_slice-bases.ensures ∙ same_bases c.as_slice-5.result.now c.args.growth.now.entered.instances c.args.instance q c.in_ok-spot.spot c.as_slice-5.ensures c.in_ok-spot.ensures at.of_instance.there in
    let place : c.in_ok-spot.spot.place ≡ q.place =
    same_place_in c.as_slice-5.result.now c.args.growth.now.entered.instances c.args.instance q c.in_ok-spot.spot c.as_slice-5.ensures c.in_ok-spot.ensures at.of_instance.there in
    let own : c.as_slice-needs.result.now ≡ needs =
    c.as_slice-needs.ensures ∙ found_same l.outputs c.as_slice-2.result.now c.args.output needs c.index-as_slice-output.result (c.as_slice-2.ensures ∙ ap (λ (z : FlowLayout). z.outputs) line) at.needs_there c.index-as_slice-output.is in
    let decl : c.index-as_slice-output-2.result ≡ x =
    found_same f.outputs c.as_slice-4.result.now c.args.output x c.index-as_slice-output-2.result (c.as_slice-4.ensures ∙ ap (λ (z : FlowDef). z.outputs) (sym c.index-as_slice-flow-2.is ∙ flow)) at.output c.index-as_slice-output-2.is in
    reached_at (length (view c.args.growth.now.entered.net).values) c.as_slice-bases.result.now q.bases c.as_slice-needs.result.now needs bases own h.can.reached

pub declare-requires-clause-ready : goal.declare-requires-clause-ready
declare-requires-clause-ready g c =
    let h = c.requires.can in
    let q = h.instance in
    let b = h.body in
    let f = h.flow in
    let l = h.line in
    let x = h.output in
    let needs = h.needs in
    let at = h.here in
    let body : c.layout_of.result.now ≡ b = c.layout_of.ensures q b at.of_instance.there at.of_instance.body_there in
    let line : c.index-as_slice-flow.result ≡ l =
    found_same c.args.ground.now.layout.now.flows c.as_slice.result.now c.layout_of.result.now.flow l c.index-as_slice-flow.result c.as_slice.ensures (ap (λ (z : BodyLayout). slice_get c.args.ground.now.layout.now.flows z.flow) body ∙ at.layout_there) c.index-as_slice-flow.is in
    let flow : c.index-as_slice-flow-2.result ≡ f =
    found_same c.args.ground.now.checked.now.flows c.as_slice-3.result.now c.layout_of.result.now.flow f c.index-as_slice-flow-2.result c.as_slice-3.ensures (ap (λ (z : BodyLayout). slice_get c.args.ground.now.checked.now.flows z.flow) body ∙ at.of_instance.flow_there) c.index-as_slice-flow-2.is in
    let bases : c.as_slice-bases.result.now ≡ q.bases =
    c.as_slice-bases.ensures ∙ same_bases c.as_slice-5.result.now c.args.growth.now.entered.instances c.args.instance q c.in_ok-spot.spot c.as_slice-5.ensures c.in_ok-spot.ensures at.of_instance.there in
    let place : c.in_ok-spot.spot.place ≡ q.place =
    same_place_in c.as_slice-5.result.now c.args.growth.now.entered.instances c.args.instance q c.in_ok-spot.spot c.as_slice-5.ensures c.in_ok-spot.ensures at.of_instance.there in
    let own : c.as_slice-needs.result.now ≡ needs =
    c.as_slice-needs.ensures ∙ found_same l.outputs c.as_slice-2.result.now c.args.output needs c.index-as_slice-output.result (c.as_slice-2.ensures ∙ ap (λ (z : FlowLayout). z.outputs) line) at.needs_there c.index-as_slice-output.is in
    let decl : c.index-as_slice-output-2.result ≡ x =
    found_same f.outputs c.as_slice-4.result.now c.args.output x c.index-as_slice-output-2.result (c.as_slice-4.ensures ∙ ap (λ (z : FlowDef). z.outputs) (sym c.index-as_slice-flow-2.is ∙ flow)) at.output c.index-as_slice-output-2.is in
    let value : c.index-as_slice-output-2.result.value ≡ x.value = ap (λ (z : TDecl). z.value) decl in
    let slot : c.index-as_slice-flow.result.first_output + c.args.output ≡ l.first_output + c.args.output = ap (λ (z : FlowLayout). z.first_output + c.args.output) line in
    ready_as (view c.args.growth.now.entered.net) c.as_slice-bases.result.now q.bases c.as_slice-needs.result.now needs c.index-as_slice-output-2.result.value x.value bases own value h.can.ready

pub returns-clause-done : goal.returns-clause-done
returns-clause-done g c = λ q b f l x needs at.
    let body : c.layout_of.result.now ≡ b = c.layout_of.ensures q b at.of_instance.there at.of_instance.body_there in
    let line : c.index-as_slice-flow.result ≡ l =
    found_same c.args.ground.now.layout.now.flows c.as_slice.result.now c.layout_of.result.now.flow l c.index-as_slice-flow.result c.as_slice.ensures (ap (λ (z : BodyLayout). slice_get c.args.ground.now.layout.now.flows z.flow) body ∙ at.layout_there) c.index-as_slice-flow.is in
    let flow : c.index-as_slice-flow-2.result ≡ f =
    found_same c.args.ground.now.checked.now.flows c.as_slice-3.result.now c.layout_of.result.now.flow f c.index-as_slice-flow-2.result c.as_slice-3.ensures (ap (λ (z : BodyLayout). slice_get c.args.ground.now.checked.now.flows z.flow) body ∙ at.of_instance.flow_there) c.index-as_slice-flow-2.is in
    let bases : c.as_slice-bases.result.now ≡ q.bases =
    c.as_slice-bases.ensures ∙ same_bases c.as_slice-5.result.now c.args.growth.now.entered.instances c.args.instance q c.in_ok-spot.spot c.as_slice-5.ensures c.in_ok-spot.ensures at.of_instance.there in
    let place : c.in_ok-spot.spot.place ≡ q.place =
    same_place_in c.as_slice-5.result.now c.args.growth.now.entered.instances c.args.instance q c.in_ok-spot.spot c.as_slice-5.ensures c.in_ok-spot.ensures at.of_instance.there in
    let own : c.as_slice-needs.result.now ≡ needs =
    c.as_slice-needs.ensures ∙ found_same l.outputs c.as_slice-2.result.now c.args.output needs c.index-as_slice-output.result (c.as_slice-2.ensures ∙ ap (λ (z : FlowLayout). z.outputs) line) at.needs_there c.index-as_slice-output.is in
    let decl : c.index-as_slice-output-2.result ≡ x =
    found_same f.outputs c.as_slice-4.result.now c.args.output x c.index-as_slice-output-2.result (c.as_slice-4.ensures ∙ ap (λ (z : FlowDef). z.outputs) (sym c.index-as_slice-flow-2.is ∙ flow)) at.output c.index-as_slice-output-2.is in
    let value : c.index-as_slice-output-2.result.value ≡ x.value = ap (λ (z : TDecl). z.value) decl in
    let slot : c.index-as_slice-flow.result.first_output + c.args.output ≡ l.first_output + c.args.output = ap (λ (z : FlowLayout). z.first_output + c.args.output) line in
    declared_as (field c.args.growth.now) (field c.declare.new.growth) c.as_slice-bases.result.now q.bases (c.index-as_slice-flow.result.first_output + c.args.output) (l.first_output + c.args.output) c.in_ok-spot.spot.place q.place c.index-as_slice-output-2.result.name x.name
    c.as_slice-needs.result.now needs c.index-as_slice-output-2.result.value x.value bases slot place (ap (λ (z : TDecl). z.name) decl) own value c.in_ok-declare.ensures.done
