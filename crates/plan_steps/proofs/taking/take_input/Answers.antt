use Rattle.std.proofs.Common.{◌≡◌, slice_get, ap, refl, sym, ◌∙◌}
use Rattle.std.proofs.lemmas.Option.{same_Some}
use Rattle.wdl_typed.specs.declared.flow.FlowDef.{FlowDef}
use Rattle.wdl_typed.specs.declared.task.TInput.{TInput}
use Rattle.value_net.specs.Nets.{view}
use Rattle.plan_layout.specs.declared.layout.BodyLayout.{BodyLayout}
use Rattle.plan_layout.specs.declared.layout.FlowLayout.{FlowLayout}
use Rattle.plan_steps.specs.Doing.{field}
use Rattle.plan_steps.proofs.Standing.{declared_as, found_same, ready_as, same_bases, same_place_in}
use Rattle.plan_steps.proofs.taking.take_input.Goals as goal

pub declare-requires-clause-ready : goal.declare-requires-clause-ready
declare-requires-clause-ready g c =
    let h = c.requires.can in
    let q = h.instance in
    let b = h.body in
    let f = h.flow in
    let l = h.line in
    let x = h.input in
    let needs = h.needs in
    let at = h.here in
    let e = h.value in
    let body : c.layout_of.result.now ≡ b = c.layout_of.ensures q b at.of_instance.there at.of_instance.body_there in
    let line : c.index-as_slice-flow.result ≡ l =
    found_same c.args.ground.now.layout.now.flows c.as_slice.result.now c.layout_of.result.now.flow l c.index-as_slice-flow.result c.as_slice.ensures (ap (λ (z : BodyLayout). slice_get c.args.ground.now.layout.now.flows z.flow) body ∙ at.layout_there) c.index-as_slice-flow.is in
    let flow : c.index-as_slice-flow-2.result ≡ f =
    found_same c.args.ground.now.checked.now.flows c.as_slice-3.result.now c.layout_of.result.now.flow f c.index-as_slice-flow-2.result c.as_slice-3.ensures (ap (λ (z : BodyLayout). slice_get c.args.ground.now.checked.now.flows z.flow) body ∙ at.of_instance.flow_there) c.index-as_slice-flow-2.is in
    let bases : c.as_slice-bases.result.now ≡ q.bases =
    c.as_slice-bases.ensures ∙ same_bases c.as_slice-5.result.now c.args.growth.now.entered.instances c.args.instance q c.in_ok-spot.spot c.as_slice-5.ensures c.in_ok-spot.ensures at.of_instance.there in
    let place : c.in_ok-spot.spot.place ≡ q.place =
    same_place_in c.as_slice-5.result.now c.args.growth.now.entered.instances c.args.instance q c.in_ok-spot.spot c.as_slice-5.ensures c.in_ok-spot.ensures at.of_instance.there in
    let own : c.as_slice-needs.result.now ≡ needs =
    c.as_slice-needs.ensures ∙ found_same l.inputs c.as_slice-2.result.now c.args.input needs c.index-as_slice-input.result (c.as_slice-2.ensures ∙ ap (λ (z : FlowLayout). z.inputs) (sym c.index-as_slice-flow.is ∙ line)) at.needs_there c.index-as_slice-input.is in
    let decl : c.index-as_slice-input-2.result ≡ x =
    found_same f.inputs c.as_slice-4.result.now c.args.input x c.index-as_slice-input-2.result (c.as_slice-4.ensures ∙ ap (λ (z : FlowDef). z.inputs) (sym c.index-as_slice-flow-2.is ∙ flow)) at.input c.index-as_slice-input-2.is in
    let value : c.in-Some.value ≡ e = same_Some _ _ (sym c.in-Some.is ∙ ap (λ (z : TInput). z.value) decl ∙ at.default_is) in
    ready_as (view c.args.growth.now.entered.net) c.as_slice-bases.result.now q.bases c.as_slice-needs.result.now needs c.in-Some.value e bases own value h.can.ready

pub returns-clause-done : goal.returns-clause-done
returns-clause-done g c = λ q b f l x e needs at.
    let body : c.layout_of.result.now ≡ b = c.layout_of.ensures q b at.of_instance.there at.of_instance.body_there in
    let line : c.index-as_slice-flow.result ≡ l =
    found_same c.args.ground.now.layout.now.flows c.as_slice.result.now c.layout_of.result.now.flow l c.index-as_slice-flow.result c.as_slice.ensures (ap (λ (z : BodyLayout). slice_get c.args.ground.now.layout.now.flows z.flow) body ∙ at.layout_there) c.index-as_slice-flow.is in
    let flow : c.index-as_slice-flow-2.result ≡ f =
    found_same c.args.ground.now.checked.now.flows c.as_slice-3.result.now c.layout_of.result.now.flow f c.index-as_slice-flow-2.result c.as_slice-3.ensures (ap (λ (z : BodyLayout). slice_get c.args.ground.now.checked.now.flows z.flow) body ∙ at.of_instance.flow_there) c.index-as_slice-flow-2.is in
    let bases : c.as_slice-bases.result.now ≡ q.bases =
    c.as_slice-bases.ensures ∙ same_bases c.as_slice-5.result.now c.args.growth.now.entered.instances c.args.instance q c.in_ok-spot.spot c.as_slice-5.ensures c.in_ok-spot.ensures at.of_instance.there in
    let place : c.in_ok-spot.spot.place ≡ q.place =
    same_place_in c.as_slice-5.result.now c.args.growth.now.entered.instances c.args.instance q c.in_ok-spot.spot c.as_slice-5.ensures c.in_ok-spot.ensures at.of_instance.there in
    let own : c.as_slice-needs.result.now ≡ needs =
    c.as_slice-needs.ensures ∙ found_same l.inputs c.as_slice-2.result.now c.args.input needs c.index-as_slice-input.result (c.as_slice-2.ensures ∙ ap (λ (z : FlowLayout). z.inputs) (sym c.index-as_slice-flow.is ∙ line)) at.needs_there c.index-as_slice-input.is in
    let decl : c.index-as_slice-input-2.result ≡ x =
    found_same f.inputs c.as_slice-4.result.now c.args.input x c.index-as_slice-input-2.result (c.as_slice-4.ensures ∙ ap (λ (z : FlowDef). z.inputs) (sym c.index-as_slice-flow-2.is ∙ flow)) at.input c.index-as_slice-input-2.is in
    let value : c.in-Some.value ≡ e = same_Some _ _ (sym c.in-Some.is ∙ ap (λ (z : TInput). z.value) decl ∙ at.default_is) in
    declared_as (field c.args.growth.now) (field c.declare.new.growth) c.as_slice-bases.result.now q.bases c.args.input c.args.input c.in_ok-spot.spot.place q.place c.index-as_slice-input-2.result.name x.name c.as_slice-needs.result.now needs c.in-Some.value e
    bases refl place (ap (λ (z : TInput). z.name) decl) own value c.in_ok-declare.ensures.done
