use Rattle.std.proofs.Common.{◌≡◌, ◌++◌, ◌∷◌, [], OnOk, map, ap, ◌∙◌, subst}
use Rattle.wdl_typed.specs.declared.flow.FlowDef.{FlowDef}
use Rattle.wdl_typed.specs.Bodies.{library}
use Rattle.wdl_typed.specs.Declarations.{inputs_bound}
use Rattle.wdl_swaps.specs.Swaps.{swapped_decl}
use Rattle.cwl_image.specs.Subset.{declared_by}
use Rattle.cwl_records.proofs.WalkLaws.{flow_is}
use Rattle.cwl_records.proofs.unaliased.push_unaliased.Goals as goal

pub returns : goal.returns
returns c =
    let f = c.args.flow.now in
    subst (λ (g : FlowDef). OnOk c.push_flow.result (c.push_flow.new.all ≡ c.args.all.now ++ g ∷ []))
    (flow_is (library c.args.structs.now c.args.tasks.now c.args.flows.now) f c.in_ok-declared.declared c.in_ok-strays.strays c.as_slice-3.result.now c.in_ok-names.names c.new-swaps.result c.body_walk.new.swaps c.in_ok-walked.walked c.in_ok-outputs.outputs
    (c.in_ok-declared.ensures ∙ ap declared_by c.as_slice.ensures) c.in_ok-strays.ensures c.as_slice-3.ensures (c.in_ok-names.ensures ∙ ap inputs_bound c.as_slice-2.ensures) c.new-swaps.ensures
    c.in_ok-walked.ensures.walked c.in_ok-walked.ensures.swaps
    (c.in_ok-outputs.ensures
    ∙ ap (λ ds. map (swapped_decl c.as_slice-5.result.now) ds) c.as_slice-4.ensures
    ∙ ap (λ ws. map (swapped_decl ws) f.outputs) c.as_slice-5.ensures))
    c.push_flow.ensures
