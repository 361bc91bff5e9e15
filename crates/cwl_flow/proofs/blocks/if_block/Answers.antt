use Rattle.std.proofs.Common.{[], ◌∷◌, ◌++◌, map, ap, ◌∙◌}
use Rattle.cwl_image.specs.Image.{inner_scope, input_of, outer_uses, outer_wire, reference, when_input, wire_to}
use Rattle.cwl_flow.specs.Drafts.{drafts_of}
use Rattle.cwl_flow.proofs.BlockSteps.{if_made}
use Rattle.cwl_flow.proofs.blocks.if_block.Goals as goal

pub returns : goal.returns
returns c =
    if_made c.args.condition.now.number c.args.condition.now.cond (drafts_of c.args.context.now c.args.condition.now.body) c.args.scope.now
    c.in_ok-block_id.field-0 c.in_ok-when.when c.in_ok-uses.uses c.in_ok-wires.wires c.in_ok-inputs.inputs c.add_inner.new.inner
    (c.in_ok-uses.ensures
    ∙ ap (λ is. outer_uses is (drafts_of c.args.context.now c.as_slice.result.now)) c.empty.ensures
    ∙ ap (λ ss. outer_uses [] (drafts_of c.args.context.now ss)) c.as_slice.ensures)
    c.in_ok-when.ensures
    (c.in_ok-wires.ensures ∙ ap (λ us. wire_to c.args.scope.now c.in_ok-when.when (reference c.args.condition.now.cond) ++ map (outer_wire c.args.scope.now) us) c.as_slice-2.ensures)
    (c.in_ok-add_inner.ensures ∙ ap (λ ls. ls ++ inner_scope c.args.scope.now c.as_slice-3.result.now) c.empty-inner.ensures ∙ ap (inner_scope c.args.scope.now) c.as_slice-3.ensures)
    (c.in_ok-inputs.ensures ∙ ap (λ ls. when_input ∷ map input_of ls) c.as_slice-4.ensures)
    c.in_ok-block_id.ensures
