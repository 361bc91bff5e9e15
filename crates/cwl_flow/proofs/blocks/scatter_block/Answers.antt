use Rattle.std.proofs.Common.{◌∷◌, ◌++◌, map, ap, ◌∙◌}
use Rattle.cwl_image.specs.Image.{inner_scope, input_of, item_linkage, outer_wire, reference, wire_to}
use Rattle.cwl_flow.specs.Drafts.{drafts_of}
use Rattle.cwl_flow.proofs.BlockSteps.{scatter_made}
use Rattle.cwl_flow.proofs.blocks.scatter_block.Goals as goal

pub returns : goal.returns
returns c =
    scatter_made c.args.scatter.now.number c.args.scatter.now.item c.args.scatter.now.over (drafts_of c.args.context.now c.args.scatter.now.body) c.args.scope.now
    c.in_ok-block_id.field-0 c.in_ok-item.item c.in_ok-uses.uses c.in_ok-wires.wires c.in_ok-inputs.inputs c.in_ok-inner.inner
    c.in_ok-uses.ensures
    (c.in_ok-wires.ensures ∙ ap (λ us. wire_to c.args.scope.now c.args.scatter.now.item (reference c.args.scatter.now.over) ++ map (outer_wire c.args.scope.now) us) c.as_slice.ensures)
    (c.in_ok-inner.ensures ∙ ap (λ us. item_linkage c.args.scope.now c.args.scatter.now.item c.args.scatter.now.over ∷ inner_scope c.args.scope.now us) c.as_slice-2.ensures)
    (c.in_ok-inputs.ensures ∙ ap (map input_of) c.as_slice-3.ensures)
    c.in_ok-block_id.ensures
    c.in_ok-item.ensures
