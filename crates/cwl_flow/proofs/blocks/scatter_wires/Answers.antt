use Rattle.std.proofs.Common.{◌++◌, map, ap}
use Rattle.cwl_image.specs.Image.{outer_wire, reference, wire_to}
use Rattle.cwl_flow.proofs.BlockSteps.{is_as}
use Rattle.cwl_flow.proofs.blocks.scatter_wires.Goals as goal

pub returns : goal.returns
returns c =
    is_as c.block_wires.result _ _
    (ap (λ w. wire_to c.args.scope.now w (reference c.args.scatter.now.over) ++ map (outer_wire c.args.scope.now) c.args.uses.now) c.in_ok-item.ensures)
    c.block_wires.ensures
