use Rattle.std.proofs.Common.{◌≡◌, ◌++◌, map, take}
use Rattle.cwl_image.specs.Image.{outer_wire}
use Rattle.cwl_flow.proofs.wires.add_outer_wires.Given as goal

abbrev pub invariant-loop-key : goal.invariant-loop-key
invariant-loop-key l = l.wires ≡ l.initial.wires ++ map (outer_wire l.scope) (take l.key-index l.keys)
