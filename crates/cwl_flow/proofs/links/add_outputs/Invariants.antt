use Rattle.std.proofs.Common.{◌≡◌, ◌++◌, map, take}
use Rattle.cwl_image.specs.Image.{call_output, linkage_of}
use Rattle.cwl_flow.proofs.links.add_outputs.Given as goal

abbrev pub invariant-loop-output : goal.invariant-loop-output
invariant-loop-output l = l.links ≡ l.initial.links ++ map (linkage_of l.call) (map (call_output l.call) (take l.output-index l.outputs))
