use Rattle.std.proofs.Common.{◌≡◌, drop}
use Rattle.cwl_image.specs.Subset.{are_input_holes}
use Rattle.cwl_subset.proofs.task.are_input_holes.Given as goal

abbrev pub invariant-loop-part : goal.invariant-loop-part
invariant-loop-part l =
    are_input_holes l.structs l.names l.inputs (drop l.part-index l.parts) ≡ are_input_holes l.structs l.names l.inputs l.parts
