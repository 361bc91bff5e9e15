use Rattle.std.proofs.Common.{◌≡◌, drop}
use Rattle.cwl_image.specs.Subset.{command_allowed}
use Rattle.cwl_subset.proofs.task.command_allowed.Given as goal

abbrev pub invariant-loop-part : goal.invariant-loop-part
invariant-loop-part l = command_allowed l.structs l.names (drop l.part-index l.parts) ≡ command_allowed l.structs l.names l.parts
