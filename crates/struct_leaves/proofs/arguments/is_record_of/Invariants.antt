use Rattle.std.proofs.Common.{◌≡◌, drop}
use Rattle.leaf_image.specs.Records.{is_record_of}
use Rattle.struct_leaves.proofs.arguments.is_record_of.Given as goal

abbrev pub invariant-loop-input : goal.invariant-loop-input
invariant-loop-input l = is_record_of (drop l.input-index l.inputs) l.name ≡ is_record_of l.inputs l.name
