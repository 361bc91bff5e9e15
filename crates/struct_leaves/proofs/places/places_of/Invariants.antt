use Rattle.std.proofs.Common.{◌≡◌, ◌++◌, drop}
use Rattle.leaf_image.specs.Leaves.{places_of}
use Rattle.struct_leaves.proofs.places.places_of.Given as goal

abbrev pub invariant-loop-input : goal.invariant-loop-input
invariant-loop-input l = l.places ++ places_of l.structs (drop l.input-index l.inputs) ≡ places_of l.structs l.inputs
