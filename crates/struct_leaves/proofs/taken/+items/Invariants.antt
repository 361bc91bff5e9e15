use Rattle.std.proofs.Common.{◌≡◌, ◌++◌, drop}
use Rattle.leaf_image.specs.Leaves.{items_of}
use Rattle.struct_leaves.proofs.taken.+items.Given as goal

abbrev pub invariant-enter_items-loop-statement : goal.invariant-enter_items-loop-statement
invariant-enter_items-loop-statement l = l.names ++ items_of (drop l.statement-index l.body) ≡ l.initial.names ++ items_of l.body
