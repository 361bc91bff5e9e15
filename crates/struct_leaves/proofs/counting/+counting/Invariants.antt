use Rattle.std.proofs.Common.{◌≡◌, ◌+◌, ◌*◌, drop}
use Rattle.leaf_image.specs.Leaves.{all_structs, structs_at}
use Rattle.struct_leaves.proofs.counting.+counting.Given as goal

abbrev pub invariant-left_beside_all-loop-member : goal.invariant-left_beside_all-loop-member
invariant-left_beside_all-loop-member l =
    l.left + all_structs (structs_at l.structs l.level) (drop l.member-index l.members) ≡ l.rest + all_structs (structs_at l.structs l.level) l.members

abbrev pub decreases-left_beside : goal.decreases-left_beside
decreases-left_beside l = 2 * l.level

abbrev pub decreases-left_beside_all : goal.decreases-left_beside_all
decreases-left_beside_all l = 2 * l.level + 1
