use Rattle.std.proofs.Common.{◌≡◌, ◌+◌, ◌*◌, ◌++◌, drop}
use Rattle.leaf_image.specs.Leaves.{all_places, places_at}
use Rattle.struct_leaves.proofs.places.+places.Given as goal

abbrev pub invariant-push_members-loop-member : goal.invariant-push_members-loop-member
invariant-push_members-loop-member l =
    (l.path ≡ l.initial.path)
    × (l.places ++ all_places (places_at l.structs l.level l.input) l.path (drop l.member-index l.members)
    ≡ l.initial.places ++ all_places (places_at l.structs l.level l.input) l.path l.members)

abbrev pub decreases-push_places : goal.decreases-push_places
decreases-push_places l = 2 * l.level

abbrev pub decreases-push_members : goal.decreases-push_members
decreases-push_members l = 2 * l.level + 1
