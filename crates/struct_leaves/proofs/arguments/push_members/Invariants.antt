use Rattle.std.proofs.Common.{◌≡◌, ◌++◌, drop}
use Rattle.leaf_image.specs.Records.{member_hops}
use Rattle.struct_leaves.proofs.arguments.push_members.Given as goal

abbrev pub invariant-loop-name : goal.invariant-loop-name
invariant-loop-name l = l.hops ++ member_hops (drop l.name-index l.path) ≡ l.initial.hops ++ member_hops l.path
