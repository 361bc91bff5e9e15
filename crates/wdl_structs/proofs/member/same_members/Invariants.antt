use Rattle.std.proofs.Common.{◌≡◌, drop}
use Rattle.wdl_structs.specs.Members.{same_members}
use Rattle.wdl_structs.proofs.member.same_members.Given as goal

abbrev pub invariant-loop-member : goal.invariant-loop-member
invariant-loop-member l = same_members (drop l.member-index l.left) l.others ≡ same_members l.left l.right
