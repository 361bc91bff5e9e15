use Rattle.std.proofs.Common.{◌≡◌, take}
use Rattle.wdl_structs.proofs.member.copy_members.Given as goal

abbrev pub invariant-loop-member : goal.invariant-loop-member
invariant-loop-member l = l.all ≡ take l.member-index l.members
