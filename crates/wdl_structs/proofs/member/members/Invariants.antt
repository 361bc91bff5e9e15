use Rattle.std.proofs.Common.{◌≡◌, map, take}
use Rattle.wdl_library.specs.Structs.{member_of, stand_in}
use Rattle.wdl_structs.proofs.member.members.Given as goal

abbrev pub invariant-loop-written : goal.invariant-loop-written
invariant-loop-written l = l.all ≡ map (member_of (stand_in l.names)) (take l.written-index l.members)
