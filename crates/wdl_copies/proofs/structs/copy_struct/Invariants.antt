use Rattle.std.proofs.Common.{◌≡◌, ◌++◌, drop, map}
use Rattle.wdl_check_rules.specs.Locals.{stands_for}
use Rattle.wdl_copies.specs.Renamed.{member_with}
use Rattle.wdl_copies.proofs.structs.copy_struct.Given as goal

abbrev pub invariant-loop-member : goal.invariant-loop-member
invariant-loop-member l = l.members ++ map (member_with (stands_for l.locals)) (drop l.member-index l.section.members) ≡ map (member_with (stands_for l.locals)) l.section.members
