use Rattle.std.proofs.Common.{◌≡◌, drop}
use Rattle.std.specs.List.{list_all}
use Rattle.wdl_typed.specs.KnownTypes.{is_shallow, members_structs}
use Rattle.wdl_depths.proofs.shallow.members_are_shallow.Given as goal

abbrev pub invariant-loop-member : goal.invariant-loop-member
invariant-loop-member l =
    list_all (is_shallow l.level l.structs) (members_structs (drop l.member-index l.members))
    ≡ list_all (is_shallow l.level l.structs) (members_structs l.members)
