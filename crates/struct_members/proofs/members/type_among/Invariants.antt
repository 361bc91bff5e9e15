use Rattle.std.proofs.Common.{◌≡◌, drop}
use Rattle.wdl_typed.specs.Typing.{type_among}
use Rattle.struct_members.proofs.members.type_among.Given as goal

abbrev pub invariant-loop-member : goal.invariant-loop-member
invariant-loop-member l = type_among (drop l.member-index l.members) l.name ≡ type_among l.members l.name
