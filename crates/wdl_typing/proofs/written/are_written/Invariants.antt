use Rattle.std.proofs.Common.{◌≡◌, drop}
use Rattle.wdl_typed.specs.KnownTypes.{are_written}
use Rattle.wdl_typing.proofs.written.are_written.Given as goal

abbrev pub invariant-loop-member : goal.invariant-loop-member
invariant-loop-member l = are_written l.structs (drop l.member-index l.members) ≡ are_written l.structs l.members
