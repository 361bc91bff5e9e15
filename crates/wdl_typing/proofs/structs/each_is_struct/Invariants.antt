use Rattle.std.proofs.Common.{◌≡◌, drop}
use Rattle.wdl_typed.specs.KnownTypes.{all_structs}
use Rattle.wdl_typing.proofs.structs.each_is_struct.Given as goal

abbrev pub invariant-loop-i : goal.invariant-loop-i
invariant-loop-i l = all_structs l.structs (drop l.i l.structs) ≡ all_structs l.structs l.structs
