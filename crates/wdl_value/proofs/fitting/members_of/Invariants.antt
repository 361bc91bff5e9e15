use Rattle.std.proofs.Common.{◌≡◌, drop}
use Rattle.wdl_value.specs.Fits.{members_of}
use Rattle.wdl_value.proofs.fitting.members_of.Given as goal

abbrev pub invariant-loop-def : goal.invariant-loop-def
invariant-loop-def l = members_of (drop l.def-index l.structs) l.name ≡ members_of l.structs l.name
