use Rattle.std.proofs.Common.{◌≡◌, ◌++◌, drop, map}
use Rattle.struct_names.specs.Known.{known_of, naming_of}
use Rattle.struct_names.proofs.known.knowns_of.Given as goal

abbrev pub invariant-loop-naming : goal.invariant-loop-naming
invariant-loop-naming l = map known_of l.all.items ++ map naming_of (drop l.naming-index l.namings) ≡ map naming_of l.namings
