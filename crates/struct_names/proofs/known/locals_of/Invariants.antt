use Rattle.std.proofs.Common.{◌≡◌, ◌++◌, drop, map}
use Rattle.struct_names.specs.Known.{name_of}
use Rattle.struct_names.proofs.known.locals_of.Given as goal

abbrev pub invariant-loop-known : goal.invariant-loop-known
invariant-loop-known l = map name_of l.locals.items ++ drop l.known-index l.names ≡ l.names
