use Rattle.std.proofs.Common.{◌≡◌, ◌++◌, drop, map}
use Rattle.struct_names.specs.Known.{known, naming_of}
use Rattle.struct_names.proofs.known.namings_of.Given as goal

abbrev pub invariant-loop-doc : goal.invariant-loop-doc
invariant-loop-doc l = map naming_of l.all.items ++ map known (drop l.doc-index l.docs) ≡ map known l.docs
