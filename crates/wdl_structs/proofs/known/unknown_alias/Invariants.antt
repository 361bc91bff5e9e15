use Rattle.std.proofs.Common.{◌≡◌, drop}
use Rattle.wdl_structs.specs.Tables.{names_of, all_know}
use Rattle.wdl_structs.proofs.known.unknown_alias.Given as goal

abbrev pub invariant-loop-doc : goal.invariant-loop-doc
invariant-loop-doc l = all_know (names_of l.tables) (drop l.doc-index l.docs) ≡ all_know (names_of l.tables) l.docs
