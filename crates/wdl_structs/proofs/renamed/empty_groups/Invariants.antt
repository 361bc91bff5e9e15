use Rattle.std.proofs.Common.{◌≡◌, [], map, take}
use Rattle.wdl_library.specs.Names.{aliases_for}
use Rattle.wdl_structs.specs.Tables.{named}
use Rattle.wdl_structs.proofs.renamed.empty_groups.Given as goal

abbrev pub invariant-loop-entry : goal.invariant-loop-entry
invariant-loop-entry l = l.groups.items ≡ map (aliases_for []) (named (take l._entry-index l.entries))
