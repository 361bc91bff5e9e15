use Rattle.std.proofs.Common.{◌≡◌, map, take}
use Rattle.wdl_library.specs.Names.{aliases_for}
use Rattle.wdl_structs.specs.Tables.{named}
use Rattle.wdl_structs.proofs.renamed.aliased.Given as goal

abbrev pub invariant-loop-alias : goal.invariant-loop-alias
invariant-loop-alias l = l.groups.items ≡ map (aliases_for (take l.alias-index l.aliases)) (named l.entries)
