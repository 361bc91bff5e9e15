use Rattle.std.proofs.Common.{◌≡◌, take}
use Rattle.wdl_structs.specs.Tables.{named, groups}
use Rattle.wdl_structs.proofs.renamed.given.Given as goal

abbrev pub invariant-loop-at : goal.invariant-loop-at
invariant-loop-at l = l.all ≡ groups l.aliases (named (take l.at l.entries))
