use Rattle.std.proofs.Common.{take}
use Rattle.wdl_structs.specs.Tables.{named}
use Rattle.wdl_structs.specs.Kept.{AreDefs}
use Rattle.wdl_structs.proofs.kept_members.structs_of.Given as goal

abbrev pub invariant-loop-at : goal.invariant-loop-at
invariant-loop-at l = AreDefs l.parents l.kept 0 (named (take l.at l.first)) l.structs
