use Rattle.std.proofs.Common.{take}
use Rattle.wdl_stdlib.specs.Groups.{AreGroups}
use Rattle.wdl_stdlib.proofs.maps.groups_of.Given as goal

abbrev pub invariant-loop-pair : goal.invariant-loop-pair
invariant-loop-pair l = AreGroups l.groups (take l.pair-index l.pairs)
