use Rattle.std.proofs.Common.{◌≡◌, take}
use Rattle.wdl_structs.proofs.renamed.or_itself.Given as goal

abbrev pub invariant-loop-alias : goal.invariant-loop-alias
invariant-loop-alias l = l.names ≡ take l.alias-index l.group
