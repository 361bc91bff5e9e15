use Rattle.std.proofs.Common.{◌≡◌, ◌+◌, length, drop}
use Rattle.wdl_value.specs.Paths.{wild}
use Rattle.wdl_stdlib.proofs.Matching.{any_from}
use Rattle.wdl_stdlib.proofs.wildcard.wild.Given as goal

abbrev pub invariant-loop-p : goal.invariant-loop-p
invariant-loop-p l = (length l.row.items ≡ length l.name + 1) × (any_from l.row.items (wild (drop l.p-index l.pattern)) l.name ≡ wild l.pattern l.name)
