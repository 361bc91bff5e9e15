use Rattle.std.proofs.Common.{◌≡◌, ◌++◌, drop, false}
use Rattle.wdl_stdlib.specs.Glob.{spread}
use Rattle.wdl_stdlib.proofs.wildcard.spread.Given as goal

abbrev pub invariant-loop-b : goal.invariant-loop-b
invariant-loop-b l = l.next.items ++ spread l.seen (drop l.b-index l.row) ≡ spread false l.row
