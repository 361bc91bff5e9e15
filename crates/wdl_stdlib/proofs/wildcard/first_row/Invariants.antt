use Rattle.std.proofs.Common.{◌≡◌, ◌++◌, drop, map, false}
use Rattle.wdl_stdlib.specs.Glob.{first_row}
use Rattle.wdl_stdlib.proofs.wildcard.first_row.Given as goal

abbrev pub invariant-loop-c : goal.invariant-loop-c
invariant-loop-c l = l.row.items ++ map (λ c. false) (drop l._c-index l.name) ≡ first_row l.name
