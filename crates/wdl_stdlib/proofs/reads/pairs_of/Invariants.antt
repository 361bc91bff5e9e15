use Rattle.std.proofs.Common.{◌≡◌, ◌++◌, drop, Ok}
use Rattle.wdl_value.specs.Outcome.{and_then}
use Rattle.wdl_value.specs.Reads.{pairs_read}
use Rattle.wdl_stdlib.proofs.reads.pairs_of.Given as goal

abbrev pub invariant-loop-line : goal.invariant-loop-line
invariant-loop-line l = and_then (pairs_read (drop l.line-index l.lines)) (λ rest. Ok (l.pairs ++ rest)) ≡ pairs_read l.lines
