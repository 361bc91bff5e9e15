use Rattle.std.proofs.Common.{◌≡◌, ◌+◌, ◌<◌, ◌^◌, min, drop}
use Rattle.wdl_typed.specs.Kept.{count_statements}
use Rattle.wdl_well_typed.proofs.counting.+count.Given as goal

abbrev pub invariant-count_statements-loop-statement : goal.invariant-count_statements-loop-statement
invariant-count_statements-loop-statement l =
    (l.total < 2 ^ 64)
    × (min (l.total + count_statements (drop l.statement-index l.body)) 18446744073709551615 ≡ min (count_statements l.body) 18446744073709551615)
