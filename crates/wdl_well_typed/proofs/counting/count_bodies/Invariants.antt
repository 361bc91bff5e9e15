use Rattle.std.proofs.Common.{◌≡◌, ◌+◌, ◌<◌, ◌^◌, min, drop}
use Rattle.wdl_well_typed.specs.Counts.{bodies_count}
use Rattle.wdl_well_typed.proofs.counting.count_bodies.Given as goal

abbrev pub invariant-loop-flow : goal.invariant-loop-flow
invariant-loop-flow l =
    (l.total < 2 ^ 64)
    × (min (l.total + bodies_count (drop l.flow-index l.flows)) 18446744073709551615 ≡ min (bodies_count l.flows) 18446744073709551615)
