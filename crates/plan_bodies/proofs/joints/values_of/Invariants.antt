use Rattle.std.proofs.Common.{◌≡◌, ◌++◌, true, drop, map, Some, option_and_then}
use Rattle.value_net.specs.Nets.{are_set, value_at, view}
use Rattle.wdl_typed.specs.Flow.{all_values}
use Rattle.plan_bodies.proofs.joints.values_of.Given as goal

abbrev pub invariant-loop-cell : goal.invariant-loop-cell
invariant-loop-cell l =
    (option_and_then (λ more. Some (l.values ++ more)) (all_values (map (value_at (view l.net).values) (drop l.cell-index l.cells))) ≡ all_values (map (value_at (view l.net).values) l.cells))
    × (are_set (view l.net).values (drop l.cell-index l.cells) ≡ true)
