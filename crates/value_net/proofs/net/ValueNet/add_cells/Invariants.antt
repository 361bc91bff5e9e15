use Rattle.std.proofs.Common.{◌≡◌}
use Rattle.value_net.specs.Nets.{IsSound, view, with_cells}
use Rattle.value_net.proofs.net.ValueNet.add_cells.Given as goal

abbrev pub invariant-loop : goal.invariant-loop
invariant-loop g l = IsSound l.self × (view l.self ≡ with_cells (view l.initial.self) l.counter)
