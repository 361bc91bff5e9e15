use Rattle.std.proofs.Common.{◌≡◌, ◌++◌, Some, length, map, reverse}
use Rattle.statement_order.proofs.picking.slots.Given as goal

abbrev pub invariant-loop-item : goal.invariant-loop-item
invariant-loop-item g l = map Some l.list ++ reverse l.slots.items ≡ map Some l.initial.list

abbrev pub decreases-loop-item : goal.decreases-loop-item
decreases-loop-item g l = length l.list
