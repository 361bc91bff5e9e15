use Rattle.std.proofs.Common.{◌≡◌, ◌++◌, drop, map}
use Rattle.plan_layout.specs.Cells as cells
use Rattle.plan_bodies.proofs.address.push_cells.Given as goal

abbrev pub invariant-loop-need : goal.invariant-loop-need
invariant-loop-need l = l.cells ++ map (cells.cell_at l.bases) (drop l.need-index l.needs) ≡ l.initial.cells ++ map (cells.cell_at l.bases) l.needs
