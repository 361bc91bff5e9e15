use Rattle.value_net.specs.Nets.{view}
use Rattle.value_net.proofs.Seen.{more_cells, no_cells}
use Rattle.value_net.proofs.net.ValueNet.add_cells.Goals as goal

pub loop-init : goal.loop-init
loop-init g c = (c.requires, no_cells (view c.args.self.now))

pub add_cell-requires : goal.add_cell-requires
add_cell-requires g c = c.loop.invariant.0

pub loop-preserved : goal.loop-preserved
loop-preserved g c = (c.in_ok-add_cell.ensures.sound, more_cells (view c.args.self.now) (view c.loop.self) (view c.add_cell.new.self) c.loop.counter c.loop.invariant.1 c.in_ok-add_cell.ensures.cells)
