use Rattle.std.proofs.Common.{◌≡◌, ◌++◌}
use Rattle.plan_growth.specs.Entering.{cells_from}
use Rattle.plan_bodies.proofs.workflow.push_cells.Given as goal

abbrev pub invariant-loop-k : goal.invariant-loop-k
invariant-loop-k l = l.dones ≡ l.initial.dones ++ cells_from l.first l.k
