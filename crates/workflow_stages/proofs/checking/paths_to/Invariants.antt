use Rattle.std.proofs.Common.{◌≤◌, ◌-◌, length}
use Rattle.workflow_stages.proofs.checking.paths_to.Given as goal

abbrev pub invariant-fill : goal.invariant-fill
invariant-fill l = length l.paths ≤ l.number

abbrev pub decreases-fill : goal.decreases-fill
decreases-fill l = l.number - length l.paths
