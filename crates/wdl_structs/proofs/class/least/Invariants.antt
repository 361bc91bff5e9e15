use Rattle.std.proofs.Common.{◌≡◌, ◌<◌, ◌≤◌, length}
use Rattle.wdl_structs.specs.Classes.{root}
use Rattle.wdl_structs.proofs.class.least.Given as goal

abbrev pub invariant-loop-at : goal.invariant-loop-at
invariant-loop-at l = (l.at ≤ l.number) × (l.at < length l.parents) × (root l.parents l.at ≡ root l.parents l.number)

abbrev pub decreases-loop-at : goal.decreases-loop-at
decreases-loop-at l = l.at
