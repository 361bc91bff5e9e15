use Rattle.std.proofs.Common.{◌≡◌, ◌++◌, reverse, length}
use Rattle.wdl_sources.specs.Walks.{steps_from}
use Rattle.wdl_sources.proofs.walk.put_before.Given as goal

abbrev pub invariant-wants : goal.invariant-wants
invariant-wants l = steps_from l.fn.base l.left ++ reverse l.waiting.items ≡ steps_from l.fn.base l.fn.wants ++ reverse l.fn.waiting.items

abbrev pub decreases-wants : goal.decreases-wants
decreases-wants l = length l.left
