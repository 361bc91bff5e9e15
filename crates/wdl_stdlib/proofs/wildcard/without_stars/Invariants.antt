use Rattle.std.proofs.Common.{◌≡◌, length}
use Rattle.wdl_value.specs.Paths.{without_stars}
use Rattle.wdl_stdlib.proofs.wildcard.without_stars.Given as goal

abbrev pub invariant-loop-rest : goal.invariant-loop-rest
invariant-loop-rest l = without_stars l.rest ≡ without_stars l.pattern

abbrev pub decreases-loop-rest : goal.decreases-loop-rest
decreases-loop-rest l = length l.rest
