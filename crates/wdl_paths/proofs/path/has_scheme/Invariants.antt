use Rattle.std.proofs.Common.{◌≡◌, length}
use Rattle.wdl_paths.specs.Resolve as spec
use Rattle.wdl_paths.proofs.path.has_scheme.Given as goal

abbrev pub invariant-loop-left : goal.invariant-loop-left
invariant-loop-left l = spec.has_scheme l.left ≡ spec.has_scheme l.bytes

abbrev pub decreases-loop-left : goal.decreases-loop-left
decreases-loop-left l = length l.left
