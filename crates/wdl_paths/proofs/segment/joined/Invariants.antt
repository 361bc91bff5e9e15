use Rattle.std.proofs.Common.{◌≡◌, ◌++◌, drop, false}
use Rattle.wdl_paths.specs.Resolve as spec
use Rattle.wdl_paths.specs.Keeping.{any_nul, texts}
use Rattle.wdl_paths.proofs.segment.joined.Given as goal

abbrev pub invariant-loop-segment : goal.invariant-loop-segment
invariant-loop-segment l =
    (l.path ++ spec.behind (texts (drop l.segment-index l.rest)) ≡ spec.joined (texts l.segments))
    × (any_nul (texts (drop l.segment-index l.rest)) ≡ false)
