use Rattle.std.proofs.Common.{◌≡◌, ◌++◌, drop}
use Rattle.wdl_bundle.specs.Called.{calls_of, reach_of}
use Rattle.wdl_bundle.proofs.calls.calls_of.Given as goal

abbrev pub invariant-loop-element : goal.invariant-loop-element
invariant-loop-element l = l.calls.items ++ calls_of (reach_of l.reach) (drop l.element-index l.elements) ≡ calls_of (reach_of l.reach) l.elements
