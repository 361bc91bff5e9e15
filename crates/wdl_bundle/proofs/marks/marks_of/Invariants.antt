use Rattle.std.proofs.Common.{◌≡◌, false, drop, replicate}
use Rattle.wdl_bundle.specs.Called.{marked}
use Rattle.wdl_bundle.proofs.marks.marks_of.Given as goal

abbrev pub invariant-loop-call : goal.invariant-loop-call
invariant-loop-call l = marked l.marks.items (drop l.call-index l.calls) ≡ marked (replicate l.count false) l.calls
