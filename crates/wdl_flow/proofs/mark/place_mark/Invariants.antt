use Rattle.std.proofs.Common.{◌≡◌, drop}
use Rattle.wdl_flow.specs.Marks as spec
use Rattle.wdl_flow.proofs.mark.place_mark.Given as goal

abbrev pub invariant-loop-segment : goal.invariant-loop-segment
invariant-loop-segment l = spec.place_mark l.total (drop l.segment-index l.place) ≡ spec.place_mark l.fn.attempt l.place
