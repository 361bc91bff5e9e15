use Rattle.std.proofs.Common.{drop}
use Rattle.wdl_base.specs.PlaceReading.{IsPlace}
use Rattle.work_desk.proofs.placed.see_place.Given as goal

abbrev pub invariant-loop-segment : goal.invariant-loop-segment
invariant-loop-segment l = IsPlace (drop l.segment-index l.place) → IsPlace l.place
