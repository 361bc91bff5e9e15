use Rattle.std.proofs.Common.{◌≡◌, ◌++◌, length, IsUtf8}
use Rattle.wdl_base.specs.PlaceReading.{IsPlace}
use Rattle.wdl_base.proofs.PlaceLemmas.{front_text}
use Rattle.wdl_base.proofs.place_reading.place_of.Given as goal

abbrev pub invariant-segments : goal.invariant-segments
invariant-segments l = IsPlace l.place × (front_text l.place ++ l.rest ≡ l.fn.s) × IsUtf8 l.rest

abbrev pub decreases-segments : goal.decreases-segments
decreases-segments l = length l.rest
