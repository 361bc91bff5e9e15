use Rattle.std.proofs.Common.{◌≡◌, ◌++◌, drop}
use Rattle.wdl_base.specs.Places.{rest_text}
use Rattle.wdl_base.proofs.place.push_rest.Given as goal

abbrev pub invariant-loop-segment : goal.invariant-loop-segment
invariant-loop-segment l = l.text ++ rest_text (drop l.segment-index l.rest) ≡ l.initial.text ++ rest_text l.rest
