use Rattle.std.proofs.Common.{◌≡◌, drop}
use Rattle.wdl_check_types.specs.Places as place
use Rattle.wdl_check_types.proofs.place.last_after.Given as goal

abbrev pub invariant-loop-word : goal.invariant-loop-word
invariant-loop-word l = place.last_after l.end (drop l.word-index l.after) ≡ place.last_after l.fn.last l.after
