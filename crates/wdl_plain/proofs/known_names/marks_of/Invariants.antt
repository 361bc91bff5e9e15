use Rattle.std.proofs.Common.{◌≡◌, take}
use Rattle.wdl_plain.specs.SightMarks.{known_marks}
use Rattle.wdl_plain.proofs.known_names.marks_of.Given as goal

abbrev pub invariant-loop-known : goal.invariant-loop-known
invariant-loop-known l = l.marks ≡ known_marks (take l.known-index l.knowns)
