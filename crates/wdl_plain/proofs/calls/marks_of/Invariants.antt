use Rattle.std.proofs.Common.{◌≡◌, take}
use Rattle.wdl_plain.specs.SightMarks.{call_marks}
use Rattle.wdl_plain.proofs.calls.marks_of.Given as goal

abbrev pub invariant-loop-end : goal.invariant-loop-end
invariant-loop-end l = l.marks ≡ call_marks (take l.end-index l.ends)
