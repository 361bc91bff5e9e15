use Rattle.std.proofs.Common.{◌≡◌, take}
use Rattle.wdl_flow.specs.Marks.{entry_marks}
use Rattle.wdl_plain.proofs.answers.marks_of.Given as goal

abbrev pub invariant-loop-entry : goal.invariant-loop-entry
invariant-loop-entry l = l.marks ≡ entry_marks (take l.entry-index l.entries)
