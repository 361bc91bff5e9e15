use Rattle.std.proofs.Common.{◌≡◌, false, length}
use denote.Shadow.{shadow}
use denote.Text.{Utf8}
use Rattle.wdl_base.specs.Plain.{has_nul}
use Rattle.wdl_value.specs.Reads.{trimmed_end, ends_line}
use Rattle.wdl_stdlib.proofs.reads.without_line_ends.Given as goal

abbrev pub invariant-loop-shorter : goal.invariant-loop-shorter
invariant-loop-shorter l = shadow (Utf8 l.rest) × (has_nul l.rest ≡ false) × (trimmed_end ends_line l.rest ≡ trimmed_end ends_line l.text)

abbrev pub decreases-loop-shorter : goal.decreases-loop-shorter
decreases-loop-shorter l = length l.rest
