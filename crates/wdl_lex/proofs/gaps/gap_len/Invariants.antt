use Rattle.std.proofs.Common.{◌≡◌, ◌+◌, false, drop}
use Rattle.wdl_lex.specs.Reading.Gaps.{gap_len}
use Rattle.wdl_lex.proofs.gaps.gap_len.Given as goal

abbrev pub invariant-loop-at : goal.invariant-loop-at
invariant-loop-at l = gap_len false l.z ≡ l.at + gap_len l.is_open (drop l.at l.z)
