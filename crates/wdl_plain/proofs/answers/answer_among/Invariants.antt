use Rattle.std.proofs.Common.{◌≡◌, drop}
use Rattle.wdl_value.specs.Tables.{answer_at, table}
use Rattle.wdl_plain.proofs.answers.answer_among.Given as goal

abbrev pub invariant-loop-entry : goal.invariant-loop-entry
invariant-loop-entry l = answer_at (table (drop l.entry-index l.entries)) l.place l.attempt ≡ answer_at (table l.entries) l.place l.attempt
