use Rattle.std.proofs.Common.{◌≡◌, drop}
use Rattle.wdl_value.specs.Keyed.{distinct_keys}
use Rattle.wdl_eval.proofs.Marks.{are_new}
use Rattle.wdl_eval.proofs.keys.are_distinct.Given as goal

abbrev pub invariant-loop-row : goal.invariant-loop-row
invariant-loop-row l = are_new l.seen (drop l.row-index l.rows) ≡ distinct_keys l.rows
