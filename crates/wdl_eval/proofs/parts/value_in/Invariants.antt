use Rattle.std.proofs.Common.{◌≡◌, drop}
use Rattle.wdl_typed.specs.Evaluation.{value_at}
use Rattle.wdl_eval.proofs.parts.value_in.Given as goal

abbrev pub invariant-loop-row : goal.invariant-loop-row
invariant-loop-row l = value_at (drop l.row-index l.rows) l.key ≡ value_at l.rows l.key
