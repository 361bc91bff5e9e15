use Rattle.wdl_load.proofs.Rows.{keeps_limits}
use Rattle.wdl_load.proofs.table.answer_with.Goals as goal

pub invariant_of-result : goal.invariant_of-result
invariant_of-result c = record { kept = keeps_limits _ _ _ c.requires.short c.new-nothing.ensures c.new-files.ensures }
