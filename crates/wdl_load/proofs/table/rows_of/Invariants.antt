use Rattle.wdl_load.specs.Loads.{AreLoadRows}
use Rattle.wdl_load.proofs.table.rows_of.Given as goal

abbrev pub invariant-loop-number : goal.invariant-loop-number
invariant-loop-number l = AreLoadRows l.number l.rows
