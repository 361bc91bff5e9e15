use Rattle.std.proofs.Common.{◌≡◌, ◌++◌, drop, map}
use Rattle.wdl_check_doc.specs.Tables.{reaching_of, table_of}
use Rattle.wdl_check_doc.proofs.table.reachings_of.Given as goal

abbrev pub invariant-loop-table : goal.invariant-loop-table
invariant-loop-table l = map reaching_of l.all.items ++ map table_of (drop l.table-index l.tables) ≡ map table_of l.tables
