use Rattle.std.proofs.Common.{◌≡◌, ◌≤◌, ◌++◌, drop, length, map}
use Rattle.wdl_check_flow.specs.Targets.{offer_of}
use Rattle.wdl_check_doc.specs.Parts.{part_of}
use Rattle.wdl_check_doc.specs.Offers.{tables}
use Rattle.wdl_check_doc.specs.Tables.{table_of}
use Rattle.wdl_check_doc.proofs.table.tables_of.Given as goal

abbrev pub invariant-loop-part : goal.invariant-loop-part
invariant-loop-part l = record {
  tables : map table_of l.tables.items ++ tables (map part_of (drop l.part-index l.parts)) (drop l.task (map offer_of l.tasks)) (drop l.flow (map offer_of l.flows))
      ≡ tables (map part_of l.parts) (map offer_of l.tasks) (map offer_of l.flows);
  tasks : l.task ≤ length l.tasks;
  flows : l.flow ≤ length l.flows;
}
