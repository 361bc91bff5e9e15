use Rattle.std.proofs.Common.{◌≡◌, ◌++◌, drop}
use Rattle.cwl_subset.specs.Tables.{next_table, target_entry}
use Rattle.cwl_subset.proofs.tables.next_table.Given as goal

abbrev pub invariant-loop-flow : goal.invariant-loop-flow
invariant-loop-flow l =
    l.table ++ next_table (target_entry l.tasks l.below) (drop l.flow-index l.flows) l.left
    ≡ next_table (target_entry l.tasks l.below) l.flows l.own
