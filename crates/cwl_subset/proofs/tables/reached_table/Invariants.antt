use Rattle.std.proofs.Common.{◌≡◌}
use Rattle.cwl_subset.specs.Tables.{table_at}
use Rattle.cwl_subset.proofs.tables.reached_table.Given as goal

abbrev pub invariant-loop-level : goal.invariant-loop-level
invariant-loop-level l = l.table ≡ table_at l.flows l.own l.tasks l._level
