use Rattle.std.proofs.Common.{◌≡◌, take}
use Rattle.cwl_subset.specs.Tables.{first_table}
use Rattle.cwl_subset.proofs.tables.first_table.Given as goal

abbrev pub invariant-loop-flow : goal.invariant-loop-flow
invariant-loop-flow l = l.table ≡ first_table (take l._flow-index l.flows)
