use Rattle.std.proofs.Common.{◌≡◌, drop}
use Rattle.cwl_rules.specs.Lowest.{lower}
use Rattle.cwl_subset.specs.Tables.{called_entry, target_entry}
use Rattle.cwl_subset.proofs.tables.+called.Given as goal

abbrev pub invariant-called_entry-loop-statement : goal.invariant-called_entry-loop-statement
invariant-called_entry-loop-statement l =
    lower l.found (called_entry (target_entry l.tasks l.flows) (drop l.statement-index l.body))
    ≡ called_entry (target_entry l.tasks l.flows) l.body
