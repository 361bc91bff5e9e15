use Rattle.std.proofs.Common.{◌≡◌, ◌++◌, length}
use Rattle.wdl_check_rules.specs.Rules.{cast_rows}
use Rattle.wdl_check_rules.proofs.collection.cast_rows.Given as goal

abbrev pub invariant-loop-row : goal.invariant-loop-row
invariant-loop-row l = l.done ++ cast_rows l.key l.value l.rest.items ≡ cast_rows l.key l.value l.initial.rest.items

abbrev pub decreases-loop-row : goal.decreases-loop-row
decreases-loop-row l = length l.rest.items
