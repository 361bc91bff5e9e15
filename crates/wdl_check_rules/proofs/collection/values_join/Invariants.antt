use Rattle.std.proofs.Common.{◌≡◌, drop}
use Rattle.wdl_check_rules.specs.Rules.{join_all, value_types, values_join}
use Rattle.wdl_check_rules.proofs.collection.values_join.Given as goal

abbrev pub invariant-loop-row : goal.invariant-loop-row
invariant-loop-row l = join_all l.joined (value_types (drop l.row-index l.rows)) ≡ values_join l.rows
