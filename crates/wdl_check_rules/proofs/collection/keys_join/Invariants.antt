use Rattle.std.proofs.Common.{◌≡◌, drop}
use Rattle.wdl_check_rules.specs.Rules.{join_all, key_types, keys_join}
use Rattle.wdl_check_rules.proofs.collection.keys_join.Given as goal

abbrev pub invariant-loop-row : goal.invariant-loop-row
invariant-loop-row l = join_all l.joined (key_types (drop l.row-index l.rows)) ≡ keys_join l.rows
