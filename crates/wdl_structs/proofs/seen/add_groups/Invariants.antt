use Rattle.std.proofs.Common.{◌≡◌, drop}
use Rattle.wdl_structs.specs.Tables.{with_groups}
use Rattle.wdl_structs.proofs.seen.add_groups.Given as goal

abbrev pub invariant-loop-group : goal.invariant-loop-group
invariant-loop-group l = with_groups l.table (drop l.group-index l.groups) ≡ with_groups l.initial.table l.groups
