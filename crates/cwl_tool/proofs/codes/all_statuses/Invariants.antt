use Rattle.std.proofs.Common.{◌≡◌, ◌++◌, ◌-◌}
use Rattle.std.specs.List.{range_with_len}
use Rattle.cwl_tool.proofs.codes.all_statuses.Given as goal

abbrev pub invariant-loop-status : goal.invariant-loop-status
invariant-loop-status l = l.statuses ++ range_with_len l.status (256 - l.status) ≡ range_with_len 0 256
