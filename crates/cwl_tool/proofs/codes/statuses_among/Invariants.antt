use Rattle.std.proofs.Common.{◌≡◌, ◌++◌, ◌-◌}
use Rattle.std.specs.List.{range_with_len}
use Rattle.cwl_image.specs.Image.{among}
use Rattle.cwl_tool.proofs.codes.statuses_among.Given as goal

abbrev pub invariant-loop-status : goal.invariant-loop-status
invariant-loop-status l = l.statuses ++ among l.numbers (range_with_len l.status (256 - l.status)) ≡ among l.numbers (range_with_len 0 256)
