use Rattle.std.proofs.Common.{◌≡◌, drop}
use Rattle.std.specs.List.{list_any}
use Rattle.cwl_image.specs.Subset.{is_dark}
use Rattle.cwl_rules.specs.Verbatim.{chars}
use Rattle.cwl_rules.proofs.command.is_dark.Given as goal

abbrev pub invariant-loop-byte : goal.invariant-loop-byte
invariant-loop-byte l = list_any is_dark (chars (drop l.byte-index l.bytes)) ≡ list_any is_dark (chars l.bytes)
