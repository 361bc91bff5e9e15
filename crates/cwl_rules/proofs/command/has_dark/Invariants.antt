use Rattle.std.proofs.Common.{◌≡◌, drop}
use Rattle.cwl_rules.specs.Verbatim.{has_dark}
use Rattle.cwl_rules.proofs.command.has_dark.Given as goal

abbrev pub invariant-loop-part : goal.invariant-loop-part
invariant-loop-part l = has_dark (drop l.part-index l.parts) ≡ has_dark l.parts
