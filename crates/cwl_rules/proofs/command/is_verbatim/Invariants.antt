use Rattle.std.proofs.Common.{◌≡◌, false, drop}
use Rattle.cwl_rules.specs.Verbatim.{parts_go_on}
use Rattle.cwl_rules.proofs.command.is_verbatim.Given as goal

abbrev pub invariant-loop-part : goal.invariant-loop-part
invariant-loop-part l = parts_go_on l.dollar (drop l.part-index l.parts) ≡ parts_go_on false l.parts
