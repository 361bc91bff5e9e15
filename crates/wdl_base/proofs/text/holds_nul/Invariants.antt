use Rattle.std.proofs.Common.{◌≡◌, drop}
use Rattle.wdl_base.specs.Plain.{has_nul}
use Rattle.wdl_base.proofs.text.holds_nul.Given as goal

abbrev pub invariant-loop-byte : goal.invariant-loop-byte
invariant-loop-byte l = has_nul (drop l.byte-index l.bytes) ≡ has_nul l.bytes
