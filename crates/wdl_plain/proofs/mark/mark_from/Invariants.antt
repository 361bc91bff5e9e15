use Rattle.std.proofs.Common.{◌≡◌, drop}
use Rattle.wdl_flow.specs.Marks as spec
use Rattle.wdl_plain.proofs.mark.mark_from.Given as goal

abbrev pub invariant-loop-byte : goal.invariant-loop-byte
invariant-loop-byte l = spec.mark_from l.total (drop l.byte-index l.bytes) ≡ spec.mark_from l.mark l.bytes
