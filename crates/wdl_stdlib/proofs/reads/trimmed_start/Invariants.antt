use Rattle.std.proofs.Common.{◌≡◌, length}
use Rattle.wdl_value.specs.Reads.{trimmed_start, is_blank}
use Rattle.wdl_stdlib.proofs.reads.trimmed_start.Given as goal

abbrev pub invariant-loop-rest : goal.invariant-loop-rest
invariant-loop-rest l = trimmed_start is_blank l.rest ≡ trimmed_start is_blank l.bytes

abbrev pub decreases-loop-rest : goal.decreases-loop-rest
decreases-loop-rest l = length l.rest
