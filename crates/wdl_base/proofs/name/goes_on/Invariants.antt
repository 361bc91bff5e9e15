use Rattle.std.proofs.Common.{◌≡◌, drop}
use Rattle.wdl_base.specs.Names.{is_word_from}
use Rattle.wdl_base.proofs.name.goes_on.Given as goal

abbrev pub invariant-loop-byte : goal.invariant-loop-byte
invariant-loop-byte l = is_word_from (drop l.byte-index l.bytes) ≡ is_word_from l.bytes
