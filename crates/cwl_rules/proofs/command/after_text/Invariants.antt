use Rattle.std.proofs.Common.{◌≡◌, ◌++◌, ℕ, List, Option, drop}
use Rattle.cwl_rules.specs.Verbatim.{chars, goes_on}
use Rattle.cwl_rules.proofs.command.after_text.Given as goal

abbrev pub invariant-loop-byte : goal.invariant-loop-byte
invariant-loop-byte l =
    (rest : List (Option ℕ)) → goes_on l.last (chars (drop l.byte-index l.bytes) ++ rest) ≡ goes_on l.dollar (chars l.bytes ++ rest)
