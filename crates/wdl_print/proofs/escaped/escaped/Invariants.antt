use Rattle.std.proofs.Common.{◌≡◌, map}
use Rattle.std.specs.Prelude.{string_bytes}
use Rattle.wdl_print.specs.TokenText.{escaped}
use Rattle.wdl_print.proofs.escaped.escaped.Given as goal

abbrev pub invariant-loop-c : goal.invariant-loop-c
invariant-loop-c l = string_bytes l.text ≡ escaped l.quote (map (λ c. c) l.yielded)
