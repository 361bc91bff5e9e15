use Rattle.std.proofs.Common.{◌≡◌, map}
use Rattle.std.specs.List.{flat_map}
use Rattle.std.specs.Prelude.{string_bytes}
use Rattle.shown_text.specs.Shown.{shown_char}
use Rattle.shown_text.proofs.shown_string.Given as goal

abbrev pub invariant-loop-c : goal.invariant-loop-c
invariant-loop-c l = string_bytes l.shown ≡ flat_map shown_char (map (λ c. c) l.yielded)
