use Rattle.std.proofs.Common.{◌≡◌, false, length}
use denote.Shadow.{shadow}
use denote.Text.{Utf8}
use Rattle.wdl_base.specs.Plain.{has_nul}
use Rattle.wdl_value.specs.Paths.{base_name}
use Rattle.wdl_stdlib.proofs.paths.base_name.Given as goal

abbrev pub invariant-loop-before : goal.invariant-loop-before
invariant-loop-before l = shadow (Utf8 l.rest) × (has_nul l.rest ≡ false) × (base_name l.rest ≡ base_name l.path)

abbrev pub decreases-loop-before : goal.decreases-loop-before
decreases-loop-before l = length l.rest
