use Rattle.std.proofs.Common.{◌≡◌, length}
use Rattle.library_calls.specs.Fields as spec
use Rattle.library_calls.proofs.fields.holds_refused.Given as goal

abbrev pub invariant-chars : goal.invariant-chars
invariant-chars l = spec.holds_refused l.rest ≡ spec.holds_refused l.bytes

abbrev pub decreases-chars : goal.decreases-chars
decreases-chars l = length l.rest
