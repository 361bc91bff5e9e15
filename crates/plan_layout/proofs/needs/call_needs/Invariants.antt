use Rattle.std.proofs.Common.{◌≡◌, [], drop}
use Rattle.plan_layout.specs.Spots.{picks, plain_keys}
use Rattle.plan_layout.proofs.needs.call_needs.Given as goal

abbrev pub invariant-loop-call : goal.invariant-loop-call
invariant-loop-call l = picks l.seen l.needs (plain_keys (drop l.call-index l.calls)) ≡ picks l.seen [] (plain_keys l.calls)
