use Rattle.std.proofs.Common.{◌≡◌, drop}
use Rattle.wdl_typed.specs.Flow.{has_ended}
use Rattle.wdl_plain.specs.Views.{endeds_of}
use Rattle.wdl_plain.proofs.calls.has_ended_among.Given as goal

abbrev pub invariant-loop-end : goal.invariant-loop-end
invariant-loop-end l = has_ended (endeds_of (drop l.end-index l.ends)) l.name ≡ has_ended (endeds_of l.ends) l.name
