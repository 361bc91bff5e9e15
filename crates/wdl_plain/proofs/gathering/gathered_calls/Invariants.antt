use Rattle.std.proofs.Common.{◌≡◌, take, map}
use Rattle.wdl_plain.specs.Gathered.{gathered_call}
use Rattle.wdl_plain.specs.Views.{endeds_of}
use Rattle.wdl_plain.proofs.gathering.gathered_calls.Given as goal

abbrev pub invariant-loop-call : goal.invariant-loop-call
invariant-loop-call l = endeds_of l.ends ≡ map (gathered_call l.items) (take l.call-index l.calls)
