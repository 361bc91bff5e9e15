use Rattle.std.proofs.Common.{◌≡◌, ◌++◌, drop}
use Rattle.wdl_typed.specs.Flow.{each_call}
use Rattle.wdl_plain.specs.Views.{endeds_of}
use Rattle.wdl_plain.proofs.giving.each_call.Given as goal

abbrev pub invariant-loop-call : goal.invariant-loop-call
invariant-loop-call l = endeds_of l.ends ++ each_call l.ended (drop l.call-index l.calls) ≡ each_call l.ended l.calls
