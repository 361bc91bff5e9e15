use Rattle.std.proofs.Common.{◌≡◌, ◌++◌, drop}
use Rattle.wdl_plain.proofs.sight.enter_calls.Given as goal

abbrev pub invariant-loop-end : goal.invariant-loop-end
invariant-loop-end l = l.calls ++ drop l.end-index l.more ≡ l.initial.calls ++ l.more
