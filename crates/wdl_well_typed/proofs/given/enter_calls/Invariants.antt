use Rattle.std.proofs.Common.{◌≡◌, ◌++◌, drop}
use Rattle.wdl_well_typed.proofs.given.enter_calls.Given as goal

abbrev pub invariant-loop-name : goal.invariant-loop-name
invariant-loop-name l = l.calls ++ drop l.name-index l.names ≡ l.initial.calls ++ l.names
