use Rattle.std.proofs.Common.{◌≡◌, ◌++◌, drop, map}
use Rattle.wdl_bundle.specs.Called.{append_all, calls_in, reach_of}
use Rattle.wdl_bundle.proofs.calls.+calls.Given as goal

abbrev pub invariant-push_all_calls-loop-statement : goal.invariant-push_all_calls-loop-statement
invariant-push_all_calls-loop-statement l = l.calls.items ++ append_all (map (calls_in (reach_of l.reach)) (drop l.statement-index l.body))
    ≡ l.initial.calls.items ++ append_all (map (calls_in (reach_of l.reach)) l.body)
