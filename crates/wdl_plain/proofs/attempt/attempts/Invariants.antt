use Rattle.std.proofs.Common.{◌≡◌, ◌-◌}
use Rattle.wdl_plain.specs.Attempts as spec
use Rattle.wdl_flow.specs.Views.{given_of}
use Rattle.wdl_plain.specs.Views.{run_of}
use Rattle.wdl_plain.proofs.Tries.{Trying}
use Rattle.wdl_plain.proofs.attempt.attempts.Given as goal

abbrev pub invariant-tries : goal.invariant-tries
invariant-tries g l =
    (given_of l.given ≡ given_of l.initial.given)
    × Trying (run_of l.ground) (given_of l.initial.given) l.call l.jobs l.prepared (spec.attempts (run_of l.ground) (given_of l.initial.given) l.call l.initial.prepared)

abbrev pub decreases-tries : goal.decreases-tries
decreases-tries g l = l.prepared.retries - l.prepared.request.attempt
