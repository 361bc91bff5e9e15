use Rattle.std.proofs.Common.{◌≡◌, ◌++◌, length, map, reverse}
use Rattle.wdl_plain.specs.Views.{requests_in}
use Rattle.wdl_plain.specs.Shown.{statuses_of}
use Rattle.wdl_plain.proofs.flow.split.Given as goal

abbrev pub invariant-loop-job : goal.invariant-loop-job
invariant-loop-job l =
    (requests_in l.jobs ++ reverse l.requests.items ≡ requests_in l.initial.jobs) × (map statuses_of l.jobs ++ reverse l.terms.items ≡ map statuses_of l.initial.jobs)

abbrev pub decreases-loop-job : goal.decreases-loop-job
decreases-loop-job l = length l.jobs
