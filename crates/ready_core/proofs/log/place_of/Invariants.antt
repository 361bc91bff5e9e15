use Rattle.std.proofs.Common.{◌≡◌, false, All, take}
use Rattle.wdl_base.specs.Same.{same_request}
use Rattle.ready_core.proofs.log.place_of.Given as goal

abbrev pub invariant-loop-at : goal.invariant-loop-at
invariant-loop-at l = All (λ j. same_request j.request l.request ≡ false) (take l.at l.jobs)
