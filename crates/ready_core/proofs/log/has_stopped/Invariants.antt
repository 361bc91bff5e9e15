use Rattle.std.proofs.Common.{◌≡◌, drop}
use Rattle.ready_core.specs.Cores.{has_stopped}
use Rattle.ready_core.proofs.log.has_stopped.Given as goal

abbrev pub invariant-loop-step : goal.invariant-loop-step
invariant-loop-step l = has_stopped (drop l.step-index l.steps) ≡ has_stopped l.steps
