use Rattle.flow_soundness.proofs.Taken.{Taking}
use Rattle.std.proofs.Common.{◌≤◌, ◌+◌}
use Rattle.plan_steps.proofs.arguments.args_met.Given as goal

abbrev pub invariant-loop-arg : goal.invariant-loop-arg
invariant-loop-arg g l = Taking l.env l.args l.arg-index l.met × (l.steps ≤ l.initial.steps + l.arg-index)
