use Rattle.std.proofs.Common.{◌≡◌, drop}
use Rattle.value_net.specs.Nets.{IsSound, view}
use Rattle.plan_growth.specs.Entering.{with_outputs}
use Rattle.plan_bodies.proofs.workflow.add_outputs.Given as goal

abbrev pub invariant-loop-output : goal.invariant-loop-output
invariant-loop-output l =
    IsSound l.net × ((view l.net).values ≡ (view l.initial.net).values)
    × (with_outputs l.instance l.first l.output (drop l.output l.outputs) (view l.net) ≡ with_outputs l.instance l.first 0 l.outputs (view l.initial.net))
