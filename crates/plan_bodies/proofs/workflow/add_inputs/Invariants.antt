use Rattle.std.proofs.Common.{◌≡◌, drop, length}
use Rattle.value_net.specs.Nets.{IsSound, view}
use Rattle.plan_growth.specs.Entering.{with_inputs}
use Rattle.plan_bodies.proofs.workflow.add_inputs.Given as goal

abbrev pub invariant-loop-input : goal.invariant-loop-input
invariant-loop-input l =
    IsSound l.net × (length (view l.net).values ≡ length (view l.initial.net).values)
    × (with_inputs l.given l.instance l.first l.input (drop l.input l.inputs) (drop l.input l.needs) (view l.net) ≡ with_inputs l.given l.instance l.first 0 l.inputs l.needs (view l.initial.net))
