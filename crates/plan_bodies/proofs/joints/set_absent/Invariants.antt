use Rattle.std.proofs.Common.{◌≡◌, ◌+◌}
use Rattle.value_net.specs.Nets.{IsSound, view}
use Rattle.plan_growth.specs.Entering.{with_absent}
use Rattle.plan_bodies.proofs.joints.set_absent.Given as goal

abbrev pub invariant-loop-k : goal.invariant-loop-k
invariant-loop-k l = IsSound l.net × (view l.net ≡ with_absent (l.base + l.first) l.k (view l.initial.net))
