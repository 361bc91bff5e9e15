use Rattle.std.proofs.Common.{◌≡◌, ◌+◌}
use Rattle.value_net.specs.Nets.{IsSound, view}
use Rattle.plan_growth.specs.Entering.{with_gathers}
use Rattle.plan_bodies.proofs.joints.gather_names.Given as goal

abbrev pub invariant-loop-k : goal.invariant-loop-k
invariant-loop-k l = IsSound l.net × (view l.net ≡ with_gathers l.firsts l.inner (l.base + l.outer) l.k (view l.initial.net))
