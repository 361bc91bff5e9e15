use Rattle.std.proofs.Common.{◌≡◌, ◌+◌}
use Rattle.value_net.specs.Nets.{IsSound, view}
use Rattle.plan_growth.specs.Entering.{with_ends}
use Rattle.plan_bodies.proofs.joints.end_calls.Given as goal

abbrev pub invariant-loop-k : goal.invariant-loop-k
invariant-loop-k l = IsSound l.net × (view l.net ≡ with_ends l.firsts l.inner (l.base + l.outer) l.k (view l.initial.net))
