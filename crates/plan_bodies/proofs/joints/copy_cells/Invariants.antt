use Rattle.std.proofs.Common.{◌≡◌, ◌+◌}
use Rattle.value_net.specs.Nets.{IsSound, view}
use Rattle.plan_growth.specs.Entering.{with_copies}
use Rattle.plan_bodies.proofs.joints.copy_cells.Given as goal

abbrev pub invariant-loop-k : goal.invariant-loop-k
invariant-loop-k l = IsSound l.net × (view l.net ≡ with_copies (l.first + l.inner) (l.base + l.outer) l.k (view l.initial.net))
