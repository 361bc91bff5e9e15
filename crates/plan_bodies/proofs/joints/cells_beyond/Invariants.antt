use Rattle.std.proofs.Common.{◌≡◌, ◌+◌, ◌++◌, drop}
use Rattle.plan_growth.specs.Entering.{beyond_each}
use Rattle.plan_bodies.proofs.joints.cells_beyond.Given as goal

abbrev pub invariant-loop-first : goal.invariant-loop-first
invariant-loop-first l = l.cells ++ beyond_each (drop l.first-index l.firsts) (l.inner + l.k) ≡ beyond_each l.firsts (l.inner + l.k)
