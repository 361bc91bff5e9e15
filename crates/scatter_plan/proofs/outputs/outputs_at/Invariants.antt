use Rattle.std.proofs.Common.{◌≡◌, ◌+◌, ◌++◌, drop}
use Rattle.value_net.specs.Nets.{view}
use Rattle.scatter_plan.specs.Settling.{env_at}
use Rattle.scatter_plan.proofs.outputs.outputs_at.Given as goal

abbrev pub invariant-loop-k : goal.invariant-loop-k
invariant-loop-k l = env_at (view l.net).values l.first l.outputs ≡ l.env ++ env_at (view l.net).values (l.first + l.k) (drop l.k l.outputs)
