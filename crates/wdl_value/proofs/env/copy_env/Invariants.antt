use Rattle.std.proofs.Common.{◌≡◌, take}
use Rattle.wdl_value.proofs.env.copy_env.Given as goal

abbrev pub invariant-loop-bind : goal.invariant-loop-bind
invariant-loop-bind l = l.env ≡ take l.bind-index l.binds
