use Rattle.std.proofs.Common.{◌≡◌, ◌++◌, drop}
use Rattle.wdl_plain.specs.Views.{env_in}
use Rattle.wdl_plain.proofs.callee.names_of.Given as goal

abbrev pub invariant-loop-bind : goal.invariant-loop-bind
invariant-loop-bind l = env_in l.names ++ drop l.bind-index l.env ≡ l.env
