use Rattle.std.proofs.Common.{◌≡◌, drop}
use Rattle.wdl_typed.specs.Scope.{lookup}
use Rattle.wdl_eval.proofs.env.lookup.Given as goal

abbrev pub invariant-loop-bind : goal.invariant-loop-bind
invariant-loop-bind l = lookup (drop l.bind-index l.env) l.key ≡ lookup l.env l.key
