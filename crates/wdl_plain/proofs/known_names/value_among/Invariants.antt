use Rattle.std.proofs.Common.{◌≡◌, drop}
use Rattle.wdl_typed.specs.Scope.{lookup}
use Rattle.wdl_plain.specs.Views.{env_in}
use Rattle.wdl_plain.proofs.known_names.value_among.Given as goal

abbrev pub invariant-loop-known : goal.invariant-loop-known
invariant-loop-known l = lookup (env_in (drop l.known-index l.knowns)) l.key ≡ lookup (env_in l.knowns) l.key
