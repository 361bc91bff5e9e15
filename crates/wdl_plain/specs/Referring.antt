-- Names with their values.
use Rattle.std.specs.Prelude.{List, [], ◌∷◌, ◌++◌, if◌then◌else◌}
use Rattle.wdl_base.specs.declared.name.Key.{Key}
use Rattle.wdl_value.specs.declared.env.Bind.{Bind}
use Rattle.wdl_typed.specs.Flow.{bound_by}
use Rattle.wdl_typed.specs.KnownTypes.{is_some}
use Rattle.wdl_typed.specs.Scope.{lookup}
use Rattle.wdl_plain.specs.declared.known.Known.{Known}
use Rattle.wdl_plain.specs.Views.{env_in}

-- a name with its value, where it has one and is not there yet
abbrev pub pick : List Known → List Bind → Key → List Bind
pick ks env key = if is_some (lookup env key) then env else env ++ bound_by key (lookup (env_in ks) key)

abbrev pub picks : List Known → List Bind → List Key → List Bind
picks ks env [] = env
picks ks env (key ∷ keys) = picks ks (pick ks env key) keys
