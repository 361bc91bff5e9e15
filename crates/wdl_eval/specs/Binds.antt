-- The names and values that an evaluation may use.
use Rattle.std.specs.Prelude.{List}
use Rattle.wdl_value.specs.declared.env.Bind.{Bind}
use Rattle.wdl_eval.specs.declared.bindings.Bindings.{Bindings}
use Rattle.wdl_eval.specs.declared.bindings.Bindings.TheVariants.{Kept, Lent}

abbrev pub binds_in : Bindings → List Bind
binds_in (Kept env) = env.now
binds_in (Lent env) = env.now
