-- What an expression may refer to.
use Rattle.std.specs.Prelude.{ℕ, Bool, List}
use Rattle.wdl_value.specs.Fits.{Structs}
use Rattle.wdl_typed.specs.declared.scope.Bound.{Bound}
use Rattle.wdl_check_rules.specs.Locals.{Naming, stands_for}
use Rattle.wdl_check_rules.specs.declared.scope.Scope.{Scope as Seeing}

pub record Scope : Type 0 where
  pub names : List Bound
  pub calls : List (List ℕ)
  pub structs : Structs
  pub locals : Naming
  pub outputs : Bool
  pub placeholder : Bool

abbrev pub scope_of : Seeing → Scope
scope_of s = record {
  names = s.names.now;
  calls = s.calls.now;
  structs = s.structs.now;
  locals = stands_for s.locals.now;
  outputs = s.outputs;
  placeholder = s.placeholder;
}
