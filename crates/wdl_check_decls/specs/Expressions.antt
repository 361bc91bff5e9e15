-- Expressions where they stand in a document.
use Rattle.std.specs.Prelude.{ℕ, Bool, false, List}
use Rattle.wdl_value.specs.declared.ty.Ty.{Ty}
use Rattle.wdl_value.specs.Fits.{Structs}
use Rattle.wdl_ast.specs.declared.expr.Expr.{Expr}
use Rattle.wdl_typed.specs.declared.expr.TExpr.{TExpr}
use Rattle.wdl_typed.specs.declared.scope.Bound.{Bound}
use Rattle.wdl_check_rules.specs.declared.typed.Typed.{Typed}
use Rattle.wdl_check_rules.specs.Conditions.{conditions, conditions_as}
use Rattle.wdl_check_rules.specs.Scopes.{Scope}
use Rattle.wdl_check_rules.specs.Typed.{typed, typed_as}
use Rattle.wdl_check_rules.specs.Locals.{Naming, stands_for}
use Rattle.wdl_check_types.specs.Outcome.{Outcome}
use Rattle.wdl_check_decls.specs.declared.seeing.Seeing.{Seeing}

-- the structs of the library, the names under which the document knows them, and the calls that are seen
pub record World : Type 0 where
  pub structs : Structs
  pub locals : Naming
  pub calls : List (List ℕ)

abbrev pub world : Seeing → World
world s = record { structs = s.structs.now; locals = stands_for s.locals.now; calls = s.calls.now }

-- the same where these calls are seen
abbrev pub with_calls : World → List (List ℕ) → World
with_calls w calls = record { structs = w.structs; locals = w.locals; calls = calls }

abbrev pub scope : World → List Bound → Bool → Bool → Scope
scope w names outputs placeholder = record {
  names = names;
  calls = w.calls;
  structs = w.structs;
  locals = w.locals;
  outputs = outputs;
  placeholder = placeholder;
}

-- the typing of an expression
abbrev pub expr_typed : World → List Bound → Bool → Bool → Expr → Outcome Typed
expr_typed w names outputs placeholder e = record {
  typed = typed (scope w names outputs placeholder) e;
  conditions = conditions (scope w names outputs placeholder) e;
}

-- the same, cast to a type
abbrev pub expr_as : World → List Bound → Bool → Expr → Ty → Outcome TExpr
expr_as w names outputs e t = record {
  typed = typed_as (scope w names outputs false) e t;
  conditions = conditions_as (scope w names outputs false) e t;
}
