-- Arguments of which all names are known, one after the other.
use Rattle.std.proofs.Common.{◌≡◌, ℕ, ◌+◌, ◌<◌, true, List, [], ◌∷◌, ◌++◌, drop, length, get_or, Ok, sym, ap, ◌∙◌}
use Rattle.std.proofs.lemmas.Bool.{and_parts}
use Rattle.wdl_value.specs.declared.env.Bind.{Bind}
use Rattle.wdl_value.specs.declared.value.Value.{Value}
use Rattle.wdl_typed.specs.declared.expr.TExpr.{TExpr}
use Rattle.wdl_typed.specs.declared.expr.TField.{TField}
use Rattle.wdl_typed.specs.Evaluation.{value_of}
use Rattle.wdl_typed.specs.Flow.{Known, all_known, arg_bind, args_known, env_of, named_arg}
use Rattle.wdl_typed.specs.Requests.{before}
use Rattle.wdl_eval.specs.Ready.{IsReady}
use Rattle.wdl_task.proofs.Loops.{cut}
use Rattle.flow_soundness.specs.Readiness.{AreArgsReady}
use Rattle.flow_soundness.proofs.Taken.{Taking, taken_ready, taking_begins, taking_goes}

module _ (names : List Known) (args : List (TField TExpr)) where
  abbrev env : List Bind
  env = env_of names

  -- So many arguments are taken, with these binds.
  pub record Going (i : ℕ) (done : List Bind) : Type 0 where
    pub taking : Taking env args i done
    pub known : args_known names (drop i args) ≡ true

  pub going_begins : args_known names args ≡ true → AreArgsReady env args → Going 0 []
  going_begins known ready = record { taking = taking_begins env args ready; known = known }

  module _ (i : ℕ) (a : TField TExpr) (done : List Bind) (at : a ≡ get_or args i a) (below : i < length args) (g : Going i done) where
    parts : (all_known names a.value ≡ true) × (args_known names (drop (i + 1) args) ≡ true)
    parts = and_parts (all_known names a.value) (args_known names (drop (i + 1) args)) (sym (ap (args_known names) (cut args i a at below)) ∙ g.known)

    pub going_known : all_known names a.value ≡ true
    going_known = parts.0

    pub going_ready : IsReady a.value env
    going_ready = taken_ready env args i a done at below g.taking

    pub going_on : (x : Value) → named_arg a.name (value_of (before env) a.value) ≡ Ok x → Going (i + 1) (done ++ arg_bind a.name x ∷ [])
    going_on x h = record { taking = taking_goes env args i a done at below g.taking x h; known = parts.1 }
