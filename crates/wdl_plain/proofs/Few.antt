-- Declarations have no jobs and count nothing.
use Rattle.std.proofs.Common.{◌≡◌, ℕ, Bool, true, false, cond, List, Option, Some, None, Ok, Err, refl}
use Rattle.wdl_value.specs.declared.value.Value.{Value}
use Rattle.wdl_value.specs.Outcome.{Outcome}
use Rattle.wdl_typed.specs.declared.expr.TExpr.{TExpr}
use Rattle.wdl_typed.specs.declared.task.TInput.{TInput}
use Rattle.wdl_typed.specs.Evaluation.{value_of}
use Rattle.wdl_typed.specs.Flow.{Sight, all_known, declaration, declared_as, default_of, env_of, input_of, known, named, too_many}
use Rattle.wdl_typed.specs.Requests.{before}

pub few_decl : (s : Sight) (name : List ℕ) (e : TExpr) → too_many (declaration s name e) ≡ false
few_decl s name e = by_known (all_known s.names e)
  where
    by_outcome : (o : Outcome Value) → too_many (declared_as s.place name o) ≡ false
    by_outcome (Ok x) = refl
    by_outcome (Err c) = refl

    by_known : (b : Bool) → too_many (cond b (declared_as s.place name (value_of (before (env_of s.names)) e)) (named (known name None))) ≡ false
    by_known true = by_outcome (value_of (before (env_of s.names)) e)
    by_known false = refl

few_default : (s : Sight) (name : List ℕ) (o : Option TExpr) → too_many (default_of s name o) ≡ false
few_default s name None = refl
few_default s name (Some e) = few_decl s name e

pub few_input : (s : Sight) (i : TInput) (o : Option Value) → too_many (input_of s i o) ≡ false
few_input s i (Some x) = refl
few_input s i None = few_default s i.name i.value
