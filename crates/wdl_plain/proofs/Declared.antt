-- Declarations, case by case.
use Rattle.std.proofs.Common.{◌≡◌, ℕ, Bool, true, false, cond, List, None, ap, ◌∙◌}
use Rattle.wdl_value.specs.declared.value.Value.{Value}
use Rattle.wdl_value.specs.Outcome.{Outcome}
use Rattle.wdl_typed.specs.declared.expr.TExpr.{TExpr}
use Rattle.wdl_typed.specs.Evaluation.{value_of}
use Rattle.wdl_typed.specs.Flow.{Flowing, Sight, all_known, declaration, declared_as, env_of, known, named}
use Rattle.wdl_typed.specs.Requests.{before}

module _ (s : Sight) (name : List ℕ) (e : TExpr) where
  abbrev by : Bool → Outcome Value → Flowing
  by b o = cond b (declared_as s.place name o) (named (known name None))

  abbrev value : Outcome Value
  value = value_of (before (env_of s.names)) e

  pub declared_missing : all_known s.names e ≡ false → declaration s name e ≡ named (known name None)
  declared_missing h = ap (λ b. by b value) h

  pub declared_is : (o : Outcome Value) → all_known s.names e ≡ true → value ≡ o → declaration s name e ≡ declared_as s.place name o
  declared_is o h v = ap (λ b. by b value) h ∙ ap (λ x. by true x) v
