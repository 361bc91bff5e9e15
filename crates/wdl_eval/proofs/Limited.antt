-- What keeps the limits of values keeps them again.
use Rattle.std.proofs.Common.{◌≡◌, Bool, true, false, cond, Ok, Err, sym, ap, ◌∙◌, refl}
use Rattle.wdl_base.specs.declared.fault.EvalCode.TheVariants.{TooLarge}
use Rattle.wdl_value.specs.declared.value.Value.{Value}
use Rattle.wdl_value.specs.Limits.{is_within, limited}
use Rattle.wdl_value.specs.Outcome.{Outcome, and_then}
use Rattle.wdl_typed.specs.declared.expr.TExpr.{TExpr, map-TExpr, out-TExpr, fold_out-TExpr}
use Rattle.wdl_typed.specs.Evaluation.{Met, Setting, met, node_step, value_met, value_step}
use Rattle.wdl_eval.specs.Nodes.{within}

twice : (x : Value) → within (met (limited x)) ≡ met (limited x)
twice x = by_test (is_within x) refl
  where
    by_test : (b : Bool) → is_within x ≡ b → within (met (cond b (Ok x) (Err TooLarge))) ≡ met (cond b (Ok x) (Err TooLarge))
    by_test true h = ap (λ b. met (cond b (Ok x) (Err TooLarge))) h
    by_test false h = refl

within_twice : (r : Met Value) → within (within r) ≡ within r
within_twice (Ok x) = twice x
within_twice (Err c) = refl

pub limited_once : (s : Setting) (e : TExpr) → within (value_met s e) ≡ value_met s e
limited_once s e =
    let out : value_met s e ≡ within (node_step s (map-TExpr TExpr (Met Value) (value_met s) (out-TExpr e))) = fold_out-TExpr (Met Value) (value_step s) e in
    ap within out ∙ within_twice (node_step s (map-TExpr TExpr (Met Value) (value_met s) (out-TExpr e))) ∙ sym out

-- of what the standard library gives
pub met_within : (o : Outcome Value) → within (met (and_then o limited)) ≡ met (and_then o limited)
met_within (Ok x) = twice x
met_within (Err c) = refl
