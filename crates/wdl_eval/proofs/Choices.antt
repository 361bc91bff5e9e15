-- What `if` gives, once its condition has a value.
use Rattle.std.proofs.Common.{◌≡◌, Bool, true, false, cond, Result, Ok, sym, ap, ◌∙◌, subst}
use Rattle.wdl_value.specs.declared.value.Value.{Value, Value-F, out-Value}
use Rattle.wdl_value.specs.declared.value.Value.TheOpen as value
use Rattle.wdl_value.specs.declared.value.Value.TheVariants as v
use Rattle.wdl_typed.specs.declared.expr.TExpr.{TExpr, fold-roll-TExpr}
use Rattle.wdl_typed.specs.declared.expr.TExpr.TheOpen as layer
use Rattle.wdl_typed.specs.declared.expr.TExpr.TheVariants as expr
use Rattle.wdl_typed.specs.Evaluation.{Met, Setting, chosen, then_, value_met, value_step}
use Rattle.wdl_eval.specs.declared.fault.NodeFault.{NodeFault}
use Rattle.wdl_eval.specs.Meets.{Meets}
use Rattle.wdl_eval.specs.Nodes.{within}
use Rattle.wdl_eval.proofs.Limited.{limited_once}

module _ (s : Setting) (a b : TExpr) where
  by_side : (t : Bool) → within (chosen (value.Bool t) (value_met s a) (value_met s b)) ≡ cond t (value_met s a) (value_met s b)
  by_side true = limited_once s a
  by_side false = limited_once s b

  chosen_so : (e d : TExpr) (x : Value) (t : Bool) → e ≡ expr.Choose d a b → value_met s d ≡ Ok x → x ≡ v.Bool t
      → value_met s e ≡ cond t (value_met s a) (value_met s b)
  chosen_so e d x t is so at =
      ap (value_met s) (is ∙ sym (expr.rolls-Choose d a b)) ∙ fold-roll-TExpr (Met Value) (value_step s) (layer.Choose d a b)
      ∙ ap (λ (r : Met Value). within (then_ r (λ x. chosen (out-Value x) (value_met s a) (value_met s b)))) so
      ∙ ap (λ (l : Value-F Value). within (chosen l (value_met s a) (value_met s b))) (ap out-Value at ∙ v.outs-Bool t)
      ∙ by_side t

-- the branch that is chosen gives what the whole gives
pub chosen_meets : (s : Setting) (e d a b : TExpr) (x : Value) (t : Bool) (r : Result Value NodeFault) → e ≡ expr.Choose d a b → value_met s d ≡ Ok x
    → x ≡ v.Bool t → Meets (cond t (value_met s a) (value_met s b)) r → Meets (value_met s e) r
chosen_meets s e d a b x t r is so at h = subst (λ (m : Met Value). Meets m r) (sym (chosen_so s a b e d x t is so at)) h
