-- `!b` is well typed.
use Rattle.std.proofs.Common.{◌≡◌, Bool, false, List, [], Some, option_and_then, ap, ◌∙◌, subst, sym}
use Rattle.wdl_value.specs.declared.env.Bind.{Bind}
use Rattle.wdl_value.specs.declared.ty.Ty.{out-Ty}
use Rattle.wdl_value.specs.declared.ty.Ty.TheVariants as ty
use Rattle.wdl_value.specs.declared.value.Value.TheVariants as v
use Rattle.wdl_value.specs.Kinds.{bool_at}
use Rattle.wdl_typed.specs.declared.expr.TExpr.{TExpr, map-TExpr, fold_out-TExpr}
use Rattle.wdl_typed.specs.declared.expr.TExpr.TheVariants as expr
use Rattle.wdl_typed.specs.Typing.{Context, Typing, literal_at, type_of, type_step, when}
use Rattle.wdl_eval.specs.Ready.{IsReady}

module _ (c : Context) (b : Bool) where
  literal : type_of c (expr.Lit (v.Bool b)) false ≡ Some ty.Bool
  literal =
      ap (λ (f : Typing). f false) (fold_out-TExpr Typing (type_step c) (expr.Lit (v.Bool b)))
      ∙ ap (λ l. type_step c (map-TExpr TExpr Typing (type_of c) l) false) (expr.outs-Lit (v.Bool b))
      ∙ ap literal_at (v.outs-Bool b)

  negation : type_of c (expr.Not (expr.Lit (v.Bool b))) false ≡ Some ty.Bool
  negation =
      ap (λ (f : Typing). f false) (fold_out-TExpr Typing (type_step c) (expr.Not (expr.Lit (v.Bool b))))
      ∙ ap (λ l. type_step c (map-TExpr TExpr Typing (type_of c) l) false) (expr.outs-Not (expr.Lit (v.Bool b)))
      ∙ ap (option_and_then (λ t. when (bool_at (out-Ty t)) ty.Bool)) literal
      ∙ ap (λ k. when (bool_at k) ty.Bool) ty.outs-Bool

pub negation_is_ready : (e : TExpr) (b : Bool) (env : List Bind) → e ≡ expr.Not (expr.Lit (v.Bool b)) → IsReady e env
negation_is_ready e b env is = subst (λ (z : TExpr). IsReady z env) (sym is) (record {
  context = record { structs = []; names = []; outputs = false };
  placeholder = false;
  ty = ty.Bool;
  typed = negation (record { structs = []; names = []; outputs = false }) b;
  fitting = λ key h. tt;
})
