-- The equation of `casts_widen`.
use Rattle.std.proofs.Common.{◌≡◌, Bool, ap, sym, ◌∙◌}
use Rattle.wdl_typed.specs.declared.expr.TExpr.{TExpr, TExpr-F, map-TExpr, out-TExpr, roll-TExpr, para-roll-TExpr, roll-out-TExpr}
use Rattle.wdl_typed.specs.declared.expr.TExpr.TheVariants as e
use Rattle.wdl_typed.specs.Typing.{Context}
use Rattle.cwl_image.specs.Expressions.{Placing, casts_step, casts_widen}
use Rattle.cwl_rules.specs.Casts.{with_casts}

rolled : (c : Context) (y : TExpr-F TExpr) → casts_widen c (roll-TExpr y) ≡ casts_step c (map-TExpr TExpr (TExpr × Placing) (with_casts c) y)
unfolding casts_widen
rolled c y = para-roll-TExpr Placing (casts_step c) y

pub casts_out : (c : Context) (e : TExpr) (p : Bool) → casts_widen c e p ≡ casts_step c (map-TExpr TExpr (TExpr × Placing) (with_casts c) (out-TExpr e)) p
casts_out c e p = ap (λ (f : Placing). f p) (ap (casts_widen c) (sym (roll-out-TExpr e)) ∙ rolled c (out-TExpr e))

-- what a proof of code about `casts_widen` uses
pub ruleset casts_steps = (
  casts_out,
  e.outs-Lit,
  e.outs-Get,
  e.outs-Member,
  e.outs-At,
  e.outs-Not,
  e.outs-Neg,
  e.outs-Binary,
  e.outs-Choose,
  e.outs-ListOf,
  e.outs-MapOf,
  e.outs-PairOf,
  e.outs-StructOf,
  e.outs-Apply,
  e.outs-Strung,
  e.outs-Cast,
)
