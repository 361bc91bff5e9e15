-- The equation of `call_of`.
use Rattle.std.proofs.Common.{◌≡◌, Option, ap, sym, ◌∙◌}
use Rattle.wdl_typed.specs.declared.expr.TExpr.{TExpr, TExpr-F, map-TExpr, out-TExpr, roll-TExpr, para-roll-TExpr, roll-out-TExpr}
use Rattle.wdl_typed.specs.declared.expr.TExpr.TheVariants as e
use Rattle.wdl_task.specs.Calls.{Call, call_of, call_step}

abbrev pub with_call : TExpr → TExpr × Option Call
with_call e = (e, call_of e)

pub call_roll : (y : TExpr-F TExpr) → call_of (roll-TExpr y) ≡ call_step (map-TExpr TExpr (TExpr × Option Call) with_call y)
unfolding call_of
call_roll y = para-roll-TExpr (Option Call) call_step y

pub call_out : (e : TExpr) → call_of e ≡ call_step (map-TExpr TExpr (TExpr × Option Call) with_call (out-TExpr e))
call_out e = ap call_of (sym (roll-out-TExpr e)) ∙ call_roll (out-TExpr e)

-- what a proof of code about `call_of` uses
pub ruleset call_steps = (
  call_out,
  e.outs-Lit,
  e.outs-Get,
  e.outs-Member,
  e.outs-At,
  e.outs-Not,
  e.outs-Neg,
  e.outs-Binary,
  e.outs-Choose,
  e.outs-ListOf,
  e.outs-MapOf,
  e.outs-PairOf,
  e.outs-StructOf,
  e.outs-Apply,
  e.outs-Strung,
  e.outs-Cast,
)
