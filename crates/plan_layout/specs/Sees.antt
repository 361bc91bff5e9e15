-- What holds of each statement of a checked form where it stands: all that it refers to is seen, and the names behind it differ. It
-- holds of its inputs and outputs too.
use Rattle.std.specs.Prelude.{◌≡◌, ℕ, true, List, [], ◌∷◌, Option, Some, None, map}
use Rattle.std.specs.List.{list_all}
use Rattle.wdl_base.specs.declared.name.Key.{Key}
use Rattle.wdl_typed.specs.declared.expr.TExpr.{TExpr}
use Rattle.wdl_typed.specs.declared.flow.FlowDef.{FlowDef}
use Rattle.wdl_typed.specs.declared.flow.Statement.{Statement, Statement-F, out-Statement}
use Rattle.wdl_typed.specs.declared.flow.Statement.TheOpen as layer
use Rattle.wdl_typed.specs.declared.task.TDecl.{TDecl}
use Rattle.wdl_typed.specs.declared.task.TInput.{TInput}
use Rattle.wdl_typed.specs.Bodies.{Library}
use Rattle.wdl_typed.specs.Journal.{keys_distinct}
use Rattle.wdl_typed.specs.KnownTypes.{is_some}
use Rattle.wdl_typed.specs.Scope.{names_of}
use Rattle.net_laws.specs.Rules.{arg_keys}
use Rattle.plan_layout.specs.declared.layout.Need.{Need}
use Rattle.plan_layout.specs.Laid.{Stand, behind_one, body_seen, with_plain}
use Rattle.plan_layout.specs.Spots.{find_spot, plain_keys}

abbrev pub spot_keys : List Need → List Key
spot_keys = map (λ (n : Need). n.key)

-- the names that a statement refers to, and the calls that it comes after
abbrev pub keys_at : Statement-F Statement → List Key
keys_at (layer.Decl d) = names_of d.value
keys_at (layer.Call c) = arg_keys c.args
keys_at (layer.Scatter b) = names_of b.over
keys_at (layer.If b) = names_of b.cond

abbrev pub after_at : Statement-F Statement → List (List ℕ)
after_at (layer.Call c) = c.after
after_at y = []

-- These names are all seen.
abbrev pub AllSeen : List Need → List Key → Type 0
AllSeen seen keys = list_all (λ (k : Key). is_some (find_spot seen k)) keys ≡ true

pub record Sees (lib : Library) (st : Statement) (a : Stand) : Type 0 where
  pub names : AllSeen a.names (keys_at (out-Statement st))
  pub calls : AllSeen a.calls (plain_keys (after_at (out-Statement st)))
  pub distinct : keys_distinct (spot_keys (behind_one lib st a).names) ≡ true
  pub plain : (called : List (List ℕ)) × (spot_keys a.calls ≡ plain_keys called)
  pub calls_distinct : keys_distinct (spot_keys (behind_one lib st a).calls) ≡ true

-- ---- workflows

-- An expression sees all that it refers to, and the names that it sees differ.
pub record ExprSees (seen : List Need) (e : TExpr) : Type 0 where
  pub names : AllSeen seen (names_of e)
  pub distinct : keys_distinct (spot_keys seen) ≡ true

abbrev pub DefaultSees : List Need → Option TExpr → Type 0
DefaultSees seen None = Unit {0}
DefaultSees seen (Some e) = ExprSees seen e

-- Each input sees those before it.
abbrev pub InputsSee : List Need → List TInput → Type 0
InputsSee seen [] = Unit {0}
InputsSee seen (i ∷ is) = DefaultSees seen i.value × InputsSee (with_plain seen i.name) is

abbrev pub OutputsSee : List Need → List TDecl → Type 0
OutputsSee seen [] = Unit {0}
OutputsSee seen (d ∷ ds) = ExprSees seen d.value × OutputsSee (with_plain seen d.name) ds

abbrev pub with_outputs : List Need → List TDecl → List Need
with_outputs seen [] = seen
with_outputs seen (d ∷ ds) = with_outputs (with_plain seen d.name) ds

-- The inputs and outputs of a workflow see all that they refer to, and all names of its own body differ.
pub record FlowSees (lib : Library) (f : FlowDef) : Type 0 where
  pub inputs : InputsSee [] f.inputs
  pub outputs : OutputsSee (body_seen lib f) f.outputs
  pub distinct : keys_distinct (spot_keys (with_outputs (body_seen lib f) f.outputs)) ≡ true
