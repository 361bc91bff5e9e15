-- What is equal in checked forms that are the same but for the names of tasks, the promise of the functions in `laws`.
use Rattle.std.specs.Prelude.{◌≡◌, ◌↔◌, ℕ, true, List, Option, Some, map, slice_get}
use Rattle.wdl_value.specs.declared.env.Bind.{Bind}
use Rattle.wdl_value.specs.declared.ty.Ty.{Ty}
use Rattle.wdl_value.specs.Tables.{Row}
use Rattle.wdl_typed.specs.declared.expr.TExpr.{TExpr}
use Rattle.wdl_typed.specs.declared.flow.FlowDef.{FlowDef}
use Rattle.wdl_typed.specs.declared.task.TInput.{TInput}
use Rattle.wdl_typed.specs.Bodies.{Library}
use Rattle.wdl_typed.specs.Flow.{Flowing, outputs_of, whole}
use Rattle.wdl_typed.specs.Journal.{inputs_fit}
use Rattle.wdl_same.specs.Exprs.{same_expr}
use Rattle.wdl_same.specs.Forms.{same_but_names}

abbrev pub SameExprsAreEqual : Type 0
SameExprsAreEqual = (e f : TExpr) → (same_expr e f ≡ true) ↔ (e ≡ f)

-- what an input is, wherever it stands in a text
pub record Taken : Type 0 where
  pub name : List ℕ
  pub ty : Ty
  pub default : Option TExpr

abbrev pub taken : TInput → Taken
taken i = record { name = i.name; ty = i.ty; default = i.value }

-- the inputs that a workflow takes, in their order
abbrev pub takes : FlowDef → List Taken
takes f = map taken f.inputs

-- Two main workflows of one name. They take the same inputs, so the same given inputs fit. For all inputs, every site and every table
-- their flows have the same known names, calls, jobs with the statuses of their successes, faults, waits and count of statements, and
-- of these names the same are outputs.
pub record Agree (a : Library) (main : ℕ) (f : FlowDef) (b : Library) (other : ℕ) (g : FlowDef) : Type 0 where
  pub name : f.name ≡ g.name
  pub inputs : takes f ≡ takes g
  pub fit : (given : List Bind) → inputs_fit a.structs f.inputs given ≡ inputs_fit b.structs g.inputs given
  pub flow : (given : List Bind) (site : List ℕ) (table : List Row)
      → whole (record { library = a; site = site; table = table }) main given ≡ whole (record { library = b; site = site; table = table }) other given
  pub outputs : (flow : Flowing) → outputs_of flow f ≡ outputs_of flow g

-- Where the first form has a main workflow, the second one has one that agrees with it.
abbrev pub FormsAgree : Type 0
FormsAgree =
    (a : Library) (main : ℕ) (f : FlowDef) (b : Library) (last : Option ℕ) → slice_get a.flows main ≡ Some f → same_but_names a (Some main) b last ≡ true
    → (other : ℕ) × (g : FlowDef) × (last ≡ Some other) × (slice_get b.flows other ≡ Some g) × Agree a main f b other g
