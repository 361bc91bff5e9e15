-- Which steps of a net may be done: what they evaluate over their needs is well typed, and the values fit.
use Rattle.std.specs.Prelude.{◌≡◌, ◌<◌, ℕ, true, List, Option, Some, Ok, map, slice_get}
use Rattle.std.specs.List.{list_all}
use Rattle.wdl_base.specs.declared.place.Segment.{Segment}
use Rattle.wdl_value.specs.declared.env.Bind.{Bind}
use Rattle.wdl_value.specs.Tables.{Row}
use Rattle.wdl_typed.specs.declared.expr.TExpr.{TExpr}
use Rattle.wdl_typed.specs.declared.flow.FlowDef.{FlowDef}
use Rattle.wdl_typed.specs.declared.flow.Statement.{Statement, Statement-F, out-Statement}
use Rattle.wdl_typed.specs.declared.flow.Statement.TheOpen as layer
use Rattle.wdl_typed.specs.declared.flow.TCall.{TCall}
use Rattle.wdl_typed.specs.declared.flow.Target.TheVariants as target
use Rattle.wdl_typed.specs.declared.task.TaskDef.{TaskDef}
use Rattle.wdl_typed.specs.Bodies.{Library, Signature, signature}
use Rattle.wdl_typed.specs.Declarations.{task_typed}
use Rattle.wdl_typed.specs.Flow.{args_met, env_of}
use Rattle.wdl_typed.specs.Kept.{is_checked}
use Rattle.wdl_typed.specs.KnownTypes.{is_some}
use Rattle.wdl_typed.specs.Scope.{names_of}
use Rattle.wdl_eval.specs.Ready.{IsReady}
use Rattle.wdl_task.specs.Readiness.{are_given}
use Rattle.flow_soundness.specs.Readiness.{AreArgsReady}
use Rattle.net_laws.specs.Growing.{Growing, Rule, State, copies, declares, does, ends, gathers, whole}
use Rattle.net_laws.specs.Laws.{ruled}
use Rattle.net_laws.specs.Moving.{at_step}
use Rattle.net_laws.specs.Net.{Cells, Given, Mark, Scope, Slot, known_in}
use Rattle.net_laws.specs.Planned.{CallNeeds}
use Rattle.net_laws.specs.Rules.{Needs}

module _ (lib : Library) (cells : Cells) where
  abbrev pub are_known : List Slot → Type 0
  are_known slots = list_all (λ (s : Slot). is_some (cells s.cell)) slots ≡ true

  -- The expression may be evaluated over its needs, once they are set.
  abbrev pub IsExprReady : Scope → TExpr → Type 0
  IsExprReady s e = (slots : List Slot) → Needs s (names_of e) slots → are_known slots → IsReady e (env_of (map (known_in cells) slots))

  -- So may the arguments of a call, whose task or workflow is there; and where it is a task's, the task is well typed, and they are its
  -- inputs.
  pub record IsCallReady (s : Scope) (x : TCall) : Type 0 where
    pub there : (g : Signature) × (signature lib x.target ≡ Some g)
    pub args : (slots : List Slot) (marks : List Mark) → CallNeeds s x slots marks → are_known slots → AreArgsReady (env_of (map (known_in cells) slots)) x.args
    pub tasks : (slots : List Slot) (marks : List Mark) → CallNeeds s x slots marks → are_known slots → (args : List Bind) → args_met (env_of (map (known_in cells) slots)) x.args ≡ Ok args → (k : ℕ) (task : TaskDef)
        → x.target ≡ target.Task k → slice_get lib.tasks k ≡ Some task → (task_typed lib.structs task ≡ true) × (are_given lib.structs task.inputs args ≡ true)

  abbrev pub IsLayerReady : Statement-F Statement → Scope → Type 0
  IsLayerReady (layer.Decl x) s = IsExprReady s x.value
  IsLayerReady (layer.Call x) s = IsCallReady s x
  IsLayerReady (layer.Scatter x) s = IsExprReady s x.over
  IsLayerReady (layer.If x) s = IsExprReady s x.cond

  -- what a step of this rule evaluates may be evaluated
  abbrev pub IsRuleReady : Rule → Type 0
  IsRuleReady (does x s g d) = IsLayerReady (out-Statement x) s
  IsRuleReady (declares name e s c) = IsExprReady s e
  IsRuleReady (gathers parts c) = Unit {0}
  IsRuleReady (ends parts c) = Unit {0}
  IsRuleReady (copies from c) = Unit {0}

-- For each step that is left in what grows of a workflow whose inputs are given, or is that of a call that was asked.
abbrev pub StepsReady : Type 0
StepsReady =
    (lib : Library) (main : Option ℕ) → is_checked lib main ≡ true → (site : List ℕ) (rows : List Row) (rules : ℕ → Option Rule) (st : State) (depth k : ℕ) (f : FlowDef) → slice_get lib.flows k ≡ Some f
    → (given : List Bind) → are_given lib.structs f.inputs given ≡ true → (place : List Segment) (g : Given) (ds : List ℕ) (p : Growing lib site rows (ruled rules) st depth (whole f given place g ds)) (t : ℕ) (r : Rule)
    → rules t ≡ Some r → 0 < at_step lib site rows (ruled rules) st t 1 p → IsRuleReady lib st.cells r
