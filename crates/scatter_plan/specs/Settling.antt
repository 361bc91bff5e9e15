-- A plan between two calls: nothing is ready.
use Rattle.std.specs.Prelude.{◌≡◌, ℕ, ◌+◌, ◌<◌, ◌≤◌, Bool, true, ◌&&◌, List, [], ◌∷◌, ◌++◌, Option, Some, None, Result, Ok, Err, if◌then◌else◌, length, slice_get}
use Rattle.wdl_value.specs.declared.env.Bind.{Bind}
use Rattle.wdl_value.specs.declared.value.Value.{Value}
use Rattle.wdl_value.specs.Tables.{Row}
use Rattle.wdl_typed.specs.declared.checked.Checked.{Checked}
use Rattle.wdl_typed.specs.declared.flow.FlowDef.{FlowDef}
use Rattle.wdl_typed.specs.declared.task.TDecl.{TDecl}
use Rattle.wdl_typed.specs.Declarations.{plain_key}
use Rattle.wdl_typed.specs.Flow.{Flowing, bound_by, flow, is_empty, too_many}
use Rattle.wdl_typed.specs.Journal.{inputs_fit}
use Rattle.wdl_task.specs.declared.request.Prepared.{Prepared}
use Rattle.flow_laws.specs.Laws.{run_with}
use Rattle.value_net.specs.Nets.{AllStuck, IsSound, empty, value_at}
use Rattle.plan_layout.specs.declared.layout.BodyLayout.{BodyLayout}
use Rattle.plan_layout.specs.declared.layout.FlowLayout.{FlowLayout}
use Rattle.plan_layout.specs.declared.layout.Layout.{Layout}
use Rattle.plan_layout.specs.Laid.{IsLayout}
use Rattle.plan_layout.specs.Sees.{Sees}
use Rattle.plan_growth.specs.Entering.{with_flow}
use Rattle.scatter_plan.specs.declared.begin.Begun.{Begun}
use Rattle.plan_steps.specs.declared.fault.PlanFault.{PlanFault}
use Rattle.plan_steps.specs.declared.fault.PlanFault.TheVariants.{TooMany, NoMemory}
use Rattle.plan_steps.specs.declared.growth.Growth.{Growth}
use Rattle.plan_steps.specs.Askings.{IsAsking}
use Rattle.plan_steps.specs.Doing.{Asks, State, field, state}
use Rattle.scatter_plan.specs.Holding.{IsHolding, paid_of}
use Rattle.plan_steps.specs.Passes.{Passes}
use Rattle.plan_bodies.specs.Plots.{plot}
use Rattle.plan_steps.specs.Stepping.{library_in}

-- The main workflow is there, its inputs fit, and the layout is that of the checked form.
pub record IsMadeOf (c : Checked) (layout : Layout) (main : ℕ) (given : List Bind) : Type 0 where
  pub main_is : c.main ≡ Some main
  pub laid : IsLayout (Sees (library_in c)) (library_in c) layout
  pub fit : (f : FlowDef) → slice_get c.flows main ≡ Some f → inputs_fit c.structs f.inputs given ≡ true

-- the flow of the main workflow over a table
abbrev pub main_flow : Checked → ℕ → List Bind → List ℕ → List Row → Flowing
main_flow c main given site rows = flow (run_with (library_in c) site rows) 25 main given []

-- ---- outputs

-- the outputs by the values of their cells, from the first one on
abbrev pub env_at : List (Option Value) → ℕ → List TDecl → List Bind
env_at values first [] = []
env_at values first (d ∷ ds) = bound_by (plain_key d.name) (value_at values first) ++ env_at values (first + 1) ds

abbrev pub outputs_when : Bool → List (Option Value) → ℕ → List TDecl → Option (List Bind)
outputs_when b values first ds = if b then Some (env_at values first ds) else None

-- Nothing failed, and nothing waits.
abbrev pub is_over : State → Bool
is_over s = is_empty s.asks.ready && is_empty s.field.faults

-- nothing was asked
abbrev pub bare_asks : Asks
bare_asks = record { ready = []; calls = []; jobs = 0 }

-- ---- what holds

module _ (c : Checked) (layout : Layout) (main : ℕ) (given : List Bind) (site : List ℕ) (rows : List Row) where
  -- No step is ready.
  pub record IsSettled (s : State) : Type 0 where
    pub holding : IsHolding c layout main given site rows s
    pub stuck : AllStuck s.field.plot.net

  -- what steps make of what holds: the evaluations are paid for
  pub record Turned (s : State) (was : IsHolding c layout main given site rows s) (after : State) (old new : ℕ) : Type 0 where
    pub settled : IsSettled after
    pub more : List Prepared
    pub ready : after.asks.ready ≡ s.asks.ready ++ more
    pub paid : new + paid_of c layout main given site rows was ≤ old + paid_of c layout main given site rows settled.holding

  abbrev pub Turns : {A : Type 0} (s : State) → IsHolding c layout main given site rows s → State → ℕ → ℕ → Result A PlanFault → Type 0
  Turns s was after old new result = Passes (Turned s was after old new) (too_many (main_flow c main given site rows) ≡ true) result

  -- a plan that began, over these rows
  pub record IsBegunOver (b : Begun) : Type 0 where
    pub sound : IsSound b.growth.entered.net
    pub asking : IsAsking b.asking
    pub settled : IsSettled (state b.growth b.asking)
    pub outputs : b.outputs ≡ outputs_when (is_over (state b.growth b.asking)) (state b.growth b.asking).field.plot.net.values settled.holding.line.first_output settled.holding.flow.outputs

-- a plan whose main workflow was entered
pub record Starts (c : Checked) (layout : Layout) (main : ℕ) (given : List Bind) (site : List ℕ) (s : State) : Type 0 where
  pub holding : IsHolding c layout main given site [] s
  pub paid : paid_of c layout main given site [] holding ≡ 0

abbrev pub Enters : Checked → Layout → ℕ → List Bind → List ℕ → Result Growth PlanFault → Type 0
Enters c layout main given site (Ok g) = IsSound g.entered.net × Starts c layout main given site (record { field = field g; asks = bare_asks })
Enters c layout main given site (Err TooMany) = too_many (main_flow c main given site []) ≡ true
Enters c layout main given site (Err NoMemory) = Unit {0}

-- what was entered is that workflow alone
pub record IsFirstOf (flow : FlowDef) (given : List Bind) (line : FlowLayout) (body : BodyLayout) (g : Growth) : Type 0 where
  pub sound : IsSound g.entered.net
  pub plot_is : plot g.entered ≡ with_flow flow given [] line body (record { net = empty; instances = [] })
  pub faults : g.faults ≡ []
  pub count : g.count ≡ length flow.body
  pub few : length flow.body ≤ 1000000

abbrev pub EntersFirst : FlowDef → List Bind → FlowLayout → BodyLayout → Result Growth PlanFault → Type 0
EntersFirst flow given line body (Ok g) = IsFirstOf flow given line body g
EntersFirst flow given line body (Err TooMany) = 1000000 < length flow.body
EntersFirst flow given line body (Err NoMemory) = Unit {0}

-- a plan that began, and paid for all evaluations
pub record Began (c : Checked) (layout : Layout) (main : ℕ) (given : List Bind) (site : List ℕ) (rows : List Row) (paid old new : ℕ) (b : Begun) : Type 0 where
  pub over : IsBegunOver c layout main given site rows b
  pub within : new + paid ≤ old + paid_of c layout main given site rows over.settled.holding

abbrev pub Begins : Checked → Layout → ℕ → List Bind → List ℕ → ℕ → ℕ → Result Begun PlanFault → Type 0
Begins c layout main given site old new (Ok b) = Began c layout main given site [] 0 old new b
Begins c layout main given site old new (Err TooMany) = too_many (main_flow c main given site []) ≡ true
Begins c layout main given site old new (Err NoMemory) = Unit {0}
