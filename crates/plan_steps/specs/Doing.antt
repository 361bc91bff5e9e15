-- What the step of a statement makes of what has grown.
use Rattle.std.specs.Prelude.{◌≡◌, ℕ, ◌+◌, ◌*◌, ◌<◌, ◌≤◌, Bool, true, false, List, [], ◌∷◌, ◌++◌, Option, Some, None, Ok, Err, length, slice_get, codes}
use Rattle.wdl_base.specs.declared.fault.Fault.{Fault}
use Rattle.wdl_base.specs.declared.place.Segment.{Segment}
use Rattle.wdl_base.specs.declared.place.Segment.TheVariants as segment
use Rattle.wdl_value.specs.declared.env.Bind.{Bind}
use Rattle.wdl_value.specs.declared.value.Value.{Value}
use Rattle.wdl_value.specs.Outcome.{Outcome}
use Rattle.wdl_value.specs.Parts.{bool_in, items_in}
use Rattle.wdl_typed.specs.declared.checked.Checked.{Checked}
use Rattle.wdl_typed.specs.declared.flow.FlowDef.{FlowDef}
use Rattle.wdl_typed.specs.declared.flow.Statement.{Statement, Statement-F, out-Statement}
use Rattle.wdl_typed.specs.declared.flow.Statement.TheOpen as layer
use Rattle.wdl_typed.specs.declared.flow.Target.{Target}
use Rattle.wdl_typed.specs.declared.flow.Target.TheVariants as target
use Rattle.wdl_typed.specs.declared.task.TaskDef.{TaskDef}
use Rattle.wdl_typed.specs.Flow.{args_met, failing_at, fault_at}
use Rattle.wdl_typed.specs.Requests.{Asked, Tried, asks as asks_of, request}
use Rattle.wdl_task.specs.declared.request.Prepared.{Prepared}
use Rattle.wdl_eval.specs.Ready.{IsReady}
use Rattle.wdl_task.specs.Counts.{prepare_count}
use Rattle.wdl_task.specs.Readiness.{Kept}
use Rattle.wdl_task.specs.Views.{asked_of}
use Rattle.flow_soundness.specs.Readiness.{AreArgsReady}
use Rattle.plan_layout.specs.declared.layout.BodyLayout.{BodyLayout}
use Rattle.plan_layout.specs.declared.layout.FlowLayout.{FlowLayout}
use Rattle.plan_layout.specs.declared.layout.Layout.{Layout}
use Rattle.plan_layout.specs.declared.layout.StatementLayout.{StatementLayout}
use Rattle.plan_growth.specs.declared.instance.Instance.{Instance}
use Rattle.plan_growth.specs.Blocks.{with_call, with_condition, with_nothing, with_scatter}
use Rattle.plan_growth.specs.Entering.{Plot, with_net}
use Rattle.plan_steps.specs.declared.growth.Growth.{Growth}
use Rattle.plan_steps.specs.declared.asking.Asking.{Asking}
use Rattle.plan_steps.specs.Askings.{Call, IsNew, calls, new_call}
use Rattle.plan_bodies.specs.Bases.{last_base}
use Rattle.plan_bodies.specs.Plots.{plot}
use Rattle.plan_room.specs.Reached.{AreReached, HasRoom}
use Rattle.plan_room.specs.Room.{HasFlowRoom, HasInner, HasRuns}
use Rattle.plan_steps.specs.Values.{own_env, own_value, told_faults, told_net}

-- what was entered, the faults, and how many instances of statements there are
pub record Field : Type 0 where
  pub plot : Plot
  pub faults : List Fault
  pub count : ℕ

abbrev pub field : Growth → Field
field g = record { plot = plot g.entered; faults = g.faults; count = g.count }

abbrev pub with_fault : Field → Fault → Field
with_fault f x = record { plot = f.plot; faults = f.faults ++ x ∷ []; count = f.count }

abbrev pub bases_in : Option Instance → List ℕ
bases_in None = []
bases_in (Some i) = i.bases

abbrev pub place_in : Option Instance → List Segment
place_in None = []
place_in (Some i) = i.place

-- ---- declarations

abbrev pub declared : Field → ℕ → List Segment → List ℕ → Outcome Value → Field
declared f cell place name o = record { plot = with_net f.plot (told_net f.plot.net cell o); faults = told_faults f.faults place name o; count = f.count }

-- ---- blocks

abbrev pub scattered : List ℕ → List Segment → BodyLayout → StatementLayout → List ℕ → Field → Outcome Value → Field
scattered bases place inner l item f (Err c) = with_fault f (fault_at place item c)
scattered bases place inner l item f (Ok x) =
    record { plot = with_scatter bases place inner l (last_base bases) (items_in x) f.plot; faults = f.faults; count = f.count + length (items_in x) * length inner.statements }

-- There are too many instances of statements.
abbrev pub IsPastScatter : BodyLayout → Field → Outcome Value → Type 0
IsPastScatter inner f (Err c) = ⊥
IsPastScatter inner f (Ok x) = 1000000 < f.count + length (items_in x) * length inner.statements

abbrev pub chosen : List ℕ → List Segment → BodyLayout → StatementLayout → Field → Bool → Field
chosen bases place inner l f true = record { plot = with_condition bases place inner l (last_base bases) f.plot; faults = f.faults; count = f.count + length inner.statements }
chosen bases place inner l f false = record { plot = with_net f.plot (with_nothing l (last_base bases) f.plot.net); faults = f.faults; count = f.count }

abbrev pub conditioned : List ℕ → List Segment → BodyLayout → StatementLayout → Field → Outcome Value → Field
conditioned bases place inner l f (Err c) = with_fault f (fault_at place (codes "if") c)
conditioned bases place inner l f (Ok x) = chosen bases place inner l f (bool_in x)

abbrev pub IsPastChoice : BodyLayout → Field → Bool → Type 0
IsPastChoice inner f true = 1000000 < f.count + length inner.statements
IsPastChoice inner f false = ⊥

abbrev pub IsPastCondition : BodyLayout → Field → Outcome Value → Type 0
IsPastCondition inner f (Err c) = ⊥
IsPastCondition inner f (Ok x) = IsPastChoice inner f (bool_in x)

-- ---- calls

abbrev pub flow_called : FlowDef → List Bind → List ℕ → List Segment → FlowLayout → BodyLayout → StatementLayout → Field → Field
flow_called flow args bases place layout body l f =
    record { plot = with_call flow args place layout body l (last_base bases) f.plot; faults = f.faults; count = f.count + length flow.body }

-- the attempts that wait, the calls that were asked, and how many attempts there were
pub record Asks : Type 0 where
  pub ready : List Prepared
  pub calls : List Call
  pub jobs : ℕ

-- A call of a task is asked, or has a fault.
abbrev pub TaskCalled : List ℕ → List Segment → ℕ → List Fault → Asks → List Fault → Asks → Tried Asked → Type 0
TaskCalled site place step faults asks after more (Err e) = (after ≡ faults ++ failing_at place e ∷ []) × (more ≡ asks)
TaskCalled site place step faults asks after more (Ok a) =
    (after ≡ faults) × ((p : Prepared) × (asked_of p ≡ a) × (p.request ≡ request site place 0 a)
    × (more ≡ record { ready = asks.ready ++ p ∷ []; calls = asks.calls ++ new_call place step ∷ []; jobs = asks.jobs + 1 }))

-- what grows, and the calls that were asked
pub record State : Type 0 where
  pub field : Field
  pub asks : Asks

abbrev pub asks : Asking → Asks
asks q = record { ready = q.ready.items; calls = calls q; jobs = q.jobs }

abbrev pub state : Growth → Asking → State
state g q = record { field = field g; asks = asks q }

-- ---- steps, by what they do

module _ (checked : Checked) (layout : Layout) (site : List ℕ) (bases : List ℕ) (place : List Segment) (step : ℕ) (line : StatementLayout) where
  abbrev pub Called : List Bind → List Segment → State → State → Target → Type 0
  Called args at old new (target.Task k) =
      (t : TaskDef) × (slice_get checked.tasks k ≡ Some t) × (new.field.plot ≡ old.field.plot) × (new.field.count ≡ old.field.count)
      × TaskCalled site at step old.field.faults old.asks new.field.faults new.asks (asks_of t args)
  Called args at old new (target.Flow k) =
      (w : FlowDef) × (slice_get checked.flows k ≡ Some w) × (l : FlowLayout) × (slice_get layout.flows k ≡ Some l) × (b : BodyLayout) × (slice_get layout.bodies l.body ≡ Some b)
      × (new.field ≡ flow_called w args bases at l b line old.field) × (new.asks ≡ old.asks)

  abbrev pub CalledWith : Target → List Segment → State → State → Tried (List Bind) → Type 0
  CalledWith t at old new (Err e) = (new.field ≡ with_fault old.field (failing_at at e)) × (new.asks ≡ old.asks)
  CalledWith t at old new (Ok args) = Called args at old new t

  -- what a statement that was done made of the state
  abbrev pub StatementDone : State → State → Statement-F Statement → Type 0
  StatementDone old new (layer.Decl x) =
      (new.field ≡ declared old.field (last_base bases + line.first_name) place x.name (own_value old.field.plot.net bases line.needs x.value)) × (new.asks ≡ old.asks)
  StatementDone old new (layer.Call x) = CalledWith x.target (place ++ segment.Call x.name ∷ []) old new (args_met (own_env old.field.plot.net bases line.needs) x.args)
  StatementDone old new (layer.Scatter b) =
      (inner : BodyLayout) × (slice_get layout.bodies line.inner ≡ Some inner)
      × (new.field ≡ scattered bases (place ++ segment.Scatter b.number ∷ []) inner line b.item old.field (own_value old.field.plot.net bases line.needs b.over)) × (new.asks ≡ old.asks)
  StatementDone old new (layer.If b) =
      (inner : BodyLayout) × (slice_get layout.bodies line.inner ≡ Some inner)
      × (new.field ≡ conditioned bases (place ++ segment.If b.number ∷ []) inner line old.field (own_value old.field.plot.net bases line.needs b.cond)) × (new.asks ≡ old.asks)

  -- There are too many jobs, or too many instances of statements.
  abbrev pub IsPastCall : List Bind → State → Target → Type 0
  IsPastCall args old (target.Task k) = (t : TaskDef) × (slice_get checked.tasks k ≡ Some t) × (a : Asked) × (asks_of t args ≡ Ok a) × (20000 ≤ old.asks.jobs)
  IsPastCall args old (target.Flow k) = (w : FlowDef) × (slice_get checked.flows k ≡ Some w) × (1000000 < old.field.count + length w.body)

  abbrev pub IsPastWith : Target → State → Tried (List Bind) → Type 0
  IsPastWith t old (Err e) = ⊥
  IsPastWith t old (Ok args) = IsPastCall args old t

  abbrev pub IsPastStatement : State → Statement-F Statement → Type 0
  IsPastStatement old (layer.Decl x) = ⊥
  IsPastStatement old (layer.Call x) = IsPastWith x.target old (args_met (own_env old.field.plot.net bases line.needs) x.args)
  IsPastStatement old (layer.Scatter b) =
      (inner : BodyLayout) × (slice_get layout.bodies line.inner ≡ Some inner) × IsPastScatter inner old.field (own_value old.field.plot.net bases line.needs b.over)
  IsPastStatement old (layer.If b) =
      (inner : BodyLayout) × (slice_get layout.bodies line.inner ≡ Some inner) × IsPastCondition inner old.field (own_value old.field.plot.net bases line.needs b.cond)

  -- ---- what it evaluates at most

  abbrev pub asked_count : Option TaskDef → List Bind → ℕ
  asked_count None args = 0
  asked_count (Some t) args = prepare_count t args

  abbrev pub call_count : Target → Tried (List Bind) → ℕ
  call_count t (Err e) = 0
  call_count (target.Task k) (Ok args) = asked_count (slice_get checked.tasks k) args
  call_count (target.Flow k) (Ok args) = 0

  abbrev pub statement_count : State → Statement-F Statement → ℕ
  statement_count old (layer.Decl x) = 1
  statement_count old (layer.Call x) = length x.args + call_count x.target (args_met (own_env old.field.plot.net bases line.needs) x.args)
  statement_count old (layer.Scatter b) = 1
  statement_count old (layer.If b) = 1

  -- ---- what it asks for

  abbrev pub CanCall : State → List Bind → List Segment → Target → Type 0
  CanCall old args at (target.Task k) = (t : TaskDef) × (slice_get checked.tasks k ≡ Some t) × Kept t args × IsNew old.asks.calls at
  CanCall old args at (target.Flow k) =
      (w : FlowDef) × (slice_get checked.flows k ≡ Some w) × (l : FlowLayout) × (slice_get layout.flows k ≡ Some l) × (b : BodyLayout) × (slice_get layout.bodies l.body ≡ Some b)
      × HasFlowRoom (length old.field.plot.net.values) w l b × (line.names ≤ length w.outputs)

  abbrev pub CanStatement : State → Statement-F Statement → Type 0
  CanStatement old (layer.Decl x) = (last_base bases + line.first_name < length old.field.plot.net.values) × IsReady x.value (own_env old.field.plot.net bases line.needs)
  CanStatement old (layer.Call x) =
      AreArgsReady (own_env old.field.plot.net bases line.needs) x.args
      × ((args : List Bind) → args_met (own_env old.field.plot.net bases line.needs) x.args ≡ Ok args → CanCall old args (place ++ segment.Call x.name ∷ []) x.target)
  CanStatement old (layer.Scatter b) =
      (inner : BodyLayout) × (slice_get layout.bodies line.inner ≡ Some inner) × (0 < inner.cells) × HasRoom (length old.field.plot.net.values) bases inner × HasInner line inner × IsReady b.over (own_env old.field.plot.net bases line.needs)
  CanStatement old (layer.If b) =
      (inner : BodyLayout) × (slice_get layout.bodies line.inner ≡ Some inner) × HasRoom (length old.field.plot.net.values) bases inner × HasInner line inner × IsReady b.cond (own_env old.field.plot.net bases line.needs)

-- the step of a statement may be done where it stands
pub record CanStand (checked : Checked) (layout : Layout) (bases : List ℕ) (place : List Segment) (line : StatementLayout) (old : State) (statement : Statement) : Type 0 where
  pub some : 0 < length bases
  pub reached : AreReached (length old.field.plot.net.values) bases line.needs
  pub runs : HasRuns (length old.field.plot.net.values) (last_base bases) line
  pub can : CanStatement checked layout [] bases place 0 line old (out-Statement statement)
