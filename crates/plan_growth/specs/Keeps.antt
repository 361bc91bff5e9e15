-- What each kind of step makes of a plan: it goes on growing.
use Rattle.std.specs.Prelude.{◌≡◌, ◌≤◌, ℕ, ◌+◌, ◌-◌, ◌*◌, true, false, List, [], ◌∷◌, ◌++◌, Some, None, Ok, Err, codes, get_or, length, map, slice_get}
use Rattle.wdl_base.specs.declared.fault.EvalCode.{EvalCode}
use Rattle.wdl_base.specs.declared.place.Segment.{Segment}
use Rattle.wdl_base.specs.declared.place.Segment.TheVariants as segment
use Rattle.wdl_value.specs.declared.env.Bind.{Bind}
use Rattle.wdl_value.specs.declared.value.Value.{Value}
use Rattle.wdl_value.specs.declared.value.Value.TheVariants as kind
use Rattle.wdl_value.specs.Outcome.{Outcome}
use Rattle.wdl_value.specs.Parts.{bool_in, items_in}
use Rattle.wdl_value.specs.Tables.{Row, answer_at}
use Rattle.wdl_typed.specs.declared.expr.TExpr.{TExpr}
use Rattle.wdl_typed.specs.declared.flow.FlowDef.{FlowDef}
use Rattle.wdl_typed.specs.declared.flow.Statement.{Statement}
use Rattle.wdl_typed.specs.declared.flow.Statement.TheVariants as stmt
use Rattle.wdl_typed.specs.declared.flow.TCall.{TCall}
use Rattle.wdl_typed.specs.declared.flow.TIf.{TIf}
use Rattle.wdl_typed.specs.declared.flow.TScatter.{TScatter}
use Rattle.wdl_typed.specs.declared.flow.Target.TheVariants as target
use Rattle.wdl_typed.specs.declared.task.TDecl.{TDecl}
use Rattle.wdl_typed.specs.declared.task.TInput.{TInput}
use Rattle.wdl_typed.specs.declared.task.TaskDef.{TaskDef}
use Rattle.wdl_typed.specs.Bodies.{Library}
use Rattle.wdl_typed.specs.Evaluation.{value_of}
use Rattle.wdl_typed.specs.Flow.{all_values, args_met, env_of, failing_at, fault_at}
use Rattle.wdl_typed.specs.Requests.{Asked, Failing, asks, before, request}
use Rattle.step_net.specs.Views.{Wants}
use Rattle.value_net.specs.Nets.{value_at, with_value}
use Rattle.net_laws.specs.Cost.{TaskCost, called_cost, met_cost}
use Rattle.net_laws.specs.Growing.{Form}
use Rattle.net_laws.specs.Moving.{IsWeight}
use Rattle.net_laws.specs.Net.{Work, known_in, no_work}
use Rattle.net_laws.specs.Planned.{counted}
use Rattle.net_laws.specs.Works.{faulty}
use Rattle.plan_layout.specs.declared.layout.BodyLayout.{BodyLayout}
use Rattle.plan_layout.specs.declared.layout.FlowLayout.{FlowLayout}
use Rattle.plan_layout.specs.declared.layout.Layout.{Layout}
use Rattle.plan_layout.specs.declared.layout.Need.{Need}
use Rattle.plan_layout.specs.declared.layout.StatementLayout.{StatementLayout}
use Rattle.plan_layout.specs.Cells.{slots_at}
use Rattle.plan_layout.specs.Paths.{body_at}
use Rattle.plan_layout.specs.Sees.{FlowSees}
use Rattle.plan_growth.specs.declared.instance.Instance.{Instance}
use Rattle.plan_growth.specs.declared.rule.Rule.TheVariants as rule
use Rattle.plan_growth.specs.Blocks.{with_call, with_condition, with_nothing, with_scatter}
use Rattle.plan_growth.specs.Entering.{Plot, Sown}
use Rattle.plan_growth.specs.Growth.{IsGrowing, AskedCall}
use Rattle.plan_growth.specs.Meaning.{IsInstance}

-- what an expression comes to over the names that a step needs
abbrev pub own_binds : Sown → List ℕ → List Need → List Bind
own_binds net bases needs = env_of (map (known_in (value_at net.values)) (slots_at bases needs))

abbrev pub own_outcome : Sown → List ℕ → List Need → TExpr → Outcome Value
own_outcome net bases needs e = value_of (before (own_binds net bases needs)) e

-- where the own cells of an instance begin
abbrev pub last_base : List ℕ → ℕ
last_base bases = get_or bases (length bases - 1) 0

-- the net and the work of a declaration
abbrev pub net_told : Sown → ℕ → Outcome Value → Sown
net_told net cell (Ok x) = with_value net cell x
net_told net cell (Err c) = net

abbrev pub work_told : List Segment → List ℕ → Outcome Value → Work
work_told place name (Ok x) = no_work
work_told place name (Err c) = faulty (fault_at place name c)

-- the work of a call whose first attempt waits
abbrev pub asked_first : List ℕ → List Segment → Asked → Work
asked_first site place a = record { jobs = request site place 0 a ∷ []; codes = a.codes ∷ []; faults = []; waits = place ∷ []; count = 0 }

-- a statement of an instance, with its line of the layout
pub record IsAt (lib : Library) (layout : Layout) (is : List Instance) (i k : ℕ) (q : Instance) (body : BodyLayout) (flow : FlowDef) (l : StatementLayout) (x : Statement) : Type 0 where
  pub of_instance : IsInstance lib layout is i q body flow
  pub line : slice_get body.statements k ≡ Some l
  pub statement : slice_get (body_at flow.body body.path) k ≡ Some x

-- an input with a default, and an output, of an instance
pub record IsInputAt (lib : Library) (layout : Layout) (is : List Instance) (i k : ℕ) (q : Instance) (body : BodyLayout) (flow : FlowDef) (fl : FlowLayout) (x : TInput) (e : TExpr) (needs : List Need) : Type 0 where
  pub of_instance : IsInstance lib layout is i q body flow
  pub layout_there : slice_get layout.flows body.flow ≡ Some fl
  pub input : slice_get flow.inputs k ≡ Some x
  pub default_is : x.value ≡ Some e
  pub needs_there : slice_get fl.inputs k ≡ Some needs

pub record IsOutputAt (lib : Library) (layout : Layout) (is : List Instance) (i k : ℕ) (q : Instance) (body : BodyLayout) (flow : FlowDef) (fl : FlowLayout) (x : TDecl) (needs : List Need) : Type 0 where
  pub of_instance : IsInstance lib layout is i q body flow
  pub layout_there : slice_get layout.flows body.flow ≡ Some fl
  pub output : slice_get flow.outputs k ≡ Some x
  pub needs_there : slice_get fl.outputs k ≡ Some needs

module _ (lib : Library) (layout : Layout) (site : List ℕ) (rows : List Row) (depth : ℕ) (form : Form) (v : Sown) (is : List Instance) (listed : Work) (asked : List AskedCall) (paid : TaskCost → ℕ) (t : ℕ) (w : Sown)
    (step : Wants) where
  -- The plan goes on growing at this net, with so much work more, and that many expressions more at most.
  abbrev pub GoesOn : Sown → List Instance → List AskedCall → Work → (TaskCost → ℕ) → Type 0
  GoesOn net js now_asked added cost =
      (later : Work) → ((weight : Work → ℕ) → IsWeight weight → weight later ≡ weight listed + weight added) → (later_paid : TaskCost → ℕ) → ((task : TaskCost) → later_paid task ≤ paid task + cost task)
      → IsGrowing lib layout site rows depth form net js later now_asked later_paid

  abbrev pub one_more : TaskCost → ℕ
  one_more task = 1

  abbrev pub no_more : TaskCost → ℕ
  no_more task = 0

  abbrev pub entered : Plot
  entered = record { net = w; instances = is }

  abbrev pub PlotGoesOn : Plot → Work → (TaskCost → ℕ) → Type 0
  PlotGoesOn p added cost = GoesOn p.net p.instances asked added cost

  -- what each joint makes of its cell
  pub record JointsGoOn : Type 0 where
    pub gathers : (c : ℕ) → slice_get v.rules t ≡ Some (rule.Gathers c) → (xs : List Value) → all_values (map (value_at v.values) step.needs) ≡ Some xs → GoesOn (with_value w c (kind.List xs)) is asked no_work no_more
    pub ends : (c : ℕ) → slice_get v.rules t ≡ Some (rule.Ends c) → GoesOn (with_value w c kind.Absent) is asked no_work no_more
    pub copies_one : (c : ℕ) → slice_get v.rules t ≡ Some (rule.Copies c) → (from : ℕ) × (step.needs ≡ from ∷ [])
    pub copies : (c : ℕ) → slice_get v.rules t ≡ Some (rule.Copies c) → (from : ℕ) → step.needs ≡ from ∷ [] → (x : Value) → value_at v.values from ≡ Some x → GoesOn (with_value w c x) is asked no_work no_more

  -- what declarations, defaults of inputs and outputs make of theirs
  pub record DeclarationsGoOn : Type 0 where
    pub declaration : (i k : ℕ) → slice_get v.rules t ≡ Some (rule.Statement i k) → (q : Instance) (body : BodyLayout) (flow : FlowDef) (l : StatementLayout) (x : TDecl) → IsAt lib layout is i k q body flow l (stmt.Decl x)
        → (o : Outcome Value) → own_outcome v q.bases l.needs x.value ≡ o → GoesOn (net_told w (last_base q.bases + l.first_name) o) is asked (work_told q.place x.name o) one_more
    pub input : (i k : ℕ) → slice_get v.rules t ≡ Some (rule.Input i k) → (q : Instance) (body : BodyLayout) (flow : FlowDef) (fl : FlowLayout) (x : TInput) (e : TExpr) (needs : List Need)
        → IsInputAt lib layout is i k q body flow fl x e needs → (o : Outcome Value) → own_outcome v q.bases needs e ≡ o → GoesOn (net_told w (last_base q.bases + k) o) is asked (work_told q.place x.name o) one_more
    pub output : (i k : ℕ) → slice_get v.rules t ≡ Some (rule.Output i k) → (q : Instance) (body : BodyLayout) (flow : FlowDef) (fl : FlowLayout) (x : TDecl) (needs : List Need)
        → IsOutputAt lib layout is i k q body flow fl x needs → (o : Outcome Value) → own_outcome v q.bases needs x.value ≡ o
        → GoesOn (net_told w (last_base q.bases + (fl.first_output + k)) o) is asked (work_told q.place x.name o) one_more

  -- what scatters and conditions make of the net and the instances
  pub record BlocksGoOn (i k : ℕ) (code : slice_get v.rules t ≡ Some (rule.Statement i k)) (q : Instance) (body : BodyLayout) (flow : FlowDef) (l : StatementLayout) : Type 0 where
    pub scatter : (x : TScatter Statement) → IsAt lib layout is i k q body flow l (stmt.Scatter x) → (inner : BodyLayout) → slice_get layout.bodies l.inner ≡ Some inner → (y : Value)
        → own_outcome v q.bases l.needs x.over ≡ Ok y
        → PlotGoesOn (with_scatter q.bases (q.place ++ segment.Scatter x.number ∷ []) inner l (last_base q.bases) (items_in y) entered) (counted (length (items_in y) * length inner.statements) no_work) one_more
    pub scatter_fails : (x : TScatter Statement) → IsAt lib layout is i k q body flow l (stmt.Scatter x) → (c : EvalCode) → own_outcome v q.bases l.needs x.over ≡ Err c
        → GoesOn w is asked (faulty (fault_at (q.place ++ segment.Scatter x.number ∷ []) x.item c)) one_more
    pub condition : (x : TIf Statement) → IsAt lib layout is i k q body flow l (stmt.If x) → (inner : BodyLayout) → slice_get layout.bodies l.inner ≡ Some inner → (y : Value) → own_outcome v q.bases l.needs x.cond ≡ Ok y
        → bool_in y ≡ true → PlotGoesOn (with_condition q.bases (q.place ++ segment.If x.number ∷ []) inner l (last_base q.bases) entered) (counted (length inner.statements) no_work) one_more
    pub condition_off : (x : TIf Statement) → IsAt lib layout is i k q body flow l (stmt.If x) → (y : Value) → own_outcome v q.bases l.needs x.cond ≡ Ok y → bool_in y ≡ false
        → GoesOn (with_nothing l (last_base q.bases) w) is asked no_work one_more
    pub condition_fails : (x : TIf Statement) → IsAt lib layout is i k q body flow l (stmt.If x) → (c : EvalCode) → own_outcome v q.bases l.needs x.cond ≡ Err c
        → GoesOn w is asked (faulty (fault_at (q.place ++ segment.If x.number ∷ []) (codes "if") c)) one_more

  -- what a call costs: its arguments, and what its task evaluates
  abbrev pub call_cost : Instance → StatementLayout → TCall → TaskCost → ℕ
  call_cost q l x task = length x.args + met_cost (called_cost lib task (λ c given p. 0) (q.place ++ segment.Call x.name ∷ []) x.target) (args_met (own_binds v q.bases l.needs) x.args)

  -- what calls make of the net, the instances and the steps that were asked
  pub record CallsGoOn (i k : ℕ) (code : slice_get v.rules t ≡ Some (rule.Statement i k)) (q : Instance) (body : BodyLayout) (flow : FlowDef) (l : StatementLayout) (x : TCall) (at : IsAt lib layout is i k q body flow l (stmt.Call x)) : Type 0 where
    pub arguments_fail : (e : Failing) → args_met (own_binds v q.bases l.needs) x.args ≡ Err e → GoesOn w is asked (faulty (failing_at (q.place ++ segment.Call x.name ∷ []) e)) (call_cost q l x)
    pub task_fails : (c : ℕ) → x.target ≡ target.Task c → (y : TaskDef) → slice_get lib.tasks c ≡ Some y → (args : List Bind) → args_met (own_binds v q.bases l.needs) x.args ≡ Ok args → (e : Failing) → asks y args ≡ Err e
        → GoesOn w is asked (faulty (failing_at (q.place ++ segment.Call x.name ∷ []) e)) (call_cost q l x)
    pub task : (c : ℕ) → x.target ≡ target.Task c → (y : TaskDef) → slice_get lib.tasks c ≡ Some y → (args : List Bind) → args_met (own_binds v q.bases l.needs) x.args ≡ Ok args → (a : Asked) → asks y args ≡ Ok a
        → answer_at rows (q.place ++ segment.Call x.name ∷ []) 0 ≡ None → GoesOn w is (asked ++ record { step = t; place = q.place ++ segment.Call x.name ∷ []; task = y; args = args } ∷ []) (asked_first site (q.place ++ segment.Call x.name ∷ []) a) (call_cost q l x)
    pub workflow : (c : ℕ) → x.target ≡ target.Flow c → (f : FlowDef) → slice_get lib.flows c ≡ Some f → (fl : FlowLayout) → slice_get layout.flows c ≡ Some fl → (own : BodyLayout) → slice_get layout.bodies fl.body ≡ Some own
        → FlowSees lib f → (args : List Bind) → args_met (own_binds v q.bases l.needs) x.args ≡ Ok args
        → PlotGoesOn (with_call f args (q.place ++ segment.Call x.name ∷ []) fl own l (last_base q.bases) entered) (counted (length f.body) no_work) (λ task. length x.args)
