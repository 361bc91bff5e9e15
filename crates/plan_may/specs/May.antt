-- What holds of a step of a plan that is ready: what it does is laid out, its cells are there, and what it evaluates may be evaluated.
use Rattle.std.specs.Prelude.{◌≡◌, ◌<◌, ◌≤◌, ◌-◌, ◌+◌, ℕ, true, false, List, [], ◌∷◌, ◌++◌, Contains, Option, Some, None, Ok, get_or, length, map, slice_get}
use Rattle.wdl_base.specs.declared.place.Segment.{Segment}
use Rattle.wdl_base.specs.declared.place.Segment.TheVariants as segment
use Rattle.wdl_base.specs.Same.{same_place}
use Rattle.wdl_value.specs.declared.env.Bind.{Bind}
use Rattle.wdl_value.specs.declared.value.Value.{Value}
use Rattle.wdl_value.specs.Tables.{Row, answer_at}
use Rattle.wdl_typed.specs.declared.expr.TExpr.{TExpr}
use Rattle.wdl_typed.specs.declared.flow.FlowDef.{FlowDef}
use Rattle.wdl_typed.specs.declared.flow.Statement.{Statement, Statement-F, out-Statement}
use Rattle.wdl_typed.specs.declared.flow.Statement.TheOpen as layer
use Rattle.wdl_typed.specs.declared.flow.TCall.{TCall}
use Rattle.wdl_typed.specs.declared.flow.Target.{Target}
use Rattle.wdl_typed.specs.declared.flow.Target.TheVariants as target
use Rattle.wdl_typed.specs.declared.task.TDecl.{TDecl}
use Rattle.wdl_typed.specs.declared.task.TInput.{TInput}
use Rattle.wdl_typed.specs.declared.task.TaskDef.{TaskDef}
use Rattle.wdl_typed.specs.Bodies.{Library}
use Rattle.wdl_typed.specs.Flow.{args_met, env_of}
use Rattle.wdl_eval.specs.Ready.{IsReady}
use Rattle.wdl_task.specs.Readiness.{Kept, are_given}
use Rattle.flow_soundness.specs.Readiness.{AreArgsReady}
use Rattle.step_net.specs.Views.{Wants}
use Rattle.value_net.specs.Nets.{are_set, value_at}
use Rattle.net_laws.specs.Cost.{TaskCost}
use Rattle.net_laws.specs.Growing as net
use Rattle.net_laws.specs.Growing.{Form, all, each, one, takes, tells, whole}
use Rattle.net_laws.specs.Net.{Work, known_in}
use Rattle.plan_lists.specs.Lists.{JobTest, jobs_in}
use Rattle.plan_layout.specs.declared.layout.BodyLayout.{BodyLayout}
use Rattle.plan_layout.specs.declared.layout.FlowLayout.{FlowLayout}
use Rattle.plan_layout.specs.declared.layout.Layout.{Layout}
use Rattle.plan_layout.specs.declared.layout.Need.{Need}
use Rattle.plan_layout.specs.declared.layout.StatementLayout.{StatementLayout}
use Rattle.plan_layout.specs.Cells.{slots_at}
use Rattle.plan_layout.specs.Paths.{body_at}
use Rattle.plan_room.specs.Reached.{AreReached, HasRoom}
use Rattle.plan_room.specs.Room.{HasFlowRoom, HasInner, HasRuns}
use Rattle.plan_growth.specs.declared.instance.Instance.{Instance}
use Rattle.plan_growth.specs.declared.rule.Rule.{Rule}
use Rattle.plan_growth.specs.declared.rule.Rule.TheVariants as rule
use Rattle.plan_growth.specs.Entering.{Sown}
use Rattle.plan_growth.specs.Growth.{AskedCall, IsGrowing}
use Rattle.plan_growth.specs.Meaning.{IsInstance}

-- the first cell of the innermost instance
abbrev pub last_base : List ℕ → ℕ
last_base bases = get_or bases (length bases - 1) 0

-- the names that a step needs, with their values
abbrev pub own_env : List (Option Value) → List ℕ → List Need → List Bind
own_env values bases needs = env_of (map (known_in (value_at values)) (slots_at bases needs))

-- The step may evaluate that expression, and has a cell for its value.
pub record MayTell (values : List (Option Value)) (bases : List ℕ) (needs : List Need) (e : TExpr) (slot : ℕ) : Type 0 where
  pub some : 0 < length bases
  pub within : last_base bases + slot < length values
  pub reached : AreReached (length values) bases needs
  pub ready : IsReady e (own_env values bases needs)

pub record MayScatter (layout : Layout) (values : List (Option Value)) (bases : List ℕ) (l : StatementLayout) (over : TExpr) : Type 0 where
  pub inner : BodyLayout
  pub there : slice_get layout.bodies l.inner ≡ Some inner
  pub some : 0 < inner.cells
  pub room : HasRoom (length values) bases inner
  pub within : HasInner l inner
  pub ready : IsReady over (own_env values bases l.needs)

pub record MayChoose (layout : Layout) (values : List (Option Value)) (bases : List ℕ) (l : StatementLayout) (cond : TExpr) : Type 0 where
  pub inner : BodyLayout
  pub there : slice_get layout.bodies l.inner ≡ Some inner
  pub room : HasRoom (length values) bases inner
  pub within : HasInner l inner
  pub ready : IsReady cond (own_env values bases l.needs)

-- The task may be called with these arguments.
pub record MayAsk (lib : Library) (l : StatementLayout) (k : ℕ) (args : List Bind) : Type 0 where
  pub task : TaskDef
  pub there : slice_get lib.tasks k ≡ Some task
  pub kept : Kept task args
  pub names : l.names ≡ length task.outputs

-- The workflow may be entered.
pub record MayEnter (lib : Library) (layout : Layout) (values : List (Option Value)) (l : StatementLayout) (k : ℕ) : Type 0 where
  pub flow : FlowDef
  pub there : slice_get lib.flows k ≡ Some flow
  pub laid : FlowLayout
  pub laid_there : slice_get layout.flows k ≡ Some laid
  pub body : BodyLayout
  pub body_there : slice_get layout.bodies laid.body ≡ Some body
  pub room : HasFlowRoom (length values) flow laid body
  pub names : l.names ≤ length flow.outputs

-- a job at that place
abbrev pub at_place : List Segment → JobTest
at_place place r c = same_place r.place place

module _ (lib : Library) (layout : Layout) (values : List (Option Value)) (rules : List net.Rule) (listed : Work) (asked : List AskedCall) where
  abbrev pub MayRun : StatementLayout → Target → List Bind → Type 0
  MayRun l (target.Task k) args = MayAsk lib l k args
  MayRun l (target.Flow k) args = MayEnter lib layout values l k

  -- No call that was asked has that place.
  abbrev pub IsApart : List Segment → Type 0
  IsApart place = (j : ℕ) (c : AskedCall) → slice_get asked j ≡ Some c → c.place ≡ place → ⊥

  pub record MayCall (instance : Instance) (l : StatementLayout) (x : TCall) : Type 0 where
    pub args : AreArgsReady (own_env values instance.bases l.needs) x.args
    pub run : (given : List Bind) → args_met (own_env values instance.bases l.needs) x.args ≡ Ok given → MayRun l x.target given
    pub apart : IsApart (instance.place ++ segment.Call x.name ∷ [])
    pub new : jobs_in listed (at_place (instance.place ++ segment.Call x.name ∷ [])) ≡ 0

  -- what the step of a statement asks for, by what it is
  abbrev pub MayLayer : Instance → StatementLayout → Statement-F Statement → Type 0
  MayLayer i l (layer.Decl x) = (last_base i.bases + l.first_name < length values) × IsReady x.value (own_env values i.bases l.needs)
  MayLayer i l (layer.Call x) = MayCall i l x
  MayLayer i l (layer.Scatter x) = MayScatter layout values i.bases l x.over
  MayLayer i l (layer.If x) = MayChoose layout values i.bases l x.cond

  module _ (is : List Instance) where
    pub record MayStatement (i k : ℕ) : Type 0 where
      pub instance : Instance
      pub body : BodyLayout
      pub flow : FlowDef
      pub of_instance : IsInstance lib layout is i instance body flow
      pub line : StatementLayout
      pub line_there : slice_get body.statements k ≡ Some line
      pub statement : Statement
      pub statement_there : slice_get (body_at flow.body body.path) k ≡ Some statement
      pub some : 0 < length instance.bases
      pub reached : AreReached (length values) instance.bases line.needs
      pub runs : HasRuns (length values) (last_base instance.bases) line
      pub can : MayLayer instance line (out-Statement statement)

    pub record MayInput (i k : ℕ) : Type 0 where
      pub instance : Instance
      pub body : BodyLayout
      pub flow : FlowDef
      pub of_instance : IsInstance lib layout is i instance body flow
      pub flow_layout : FlowLayout
      pub layout_there : slice_get layout.flows body.flow ≡ Some flow_layout
      pub input : TInput
      pub input_there : slice_get flow.inputs k ≡ Some input
      pub value : TExpr
      pub default_is : input.value ≡ Some value
      pub needs : List Need
      pub needs_there : slice_get flow_layout.inputs k ≡ Some needs
      pub may : MayTell values instance.bases needs value k

    pub record MayOutput (i k : ℕ) : Type 0 where
      pub instance : Instance
      pub body : BodyLayout
      pub flow : FlowDef
      pub of_instance : IsInstance lib layout is i instance body flow
      pub flow_layout : FlowLayout
      pub layout_there : slice_get layout.flows body.flow ≡ Some flow_layout
      pub output : TDecl
      pub output_there : slice_get flow.outputs k ≡ Some output
      pub needs : List Need
      pub needs_there : slice_get flow_layout.outputs k ≡ Some needs
      pub may : MayTell values instance.bases needs output.value (flow_layout.first_output + k)

    abbrev pub MayDo : Rule → List ℕ → Type 0
    MayDo (rule.Statement i k) needs = MayStatement i k
    MayDo (rule.Input i k) needs = MayInput i k
    MayDo (rule.Output i k) needs = MayOutput i k
    MayDo (rule.Gathers c) needs = c < length values
    MayDo (rule.Ends c) needs = c < length values
    MayDo (rule.Copies c) needs = (c < length values) × (from : ℕ) × (needs ≡ from ∷ [])

-- The inputs of the workflow are given.
abbrev pub HasInputs : Library → Form → Type 0
HasInputs lib (one x s g d) = ⊥
HasInputs lib (all xs s g ds) = ⊥
HasInputs lib (each xs s k item i ys qs) = ⊥
HasInputs lib (takes given is s g) = ⊥
HasInputs lib (tells ds s g) = ⊥
HasInputs lib (whole f given place g ds) = are_given lib.structs f.inputs given ≡ true

abbrev pub StepsMay : Type 0
StepsMay =
    (lib : Library) (layout : Layout) (site : List ℕ) (rows : List Row) (depth : ℕ) (form : Form) (v : Sown) (is : List Instance) (listed : Work) (asked : List AskedCall) (paid : TaskCost → ℕ)
    → HasInputs lib form → (growing : IsGrowing lib layout site rows depth form v is listed asked paid) → (t : ℕ) (r : Rule) (w : Wants) → slice_get v.rules t ≡ Some r → slice_get v.steps t ≡ Some w
    → w.is_taken ≡ false → are_set v.values w.needs ≡ true → MayDo lib layout v.values growing.growth.rules listed asked is r w.needs

-- Where no listed job stands at a place, and one stands at the place of each row, no row answers there.
abbrev pub RowsNone : Type 0
RowsNone =
    (rows : List Row) (listed : Work) → ((r : Row) → Contains rows r → 0 < jobs_in listed (at_place r.place)) → (place : List Segment) → jobs_in listed (at_place place) ≡ 0 → (attempt : ℕ)
    → answer_at rows place attempt ≡ None
