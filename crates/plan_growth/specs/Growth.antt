-- What holds of a plan at any time: it is a net that grows of the main workflow, and its lists are what has grown.
use Rattle.wdl_typed.specs.declared.task.TaskDef.{TaskDef}
use Rattle.wdl_value.specs.declared.env.Bind.{Bind}
use Rattle.wdl_base.specs.declared.place.Segment.{Segment}
use Rattle.wdl_base.specs.declared.place.Segment.TheVariants as segment
use Rattle.wdl_typed.specs.KnownTypes.{is_some}
use Rattle.std.specs.List.{list_all}
use Rattle.plan_moves.specs.Telling.{CallsTask}
use Rattle.std.specs.Prelude.{◌≡◌, ◌≤◌, ℕ, Bool, true, false, List, [], ◌∷◌, ◌++◌, All, Some, length, slice_get}
use Rattle.wdl_value.specs.Tables.{Row}
use Rattle.wdl_typed.specs.declared.flow.Statement.TheVariants as stmt
use Rattle.wdl_typed.specs.declared.flow.TCall.{TCall}
use Rattle.wdl_typed.specs.Bodies.{Library}
use Rattle.step_net.specs.Views.{Wants}
use Rattle.value_net.specs.Nets.{view_of, value_at}
use Rattle.net_laws.specs.Cost.{TaskCost}
use Rattle.net_laws.specs.Growing as net
use Rattle.net_laws.specs.Growing.{Form, copies, declares, does, ends, gathers}
use Rattle.net_laws.specs.Moving.{IsWeight, at_step}
use Rattle.net_laws.specs.Net.{Given, Mark, Scope, Slot, Work}
use Rattle.net_laws.specs.Roots.{IsRoot}
use Rattle.net_laws.specs.Works.{evaluated, work_of}
use Rattle.plan_moves.specs.Sheets.{Grown, Sheet, rules_of, state_of, taken_in}
use Rattle.plan_layout.specs.declared.layout.Layout.{Layout}
use Rattle.plan_layout.specs.Laid.{IsLayout}
use Rattle.plan_layout.specs.Sees.{Sees}
use Rattle.plan_growth.specs.declared.instance.Instance.{Instance}
use Rattle.plan_growth.specs.declared.rule.Rule.{Rule}
use Rattle.plan_growth.specs.Begun.{IsFree}
use Rattle.plan_growth.specs.Entering.{Sown}
use Rattle.plan_growth.specs.Meaning.{rule_cells}
use Rattle.plan_growth.specs.News.{Stands}

abbrev pub sheet_of : Sown → List net.Rule → Sheet
sheet_of v rules = view_of v.values rules v.steps

-- Each step has a rule and a meaning, and each cell an owner.
pub record IsEven (v : Sown) (rules : List net.Rule) (owners : List ℕ) : Type 0 where
  pub codes : length v.rules ≡ length v.steps
  pub rules_too : length rules ≡ length v.steps
  pub owners_too : length owners ≡ length v.values

-- The step is one of a statement, a default or an output, and no joint.
abbrev pub is_leaf : net.Rule → Bool
is_leaf (does x s g d) = true
is_leaf (declares name e s c) = true
is_leaf (gathers parts c) = false
is_leaf (ends parts c) = false
is_leaf (copies from c) = false

-- a call of a task that was asked: its step and place, its task and the arguments
pub record AskedCall : Type 0 where
  pub step : ℕ
  pub place : List Segment
  pub task : TaskDef
  pub args : List Bind

module _ (lib : Library) (layout : Layout) (site : List ℕ) (rows : List Row) where
  -- what the steps are to do, the owners of the cells, and what has grown
  pub record Growth (depth : ℕ) (form : Form) (v : Sown) : Type 0 where
    pub rules : List net.Rule
    pub owners : List ℕ
    pub grown : Grown lib site rows (sheet_of v rules) owners depth form

  abbrev pub growth_leaves : {depth : ℕ} {form : Form} {v : Sown} → Growth depth form v → ℕ → ℕ → ℕ
  growth_leaves {v = v} g u k = at_step lib site rows (rules_of (sheet_of v g.rules)) (state_of (sheet_of v g.rules) g.owners) u k g.grown

  abbrev pub growth_work : {depth : ℕ} {form : Form} {v : Sown} → Growth depth form v → Work
  growth_work {v = v} g = work_of lib site rows (rules_of (sheet_of v g.rules)) (state_of (sheet_of v g.rules) g.owners) g.grown

  abbrev pub growth_spent : {depth : ℕ} {form : Form} {v : Sown} → TaskCost → Growth depth form v → ℕ
  growth_spent {v = v} task g = evaluated lib site rows (rules_of (sheet_of v g.rules)) (state_of (sheet_of v g.rules) g.owners) task g.grown

  -- A call of a task that was asked: its step was taken, its needs are set, and its cells are not.
  pub record IsAsker {depth : ℕ} {form : Form} {v : Sown} (g : Growth depth form v) (c : AskedCall) : Type 0 where
    pub call : TCall
    pub scope : Scope
    pub given : Given
    pub done : ℕ
    pub rule : slice_get g.rules c.step ≡ Some (does (stmt.Call call) scope given done)
    pub taken : taken_in (slice_get v.steps c.step) ≡ true
    pub once : (k : ℕ) → growth_leaves g c.step k ≡ k
    pub free : All (IsFree (sheet_of v g.rules) g.owners c.step) (rule_cells (does (stmt.Call call) scope given done))
    pub place : c.place ≡ scope.place ++ segment.Call call.name ∷ []
    pub calls_task : CallsTask lib (sheet_of v g.rules) call scope given c.args c.task
    pub names_set : list_all (λ (s : Slot). is_some (value_at v.values s.cell)) calls_task.slots ≡ true
    pub calls_set : list_all (λ (m : Mark). is_some (value_at v.values m.cell)) calls_task.marks ≡ true

  -- The plan's net grows of the form: `listed` is what the plan's lists come to, `asked` the calls that were asked, and
  -- `paid` how many expressions were evaluated at least.
  pub record IsGrowing (depth : ℕ) (form : Form) (v : Sown) (is : List Instance) (listed : Work) (asked : List AskedCall) (paid : TaskCost → ℕ) : Type 0 where
    pub laid : IsLayout (Sees lib) lib layout
    pub root : IsRoot lib depth form
    pub growth : Growth depth form v
    pub even : IsEven v growth.rules growth.owners
    pub stands : (u : ℕ) (r : Rule) (w : Wants) (m : net.Rule) → slice_get v.rules u ≡ Some r → slice_get v.steps u ≡ Some w → slice_get growth.rules u ≡ Some m
        → Stands lib layout is (sheet_of v growth.rules) growth.owners u r w m
    pub weighs : (weight : Work → ℕ) → IsWeight weight → weight (growth_work growth) ≡ weight listed
    pub once : (u : ℕ) (m : net.Rule) → slice_get growth.rules u ≡ Some m → is_leaf m ≡ true → taken_in (slice_get v.steps u) ≡ false → (k : ℕ) → growth_leaves growth u k ≡ k
    pub fresh : (u k : ℕ) → length v.steps ≤ u → growth_leaves growth u k ≡ 0
    pub asks : (j : ℕ) (c : AskedCall) → slice_get asked j ≡ Some c → IsAsker growth c
    pub spends : (task : TaskCost) → paid task ≤ growth_spent task growth
