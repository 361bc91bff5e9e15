-- What holds of a plan between its steps: its net grows of the main workflow, and its lists tell of what has grown.
use Rattle.std.specs.Prelude.{◌≡◌, ℕ, ◌+◌, ◌-◌, ◌≤◌, ◌<◌, Bool, true, List, [], ◌∷◌, Contains, Some, Ok, count_by, length, slice_get}
use Rattle.wdl_value.specs.declared.env.Bind.{Bind}
use Rattle.wdl_value.specs.Tables.{Row}
use Rattle.wdl_typed.specs.declared.checked.Checked.{Checked}
use Rattle.wdl_typed.specs.declared.flow.FlowDef.{FlowDef}
use Rattle.wdl_typed.specs.declared.task.TaskDef.{TaskDef}
use Rattle.wdl_typed.specs.declared.task.TDecl.{TDecl}
use Rattle.wdl_typed.specs.Declarations.{plain_key}
use Rattle.wdl_typed.specs.Journal.{keys_distinct}
use Rattle.wdl_typed.specs.Requests.{asks as asks_of, request}
use Rattle.wdl_typed.specs.Statuses.{successes_of}
use Rattle.wdl_task.specs.declared.request.Prepared.{Prepared}
use Rattle.wdl_task.specs.Counts.{prepare_count}
use Rattle.wdl_task.specs.Readiness.{are_given}
use Rattle.wdl_task.specs.Views.{asked_of}
use Rattle.net_laws.specs.Cost.{TaskCost}
use Rattle.net_laws.specs.Growing.{whole}
use Rattle.net_laws.specs.Moving.{IsEven}
use Rattle.net_laws.specs.Net.{Given, Work, find, slot_keys}
use Rattle.plan_moves.specs.Telling.{IsWaiting}
use Rattle.plan_lists.specs.Lists.{JobTest, Listed, any_job, jobs_in, unanswered}
use Rattle.plan_layout.specs.declared.layout.FlowLayout.{FlowLayout}
use Rattle.plan_layout.specs.declared.layout.Layout.{Layout}
use Rattle.plan_growth.specs.Growth.{AskedCall, IsGrowing}
use Rattle.plan_may.specs.May.{at_place}
use Rattle.plan_steps.specs.Askings.{Call}
use Rattle.plan_steps.specs.Doing.{State}
use Rattle.plan_steps.specs.Stepping.{library_in}

abbrev pub passes : JobTest → Prepared → Bool
passes is p = is p.request (successes_of p.codes)

-- how many of the attempts that wait pass
abbrev pub waiting : List Prepared → JobTest → ℕ
waiting ready is = count_by (passes is) ready

-- what a call of a task evaluates at the most, whatever its attempts: what it asks, and its outputs
abbrev pub task_cost : TaskDef → List Bind → ℕ
task_cost t given = prepare_count t given + length t.outputs

-- An attempt that waits: it is the next one of a task that was called with these arguments at its place, and its call stands among these.
pub record IsAwaited (site : List ℕ) (rows : List Row) (calls : List Call) (asked : List AskedCall) (p : Prepared) : Type 0 where
  pub at : ℕ
  pub call : Call
  pub call_there : slice_get calls at ≡ Some call
  pub place : call.place ≡ p.request.place
  pub asker : ℕ
  pub by : AskedCall
  pub by_there : slice_get asked asker ≡ Some by
  pub by_step : by.step ≡ call.step
  pub by_place : by.place ≡ p.request.place
  pub asks_it : asks_of by.task by.args ≡ Ok (asked_of p)
  pub is : p.request ≡ request site p.request.place p.request.attempt (asked_of p)
  pub waits : IsWaiting rows p.request.place (asked_of p) p.request.attempt

-- what the outputs of these calls cost, which was paid for when they were asked
abbrev pub owed : List AskedCall → ℕ
owed [] = 0
owed (c ∷ cs) = length c.task.outputs + owed cs

-- The plan is within the limits.
abbrev pub IsFew : State → Type 0
IsFew s = (s.field.count ≤ 1000000) × (s.asks.jobs ≤ 20000)

module _ (checked : Checked) (layout : Layout) (main : ℕ) (given : List Bind) (site : List ℕ) (rows : List Row) where
  pub record IsHolding (s : State) : Type 0 where
    pub flow : FlowDef
    pub there : slice_get checked.flows main ≡ Some flow
    pub inputs_given : are_given checked.structs flow.inputs given ≡ true
    pub names : Given
    pub dones : List ℕ
    pub distinct : keys_distinct (slot_keys names.names) ≡ true
    -- the cells of the outputs, of the instance that was entered first
    pub line : FlowLayout
    pub line_there : slice_get layout.flows main ≡ Some line
    pub outputs : (k : ℕ) (d : TDecl) → slice_get flow.outputs k ≡ Some d → find names.names (plain_key d.name) ≡ Some (line.first_output + k)
    pub few_count : s.field.count ≤ 1000000
    pub few_jobs : s.asks.jobs ≤ 20000
    pub listed : Work
    pub even : IsEven listed
    pub paid_by : TaskCost → ℕ
    -- the calls of which an attempt waits, and those that failed
    pub asked : List AskedCall
    pub growing : IsGrowing (library_in checked) layout site rows 24 (whole flow given [] names dones) s.field.plot.net s.field.plot.instances listed asked paid_by
    pub answered : JobTest → ℕ
    pub lists : Listed listed (λ (is : JobTest). waiting s.asks.ready is + answered is) s.field.faults s.field.count
    -- each job that was answered has a row
    pub over : (is : JobTest) → answered (unanswered rows is) ≡ 0
    pub jobs : s.asks.jobs ≡ length s.asks.ready + answered any_job
    pub awaited : (k : ℕ) (p : Prepared) → slice_get s.asks.ready k ≡ Some p → IsAwaited site rows s.asks.calls asked p
    -- each call has a job
    pub called : (j : ℕ) (c : Call) → slice_get s.asks.calls j ≡ Some c → 0 < jobs_in listed (at_place c.place)
    pub owes : owed asked ≤ paid_by task_cost
    -- so has the place of each row
    pub rowed : (r : Row) → Contains rows r → 0 < jobs_in listed (at_place r.place)

  -- how many evaluations were paid for, but for outputs that are not there yet
  abbrev pub paid_of : {s : State} → IsHolding s → ℕ
  paid_of h = h.paid_by task_cost - owed h.asked
