-- What contracts see of a plan, and the flow that it shows.
use Rattle.std.specs.Prelude.{◌≡◌, ℕ, ◌+◌, ◌≤◌, Bool, false, List, [], Option, Some, None, count_by, if◌then◌else◌, length, option_and_then, slice_get}
use Rattle.wdl_base.specs.declared.fault.Fault.{Fault}
use Rattle.wdl_base.specs.declared.request.Request.{Request}
use Rattle.wdl_value.specs.declared.env.Bind.{Bind}
use Rattle.wdl_value.specs.Tables.{Row}
use Rattle.wdl_typed.specs.declared.checked.Checked.{Checked}
use Rattle.wdl_typed.specs.declared.flow.FlowDef.{FlowDef}
use Rattle.wdl_typed.specs.declared.task.TaskDef.{TaskDef}
use Rattle.wdl_typed.specs.Bodies.{Library, library}
use Rattle.wdl_typed.specs.Flow.{Flowing, Run, is_clean, nothing, outputs_of, too_many, whole}
use Rattle.wdl_typed.specs.Requests.{Successes}
use Rattle.wdl_typed.specs.Statuses.{successes_of}
use Rattle.wdl_task.specs.declared.request.Prepared.{Prepared}
use Rattle.wdl_task.specs.Counts.{prepare_count}
use Rattle.plan_lists.specs.Lists as lists
use Rattle.scatter_plan.specs.declared.plan.Plan.{Plan}
use Rattle.scatter_plan.specs.Holding.{paid_of}
use Rattle.scatter_plan.specs.Settling.{IsBegunOver, IsMadeOf}
use Rattle.net_laws.specs.Cost.{whole_cost}

-- ---- what contracts see of a plan

abbrev pub checked_in : Plan → Checked
checked_in p = p.origin.checked

abbrev pub inputs_in : Plan → List Bind
inputs_in p = p.origin.inputs

abbrev pub site_in : Plan → List ℕ
site_in p = p.origin.site

-- the attempts that wait for an answer
abbrev pub ready_in : Plan → List Prepared
ready_in p = p.begun.asking.ready.items

abbrev pub faults_in : Plan → List Fault
faults_in p = p.begun.growth.faults

-- the outputs, where nothing failed and nothing waits
abbrev pub outputs_in : Plan → Option (List Bind)
outputs_in p = p.begun.outputs

abbrev pub spent_in : Plan → Bool
spent_in p = p.spent

-- ---- what a plan is of

abbrev pub library_in : Checked → Library
library_in c = library c.structs c.tasks c.flows

abbrev pub run_with : Library → List ℕ → List Row → Run
run_with lib site rows = record { library = lib; site = site; table = rows }

-- ---- the flow over a table

abbrev pub flow_in : Library → Option ℕ → List Bind → List ℕ → List Row → Flowing
flow_in lib None given site rows = nothing
flow_in lib (Some k) given site rows = whole (run_with lib site rows) k given

-- the flow of the main workflow for these inputs, below this site, over the answers of a table
unfoldable pub flow_with : Checked → List Bind → List ℕ → List Row → Flowing
flow_with c given site rows = flow_in (library_in c) c.main given site rows

abbrev pub outputs_with : Flowing → Option FlowDef → List Bind
outputs_with f None = []
outputs_with f (Some main) = outputs_of f main

-- the outputs of the main workflow, where there are no faults and no waits
abbrev pub outputs_if_clean : Checked → Flowing → Option (List Bind)
outputs_if_clean c f = if is_clean f then Some (outputs_with f (option_and_then (slice_get c.flows) c.main)) else None

-- ---- what it costs

-- what a call of a task evaluates at the most, whatever its attempts: what it asks, and its outputs
abbrev pub task_cost : TaskDef → List Bind → ℕ
task_cost t given = prepare_count t given + length t.outputs

abbrev pub cost_in : Library → Option ℕ → List Bind → List ℕ → List Row → ℕ
cost_in lib None given site rows = 0
cost_in lib (Some k) given site rows = whole_cost (run_with lib site rows) task_cost k given

-- how many expressions the flow of the main workflow has whose names are all known, in the bodies that are entered
unfoldable pub cost_with : Checked → List Bind → List ℕ → List Row → ℕ
cost_with c given site rows = cost_in (library_in c) c.main given site rows

-- ---- jobs

-- of the jobs with their statuses of success, how many pass
abbrev pub count_jobs : (Request → Successes → Bool) → List Request → List Successes → ℕ
count_jobs = lists.count_jobs

-- passes, and no answer arrived for its place and attempt
abbrev pub unanswered : List Row → (Request → Successes → Bool) → Request → Successes → Bool
unanswered = lists.unanswered

abbrev pub passes : (Request → Successes → Bool) → Prepared → Bool
passes is p = is p.request (successes_of p.codes)

-- ---- the plan

-- The main workflow is there, its inputs fit, and the layout is that of the checked form.
abbrev pub IsMade : Plan → Type 0
IsMade p = IsMadeOf p.origin.checked p.origin.layout p.origin.main p.origin.inputs

-- what has grown in a plan, over these answers
abbrev pub IsHeld : Plan → List Row → Type 0
IsHeld p answers = IsBegunOver p.origin.checked p.origin.layout p.origin.main p.origin.inputs p.origin.site answers p.begun

abbrev pub paid_in : (p : Plan) (answers : List Row) → IsHeld p answers → ℕ
paid_in p answers held = paid_of p.origin.checked p.origin.layout p.origin.main p.origin.inputs p.origin.site answers held.settled.holding

abbrev pub flow_of : Plan → List Row → Flowing
flow_of p answers = flow_with (checked_in p) (inputs_in p) (site_in p) answers

-- The flow is within the limits. What waits is each job that is not answered, once; the faults are those of the flow, each as often
-- as there; and the outputs are there where the flow is clean.
pub record IsOfFlowing (p : Plan) (answers : List Row) (f : Flowing) : Type 0 where
  pub few : too_many f ≡ false
  pub even : length f.codes ≡ length f.jobs
  pub ready : (is : Request → Successes → Bool) → count_by (passes is) (ready_in p) ≡ count_jobs (unanswered answers is) f.jobs f.codes
  pub faults : (is : Fault → Bool) → count_by is (faults_in p) ≡ count_by is f.faults
  pub outputs : outputs_in p ≡ outputs_if_clean (checked_in p) f

abbrev pub IsOfFlow : Plan → List Row → Type 0
IsOfFlow p answers = IsOfFlowing p answers (flow_of p answers)

-- It was told of these answers and no others. How many evaluations they paid for is no more than the flow over them costs.
pub record IsTold (p : Plan) (answers : List Row) : Type 0 where
  pub kept : spent_in p ≡ false
  pub held : IsHeld p answers
  pub shows : IsOfFlow p answers
  pub paid : ℕ
  pub pays : paid ≡ paid_in p answers held
  pub within : paid ≤ cost_with (checked_in p) (inputs_in p) (site_in p) answers
