-- The main workflow with its inputs, and what its run comes to.
use Rattle.std.specs.Prelude.{◌≡◌, ◌≢◌, ◌≤◌, ◌+◌, ◌⊎◌, ℕ, Bool, true, false, List, [], ◌++◌, Contains, Option, Some, None, Ok, Err, codes}
use Rattle.wdl_base.specs.declared.answer.Answer.{Answer}
use Rattle.wdl_base.specs.declared.entry.Entry.{Entry}
use Rattle.wdl_base.specs.declared.fault.Fault.{Fault}
use Rattle.wdl_base.specs.declared.place.Segment.{Segment}
use Rattle.wdl_base.specs.declared.request.Request.{Request}
use Rattle.wdl_base.specs.declared.step.Counts.{Counts}
use Rattle.wdl_base.specs.declared.step.Step.{Step}
use Rattle.wdl_value.specs.declared.env.Bind.{Bind}
use Rattle.wdl_port.specs.Causes.{Rose}
use Rattle.wdl_port.specs.Rows.{AreRows}
use Rattle.wdl_typed.specs.declared.checked.Checked.{Checked}
use Rattle.wdl_typed.specs.declared.flow.FlowDef.{FlowDef}
use Rattle.wdl_typed.specs.Flow.{Flowing, is_clean, too_many}
use Rattle.wdl_json.specs.Inputs.{inputs_in, main_of}
use Rattle.wdl_json.specs.Outputs.{outputs_text}
use Rattle.wdl_json.specs.declared.fault.InputFault.TheVariants.{Bad}
use Rattle.ready_core.specs.Cores.{CoreState, IsPaidFor, Origin, cost_at, flow_at}
use Rattle.ready_core.specs.Flows.{outputs_in}
use Rattle.ready_core.specs.Rows.{TakenJob}
use Rattle.scatter_plan.specs.declared.plan.Plan.{Plan}
use Rattle.work_desk.specs.Keeping.{KeeperView, Went, keeper_view}
use Rattle.work_desk.specs.Ran.{HasRun}
use Rattle.work_desk.specs.Views.{AllEqual}
use Rattle.work_desk.specs.declared.stop.Stop.{Stop}
use Rattle.work_desk.specs.declared.stop.Stop.TheVariants as end
use Rattle.workflow_stages.specs.Documents.{HasChecked, Tells}
use Rattle.workflow_stages.specs.Preparing.{IsInputsText}
use Rattle.workflow_cli.specs.declared.asking.RunOptions.{RunOptions}
use Rattle.workflow_cli.specs.declared.ended.Ended.{Ended}
use Rattle.workflow_cli.specs.declared.ended.Worked.{Worked}
use Rattle.workflow_cli.specs.Asking.{IsForInputs, IsRunOf, Words}

-- ---- what a run leaves

-- which entries lapse in a keeper
abbrev pub Lapses : Type 0
Lapses = Entry → Bool

-- the journal, the jobs taken and settled, and the four counts; the count of evaluated expressions before and after; what lapses in
-- the keeper, and the keeper before and after
pub record Trace : Type 0 where
  pub journal : List Entry
  pub steps : List Step
  pub counts : Counts
  pub before : ℕ
  pub now : ℕ
  pub lapses : Lapses
  pub keeper : KeeperView
  pub keeper_now : KeeperView

abbrev pub trace_of : Ended → ℕ → ℕ → Lapses → KeeperView → KeeperView → Trace
trace_of e before now lapses k l =
    record { journal = e.journal; steps = e.steps; counts = e.counts; before = before; now = now; lapses = lapses; keeper = k; keeper_now = l }

-- the same of a keeper that is seen by these
abbrev pub trace_by : {K : Type 0} → (K → Option (List Entry)) → (K → Lapses) → (K → Option (List ℕ)) → (K → ℕ) → Ended → ℕ → ℕ → K → K → Trace
trace_by kept lapses path faults e before now k l =
    trace_of e before now (lapses k) (keeper_view (kept k) (path k) (faults k)) (keeper_view (kept l) (path l) (faults l))

abbrev pub work_trace : Worked → ℕ → ℕ → Lapses → KeeperView → KeeperView → Trace
work_trace w before now lapses k l =
    record { journal = w.journal; steps = w.steps; counts = w.counts; before = before; now = now; lapses = lapses; keeper = k; keeper_now = l }

-- nothing ran
pub record IsIdle (t : Trace) : Type 0 where
  pub no_answer : t.journal ≡ []
  pub no_job : t.steps ≡ []
  pub no_count : AllEqual t.counts 0
  pub no_step : t.now ≡ t.before
  pub no_row : t.keeper_now.kept ≡ t.keeper.kept

-- ---- the main workflow

-- the main workflow of a checked library, its inputs, and the options of its run
pub record Main : Type 0 where
  pub checked : Checked
  pub flow : FlowDef
  pub given : List Bind
  pub options : RunOptions

-- each job gets its own directory below that of the options
abbrev pub origin_of : Main → Origin
origin_of m = record { checked = m.checked; inputs = m.given; site = m.options.root }

-- the flow of the main workflow over a journal
abbrev pub flow_of : Main → List Entry → Flowing
flow_of m = flow_at (origin_of m)

-- ---- the run

-- a keeper that is started on this path, or on none
abbrev pub IsOn : List ℕ → Option (List ℕ) → Type 0
IsOn path at = (at ≡ Some path) ⊎ (at ≡ None)

-- a journal is named, and the keeper is started on no other path
abbrev pub NamesJournal : Option (List ℕ) → Option (List ℕ) → Type 0
NamesJournal journal at = (path : List ℕ) × (journal ≡ Some path) × IsOn path at

-- the rows that a run resumes from: those of the keeper where a journal is named, and else none
abbrev pub AreRowsOf : KeeperView → Option (List ℕ) → List Entry → Type 0
AreRowsOf k None rows = rows ≡ []
AreRowsOf k (Some path) rows = AreRows k.kept rows

-- Without a journal the keeper is as it was, and no fault of it stops the run. With one it is started on that path, each told
-- row at the end is one of the beginning or has the request of a taken job and an answer that the launcher gives for it, and a
-- row whose place and attempt were not taken is as it was. Where the run did not stop, or the count did not rise, each entry of
-- the journal is a row at the end.
abbrev pub KeepsRows : (Request → Answer → Type 0) → CoreState → Option Stop → Option (List ℕ) → KeeperView → KeeperView → Type 0
KeepsRows gives c why None k l = (l ≡ k) × (why ≢ Some end.Keep)
KeepsRows gives c why (Some path) k l = Went gives c why (keeper_view k.kept (Some path) k.faults) l

-- the core of a run with this journal and these steps, which took these jobs, and where these are out
abbrev pub core_of : Main → Trace → List TakenJob → List TakenJob → Option Plan → CoreState
core_of m t taken out plan = record { origin = origin_of m; journal = t.journal; taken = taken; out = out; steps = t.steps; plan = plan }

-- The rows that lapse: without a journal there is none.
abbrev pub lapses_of : Option (List ℕ) → Lapses → Lapses
lapses_of None lapses row = false
lapses_of (Some path) lapses row = lapses row

-- There was no memory to begin, and nothing was taken.
pub record IsStarved (c : CoreState) (why : Option Stop) (four : Counts) : Type 0 where
  pub starved : why ≡ Some end.NoMemory
  pub no_answer : c.journal ≡ []
  pub no_job : c.steps ≡ []
  pub no_count : AllEqual four 0

-- What a run of the main workflow leaves, by the workers of its options and over these rows: the journal is fed, each answer is
-- one that the launcher gives or that of a usable row, the steps leave no worker idle without need and say where the run stopped,
-- no job was launched for which a row stood that does not lapse, and what was put was picked, finished and collected. Where it did
-- not stop, each expression was evaluated once at most.
pub record Leaves (gives : Request → Answer → Type 0) (refuses : Request → Type 0) (t : Trace) (m : Main) (why : Option Stop) : Type 0 where
  pub rows : List Entry
  pub of_keeper : AreRowsOf t.keeper m.options.journal rows
  pub taken : List TakenJob
  pub out : List TakenJob
  pub plan : Option Plan
  pub run :
      HasRun m.options.workers gives refuses (lapses_of m.options.journal t.lapses) rows (core_of m t taken out plan) why t.counts
      ⊎ IsStarved (core_of m t taken out plan) why t.counts
  pub kept : KeepsRows gives (core_of m t taken out plan) why m.options.journal t.keeper t.keeper_now
  pub paid : why ≡ None → IsPaidFor t.before t.now (core_of m t taken out plan)

module _ (tells : Tells) (words : Words) where
  -- the words ask for a run of a document whose checked form has this main workflow, with the text of these inputs
  pub record IsAsked (c : Checked) (f : FlowDef) (text : List ℕ) (options : RunOptions) : Type 0 where
    pub file : List ℕ
    pub inputs : Option (List ℕ)
    pub asked : IsRunOf words file inputs options
    pub checked : HasChecked tells file c
    pub main : main_of c.flows c.main ≡ Some f
    pub is_text : IsInputsText tells inputs text

  -- the same, and the text gives these inputs
  pub record IsStarted (m : Main) : Type 0 where
    pub text : List ℕ
    pub asked : IsAsked m.checked m.flow text m.options
    pub reads : inputs_in m.checked.structs m.flow text ≡ Ok m.given

  -- the text breaks the rule of that code, the first by the order of the rules
  pub record IsBadInputs (code : ℕ) (name : Option (List ℕ)) : Type 0 where
    pub file : List ℕ
    pub inputs : Option (List ℕ)
    pub asked : IsForInputs words file inputs
    pub checked : Checked
    pub has : HasChecked tells file checked
    pub flow : FlowDef
    pub main : main_of checked.flows checked.main ≡ Some flow
    pub text : List ℕ
    pub is_text : IsInputsText tells inputs text
    pub refused : inputs_in checked.structs flow text ≡ Err (Bad code name)

  -- the document has a main workflow, the shelf refuses the inputs file, and its count of faults rose
  pub record IsUnreadInputs (refused : List ℕ → Type 0) (rose : Type 0) (path : List ℕ) : Type 0 where
    pub file : List ℕ
    pub asked : IsForInputs words file (Some path)
    pub checked : Checked
    pub has : HasChecked tells file checked
    pub flow : FlowDef
    pub main : main_of checked.flows checked.main ≡ Some flow
    pub refusal : refused path
    pub counted : rose

  -- ---- the run

  module _ (gives : Request → Answer → Type 0) (refuses : Request → Type 0) (t : Trace) where
    -- a run of the main workflow that the words ask for
    pub record IsRun (m : Main) (why : Option Stop) : Type 0 where
      pub started : IsStarted m
      pub left : Leaves gives refuses t m why

    pub record SomeRun : Type 0 where
      pub main : Main
      pub why : Option Stop
      pub run : IsRun main why

    -- The flow over the journal is within the limits and clean; the text is that of its outputs, and a newline. Each expression was
    -- evaluated once at most.
    pub record IsDone (text : List ℕ) : Type 0 where
      pub main : Main
      pub run : IsRun main None
      pub few : too_many (flow_of main t.journal) ≡ false
      pub clean : is_clean (flow_of main t.journal) ≡ true
      pub paid : t.now ≤ t.before + cost_at (origin_of main) t.journal
      pub outputs : text ≡ outputs_text main.flow.name (outputs_in main.checked (flow_of main t.journal)) ++ codes "\n"

    -- a fault of the flow over the journal
    pub record IsFailed (fault : Fault) : Type 0 where
      pub main : Main
      pub run : IsRun main (Some end.Failed)
      pub is_fault : Contains (flow_of main t.journal).faults fault

    -- a job of the flow over the journal was taken at that place, and the launcher refuses its request
    pub record IsUnlaunched (place : List Segment) : Type 0 where
      pub main : Main
      pub run : IsRun main (Some (end.Launch place))
      pub job : TakenJob
      pub was_taken : Contains run.left.taken job
      pub at_place : job.request.place ≡ place
      pub is_job : Contains (flow_of main t.journal).jobs job.request
      pub refused : refuses job.request

    -- The flow over the journal has too many jobs or statements, and the run stopped for that or for a fault of the flow.
    pub record IsTooMany : Type 0 where
      pub main : Main
      pub why : Option Stop
      pub stop : (why ≡ Some end.TooMany) ⊎ (why ≡ Some end.Failed)
      pub run : IsRun main why
      pub many : too_many (flow_of main t.journal) ≡ true

    -- The keeper was started on the path of the journal and its count of faults rose, before anything ran or in the run.
    pub record IsUnkept : Type 0 where
      pub main : Main
      pub started : IsStarted main
      pub path : List ℕ
      pub named : main.options.journal ≡ Some path
      pub opened : t.keeper_now.path ≡ Some path
      pub counted : Rose t.keeper.faults t.keeper_now.faults
      pub ran : IsIdle t ⊎ IsRun main (Some end.Keep)
