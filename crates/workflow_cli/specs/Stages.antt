-- What the stages of a run give.
use Rattle.std.specs.Prelude.{◌≡◌, ◌≤◌, ◌⊎◌, ℕ, true, List, [], Contains, Option, Some, None, Result, Ok, Err, codes, ⊤}
use Rattle.wdl_base.specs.declared.answer.Answer.{Answer}
use Rattle.wdl_base.specs.declared.entry.Entry.{Entry}
use Rattle.wdl_base.specs.declared.request.Request.{Request}
use Rattle.wdl_value.specs.declared.env.Bind.{Bind}
use Rattle.wdl_port.specs.Causes.{Rose}
use Rattle.wdl_port.specs.Rows.{AreRows, are_kept, rises}
use Rattle.report_text.specs.declared.status.Status.{Status}
use Rattle.report_text.specs.declared.status.Status.TheVariants as status
use Rattle.wdl_typed.specs.declared.checked.Checked.{Checked}
use Rattle.wdl_typed.specs.declared.flow.FlowDef.{FlowDef}
use Rattle.wdl_typed.specs.Flow.{too_many}
use Rattle.wdl_typed.specs.Journal.{inputs_fit}
use Rattle.wdl_json.specs.Inputs.{main_of}
use Rattle.ready_core.specs.Cores as cores
use Rattle.ready_core.specs.Cores.{CoreState}
use Rattle.work_desk.specs.Keeping.{KeeperView}
use Rattle.work_desk.specs.declared.stop.Stop.{Stop as Why}
use Rattle.work_desk.specs.declared.stop.Stop.TheVariants as end
use Rattle.workflow_stages.specs.declared.ended.CommandStop.{CommandStop}
use Rattle.workflow_stages.specs.declared.ended.Work.{Work}
use Rattle.workflow_stages.specs.declared.ended.Work.TheVariants as work
use Rattle.workflow_stages.specs.Documents.{CheckStops, HasChecked, Tells}
use Rattle.workflow_stages.specs.Preparing.{IsPrepared, PrepareStops}
use Rattle.workflow_cli.specs.declared.asking.Report.{Report}
use Rattle.workflow_cli.specs.declared.asking.RunOptions.{RunOptions}
use Rattle.workflow_cli.specs.declared.run.Begun.{Begun}
use Rattle.workflow_cli.specs.Reporting.{report_line}
use Rattle.workflow_cli.specs.Running.{IsIdle, IsOn, Leaves, Main, Trace, core_of}

-- ---- what a run comes to

abbrev pub stops : Status → Work
stops s = work.Stop (record { status = s; paths = []; note = None })

-- after a fault: a fault of the flow over the journal, or the flow is past its limits
abbrev pub IsFailedAs : CoreState → Status → Type 0
IsFailedAs c (status.Failed fault) = Contains (cores.flow_of c).faults fault
IsFailedAs c status.TooMany = too_many (cores.flow_of c) ≡ true
IsFailedAs c status.NoMemory = ⊤
IsFailedAs c s = ⊥

-- the status of a run that stopped so
abbrev pub StopsAs : CoreState → Why → Status → Type 0
StopsAs c end.Failed s = IsFailedAs c s
StopsAs c end.NoMemory s = s ≡ status.NoMemory
StopsAs c (end.Launch place) s = s ≡ status.Launch place
StopsAs c end.Keep s = s ≡ status.Keep
StopsAs c end.TooMany s = s ≡ status.TooMany

-- the work of a run of the workflow of that name, of which so is reported, and which stopped so or did not stop
abbrev pub Turns : Report → List ℕ → CoreState → Option Why → Work → Type 0
Turns r name c None w = (w ≡ work.Text (report_line r name c)) ⊎ (w ≡ stops status.NoMemory)
Turns r name c (Some why) w = (s : Status) × (w ≡ stops s) × StopsAs c why s

-- ---- the journal

-- the keeper was started on the path, and these are its rows
pub record IsOpened (path : List ℕ) (k l : KeeperView) (rows : List Entry) : Type 0 where
  pub opened : l.path ≡ Some path
  pub same : l.kept ≡ k.kept
  pub later : k.faults ≤ l.faults
  pub told : AreRows k.kept rows
  pub order : rises rows ≡ true
  pub sources : are_kept rows ≡ true

abbrev pub OpenStops : List ℕ → KeeperView → KeeperView → Status → Type 0
OpenStops path k l status.Keep = (l.path ≡ Some path) × Rose k.faults l.faults
OpenStops path k l status.NoMemory = IsOn path l.path
OpenStops path k l s = ⊥

abbrev pub Opens : List ℕ → KeeperView → KeeperView → Result (List Entry) Status → Type 0
Opens path k l (Ok rows) = IsOpened path k l rows
Opens path k l (Err s) = (l.kept ≡ k.kept) × OpenStops path k l s

-- ---- the run

-- the main workflow is there, and these inputs fit it
pub record IsFitting (c : Checked) (given : List Bind) (flow : FlowDef) : Type 0 where
  pub main : main_of c.flows c.main ≡ Some flow
  pub fit : inputs_fit c.structs flow.inputs given ≡ true

-- the core and the name of a main workflow with its inputs, before anything is taken
pub record IsBegun (c : Checked) (given : List Bind) (site : List ℕ) (flow : FlowDef) (b : Begun) : Type 0 where
  pub core : b.core ≡ cores.started (record { checked = c; inputs = given; site = site }) b.core.plan
  pub name : b.name ≡ flow.name

-- the keeper was started on the path of the journal and its count of faults rose, and nothing ran
pub record IsUnopened (t : Trace) (m : Main) : Type 0 where
  pub idle : IsIdle t
  pub path : List ℕ
  pub named : m.options.journal ≡ Some path
  pub opened : t.keeper_now.path ≡ Some path
  pub counted : Rose t.keeper.faults t.keeper_now.faults

-- the work of a run
pub record HasLeft (gives : Request → Answer → Type 0) (refuses : Request → Type 0) (t : Trace) (m : Main) (w : Work) : Type 0 where
  pub why : Option Why
  pub left : Leaves gives refuses t m why
  pub turns : Turns m.options.report m.flow.name (core_of m t left.taken left.out left.plan) why w

-- the work of the main workflow: nothing ran, or a run
abbrev pub RunsMain : (Request → Answer → Type 0) → (Request → Type 0) → Trace → Main → Work → Type 0
RunsMain gives refuses t m w =
    (IsIdle t × (w ≡ stops status.NoMemory)) ⊎ ((IsUnopened t m × (w ≡ stops status.Keep)) ⊎ HasLeft gives refuses t m w)

abbrev pub main_with : Checked → List Bind → RunOptions → FlowDef → Main
main_with c given options flow = record { checked = c; flow = flow; given = given; options = options }

-- the run ended before it began
pub record HasStopped (tells : Tells) (refused : List ℕ → Type 0) (rose : Type 0) (file : List ℕ) (inputs : Option (List ℕ)) (t : Trace) (w : Work) : Type 0 where
  pub idle : IsIdle t
  pub stop : CommandStop
  pub is : w ≡ work.Stop stop
  pub cause : PrepareStops tells refused rose file inputs stop.status stop.paths

-- the run of the main workflow with its inputs
pub record HasRunMain (tells : Tells) (gives : Request → Answer → Type 0) (refuses : Request → Type 0) (file : List ℕ) (inputs : Option (List ℕ)) (options : RunOptions) (t : Trace) (w : Work) : Type 0 where
  pub checked : Checked
  pub given : List Bind
  pub prepared : IsPrepared tells file inputs checked given
  pub ran : RunsMain gives refuses t (main_with checked given options prepared.fits.flow) w

abbrev pub RunsFile : Tells → (List ℕ → Type 0) → Type 0 → (Request → Answer → Type 0) → (Request → Type 0) → List ℕ → Option (List ℕ) → RunOptions → Trace → Work → Type 0
RunsFile tells refused rose gives refuses file inputs options t w =
    HasStopped tells refused rose file inputs t w ⊎ HasRunMain tells gives refuses file inputs options t w

-- ---- a check

abbrev pub Accepts : Tells → (List ℕ → Type 0) → Type 0 → List ℕ → Work → Type 0
Accepts tells refused rose file (work.Text text) = (c : Checked) × HasChecked tells file c × (text ≡ codes "ok\n")
Accepts tells refused rose file (work.Stop stop) = CheckStops tells file refused rose stop.status stop.paths
