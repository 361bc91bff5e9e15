-- The workflow that `load` makes and runs.
use Rattle.std.specs.Prelude.{◌≡◌, ◌≤◌, ◌+◌, ◌⊎◌, ℕ, true, false, List, [], length, Some, None, Result, Ok, codes}
use Rattle.wdl_base.specs.declared.answer.Answer.{Answer}
use Rattle.wdl_base.specs.declared.request.Request.{Request}
use Rattle.wdl_value.specs.declared.env.Bind.{Bind}
use Rattle.report_text.specs.declared.status.Status.{Status}
use Rattle.report_text.specs.declared.status.Status.TheVariants as status
use Rattle.wdl_port.specs.Causes.{Rose}
use Rattle.wdl_port.specs.Table.{Gives, Refuses}
use Rattle.wdl_port.specs.Told.{grown}
use Rattle.wdl_port.specs.declared.memory_shelf.PathFile.{PathFile}
use Rattle.wdl_port.specs.declared.table_row.TableRow.{TableRow}
use Rattle.wdl_typed.specs.declared.checked.Checked.{Checked}
use Rattle.wdl_typed.specs.Flow.{is_clean, too_many}
use Rattle.wdl_load.specs.Loads.{AreLoadRows, load_text}
use Rattle.wdl_json.specs.Inputs.{inputs_in, main_of}
use Rattle.ready_core.specs.Cores.{cost_at}
use Rattle.ready_core.specs.Flows.{outputs_in}
use Rattle.workflow_stages.specs.declared.ended.CommandStop.{CommandStop}
use Rattle.workflow_stages.specs.declared.ended.Work.{Work}
use Rattle.workflow_stages.specs.declared.prepare.Prepared.{Prepared}
use Rattle.workflow_stages.specs.Alone.{alone, alone_refused, only_file}
use Rattle.workflow_stages.specs.Documents.{HasChecked, Tells}
use Rattle.workflow_stages.specs.Preparing.{IsPrepared, Prepares}
use Rattle.workflow_cli.specs.declared.asking.Report.TheVariants as report
use Rattle.workflow_cli.specs.declared.asking.RunOptions.{RunOptions}
use Rattle.workflow_cli.specs.Reporting.{load_line}
use Rattle.workflow_cli.specs.Running.{IsIdle, Leaves, Main, Trace, flow_of, origin_of}
use Rattle.workflow_cli.specs.Stages.{HasStopped, RunsMain, main_with, stops}
use Rattle.workflow_cli.specs.Writing.{Finishes, Told}

-- ---- its own shelf, launcher and options

abbrev pub load_file : List ℕ
load_file = codes "load.wdl"

-- the document of n calls, and no other file
abbrev pub load_files : ℕ → List PathFile
load_files n = only_file load_file (load_text n)

abbrev pub load_tells : ℕ → Tells
load_tells n = alone load_file (load_text n)

abbrev pub load_refused : ℕ → List ℕ → Type 0
load_refused n = alone_refused load_file (load_text n)

-- what a launcher gives that has these rows, and what it refuses
abbrev pub table_gives : List TableRow → Request → Answer → Type 0
table_gives rows q a = Gives rows [] q.place q.attempt a

abbrev pub table_refuses : List TableRow → Request → Type 0
table_refuses rows q = Refuses rows [] q.place q.attempt

-- 4 workers and no journal
abbrev pub load_options : ℕ → RunOptions
load_options n = record { workers = 4; root = codes "/tmp/wdl-run"; journal = None; report = report.Load n }

-- ---- stages

-- the checked form of the document, or why there is none
abbrev pub Starts : ℕ → Result Prepared CommandStop → Type 0
Starts n r = (before : ℕ) × (now : ℕ) × Prepares (load_tells n) (load_refused n) (Rose before now) load_file None r

-- the run of its main workflow, by the rows of its calls
abbrev pub RunsLoad : ℕ → Trace → Main → Work → Type 0
RunsLoad n t m w =
    (IsIdle t × (w ≡ stops status.NoMemory))
    ⊎ ((rows : List TableRow) × AreLoadRows n rows × RunsMain (table_gives rows) (table_refuses rows) t m w)

pub record HasRunLoad (n : ℕ) (t : Trace) (w : Work) : Type 0 where
  pub checked : Checked
  pub given : List Bind
  pub prepared : IsPrepared (load_tells n) load_file None checked given
  pub ran : RunsLoad n t (main_with checked given (load_options n) prepared.fits.flow) w

-- The work of a load of n calls: as that of a run of its document, by 4 workers and without a journal, over a shelf that has the
-- document alone, and with a launcher that has the rows of the calls.
abbrev pub LoadsAs : ℕ → Trace → Work → Type 0
LoadsAs n t w = ((before : ℕ) × (now : ℕ) × HasStopped (load_tells n) (load_refused n) (Rose before now) load_file None t w) ⊎ HasRunLoad n t w

-- ---- how it ends

-- The journal is that of a run of the main workflow of the document's checked form, without inputs, by 4 workers and with the
-- answers of the table; the flow over it is within the limits and clean, and each expression was evaluated once at most. The text is
-- the line with the numbers of calls and of jobs, and the output of that flow.
pub record IsLoaded (n : ℕ) (t : Trace) (text : List ℕ) : Type 0 where
  pub rows : List TableRow
  pub of_calls : AreLoadRows n rows
  pub main : Main
  pub checked : HasChecked (load_tells n) load_file main.checked
  pub is_main : main_of main.checked.flows main.checked.main ≡ Some main.flow
  pub no_inputs : inputs_in main.checked.structs main.flow (codes "{}") ≡ Ok main.given
  pub options : main.options ≡ load_options n
  pub left : Leaves (table_gives rows) (table_refuses rows) t main None
  pub few : too_many (flow_of main t.journal) ≡ false
  pub clean : is_clean (flow_of main t.journal) ≡ true
  pub paid : t.now ≤ t.before + cost_at (origin_of main) t.journal
  pub line : text ≡ load_line n (length t.journal) (outputs_in main.checked (flow_of main t.journal))

-- with Ok that line was written, and nothing else
pub record IsLoadWritten (n : ℕ) (t : Trace) (out out' err err' : Told) : Type 0 where
  pub text : List ℕ
  pub loaded : IsLoaded n t text
  pub output : out' ≡ grown out text
  pub error : err' ≡ err

-- with each status: what the work of a load came to, and what was written of it
pub record LoadEnds (n : ℕ) (t : Trace) (out out' err err' : Told) (rose_out rose_err : Type 0) (r : Status) : Type 0 where
  pub work : Work
  pub came : LoadsAs n t work
  pub finished : Finishes work out out' err err' rose_out rose_err r
