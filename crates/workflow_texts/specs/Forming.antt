-- What is written of the inputs of a workflow.
use Rattle.std.specs.Prelude.{◌≡◌, ℕ, List, ◌++◌, codes}
use Rattle.report_text.specs.declared.status.Status.TheVariants as status
use Rattle.wdl_typed.specs.declared.checked.Checked.{Checked}
use Rattle.wdl_typed.specs.declared.flow.FlowDef.{FlowDef}
use Rattle.input_form.specs.Form.{IsForm}
use Rattle.workflow_stages.specs.declared.ended.Work.{Work}
use Rattle.workflow_stages.specs.declared.ended.Work.TheVariants as work
use Rattle.workflow_stages.specs.Documents.{HasMain, MainStops, Tells}

-- the form of a workflow's inputs, and a newline
pub record IsFormLine (f : FlowDef) (text : List ℕ) : Type 0 where
  pub form : List ℕ
  pub is_form : IsForm f form
  pub says : text ≡ form ++ codes "\n"

-- the form of the inputs of the main workflow of the document at a path, and a newline
pub record IsFormText (tells : Tells) (file text : List ℕ) : Type 0 where
  pub checked : Checked
  pub number : ℕ
  pub flow : FlowDef
  pub paths : List (List ℕ)
  pub source : HasMain tells file checked number flow paths
  pub line : IsFormLine flow text

abbrev pub FormWork : FlowDef → Work → Type 0
FormWork f (work.Text text) = IsFormLine f text
FormWork f (work.Stop stop) = stop.status ≡ status.NoMemory

abbrev pub WritesForm : Tells → (List ℕ → Type 0) → Type 0 → List ℕ → Work → Type 0
WritesForm tells refused rose file (work.Text text) = IsFormText tells file text
WritesForm tells refused rose file (work.Stop stop) = MainStops tells file refused rose stop.status stop.paths
