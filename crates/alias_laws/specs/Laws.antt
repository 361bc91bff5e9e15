-- The laws of lowering: of declarations that only give another name to a value, and of these and struct inputs together.
use Rattle.std.specs.Prelude.{◌≡◌, ℕ, Bool, true, List, Option, Some, None, Ok, slice_get}
use Rattle.std.specs.List.{list_all}
use Rattle.wdl_base.specs.declared.answer.Answer.{Answer}
use Rattle.wdl_base.specs.declared.place.Segment.{Segment}
use Rattle.wdl_value.specs.declared.env.Bind.{Bind}
use Rattle.wdl_value.specs.declared.value.Value.{Value, Value-F, out-Value}
use Rattle.wdl_value.specs.declared.value.Value.TheOpen as value
use Rattle.wdl_value.specs.Limits.{is_within}
use Rattle.wdl_value.specs.Tables.{Row, answer_at}
use Rattle.wdl_typed.specs.declared.flow.FlowDef.{FlowDef}
use Rattle.wdl_typed.specs.declared.task.TaskDef.{TaskDef}
use Rattle.wdl_typed.specs.declared.task.TInput.{TInput}
use Rattle.wdl_typed.specs.Bodies.{Library}
use Rattle.wdl_typed.specs.Flow.{Flowing, is_clean, outputs_of, whole}
use Rattle.wdl_typed.specs.Journal.{inputs_fit}
use Rattle.wdl_typed.specs.Kept.{is_checked}
use Rattle.wdl_typed.specs.Requests.{Asked, asks, job_dir, tells}
use Rattle.flow_laws.specs.Laws.{run_with}
use Rattle.leaf_image.specs.Records.{leaves_at}
use Rattle.leaf_image.specs.Replaced.{Replaced, with_flows, with_leaves}
use Rattle.record_laws.specs.Given.{given_leaves}
use Rattle.cwl_records.specs.Lowered.{lowered, without_aliases}

abbrev pub file_within : Value → Value-F Value → Bool
file_within x (value.File s) = is_within x
file_within x other = true

-- The value keeps the limits of values if it is a file.
abbrev pub file_keeps : Value → Bool
file_keeps x = file_within x (out-Value x)

-- The files that the answers tell of as outputs of tasks keep the limits of values. (A file of a job has the job's directory in front of its
-- name only once its limits were asked, so it is past them where its path has more than 4,194,303 bytes.)
abbrev pub FilesKeepLimits : Library → List ℕ → List Row → Type 0
FilesKeepLimits lib site table =
    (k : ℕ) (t : TaskDef) (args : List Bind) (a : Asked) (place : List Segment) (attempt : ℕ) (answer : Answer) (outs : List Bind) → slice_get lib.tasks k ≡ Some t
    → asks t args ≡ Ok a → answer_at table place attempt ≡ Some answer → tells lib.structs t a (job_dir site place attempt) answer ≡ Ok outs
    → list_all (λ (b : Bind). file_keeps b.value) outs ≡ true

-- The flows of a workflow and of what stands in its place have the same outputs, jobs, faults and waits; so one is clean exactly where
-- the other is. (Declarations that went are not counted.)
pub record IsKept (f g : FlowDef) (a b : Flowing) : Type 0 where
  pub outputs : outputs_of a f ≡ outputs_of b g
  pub jobs : a.jobs ≡ b.jobs
  pub codes : a.codes ≡ b.codes
  pub faults : a.faults ≡ b.faults
  pub waits : a.waits ≡ b.waits
  pub clean : is_clean a ≡ is_clean b

-- ---- aliases

-- For a checked form, inputs that fit, any site, and any table of answers whose files keep the limits, the workflow that stands in
-- the place of main has main's inputs, and its flow over them is as that of main.
abbrev pub AliasesLowered : Type 0
AliasesLowered =
    (lib : Library) (main : ℕ) (f : FlowDef) (given : List Bind) (site : List ℕ) (table : List Row) → is_checked lib (Some main) ≡ true
    → slice_get lib.flows main ≡ Some f → inputs_fit lib.structs f.inputs given ≡ true → FilesKeepLimits lib site table
    → (g : FlowDef) × (slice_get (without_aliases lib main) main ≡ Some g) × (g.inputs ≡ f.inputs)
    × IsKept f g (whole (run_with lib site table) main given) (whole (run_with (with_flows lib (without_aliases lib main)) site table) main given)

-- ---- the whole

abbrev pub given_by : Option Replaced → ℕ → List TInput → List Bind → List Bind
given_by None main is given = given
given_by (Some r) main is given = given_leaves is (leaves_at (slice_get r.leaves main)) given

-- what is given for the main workflow of the lowered form: leaves for struct inputs, where these were replaced
abbrev pub leaves_given : Library → ℕ → List TInput → List Bind → List Bind
leaves_given lib main = given_by (with_leaves (with_flows lib (without_aliases lib main)) main) main

-- For a checked form, inputs that fit, any site, and any table of answers whose files keep the limits, the leaves of these inputs fit
-- the main workflow of the lowered form, and its flow over them is as that of the form over the inputs.
abbrev pub FormsLowered : Type 0
FormsLowered =
    (lib : Library) (main : ℕ) (f : FlowDef) (given : List Bind) (site : List ℕ) (table : List Row) → is_checked lib (Some main) ≡ true
    → slice_get lib.flows main ≡ Some f → inputs_fit lib.structs f.inputs given ≡ true → FilesKeepLimits lib site table
    → (g : FlowDef) × (slice_get (lowered lib main).flows main ≡ Some g)
    × (inputs_fit lib.structs g.inputs (leaves_given lib main f.inputs given) ≡ true)
    × IsKept f g (whole (run_with lib site table) main given)
    (whole (run_with (with_flows lib (lowered lib main).flows) site table) main (leaves_given lib main f.inputs given))
