-- What the public call gives.
use Rattle.std.specs.Prelude.{◌≡◌, ℕ, Bool, map, true, false, List, Option, Some, None, Result, Ok, Err, if◌then◌else◌, slice_get}
use Rattle.wdl_base.specs.declared.entry.Entry.{Entry}
use Rattle.wdl_value.specs.declared.env.Bind.{Bind}
use Rattle.wdl_typed.specs.declared.checked.Checked.{Checked}
use Rattle.wdl_typed.specs.declared.flow.FlowDef.{FlowDef}
use Rattle.wdl_typed.specs.declared.success.Success.{Success}
use Rattle.wdl_typed.specs.declared.task.TDecl.{TDecl}
use Rattle.wdl_typed.specs.Bodies.{Library, library}
use Rattle.wdl_typed.specs.Declarations.{plain_key}
use Rattle.wdl_typed.specs.Flow as flow
use Rattle.wdl_typed.specs.Journal.{flow_over, inputs_fit}
use Rattle.wdl_typed.specs.Scope.{lookup}
use Rattle.wdl_typed.specs.Statuses.{successes_of}
use Rattle.wdl_plain.specs.declared.fault.PlainFault.{PlainFault}
use Rattle.wdl_plain.specs.declared.fault.PlainFault.TheVariants.{TooMany}
use Rattle.wdl_plain.specs.declared.job.AskedJob.{AskedJob}
use Rattle.wdl_plain.specs.declared.flow.Flow.{Flow}

abbrev pub library_of : Checked → Library
library_of c = library c.structs c.tasks c.flows

-- the outputs, where there are no faults and no waits
abbrev pub outputs_if_clean : flow.Flowing → FlowDef → Option (List Bind)
outputs_if_clean f main = if flow.is_clean f then Some (flow.outputs_of f main) else None

-- the same, by the names alone
abbrev pub outputs_where : Bool → List flow.Known → FlowDef → Option (List Bind)
outputs_where clean names main =
    if clean then Some (flow.env_of (map (λ (d : TDecl). flow.known d.name (lookup (flow.env_of names) (plain_key d.name))) main.outputs)) else None

-- which statuses are successes of a job
abbrev pub statuses_of : AskedJob → Success
statuses_of j = j.terms

-- what is shown of a flow
pub record IsShownAs (f : flow.Flowing) (main : FlowDef) (s : Flow) : Type 0 where
  pub known : s.known ≡ flow.env_of f.names
  pub jobs : s.jobs ≡ f.jobs
  pub codes : map successes_of s.terms ≡ f.codes
  pub faults : s.faults ≡ f.faults
  pub waits : s.waits ≡ f.waits
  pub outputs : s.outputs ≡ outputs_if_clean f main

-- the main workflow is there, and its inputs fit
pub record IsRunnable (c : Checked) (given : List Bind) : Type 0 where
  pub number : ℕ
  pub main : FlowDef
  pub is_main : c.main ≡ Some number
  pub is_there : slice_get c.flows number ≡ Some main
  pub fit : inputs_fit c.structs main.inputs given ≡ true

-- the flow of the main workflow, or its refusal where it is past a limit; nothing is said of want of memory
abbrev pub Shows : flow.Flowing → FlowDef → Result Flow PlainFault → Type 0
Shows f main (Ok s) = IsShownAs f main s × (flow.too_many f ≡ false)
Shows f main (Err e) = e ≡ TooMany → flow.too_many f ≡ true

abbrev pub IsShown : Checked → List Bind → List ℕ → List Entry → Result Flow PlainFault → Type 0
IsShown c given site journal result =
    (k : ℕ) (main : FlowDef) → c.main ≡ Some k → slice_get c.flows k ≡ Some main
    → Shows (flow_over (library_of c) k given site journal) main result
