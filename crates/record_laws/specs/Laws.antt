-- The law of struct inputs that are replaced by their leaves.
use Rattle.std.specs.Prelude.{◌≡◌, ℕ, true, List, Some, slice_get}
use Rattle.wdl_value.specs.declared.env.Bind.{Bind}
use Rattle.wdl_value.specs.Tables.{Row}
use Rattle.wdl_typed.specs.declared.flow.FlowDef.{FlowDef}
use Rattle.wdl_typed.specs.Bodies.{Library}
use Rattle.wdl_typed.specs.Flow.{Flowing, is_clean, outputs_of, whole}
use Rattle.wdl_typed.specs.Journal.{inputs_fit}
use Rattle.wdl_typed.specs.Kept.{is_checked}
use Rattle.flow_laws.specs.Laws.{run_with}
use Rattle.leaf_image.specs.Records.{leaves_at}
use Rattle.leaf_image.specs.Replaced.{Replaced, with_flows, with_leaves}
use Rattle.record_laws.specs.Given.{given_leaves}

-- The flows of a workflow and of what stands in its place have the same outputs, jobs, faults and waits, and count the same
-- statements; so one is clean exactly where the other is.
pub record IsKept (f g : FlowDef) (a b : Flowing) : Type 0 where
  pub outputs : outputs_of a f ≡ outputs_of b g
  pub jobs : a.jobs ≡ b.jobs
  pub codes : a.codes ≡ b.codes
  pub faults : a.faults ≡ b.faults
  pub waits : a.waits ≡ b.waits
  pub count : a.count ≡ b.count
  pub clean : is_clean a ≡ is_clean b

-- For a checked form whose struct inputs are replaced, and inputs that fit, their leaves fit what stands in the place of the
-- main workflow; and for any site and any table of answers its flow over the leaves is as that of the main workflow over the
-- inputs.
abbrev pub RecordsLowered : Type 0
RecordsLowered =
    (lib : Library) (main : ℕ) (r : Replaced) (f : FlowDef) (given : List Bind) (site : List ℕ) (table : List Row) → is_checked lib (Some main) ≡ true
    → with_leaves lib main ≡ Some r → slice_get lib.flows main ≡ Some f → inputs_fit lib.structs f.inputs given ≡ true
    → (g : FlowDef) × (slice_get r.flows main ≡ Some g)
    × (inputs_fit lib.structs g.inputs (given_leaves f.inputs (leaves_at (slice_get r.leaves main)) given) ≡ true)
    × IsKept f g (whole (run_with lib site table) main given)
    (whole (run_with (with_flows lib r.flows) site table) main (given_leaves f.inputs (leaves_at (slice_get r.leaves main)) given))
