-- The flow of the main workflow of a checked library over a journal.
use Rattle.std.specs.Prelude.{ℕ, Bool, List, [], Option, Some, None, if◌then◌else◌, option_and_then, slice_get}
use Rattle.wdl_base.specs.declared.entry.Entry.{Entry}
use Rattle.wdl_value.specs.declared.env.Bind.{Bind}
use Rattle.wdl_typed.specs.declared.checked.Checked.{Checked}
use Rattle.wdl_typed.specs.declared.flow.FlowDef.{FlowDef}
use Rattle.wdl_typed.specs.Bodies.{Library}
use Rattle.wdl_typed.specs.Flow.{Flowing, nothing, is_clean, outputs_of, too_many}
use Rattle.wdl_typed.specs.Journal.{fed_after, flow_over}
use Rattle.scatter_plan.specs.Plans.{library_in}

abbrev pub flow_in : Library → Option ℕ → List Bind → List ℕ → List Entry → Flowing
flow_in lib None given site journal = nothing
flow_in lib (Some k) given site journal = flow_over lib k given site journal

-- the flow of the main workflow for these inputs, below this site
unfoldable pub flow_after : Checked → List Bind → List ℕ → List Entry → Flowing
flow_after c given site journal = flow_in (library_in c) c.main given site journal

-- Each entry's request is a job of the flow over the entries before it, and its place with its attempt is new.
abbrev pub is_fed : Checked → List Bind → List ℕ → List Entry → Bool
is_fed c given site journal = fed_after (flow_after c given site) [] journal

abbrev pub main_of : Checked → Option FlowDef
main_of c = option_and_then (slice_get c.flows) c.main

abbrev pub outputs_with : Flowing → Option FlowDef → List Bind
outputs_with f None = []
outputs_with f (Some main) = outputs_of f main

-- the outputs of the main workflow, by what the flow gives
abbrev pub outputs_in : Checked → Flowing → List Bind
outputs_in c f = outputs_with f (main_of c)

-- the same, where there are no faults and no waits
abbrev pub outputs_if_clean : Checked → Flowing → Option (List Bind)
outputs_if_clean c f = if is_clean f then Some (outputs_in c f) else None

-- the outputs, where the flow is within the limits and clean
abbrev pub outcome_of : Checked → Flowing → Option (List Bind)
outcome_of c f = if too_many f then None else outputs_if_clean c f
