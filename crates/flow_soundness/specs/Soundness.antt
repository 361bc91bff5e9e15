-- Soundness of flows: each name that is known has a value of its type.
use Rattle.std.specs.Prelude.{◌≡◌, ℕ, true, List, ◌++◌, Some, slice_get}
use Rattle.wdl_value.specs.declared.env.Bind.{Bind}
use Rattle.wdl_value.specs.Tables.{Row}
use Rattle.wdl_typed.specs.declared.flow.FlowDef.{FlowDef}
use Rattle.wdl_typed.specs.declared.scope.Bound.{Bound}
use Rattle.wdl_typed.specs.Bodies.{Library, Seen, body_gives}
use Rattle.wdl_typed.specs.Declarations.{decls_bound, inputs_bound}
use Rattle.wdl_typed.specs.Flow.{whole}
use Rattle.wdl_typed.specs.Journal.{inputs_fit}
use Rattle.wdl_typed.specs.Kept.{inputs_seen, is_checked}
use Rattle.flow_soundness.specs.Readiness.{Agrees}

-- the names of a workflow with their types, where its body gives out these
abbrev pub flow_types : FlowDef → Seen → List Bound
flow_types f s = (inputs_bound f.inputs ++ s.names) ++ decls_bound f.outputs

abbrev pub FlowsFit : Type 0
FlowsFit = (lib : Library) (k : ℕ) (f : FlowDef) (s : Seen) (given : List Bind) (site : List ℕ) (rows : List Row) → is_checked lib (Some k) ≡ true
    → slice_get lib.flows k ≡ Some f → body_gives lib f.body (inputs_seen f) ≡ Some s → inputs_fit lib.structs f.inputs given ≡ true
    → Agrees lib.structs (flow_types f s) (whole (record { library = lib; site = site; table = rows }) k given).names
