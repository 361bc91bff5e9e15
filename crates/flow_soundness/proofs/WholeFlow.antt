-- Soundness of the flow of the main workflow.
use Rattle.std.proofs.Common.{◌≡◌, ℕ, true, ◌&&◌, List, [], Option, Some, sym, ◌∙◌, subst, refl}
use Rattle.std.specs.List.{list_all, slice_get}
use Rattle.std.specs.Prelude.{nat_lt, ◌^◌}
use Rattle.std.proofs.lemmas.Bool.{and_parts}
use Rattle.wdl_value.specs.declared.env.Bind.{Bind}
use Rattle.wdl_typed.specs.declared.flow.FlowDef.{FlowDef}
use Rattle.wdl_typed.specs.Bodies.{Library, Seen}
use Rattle.wdl_typed.specs.Declarations.{task_typed}
use Rattle.wdl_typed.specs.Flow as flow
use Rattle.wdl_typed.specs.Flow.{Run, beginning, flow_run}
use Rattle.wdl_typed.specs.Journal.{inputs_fit}
use Rattle.wdl_typed.specs.Kept.{count, flow_typed, is_checked, main_is_there}
use Rattle.wdl_typed.specs.KnownTypes.{are_structs}
use Rattle.flow_soundness.specs.Readiness.{Agrees, IsFlowReady, IsLibrary}
use Rattle.flow_soundness.specs.Soundness.{FlowsFit, flow_types}
use Rattle.flow_soundness.proofs.FlowReady.{fit_are_given}
use Rattle.flow_soundness.proofs.FlowSound.{callees_sound, flow_agrees, is_typed}
use Rattle.wdl_base.proofs.Options.{all_at}

-- a checked form is a library of well-typed tasks and workflows
pub checked_library : (lib : Library) (main : Option ℕ) → is_checked lib main ≡ true → IsLibrary lib
checked_library lib main h =
    let a = and_parts (are_structs lib.structs && list_all (task_typed lib.structs) lib.tasks && list_all (flow_typed lib) lib.flows && main_is_there lib.flows main) (nat_lt (count lib) (2 ^ 32)) h in
    let b = and_parts (are_structs lib.structs && list_all (task_typed lib.structs) lib.tasks && list_all (flow_typed lib) lib.flows) (main_is_there lib.flows main) a.0 in
    let c = and_parts (are_structs lib.structs && list_all (task_typed lib.structs) lib.tasks) (list_all (flow_typed lib) lib.flows) b.0 in
    let d = and_parts (are_structs lib.structs) (list_all (task_typed lib.structs) lib.tasks) c.0 in
    record { tasks = d.1; flows = c.1 }

pub flows_fit : FlowsFit
flows_fit lib k f s given site rows checked there typed fit =
    let kept = checked_library lib (Some k) checked in
    let t = is_typed lib f (all_at (flow_typed lib) lib.flows k f kept.flows there) in
    let r : Run = record { library = lib; site = site; table = rows } in
    let same : t.given ≡ s = some_same (sym t.typed ∙ typed) in
    let agrees = flow_agrees lib f t r refl (flow.flow r 24) kept (callees_sound r kept 24) given (fit_are_given lib.structs f.inputs given fit) [] in
    subst (λ (o : Option FlowDef). Agrees lib.structs (flow_types f s) (flow.flow_at r (flow.flow r 24) o given []).names) (sym there)
    (subst (λ (z : Seen). Agrees lib.structs (flow_types f z) (flow_run r (flow.flow r 24) f given (beginning [])).names) same agrees)
  where
    some_same : {a b : Seen} → (let o : Option Seen = Some a in o ≡ Some b) → a ≡ b
    some_same h = cc

-- The main workflow is ready.
pub main_ready : (lib : Library) (k : ℕ) (given : List Bind) → is_checked lib (Some k) ≡ true
    → ((f : FlowDef) → slice_get lib.flows k ≡ Some f → inputs_fit lib.structs f.inputs given ≡ true) → IsFlowReady lib 24 k given
main_ready lib k given checked fit =
    let kept = checked_library lib (Some k) checked in
    record {
      library = kept;
      nested = λ f there. (is_typed lib f (all_at (flow_typed lib) lib.flows k f kept.flows there)).nested;
      fit = λ f there. fit_are_given lib.structs f.inputs given (fit f there);
    }
