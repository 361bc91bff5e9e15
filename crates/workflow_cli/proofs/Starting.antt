-- A run that begins.
use Rattle.std.specs.Prelude.{String}
use Rattle.std.specs.declared.alloc.Global.{Global}
use Rattle.std.proofs.Common.{◌≡◌, true, ℕ, List, [], Option, Some, None, IsSome, slice_get, ap, sym, subst, ◌∙◌}
use Rattle.std.proofs.lemmas.Option.{same_Some}
use Rattle.wdl_value.specs.declared.env.Bind.{Bind}
use Rattle.wdl_typed.specs.declared.checked.Checked.{Checked}
use Rattle.wdl_typed.specs.declared.flow.FlowDef.{FlowDef}
use Rattle.wdl_typed.specs.Journal.{inputs_fit}
use Rattle.wdl_json.specs.Inputs.{main_of}
use Rattle.ready_core.specs.Cores.{CoreState, started}
use Rattle.report_text.specs.declared.status.Status.{Status}
use Rattle.work_desk.specs.declared.stop.Stop.{Stop as Why}
use Rattle.workflow_stages.specs.declared.ended.CommandStop.{CommandStop}
use Rattle.workflow_stages.specs.declared.ended.Work.{Work}
use Rattle.workflow_stages.specs.declared.ended.Work.TheVariants as work
use Rattle.workflow_cli.specs.declared.asking.Report.{Report}
use Rattle.workflow_cli.specs.Stages.{IsBegun, IsFitting, StopsAs, Turns, stops}
use Rattle.workflow_stages.proofs.Started.{has_number, is_numbered}

module _ (c : Checked) (given : List Bind) where
  pub has_main : (f : FlowDef) × IsFitting c given f → IsSome c.main
  has_main h = let n = has_number c.flows c.main h.0 h.1.main in is_numbered c.main n.0 n.1

  pub fits_main : (f : FlowDef) × IsFitting c given f → (k : ℕ) (main : FlowDef) → c.main ≡ Some k → slice_get c.flows k ≡ Some main
      → inputs_fit c.structs main.inputs given ≡ true
  fits_main h k main e s =
      let same : Some h.0 ≡ Some main = sym h.1.main ∙ ap (main_of c.flows) e ∙ s in
      subst (λ (x : FlowDef). inputs_fit c.structs x.inputs given ≡ true) (same_Some _ _ same) h.1.fit

  pub begun_is : (site : List ℕ) (main : FlowDef) (core : CoreState) (name : List ℕ) → main_of c.flows c.main ≡ Some main
      → core ≡ started (record { checked = c; inputs = given; site = site }) core.plan → name ≡ main.name
      → (f : FlowDef) → IsFitting c given f → IsBegun c given site f (record { core = core; name = name })
  begun_is site main core name m e n f fit = record { core = e; name = n ∙ ap (λ (x : FlowDef). x.name) (same_Some _ _ (sym m ∙ fit.main)) }

-- the work of a stop that names no document
pub stop_is : (st : CommandStop) (s : Status) → st.status ≡ s → st.paths ≡ [] → st.note ≡ None → work.Stop st ≡ stops s
stop_is st s e p n = ap (λ x. make x st.paths st.note) e ∙ ap (λ x. make s x st.note) p ∙ ap (make s []) n
  where
    make : Status → List (List ℕ) → Option (String Global) → Work
    make x ps note = work.Stop (record { status = x; paths = ps; note = note })

pub stop_turns : (r : Report) (name : List ℕ) (core : CoreState) (why : Why) (st : CommandStop) (s : Status) → st.status ≡ s → st.paths ≡ [] → st.note ≡ None → StopsAs core why s
    → Turns r name core (Some why) (work.Stop st)
stop_turns r name core why st s e p n h = (s, stop_is st s e p n, h)
