-- What is written for a checked form means what the flow of the form gives.
use Rattle.std.proofs.Common.{◌≡◌, ℕ, true, List, [], map, Option, Some, None, Contains, slice_get, arith, sym, ap, ◌∙◌, subst, refl}
use Rattle.std.proofs.lemmas.Option.{same_Some}
use Rattle.wdl_value.specs.declared.env.Bind.{Bind}
use Rattle.wdl_value.specs.Tables.{Row}
use Rattle.wdl_typed.specs.declared.flow.FlowDef.{FlowDef}
use Rattle.wdl_typed.specs.declared.task.TInput.{TInput}
use Rattle.wdl_typed.specs.Bodies.{Library}
use Rattle.wdl_typed.specs.Declarations.{plain_key}
use Rattle.wdl_typed.specs.Flow.{Flowing, whole}
use Rattle.wdl_typed.specs.Journal.{inputs_fit}
use Rattle.wdl_typed.specs.Kept.{flow_typed, is_checked}
use Rattle.wdl_typed.specs.Scope.{lookup}
use Rattle.flow_laws.specs.Laws.{run_with}
use Rattle.flow_laws.proofs.Checked.{kept}
use Rattle.cwl_model.specs.Means.{Meaning}
use Rattle.cwl_image.specs.Named.{names_are_names}
use Rattle.cwl_image.specs.Subset.{in_subset}
use Rattle.cwl_laws.specs.Laws.{job_of}
use Rattle.cwl_laws.specs.Simulation.{IsMeant, object_of}
use Rattle.cwl_laws.specs.Tools.{AreStatuses}
use Rattle.leaf_image.specs.declared.leaf.Leaf.{Leaf}
use Rattle.leaf_image.specs.Records.{expanded_flow, inputs_at, leaves_at}
use Rattle.leaf_image.specs.Replaced.{Replaced, with_flows, with_leaves}
use Rattle.record_laws.specs.Given.{given_leaves}
use Rattle.record_laws.proofs.FlowFacts.{is_flow}
use Rattle.record_laws.proofs.Marks.{main_marked, marked_reached}
use Rattle.record_laws.proofs.Tables.{flow_at_mark, is_replaced}
use Rattle.cwl_records.specs.Lowered.{Lowered, lowered_by, record_leaf, without_aliases}
use Rattle.wide_formed.specs.Forms.{leaf_value, lowered_given, lowered_means, lowering}
use Rattle.wide_formed.proofs.Givens.{found}
use Rattle.wide_formed.proofs.Mains.{inputs_differ, lowered_main, structs_kept}
use Rattle.wide_formed.proofs.Meant.{lowered_simulates}
use Rattle.cwl_records.specs.Wrapping.{leaf_named}
use Rattle.alias_laws.specs.Laws.{FilesKeepLimits, IsKept, given_by, leaves_given}
use Rattle.alias_laws.proofs.Lowering.{forms_lowered, still_checked}
use Rattle.alias_laws.proofs.Whole.{aliases_lowered}
use Rattle.lowering_laws.specs.Laws.{FormsSimulate}
use Rattle.lowering_laws.proofs.Givens.{leaves_found}
use Rattle.lowering_laws.proofs.Inputs.{flow_same}
use Rattle.wdl_base.proofs.Options.{all_at}

-- What means what the one flow gives means what the other one does.
meant_twice : (f g : FlowDef) (a b : Flowing) (m : Meaning) → IsKept f g a b → IsMeant g b m → IsMeant f a m
meant_twice f g a b m k h = record {
  clean = k.clean ∙ h.clean;
  jobs = λ c. ap (map job_of) k.jobs ∙ h.jobs (sym k.clean ∙ c);
  outputs = λ c. h.outputs (sym k.clean ∙ c) ∙ ap (λ (bs : List Bind). Some (object_of bs)) (sym k.outputs);
}

module _ (lib : Library) (main : ℕ) (f : FlowDef) (given : List Bind) (site : List ℕ) (table : List Row) (checked : is_checked lib (Some main) ≡ true) (there : slice_get lib.flows main ≡ Some f)
    (fit : inputs_fit lib.structs f.inputs given ≡ true) (limits : FilesKeepLimits lib site table) where
  abbrev plain_flows : List FlowDef
  plain_flows = without_aliases lib main

  abbrev plain_lib : Library
  plain_lib = with_flows lib plain_flows

  abbrev form : Option Replaced → Lowered
  form o = lowered_by plain_flows main (inputs_at (slice_get lib.flows main)) o

  -- for each input of the lowered workflow the same is given
  abbrev SameGiven : Option Replaced → Type 0
  SameGiven o =
      (g : FlowDef) → slice_get (form o).flows main ≡ Some g → (i : TInput) → Contains g.inputs i → lookup (given_by o main f.inputs given) (plain_key i.name) ≡ leaf_value given i.name (leaf_named (form o).records i.name)

  replaced_same : (r : Replaced) → with_leaves plain_lib main ≡ Some r → (p : FlowDef) → slice_get plain_flows main ≡ Some p → p.inputs ≡ f.inputs → SameGiven (Some r)
  replaced_same r e p at same g there_g i c =
      let again = still_checked lib main checked in
      let a = flow_at_mark plain_lib main r (is_replaced plain_lib main r e) main p at (marked_reached plain_flows main 0 main (omega arith) (main_marked plain_flows main p at)) in
      let own : leaves_at (slice_get r.leaves main) ≡ a.own = ap leaves_at a.there in
      let typed = is_flow plain_lib p (all_at (flow_typed plain_lib) plain_flows main p (kept plain_lib (Some main) again).flows at) in
      let is_g : expanded_flow plain_flows r.leaves a.own p ≡ g = same_Some _ _ (sym a.now_is ∙ there_g) in
      let fit_p = ap (λ (is : List TInput). inputs_fit lib.structs is given) same ∙ fit in
      let l = leaves_found plain_lib p a.own (structs_kept lib (Some main) checked) typed a.are (inputs_differ plain_lib main p again at) given fit_p i (subst (λ (z : FlowDef). Contains z.inputs i) (sym is_g) c) in
      ap (λ (is : List TInput). lookup (given_leaves is (leaves_at (slice_get r.leaves main)) given) (plain_key i.name)) (sym same)
      ∙ ap (λ (ls : List Leaf). lookup (given_leaves p.inputs ls given) (plain_key i.name)) own ∙ l
      ∙ sym (ap (λ (ls : List Leaf). leaf_value given i.name (leaf_named (map record_leaf ls) i.name)) own)

  same_given : (o : Option Replaced) → with_leaves plain_lib main ≡ o → SameGiven o
  same_given None e = λ g there_g i c. refl
  same_given (Some r) e =
      let a = aliases_lowered lib main f given site table checked there fit limits in
      replaced_same r e a.0 a.1 a.2

  pub form_simulated : in_subset (lowering lib main).lib main ≡ true → names_are_names (lowering lib main).lib ≡ true → AreStatuses table
      → IsMeant f (whole (record { library = lib; site = site; table = table }) main given) (lowered_means (record { site = site; table = table }) (lowering lib main) main (object_of given))
  form_simulated subset names statuses =
      let low : Library = (lowering lib main).lib in
      let k = forms_lowered lib main f given site table checked there fit limits in
      let g : FlowDef = k.0 in
      let m = lowered_simulates lib main f given site table checked subset names there fit statuses in
      let is_g : m.flow ≡ g = same_Some _ _ (sym m.main_is ∙ k.1) in
      let again : is_checked low (Some main) ≡ true = (lowered_main lib main f checked there).checked in
      let distinct = inputs_differ low main g again k.1 in
      let records = (lowering lib main).records in
      let found_same = λ (i : TInput) (c : Contains g.inputs i). same_given (with_leaves plain_lib main) refl g k.1 i c ∙ sym (found lib.structs records given g.inputs distinct i c) in
      let same : whole (run_with low site table) main (leaves_given lib main f.inputs given) ≡ whole (run_with low site table) main (lowered_given records given g.inputs) =
      flow_same (run_with low site table) main g (leaves_given lib main f.inputs given) (lowered_given records given g.inputs) k.1 found_same 25 [] in
      let meant = subst (λ (z : FlowDef). IsMeant z (whole (run_with low site table) main (lowered_given records given z.inputs)) (lowered_means (record { site = site; table = table }) (lowering lib main) main (object_of given))) is_g m.meant in
      meant_twice f g (whole (run_with lib site table) main given) (whole (run_with low site table) main (leaves_given lib main f.inputs given)) (lowered_means (record { site = site; table = table }) (lowering lib main) main (object_of given)) k.3
      (subst (λ (z : Flowing). IsMeant g z (lowered_means (record { site = site; table = table }) (lowering lib main) main (object_of given))) (sym same) meant)

pub forms_simulated : FormsSimulate
forms_simulated lib main f given site table checked subset names there fit statuses limits = form_simulated lib main f given site table checked there fit limits subset names statuses
