-- The law of lowering: aliases go first, and then leaves stand in the places of struct inputs.
use Rattle.std.proofs.Common.{◌≡◌, ℕ, Bool, true, false, cond, List, Option, Some, None, slice_get, ap, ◌∙◌, subst, refl}
use Rattle.wdl_value.specs.declared.env.Bind.{Bind}
use Rattle.wdl_value.specs.Tables.{Row}
use Rattle.wdl_typed.specs.declared.flow.FlowDef.{FlowDef}
use Rattle.wdl_typed.specs.declared.task.TInput.{TInput}
use Rattle.wdl_typed.specs.Bodies.{Library}
use Rattle.wdl_typed.specs.Flow.{Flowing, whole}
use Rattle.wdl_typed.specs.Journal.{inputs_fit}
use Rattle.wdl_typed.specs.Kept.{is_checked}
use Rattle.flow_laws.specs.Laws.{run_with}
use Rattle.leaf_image.specs.Reached.{reached}
use Rattle.leaf_image.specs.Records.{inputs_at, leaves_at}
use Rattle.leaf_image.specs.Replaced.{Replaced, are_checked, with_flows, with_leaves}
use Rattle.record_laws.specs.Given.{given_leaves}
use Rattle.record_laws.specs.Laws.{IsKept as RecordsKept}
use Rattle.record_laws.proofs.Whole.{records_lowered}
use Rattle.alias_laws.specs.Laws.{FilesKeepLimits, FormsLowered, IsKept, given_by}
use Rattle.cwl_records.specs.Lowered.{lowered_by, unaliased_where, without_aliases}
use Rattle.alias_laws.proofs.Whole.{aliases_lowered}

-- ---- what is kept twice

kept_twice : (f g h : FlowDef) (a b c : Flowing) → IsKept f g a b → RecordsKept g h b c → IsKept f h a c
kept_twice f g h a b c k l = record {
  outputs = k.outputs ∙ l.outputs;
  jobs = k.jobs ∙ l.jobs;
  codes = k.codes ∙ l.codes;
  faults = k.faults ∙ l.faults;
  waits = k.waits ∙ l.waits;
  clean = k.clean ∙ l.clean;
}

-- ---- without aliases the form is checked

or_checked : (lib : Library) (main : ℕ) (fs : List FlowDef) → is_checked lib (Some main) ≡ true → (b : Bool) → are_checked lib main fs ≡ b → are_checked lib main (cond b fs lib.flows) ≡ true
or_checked lib main fs h true e = e
or_checked lib main fs h false e = h

pub still_checked : (lib : Library) (main : ℕ) → is_checked lib (Some main) ≡ true → are_checked lib main (without_aliases lib main) ≡ true
unfolding without_aliases
still_checked lib main h =
    or_checked lib main (unaliased_where lib lib.flows (reached lib.flows main)) h (are_checked lib main (unaliased_where lib lib.flows (reached lib.flows main))) refl

-- ---- the law

module _ (lib : Library) (main : ℕ) (f : FlowDef) (given : List Bind) (site : List ℕ) (table : List Row) (checked : is_checked lib (Some main) ≡ true) (there : slice_get lib.flows main ≡ Some f)
    (fit : inputs_fit lib.structs f.inputs given ≡ true) (limits : FilesKeepLimits lib site table) where
  abbrev plain_flows : List FlowDef
  plain_flows = without_aliases lib main

  abbrev plain_lib : Library
  plain_lib = with_flows lib plain_flows

  -- what is said of the workflows that are made
  abbrev Kept : List FlowDef → List Bind → Type 0
  Kept flows now =
      (g : FlowDef) × (slice_get flows main ≡ Some g) × (inputs_fit lib.structs g.inputs now ≡ true)
      × IsKept f g (whole (run_with lib site table) main given) (whole (run_with (with_flows lib flows) site table) main now)

  by_leaves : (o : Option Replaced) → with_leaves plain_lib main ≡ o → Kept (lowered_by plain_flows main (inputs_at (slice_get lib.flows main)) o).flows (given_by o main f.inputs given)
  by_leaves None e =
      let a = aliases_lowered lib main f given site table checked there fit limits in
      (a.0, a.1, ap (λ (is : List TInput). inputs_fit lib.structs is given) a.2 ∙ fit, a.3)
  by_leaves (Some r) e =
      let a = aliases_lowered lib main f given site table checked there fit limits in
      let b = records_lowered plain_lib main r a.0 given site table (still_checked lib main checked) e a.1 (ap (λ (is : List TInput). inputs_fit lib.structs is given) a.2 ∙ fit) in
      subst (λ (is : List TInput). Kept r.flows (given_leaves is (leaves_at (slice_get r.leaves main)) given)) a.2 (
        b.0,
        b.1,
        b.2,
        kept_twice f a.0 b.0 (whole (run_with lib site table) main given) (whole (run_with plain_lib site table) main given)
            (whole (run_with (with_flows lib r.flows) site table) main (given_leaves a.0.inputs (leaves_at (slice_get r.leaves main)) given)) a.3 b.3,
      )

pub forms_lowered : FormsLowered
forms_lowered lib main f given site table checked there fit limits =
    by_leaves lib main f given site table checked there fit limits (with_leaves (with_flows lib (without_aliases lib main)) main) refl
