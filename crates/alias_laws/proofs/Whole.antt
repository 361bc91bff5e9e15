-- The law: the whole flow of a checked form, and that of the form without its aliases.
use Rattle.std.proofs.Common.{◌≡◌, ℕ, Bool, true, false, cond, ◌&&◌, List, [], ◌∷◌, map, Some, slice_get, arith, sym, ap, ◌∙◌, refl}
use Rattle.std.specs.List.{list_all}
use Rattle.std.proofs.lemmas.Bool.{and_from, and_parts}
use Rattle.wdl_value.specs.declared.env.Bind.{Bind}
use Rattle.wdl_value.specs.Fits.{Structs, fits}
use Rattle.wdl_value.specs.Limits.{is_within}
use Rattle.wdl_value.specs.Tables.{Row}
use Rattle.wdl_typed.specs.declared.flow.FlowDef.{FlowDef}
use Rattle.wdl_typed.specs.declared.task.TDecl.{TDecl}
use Rattle.wdl_typed.specs.declared.task.TInput.{TInput}
use Rattle.wdl_typed.specs.Bodies.{Library}
use Rattle.wdl_typed.specs.Declarations.{plain_key}
use Rattle.wdl_typed.specs.Flow.{Flowing, env_of, is_empty, known, value_in, whole}
use Rattle.wdl_typed.specs.Journal.{bind_fits, inputs_fit, is_given, keys, keys_distinct, value_fits}
use Rattle.wdl_typed.specs.Kept.{flow_typed, is_checked}
use Rattle.wdl_typed.specs.Scope.{same_key}
use Rattle.flow_laws.specs.Laws.{run_with}
use Rattle.flow_laws.proofs.Checked.{kept}
use Rattle.wdl_swaps.specs.declared.swap.Swap.{Swap}
use Rattle.wdl_swaps.specs.Swaps.{swapped_decl}
use Rattle.leaf_image.specs.Reached.{reached}
use Rattle.leaf_image.specs.Replaced.{are_checked, with_flows}
use Rattle.flow_soundness.specs.Readiness.{IsLibrary}
use Rattle.flow_soundness.proofs.FlowReady.{fit_are_given}
use Rattle.flow_soundness.proofs.FlowSound.{is_typed}
use Rattle.record_laws.proofs.Marks.{main_marked}
use Rattle.record_laws.proofs.Whole.{values_same}
use Rattle.cwl_records.specs.Aliases.{unaliased, walk_flow}
use Rattle.alias_laws.specs.Laws.{AliasesLowered, FilesKeepLimits, IsKept}
use Rattle.cwl_records.specs.Lowered.{unaliased_where, without_aliases}
use Rattle.alias_laws.proofs.Flows.{SameFlow, Standing, all_depths, now_is}
use Rattle.alias_laws.proofs.SameSteps.{Told}
use Rattle.alias_laws.proofs.Within.{all_within}
use Rattle.wdl_base.proofs.Options.{all_at}

-- ---- inputs that fit keep the limits

one_within : (structs : Structs) (is : List TInput) (b : Bind) → bind_fits structs is b ≡ true → is_within b.value ≡ true
one_within structs [] b h = absurd (cc)
one_within structs (i ∷ is) b h = by_key (same_key b.key (plain_key i.name)) h (one_within structs is b)
  where
    by_key : (t : Bool) → cond t (value_fits structs i.ty b.value) (bind_fits structs is b) ≡ true → (bind_fits structs is b ≡ true → is_within b.value ≡ true) → is_within b.value ≡ true
    by_key true h rest = (and_parts (fits structs b.value i.ty) (is_within b.value) h).1
    by_key false h rest = rest h

each_within : (structs : Structs) (is : List TInput) (given : List Bind) → list_all (bind_fits structs is) given ≡ true → all_within given
each_within structs is [] h = refl
each_within structs is (b ∷ given) h =
    let p = and_parts (bind_fits structs is b) (list_all (bind_fits structs is) given) h in
    and_from (is_within b.value) (list_all (λ (b : Bind). is_within b.value) given) (one_within structs is b p.0) (each_within structs is given p.1)

pub fit_within : (structs : Structs) (is : List TInput) (given : List Bind) → inputs_fit structs is given ≡ true → all_within given
fit_within structs is given h =
    let p = and_parts (keys_distinct (keys given) && list_all (bind_fits structs is) given) (list_all (is_given given) is) h in
    each_within structs is given (and_parts (keys_distinct (keys given)) (list_all (bind_fits structs is) given) p.0).1

-- ---- what is kept

is_kept : (ss : List Swap) (f g : FlowDef) (a b : Flowing) → g.outputs ≡ map (swapped_decl ss) f.outputs → SameFlow f.outputs a b → IsKept f g a b
is_kept ss f g a b e h = record {
  outputs = ap env_of (values_same ss a b f.outputs h.names) ∙ sym (ap (λ (ds : List TDecl). env_of (map (λ (d : TDecl). known d.name (value_in (plain_key d.name) b)) ds)) e);
  jobs = ap (λ (t : Told). t.jobs) h.told;
  codes = ap (λ (t : Told). t.codes) h.told;
  faults = ap (λ (t : Told). t.faults) h.told;
  waits = ap (λ (t : Told). t.waits) h.told;
  clean = ap (λ (t : Told). is_empty t.faults && is_empty t.waits) h.told;
}

itself : (f : FlowDef) (a : Flowing) → IsKept f f a a
itself f a = record { outputs = refl; jobs = refl; codes = refl; faults = refl; waits = refl; clean = refl }

-- ---- the law

module _ (lib : Library) (main : ℕ) (f : FlowDef) (given : List Bind) (site : List ℕ) (table : List Row) (checked : is_checked lib (Some main) ≡ true) (there : slice_get lib.flows main ≡ Some f)
    (fit : inputs_fit lib.structs f.inputs given ≡ true) (limits : FilesKeepLimits lib site table) where
  -- what is said of the workflows in their places
  abbrev Lowered : List FlowDef → Type 0
  Lowered flows =
      (g : FlowDef) × (slice_get flows main ≡ Some g) × (g.inputs ≡ f.inputs) × IsKept f g (whole (run_with lib site table) main given) (whole (run_with (with_flows lib flows) site table) main given)

  kept_lib : IsLibrary lib
  kept_lib = let k = kept lib (Some main) checked in record { tasks = k.tasks; flows = k.flows }

  lowered : (flows : List FlowDef) → flows ≡ unaliased_where lib lib.flows (reached lib.flows main) → is_checked (with_flows lib flows) (Some main) ≡ true → Lowered flows
  lowered flows are again =
      let again_all = (kept (with_flows lib flows) (Some main) again).flows in
      let typed = is_typed lib f (all_at (flow_typed lib) lib.flows main f kept_lib.flows there) in
      let stands : Standing lib main flows are kept_lib again_all site table limits main f =
      record { there = there; round_ = 0; levels = 24; below = omega arith; marked = main_marked lib.flows main f there; nests = typed.nested } in
      let a : Flowing = whole (run_with lib site table) main given in
      let b : Flowing = whole (run_with (with_flows lib flows) site table) main given in
      let same : SameFlow f.outputs a b =
      all_depths lib main flows are kept_lib again_all site table limits 25 main f stands given (fit_are_given lib.structs f.inputs given fit) (fit_within lib.structs f.inputs given fit) [] in (
        unaliased lib f,
        now_is lib main flows are kept_lib again_all site table limits main f stands,
        refl,
        is_kept (walk_flow lib f).added f (unaliased lib f) a b refl same,
      )

  by_check : (b : Bool) → are_checked lib main (unaliased_where lib lib.flows (reached lib.flows main)) ≡ b → Lowered (cond b (unaliased_where lib lib.flows (reached lib.flows main)) lib.flows)
  by_check true e = lowered (unaliased_where lib lib.flows (reached lib.flows main)) refl e
  by_check false e = (f, there, refl, itself f (whole (run_with lib site table) main given))

  pub main_lowered : Lowered (without_aliases lib main)
  unfolding without_aliases
  main_lowered = by_check (are_checked lib main (unaliased_where lib lib.flows (reached lib.flows main))) refl

pub aliases_lowered : AliasesLowered
aliases_lowered lib main f given site table checked there fit limits = main_lowered lib main f given site table checked there fit limits
