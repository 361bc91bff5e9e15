-- The law: the whole flow of a checked form, and that of the form with leaves in the places of struct inputs.
use Rattle.std.proofs.Common.{◌≡◌, ℕ, ◌^◌, true, ◌&&◌, nat_lt, List, [], ◌∷◌, ◌++◌, map, Option, Some, slice_get, arith, sym, ap, ◌∙◌, subst, refl}
use Rattle.std.specs.List.{list_all}
use Rattle.std.proofs.lemmas.Bool.{and_from, and_parts}
use Rattle.wdl_base.specs.declared.fault.Fault.{Fault}
use Rattle.wdl_base.specs.declared.place.Segment.{Segment}
use Rattle.wdl_value.specs.declared.env.Bind.{Bind}
use Rattle.wdl_value.specs.declared.value.Value.{Value}
use Rattle.wdl_value.specs.Tables.{Row}
use Rattle.wdl_typed.specs.declared.flow.FlowDef.{FlowDef}
use Rattle.wdl_typed.specs.declared.task.TDecl.{TDecl}
use Rattle.wdl_typed.specs.Bodies.{Library, all_declared}
use Rattle.wdl_typed.specs.Declarations.{decl_names, input_names, plain_key, task_typed}
use Rattle.wdl_typed.specs.Flow.{Flowing, Known, env_of, is_empty, known, value_in, whole}
use Rattle.wdl_typed.specs.Journal.{bind_fits, inputs_fit, is_given, keys, keys_distinct}
use Rattle.wdl_typed.specs.Kept.{count, flow_typed, is_checked, main_is_there}
use Rattle.wdl_typed.specs.KnownTypes.{are_structs}
use Rattle.wdl_typed.specs.Lists.{are_distinct}
use Rattle.flow_laws.specs.Laws.{run_with}
use Rattle.flow_laws.proofs.Checked.{kept, names_left}
use Rattle.wdl_swaps.specs.declared.swap.Swap.{Swap}
use Rattle.wdl_swaps.specs.Swaps.{swapped_decl}
use Rattle.leaf_image.specs.declared.leaf.Leaf.{Leaf}
use Rattle.leaf_image.specs.Inside.{Each}
use Rattle.leaf_image.specs.Records.{all_inputs, expanded_flow, leaves_at, swaps_of}
use Rattle.leaf_image.specs.Replaced.{Replaced, with_flows}
use Rattle.record_laws.specs.Given.{given_leaves}
use Rattle.record_laws.specs.Laws.{IsKept, RecordsLowered}
use Rattle.record_laws.proofs.CallLaws.{SameFlow}
use Rattle.record_laws.proofs.FlowFacts.{HasLeaves, IsFlow, has_leaves, is_flow}
use Rattle.record_laws.proofs.Giving.{Alike, GivenAgrees, given_agrees}
use Rattle.record_laws.proofs.LeafInputs.{all_fit, all_given}
use Rattle.record_laws.proofs.LeafKeys.{all_distinct}
use Rattle.record_laws.proofs.Flows.{Standing, all_depths}
use Rattle.record_laws.proofs.MainInputs.{alike_given, present_given}
use Rattle.record_laws.proofs.Marks.{main_marked, marked_reached}
use Rattle.record_laws.proofs.Places.{MembersDiffer, all_inputs_found, members_differ}
use Rattle.record_laws.proofs.Tables.{At, IsReplaced, flow_at_mark, is_replaced}
use Rattle.wdl_base.proofs.Options.{all_at}

structs_kept : (lib : Library) (main : Option ℕ) → is_checked lib main ≡ true → are_structs lib.structs ≡ true
structs_kept lib main h =
    let tasks = list_all (task_typed lib.structs) lib.tasks in
    let flows = list_all (flow_typed lib) lib.flows in
    let a = and_parts (are_structs lib.structs && tasks && flows && main_is_there lib.flows main) (nat_lt (count lib) (2 ^ 32)) h in
    let b = and_parts (are_structs lib.structs && tasks && flows) (main_is_there lib.flows main) a.0 in
    let c = and_parts (are_structs lib.structs && tasks) flows b.0 in
    (and_parts (are_structs lib.structs) tasks c.0).0

-- ---- what is kept

pub values_same : (ss : List Swap) (a b : Flowing) (ds : List TDecl) → Each (λ (d : TDecl). value_in (plain_key d.name) a ≡ value_in (plain_key d.name) b) ds
    → map (λ (d : TDecl). known d.name (value_in (plain_key d.name) a)) ds ≡ map (λ (d : TDecl). known d.name (value_in (plain_key d.name) b)) (map (swapped_decl ss) ds)
values_same ss a b [] h = refl
values_same ss a b (d ∷ ds) h =
    ap (λ (o : Option Value). known d.name o ∷ map (λ (d : TDecl). known d.name (value_in (plain_key d.name) a)) ds) h.0
    ∙ ap (λ (ks : List Known). known d.name (value_in (plain_key d.name) b) ∷ ks) (values_same ss a b ds h.1)

is_kept : (lib : Library) (leaves : List (List Leaf)) (ls : List Leaf) (f : FlowDef) (a b : Flowing) → SameFlow f.outputs a b → IsKept f (expanded_flow lib.flows leaves ls f) a b
is_kept lib leaves ls f a b h = record {
  outputs = ap env_of (values_same (swaps_of ls) a b f.outputs h.names);
  jobs = h.jobs;
  codes = h.codes;
  faults = h.faults;
  waits = h.waits;
  count = h.count;
  clean = ap (λ (fs : List Fault). is_empty fs && is_empty a.waits) h.faults ∙ ap (λ (ws : List (List Segment)). is_empty b.faults && is_empty ws) h.waits;
}

-- ---- the law

module _ (lib : Library) (main : ℕ) (r : Replaced) (f : FlowDef) (replaced : IsReplaced lib main r) (typed_all : list_all (flow_typed lib) lib.flows ≡ true)
    (again_all : list_all (flow_typed (with_flows lib r.flows)) r.flows ≡ true) (structs_fine : are_structs lib.structs ≡ true) (there : slice_get lib.flows main ≡ Some f)
    (given : List Bind) (fit : inputs_fit lib.structs f.inputs given ≡ true) (site : List ℕ) (table : List Row) where
  flow_ok : IsFlow lib f
  flow_ok = is_flow lib f (all_at (flow_typed lib) lib.flows main f typed_all there)

  abbrev differ : MembersDiffer lib.structs
  differ = members_differ lib.structs structs_fine

  stands : Standing lib main r replaced typed_all again_all differ site table main f
  stands = record { there = there; round_ = 0; levels = 24; below = omega arith; marked = main_marked lib.flows main f there; nests = flow_ok.nests }

  abbrev at : At lib.structs lib.flows r.leaves r.leaves r.flows main f
  at = flow_at_mark lib main r replaced main f there (marked_reached lib.flows main 0 main (omega arith) (main_marked lib.flows main f there))

  has : HasLeaves lib.structs f at.own
  has = has_leaves lib f at.own differ flow_ok at.are

  abbrev leaves : List Bind
  leaves = given_leaves f.inputs (leaves_at (slice_get r.leaves main)) given

  own_is : leaves_at (slice_get r.leaves main) ≡ at.own
  own_is = ap leaves_at at.there

  each_fits : (list_all (bind_fits lib.structs f.inputs) given ≡ true) × (list_all (is_given given) f.inputs ≡ true)
  each_fits =
      let p = and_parts (keys_distinct (keys given) && list_all (bind_fits lib.structs f.inputs) given) (list_all (is_given given) f.inputs) fit in
      ((and_parts (keys_distinct (keys given)) (list_all (bind_fits lib.structs f.inputs) given) p.0).1, p.1)

  alike : Alike lib.structs f.inputs at.own given leaves
  alike =
      subst (λ (ls : List Leaf). Alike lib.structs f.inputs at.own given (given_leaves f.inputs ls given)) (sym own_is)
      (alike_given lib.structs f.inputs at.own has.new_inputs given each_fits.0)

  same : SameFlow f.outputs (whole (run_with lib site table) main given) (whole (run_with (with_flows lib r.flows) site table) main leaves)
  same =
      all_depths lib main r replaced typed_all again_all differ site table 25 main f stands at given leaves alike (present_given given f.inputs each_fits.1) []

  agree : GivenAgrees lib.structs f.inputs at.own given leaves
  agree = given_agrees lib.structs f.inputs at.own has.distinct has.of alike

  now_distinct : are_distinct (input_names (all_inputs at.own f.inputs)) ≡ true
  now_distinct =
      let now : FlowDef = expanded_flow lib.flows r.leaves at.own f in
      let n = (is_flow (with_flows lib r.flows) now (all_at (flow_typed (with_flows lib r.flows)) r.flows main now again_all at.now_is)).distinct in
      names_left (input_names now.inputs) (all_declared now.body) (names_left (input_names now.inputs ++ all_declared now.body) (decl_names now.outputs) n)

  leaves_fit : inputs_fit lib.structs (all_inputs at.own f.inputs) leaves ≡ true
  leaves_fit =
      let found = all_inputs_found (all_inputs at.own f.inputs) now_distinct in
      let differ_ : keys_distinct (keys given) ≡ true = (and_parts (keys_distinct (keys given)) (list_all (bind_fits lib.structs f.inputs) given) (and_parts (keys_distinct (keys given) && list_all (bind_fits lib.structs f.inputs) given) (list_all (is_given given) f.inputs) fit).0).0 in
      let on : List Leaf → List Bind = λ ls. given_leaves f.inputs ls given in
      and_from (keys_distinct (keys leaves) && list_all (bind_fits lib.structs (all_inputs at.own f.inputs)) leaves) (list_all (is_given leaves) (all_inputs at.own f.inputs))
      (and_from (keys_distinct (keys leaves)) (list_all (bind_fits lib.structs (all_inputs at.own f.inputs)) leaves)
      (ap (λ ls. keys_distinct (keys (on ls))) own_is ∙ all_distinct lib.structs f.inputs at.own has.distinct has.new_inputs given each_fits.0 differ_)
      (ap (λ ls. list_all (bind_fits lib.structs (all_inputs at.own f.inputs)) (on ls)) own_is ∙ all_fit lib.structs f.inputs at.own has.of found given each_fits.0))
      (all_given lib.structs f.inputs at.own has.of found given leaves agree (present_given given f.inputs each_fits.1) f.inputs has.inputs has.each_new each_fits.1)

  pub main_kept : (g : FlowDef) × (slice_get r.flows main ≡ Some g) × (inputs_fit lib.structs g.inputs leaves ≡ true) × IsKept f g (whole (run_with lib site table) main given) (whole (run_with (with_flows lib r.flows) site table) main leaves)
  main_kept = (expanded_flow lib.flows r.leaves at.own f, at.now_is, leaves_fit, is_kept lib r.leaves at.own f (whole (run_with lib site table) main given) (whole (run_with (with_flows lib r.flows) site table) main leaves) same)

pub records_lowered : RecordsLowered
records_lowered lib main r f given site table checked is there fit =
    let replaced = is_replaced lib main r is in
    main_kept lib main r f replaced (kept lib (Some main) checked).flows (kept (with_flows lib r.flows) (Some main) replaced.checked).flows (structs_kept lib (Some main) checked) there given fit site table
