-- What is given for the main workflow of a lowered form, by the leaves of struct inputs and by the inputs of that workflow.
use Rattle.std.proofs.Common.{◌≡◌, true, false, List, map, Some, Ok, Contains, sym, ap, ◌∙◌, subst, refl}
use Rattle.std.specs.Str.{bytes_eq}
use Rattle.wdl_value.specs.declared.env.Bind.{Bind}
use Rattle.wdl_value.specs.declared.value.Value.{Value}
use Rattle.wdl_value.specs.Fits.{Structs}
use Rattle.wdl_typed.specs.declared.flow.FlowDef.{FlowDef}
use Rattle.wdl_typed.specs.declared.task.TInput.{TInput}
use Rattle.wdl_typed.specs.Bodies.{Library}
use Rattle.wdl_typed.specs.Declarations.{input_names, plain_key}
use Rattle.wdl_typed.specs.Evaluation.{Met}
use Rattle.wdl_typed.specs.Journal.{inputs_fit}
use Rattle.wdl_typed.specs.KnownTypes.{are_structs}
use Rattle.wdl_typed.specs.Lists.{are_distinct, has_name}
use Rattle.wdl_typed.specs.Scope.{lookup}
use Rattle.wdl_swaps.specs.Swaps.{swapped_input}
use Rattle.leaf_image.specs.declared.leaf.Leaf.{Leaf}
use Rattle.leaf_image.specs.Leaves.{is_record, leaves_of}
use Rattle.leaf_image.specs.Records.{all_inputs, is_record_of, leaf_input, swaps_of}
use Rattle.cwl_records.specs.Lowered.{record_leaf}
use Rattle.record_laws.specs.Given.{given_leaves}
use Rattle.record_laws.proofs.FlowFacts.{HasLeaves, IsFlow, has_leaves}
use Rattle.record_laws.proofs.Giving.{GivenAgrees, LeafGiven, given_agrees}
use Rattle.record_laws.proofs.LeafNames.{leaf_names}
use Rattle.record_laws.proofs.MainInputs.{alike_given}
use Rattle.record_laws.proofs.Places.{IsInput, members_differ}
use Rattle.wide_formed.specs.Forms.{leaf_value}
use Rattle.wide_formed.proofs.Elements.{same_bytes}
use Rattle.wide_formed.proofs.Givens.{AreLeaves, IsLeafGiven, are_leaves, binds, leaf_given, value_for}
use Rattle.wide_formed.proofs.Naming.{IsFrom, comes_from, leafy, plain}
use Rattle.lowering_laws.proofs.Inputs.{each_at}
use Rattle.lowering_laws.proofs.Lookups.{through_met}

ok_same : {x y : Value} → (let r : Met Value = Ok x in r ≡ Ok y) → x ≡ y
ok_same h = cc

module _ (lib : Library) (f : FlowDef) (ls : List Leaf) (known : are_structs lib.structs ≡ true) (flow : IsFlow lib f) (are : leaves_of lib.structs f ≡ Some ls) (differ : are_distinct (input_names f.inputs) ≡ true)
    (given : List Bind) (fit : inputs_fit lib.structs f.inputs given ≡ true) where
  abbrev structs : Structs
  structs = lib.structs

  abbrev now : List Bind
  now = given_leaves f.inputs ls given

  has : HasLeaves structs f ls
  has = has_leaves lib f ls (members_differ structs known) flow are

  leaves : AreLeaves structs f.inputs ls
  leaves = are_leaves structs f f.inputs ls refl are

  agree : GivenAgrees structs f.inputs ls given now
  agree = given_agrees structs f.inputs ls has.distinct has.of (alike_given structs f.inputs ls has.new_inputs given (binds structs f.inputs given differ fit))

  leaf_same : (j : TInput) (l : Leaf) → Contains f.inputs j → is_record j ≡ true → Contains ls l → bytes_eq l.input j.name ≡ true
      → lookup now (plain_key l.name) ≡ value_for structs (map record_leaf ls) given (leaf_input j.span l)
  leaf_same j l a r d e =
      let g : IsLeafGiven structs known f.inputs given differ fit ls leaves j l = leaf_given structs known f.inputs given differ fit ls leaves j l a r d e in
      let m = each_at (LeafGiven structs f.inputs ls given now) ls l d agree.leaves g.whole.value (ap (λ n. lookup given (plain_key n)) (same_bytes l.input j.name e) ∙ g.whole.given_is) in
      let same : m.1 ≡ g.value = ok_same (sym m.3 ∙ through_met l.path g.whole.value g.value g.at) in
      m.2 ∙ ap (λ (x : Value). Some x) same ∙ sym g.got

  plain_same : (j : TInput) → Contains f.inputs j → is_record j ≡ false → lookup now (plain_key j.name) ≡ value_for structs (map record_leaf ls) given (swapped_input (swaps_of ls) j)
  plain_same j a r =
      let own : is_record_of f.inputs j.name ≡ false = (each_at (IsInput f.inputs) f.inputs j a has.inputs).record_is ∙ r in
      let leaf : has_name j.name (leaf_names ls) ≡ false = each_at (λ (i : TInput). has_name i.name (leaf_names ls) ≡ false) f.inputs j a has.each_new in
      agree.others (plain_key j.name) own leaf ∙ sym (ap (leaf_value given j.name) (leaves.none j a))

  -- For each input of the lowered workflow the same is found.
  pub leaves_found : (i : TInput) → Contains (all_inputs ls f.inputs) i → lookup now (plain_key i.name) ≡ value_for structs (map record_leaf ls) given i
  leaves_found i c = by_source (comes_from ls f.inputs i c)
    where
      by_source : IsFrom ls f.inputs i → lookup now (plain_key i.name) ≡ value_for structs (map record_leaf ls) given i
      by_source (leafy j l a r d e q) = subst (λ (z : TInput). lookup now (plain_key z.name) ≡ value_for structs (map record_leaf ls) given z) q (leaf_same j l a r d e)
      by_source (plain j a r q) = subst (λ (z : TInput). lookup now (plain_key z.name) ≡ value_for structs (map record_leaf ls) given z) q (plain_same j a r)
