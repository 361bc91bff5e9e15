-- What is written for inputs without structs reads as these inputs.
use Rattle.std.proofs.Common.{◌≡◌, ℕ, ◌⊎◌, inl, inr, Bool, false, cond, List, [], ◌∷◌, ◌++◌, map, Result, Contains, refl, ap, ◌∙◌, subst}
use Rattle.std.specs.List.{list_any}
use Rattle.std.proofs.lemmas.Bool.{or_parts}
use Rattle.wdl_value.specs.declared.env.Bind.{Bind}
use Rattle.wdl_typed.specs.declared.task.TInput.{TInput}
use Rattle.wdl_json.specs.Inputs.{inputs_in}
use Rattle.wdl_json.specs.declared.fault.InputFault.{InputFault}
use Rattle.cwl_model.proofs.Rounds.{first_is, first_or_later, later_is, none_is}
use Rattle.cwl_formed.proofs.Orders.{texts_stand}
use Rattle.leaf_image.specs.declared.leaf.Leaf.{Leaf}
use Rattle.leaf_image.specs.Leaves.{is_record}
use Rattle.leaf_image.specs.Records.{all_inputs, leaf_input, of_input, swaps_of}
use Rattle.wdl_swaps.specs.Swaps.{swapped_input}
use Rattle.cwl_records.specs.declared.leaf.RecordLeaf.{RecordLeaf}
use Rattle.wide_formed.specs.Forms.{lowering}
use Rattle.wide_formed.specs.Laws.{PlainObjectsStand}
use Rattle.wide_formed.proofs.Mains.{HasMain, IsLoweredMain, lowered_main, replaced, unreplaced}
use Rattle.wide_formed.proofs.Meant.{IsSubsetMain, input_same, subset_main}

none_any : (is : List TInput) → list_any is_record is ≡ false → (i : TInput) → Contains is i → is_record i ≡ false
none_any [] h i c = absurd (none_is i c)
none_any (j ∷ is) h i c = let p = or_parts (is_record j) (list_any is_record is) h in by_case p.0 (first_or_later j is i c) (none_any is p.1 i)
  where
    by_case : is_record j ≡ false → (j ≡ i) ⊎ Contains is i → (Contains is i → is_record i ≡ false) → is_record i ≡ false
    by_case k (inl e) rest = subst (λ (z : TInput). is_record z ≡ false) e k
    by_case k (inr q) rest = rest q

-- Where no input is a struct all stay.
all_stay : (ls : List Leaf) (is : List TInput) → ((j : TInput) → Contains is j → is_record j ≡ false) → ((j : TInput) → Contains is j → swapped_input (swaps_of ls) j ≡ j) → all_inputs ls is ≡ is
all_stay ls [] none same = refl
all_stay ls (j ∷ is) none same =
    ap (λ (js : List TInput). js ++ all_inputs ls is) (own (is_record j) (none j (first_is j is)) (same j (first_is j is)))
    ∙ ap (λ (js : List TInput). j ∷ js) (all_stay ls is (λ k c. none k (later_is j is k c)) (λ k c. same k (later_is j is k c)))
  where
    own : (b : Bool) → b ≡ false → swapped_input (swaps_of ls) j ≡ j → cond b (map (leaf_input j.span) (of_input j.name ls)) (swapped_input (swaps_of ls) j ∷ []) ≡ j ∷ []
    own b e q = ap (λ w. cond w (map (leaf_input j.span) (of_input j.name ls)) (swapped_input (swaps_of ls) j ∷ [])) e ∙ ap (λ (k : TInput). k ∷ []) q

pub plain_objects_stand : PlainObjectsStand
plain_objects_stand lib main f text given checked subset there none reads =
    let h = lowered_main lib main f checked there in
    let same = by_how h (lowering lib main).records h.how (subset_main (lowering lib main).lib main h.flow h.checked subset h.there) in
    let name : read h.flow.name h.flow.inputs ≡ read f.name f.inputs = ap (λ n. read n h.flow.inputs) h.name ∙ ap (read f.name) same in
    texts_stand (lowering lib main).lib main h.flow text given h.checked subset h.there (name ∙ reads)
  where
    read : List ℕ → List TInput → Result (List Bind) InputFault
    read n is = inputs_in lib.structs (record { name = n; inputs = is; body = []; outputs = []; span = f.span }) text

    by_how : (h : HasMain lib main f) (rs : List RecordLeaf) → IsLoweredMain lib.structs f h.flow rs → IsSubsetMain lib.structs h.flow.inputs → h.flow.inputs ≡ f.inputs
    by_how h rs (unreplaced q e) kept = q
    by_how h rs (replaced ls between b o q e) kept =
        q ∙ all_stay ls f.inputs (none_any f.inputs none)
        (λ j c. input_same lib.structs f.inputs ls (subst (IsSubsetMain lib.structs) q kept) j c (none_any f.inputs none j c))
