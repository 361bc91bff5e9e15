-- A set of the names of inputs, which grows by one.
use Rattle.std.proofs.Common.{◌≡◌, ℕ, suc, ◌+◌, ◌<◌, Bool, true, false, cond, ◌||◌, List, ◌∷◌, length, drop, get_or, drop-cons, Some, String, Global, string_bytes, string_cmp, bytes_eq, refl, sym, ap, ◌∙◌, arith}
use Rattle.std.proofs.lemmas.Map.Text.{btree_set_updates_text}
use Rattle.std.specs.BTreeSet.{BTreeSet, contains_text, Updates}
use Rattle.serde_json.specs.View.{members_view}
use Rattle.serde_json.specs.declared.value.Value as json
use Rattle.serde_json.proofs.Views.{Entry}
use Rattle.wdl_typed.specs.declared.task.TInput.{TInput}
use Rattle.wdl_json.specs.Inputs.{member_name, is_input, is_known, unknown}

moved : (a b c : Bool) → cond a true b || c ≡ b || (a || c)
moved true true c = refl
moved true false c = refl
moved false true c = refl
moved false false c = refl

pub input_added : (flow q : List ℕ) (is : List TInput) (k : ℕ) (i : TInput) (key : String Global) (old new : BTreeSet (String Global)) → k < length is → i ≡ get_or is k i
    → string_bytes key ≡ member_name flow i.name → Updates string_cmp old new key true
    → contains_text new q || is_input flow (drop (k + 1) is) q ≡ contains_text old q || is_input flow (drop k is) q
input_added flow q is k i key old new within at named grown =
    let rest = is_input flow (drop (k + 1) is) q in
    let one : suc k ≡ k + 1 = omega arith in
    let next : drop k is ≡ i ∷ drop (k + 1) is = drop-cons is k i within ∙ ap (λ x. x ∷ drop (suc k) is) (sym at) ∙ ap (λ j. i ∷ drop j is) one in
    ap (λ b. b || rest) (btree_set_updates_text (string_bytes key) old new true grown q)
    ∙ moved (bytes_eq (string_bytes key) q) (contains_text old q) rest
    ∙ ap (λ n. contains_text old q || (bytes_eq n q || rest)) named
    ∙ sym (ap (λ xs. contains_text old q || is_input flow xs q) next)

-- ---- the first member that is no input and no comment

pub known_next : (flow : List ℕ) (is : List TInput) (name : String Global) (x : json.Value) (es rest : List Entry) → es ≡ (name, x) ∷ rest → is_known flow is (string_bytes name) ≡ true
    → unknown flow is (members_view rest) ≡ unknown flow is (members_view es)
known_next flow is name x es rest at h =
    sym (ap (λ xs. unknown flow is (members_view xs)) at ∙ ap (λ b. cond b (unknown flow is (members_view rest)) (Some (string_bytes name))) h)

pub unknown_here : (flow : List ℕ) (is : List TInput) (name : String Global) (x : json.Value) (es rest : List Entry) → es ≡ (name, x) ∷ rest → is_known flow is (string_bytes name) ≡ false
    → Some (string_bytes name) ≡ unknown flow is (members_view es)
unknown_here flow is name x es rest at h =
    sym (ap (λ xs. unknown flow is (members_view xs)) at ∙ ap (λ b. cond b (unknown flow is (members_view rest)) (Some (string_bytes name))) h)
