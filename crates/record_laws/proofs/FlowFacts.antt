-- What holds of a workflow of a checked form, and of what stands in its place.
use Rattle.std.proofs.Common.{◌≡◌, ℕ, Bool, true, false, cond, not, ◌&&◌, List, [], ◌∷◌, ◌++◌, append_assoc, map, Option, Some, None, sym, ap, ◌∙◌, subst, refl}
use Rattle.std.specs.List.{list_all}
use Rattle.std.specs.Str.{bytes_eq}
use Rattle.std.proofs.lemmas.Bool.{false≢true, and_from, and_parts, not-true, not_from_false, or_from, or_parts}
use Rattle.std.proofs.lemmas.List.Folds.{list_all-append}
use Rattle.wdl_value.specs.declared.ty.Ty.{Ty}
use Rattle.wdl_value.specs.Fits.{Structs}
use Rattle.wdl_typed.specs.declared.flow.FlowDef.{FlowDef}
use Rattle.wdl_typed.specs.declared.flow.Statement.{Statement, Statement-F, fold-Statement, fold-roll-Statement, ind-Statement, map-Statement, roll-Statement}
use Rattle.wdl_typed.specs.declared.flow.Statement.TheOpen as layer
use Rattle.wdl_typed.specs.declared.scope.Bound.{Bound}
use Rattle.wdl_typed.specs.declared.task.TInput.{TInput}
use Rattle.wdl_typed.specs.Bodies.{Differing, Library, Seen, all_declared, body_gives, body_nests, input_type, is_numbered, items_differ, items_step as differ_step}
use Rattle.wdl_typed.specs.Declarations.{decl_names, decls_typed, in_body, input_names, inputs_bound, inputs_typed, plain_key}
use Rattle.wdl_typed.specs.Kept.{flow_names, flow_typed, inputs_seen, outputs_typed}
use Rattle.wdl_typed.specs.Lists.{are_distinct, has_name}
use Rattle.wdl_typed.specs.Scope.{same_key, type_in}
use Rattle.flow_laws.proofs.Checked.{has_name_append, names_left}
use Rattle.leaf_image.specs.declared.leaf.Leaf.{Leaf}
use Rattle.leaf_image.specs.Inside.{Each}
use Rattle.leaf_image.specs.Leaves.{is_record, items_in, items_of, items_step, leaves_of, taken_by}
use Rattle.leaf_image.specs.Records.{all_inputs, input_leaves, is_record_of, leaf_input, of_input, swaps_of}
use Rattle.leaf_image.proofs.Eaches.{each_both, each_by}
use Rattle.wdl_swaps.specs.Swaps.{swapped_input}
use Rattle.record_laws.proofs.Fine.{all_ok, left}
use Rattle.record_laws.proofs.LeafNames.{apart_swapped, each_kept, leaf_names, name_is}
use Rattle.record_laws.proofs.Lookups.{plain_same}
use Rattle.record_laws.proofs.Pairing.{LeavesOf, seen}
use Rattle.record_laws.proofs.Places.{IsInput, MembersDiffer, OfRecord, all_inputs_found, leaves_fine}

-- ---- a well typed workflow

pub record IsFlow (lib : Library) (f : FlowDef) : Type 0 where
  pub distinct : are_distinct (flow_names f) ≡ true
  pub items : items_differ f.body (flow_names f) ≡ true
  pub nests : body_nests lib.flows 24 f.body ≡ true
  pub inputs : inputs_typed lib.structs [] f.inputs ≡ true
  pub given : Seen
  pub body : body_gives lib f.body (inputs_seen f) ≡ Some given
  pub outputs : decls_typed (in_body lib.structs) lib.structs (inputs_bound f.inputs ++ given.names) f.outputs ≡ true

pub is_flow : (lib : Library) (f : FlowDef) → flow_typed lib f ≡ true → IsFlow lib f
is_flow lib f h =
    let names = are_distinct (flow_names f) && items_differ f.body (flow_names f) in
    let a = and_parts (names && is_numbered f.body && body_nests lib.flows 24 f.body && inputs_typed lib.structs [] f.inputs) (outputs_typed lib.structs f (body_gives lib f.body (inputs_seen f))) h in
    let b = and_parts (names && is_numbered f.body && body_nests lib.flows 24 f.body) (inputs_typed lib.structs [] f.inputs) a.0 in
    let c = and_parts (names && is_numbered f.body) (body_nests lib.flows 24 f.body) b.0 in
    let d = and_parts names (is_numbered f.body) c.0 in
    let e = and_parts (are_distinct (flow_names f)) (items_differ f.body (flow_names f)) d.0 in
    let g = by_given (body_gives lib f.body (inputs_seen f)) refl a.1 in
    record { distinct = e.0; items = e.1; nests = c.1; inputs = b.1; given = g.0; body = g.1; outputs = g.2 }
  where
    by_given : (o : Option Seen) → body_gives lib f.body (inputs_seen f) ≡ o → outputs_typed lib.structs f o ≡ true
        → (s : Seen) × (body_gives lib f.body (inputs_seen f) ≡ Some s) × (decls_typed (in_body lib.structs) lib.structs (inputs_bound f.inputs ++ s.names) f.outputs ≡ true)
    by_given None e t = absurd (false≢true t)
    by_given (Some s) e t = (s, e, t)

-- ---- names that are none of others

abbrev pub None_of : (List ℕ → Bool) → List (List ℕ) → Type 0
None_of bad names = list_all (λ (n : List ℕ). not (bad n)) names ≡ true

pub none_left : (bad : List ℕ → Bool) (ns ms : List (List ℕ)) → None_of bad (ns ++ ms) → None_of bad ns
none_left bad ns ms h = (and_parts (list_all (λ (n : List ℕ). not (bad n)) ns) (list_all (λ (n : List ℕ). not (bad n)) ms) (sym (list_all-append (λ (n : List ℕ). not (bad n)) ns ms) ∙ h)).0

pub none_right : (bad : List ℕ → Bool) (ns ms : List (List ℕ)) → None_of bad (ns ++ ms) → None_of bad ms
none_right bad ns ms h = (and_parts (list_all (λ (n : List ℕ). not (bad n)) ns) (list_all (λ (n : List ℕ). not (bad n)) ms) (sym (list_all-append (λ (n : List ℕ). not (bad n)) ns ms) ∙ h)).1

none_by : (bad worse : List ℕ → Bool) → ((n : List ℕ) → bad n ≡ false → worse n ≡ false) → (names : List (List ℕ)) → None_of bad names → None_of worse names
none_by bad worse f [] h = refl
none_by bad worse f (n ∷ ns) h =
    let p = and_parts (not (bad n)) (list_all (λ (m : List ℕ). not (bad m)) ns) h in
    and_from (not (worse n)) (list_all (λ (m : List ℕ). not (worse m)) ns) (not_from_false (worse n) (f n (not-true (bad n) p.0))) (none_by bad worse f ns p.1)

-- new names of leaves are none of the names that were taken
leaves_new : (ls : List Leaf) (names : List (List ℕ)) → Each (λ (l : Leaf). has_name l.name names ≡ false) ls → None_of (λ n. has_name n (leaf_names ls)) names
leaves_new ls [] h = refl
leaves_new ls (n ∷ ns) h =
    and_from (not (has_name n (leaf_names ls))) (list_all (λ (m : List ℕ). not (has_name m (leaf_names ls))) ns) (not_from_false (has_name n (leaf_names ls)) (first ls h))
    (leaves_new ls ns (each_by (λ (l : Leaf). has_name l.name (n ∷ ns) ≡ false) (λ (l : Leaf). has_name l.name ns ≡ false) (λ l k. (or_parts (bytes_eq n l.name) (has_name l.name ns) k).1) ls h))
  where
    first : (ks : List Leaf) → Each (λ (l : Leaf). has_name l.name (n ∷ ns) ≡ false) ks → has_name n (leaf_names ks) ≡ false
    first [] h = refl
    first (k ∷ ks) h = or_from (bytes_eq k.name n) (has_name n (leaf_names ks)) (apart_swapped n k.name (or_parts (bytes_eq n k.name) (has_name k.name ns) h.0).0) (first ks h.1)

-- names that come later are none of the first ones
distinct_later : (ns ms : List (List ℕ)) → are_distinct (ns ++ ms) ≡ true → None_of (λ m. has_name m ns) ms
distinct_later [] ms h = all ms
  where
    all : (ms : List (List ℕ)) → None_of (λ m. has_name m []) ms
    all [] = refl
    all (m ∷ ms) = all ms
distinct_later (n ∷ ns) ms h =
    let p = and_parts (not (has_name n (ns ++ ms))) (are_distinct (ns ++ ms)) h in
    both ms (has_name_append n ns ms (not-true (has_name n (ns ++ ms)) p.0)).1 (distinct_later ns ms p.1)
  where
    both : (ms : List (List ℕ)) → has_name n ms ≡ false → None_of (λ m. has_name m ns) ms → None_of (λ m. has_name m (n ∷ ns)) ms
    both [] a b = refl
    both (m ∷ ms) a b =
        let p = or_parts (bytes_eq m n) (has_name n ms) a in
        let q = and_parts (not (has_name m ns)) (list_all (λ (k : List ℕ). not (has_name k ns)) ms) b in
        and_from (not (has_name m (n ∷ ns))) (list_all (λ (k : List ℕ). not (has_name k (n ∷ ns))) ms)
        (not_from_false (has_name m (n ∷ ns)) (or_from (bytes_eq n m) (has_name m ns) (apart_swapped m n p.0) (not-true (has_name m ns) q.0))) (both ms p.1 q.1)

-- ---- items of scatters

abbrev Apart : Statement → Type 0
Apart st = (taken : List (List ℕ)) → fold-Statement Differing differ_step st taken ≡ true → None_of (λ n. has_name n taken) (items_in st)

abbrev Known : Type 0
Known = (st : Statement) × Apart st

abbrev firsts : List Known → List Statement
firsts = map (λ (k : Known). k.0)

abbrev plain : Statement-F Known → Statement-F Statement
plain = map-Statement Known Statement (λ (k : Known). k.0)

none_both : (bad : List ℕ → Bool) (ns ms : List (List ℕ)) → None_of bad ns → None_of bad ms → None_of bad (ns ++ ms)
none_both bad ns ms h j = list_all-append (λ (n : List ℕ). not (bad n)) ns ms ∙ and_from (list_all (λ (n : List ℕ). not (bad n)) ns) (list_all (λ (n : List ℕ). not (bad n)) ms) h j

body_apart : (ks : List Known) (taken : List (List ℕ)) → items_differ (firsts ks) taken ≡ true → None_of (λ n. has_name n taken) (items_of (firsts ks))
body_apart [] taken h = refl
body_apart (k ∷ ks) taken h =
    let p = and_parts (fold-Statement Differing differ_step k.0 taken) (items_differ (firsts ks) taken) h in
    none_both (λ n. has_name n taken) (items_in k.0) (items_of (firsts ks)) (k.1 taken p.0) (body_apart ks taken p.1)

layer_apart : (y : Statement-F Known) (taken : List (List ℕ)) → differ_step (map-Statement Statement Differing (fold-Statement Differing differ_step) (plain y)) taken ≡ true
    → None_of (λ n. has_name n taken) (items_step (map-Statement Statement (List (List ℕ)) items_in (plain y)))
layer_apart (layer.Decl d) taken h = refl
layer_apart (layer.Call c) taken h = refl
layer_apart (layer.Scatter s) taken h =
    let p = and_parts (not (has_name s.item taken)) (items_differ (firsts s.body) (s.item ∷ taken)) h in
    and_from (not (has_name s.item taken)) (list_all (λ (n : List ℕ). not (has_name n taken)) (items_of (firsts s.body))) p.0
    (none_by (λ n. has_name n (s.item ∷ taken)) (λ n. has_name n taken) (λ n k. (or_parts (bytes_eq s.item n) (has_name n taken) k).1) (items_of (firsts s.body)) (body_apart s.body (s.item ∷ taken) p.1))
layer_apart (layer.If i) taken h = body_apart i.body taken h

apart : (st : Statement) → Apart st
apart = ind-Statement Apart (λ x y is. subst (λ (z : Statement-F Statement). Apart (roll-Statement z)) is (λ taken h.
    subst (None_of (λ n. has_name n taken)) (sym (fold-roll-Statement (List (List ℕ)) items_step (plain y)))
    (layer_apart y taken (ap (λ (f : Differing). f taken) (sym (fold-roll-Statement Differing differ_step (plain y))) ∙ h))))

pub all_apart : (ss : List Statement) (taken : List (List ℕ)) → items_differ ss taken ≡ true → None_of (λ n. has_name n taken) (items_of ss)
all_apart [] taken h = refl
all_apart (s ∷ ss) taken h =
    let p = and_parts (fold-Statement Differing differ_step s taken) (items_differ ss taken) h in
    none_both (λ n. has_name n taken) (items_in s) (items_of ss) (apart s taken p.0) (all_apart ss taken p.1)

-- ---- inputs

no_input : (is : List TInput) (n : List ℕ) → has_name n (input_names is) ≡ false → is_record_of is n ≡ false
no_input [] n h = refl
no_input (i ∷ is) n h =
    let p = or_parts (bytes_eq i.name n) (has_name n (input_names is)) h in
    ap (λ b. cond b (is_record i) (is_record_of is n)) p.0 ∙ no_input is n p.1

-- an input is seen with its type
pub input_typed : (is : List TInput) (more : List Bound) (n : List ℕ) (t : Ty) → input_type is n ≡ Some t → type_in (inputs_bound is ++ more) (plain_key n) ≡ Some t
input_typed [] more n t h = absurd (cc)
input_typed (i ∷ is) more n t h = by_name (bytes_eq i.name n) refl h (input_typed is more n t)
  where
    by_name : (b : Bool) → bytes_eq i.name n ≡ b → cond b (Some i.ty) (input_type is n) ≡ Some t → (input_type is n ≡ Some t → type_in (inputs_bound is ++ more) (plain_key n) ≡ Some t)
        → cond (same_key (plain_key i.name) (plain_key n)) (Some i.ty) (type_in (inputs_bound is ++ more) (plain_key n)) ≡ Some t
    by_name true e h rest = ap (λ b. cond b (Some i.ty) (type_in (inputs_bound is ++ more) (plain_key n))) (plain_same i.name n ∙ e) ∙ h
    by_name false e h rest = ap (λ b. cond b (Some i.ty) (type_in (inputs_bound is ++ more) (plain_key n))) (plain_same i.name n ∙ e) ∙ rest h

-- none of these is a struct input
abbrev pub Stays : List TInput → TInput → Type 0
Stays is j = is_record_of is j.name ≡ false

module _ (is : List TInput) (ls : List Leaf) (fine : LeavesOf is ls) where
  leaves_stay : (bl : List Leaf) (i : TInput) → Each (λ (l : Leaf). is_record_of is l.name ≡ false) bl → Each (Stays is) (map (leaf_input i.span) bl)
  leaves_stay [] i h = tt
  leaves_stay (l ∷ bl) i h = (h.0, leaves_stay bl i h.1)

  pub all_stay : (js : List TInput) → Each (IsInput is) js → Each (Stays is) (all_inputs ls js)
  all_stay [] h = tt
  all_stay (j ∷ js) h = each_both (Stays is) (input_leaves ls j) (all_inputs ls js) (by_record (is_record j) refl) (all_stay js h.1)
    where
      by_record : (b : Bool) → is_record j ≡ b → Each (Stays is) (cond b (map (leaf_input j.span) (of_input j.name ls)) (swapped_input (swaps_of ls) j ∷ []))
      by_record true e = leaves_stay (of_input j.name ls) j (each_kept (λ (l : Leaf). is_record_of is l.name ≡ false) ls j.name fine.free)
      by_record false e = (h.0.record_is ∙ e, tt)

pub gone_from : (is ks : List TInput) → Each (Stays is) ks → (n : List ℕ) → is_record_of is n ≡ true → input_type ks n ≡ None
gone_from is [] h n r = refl
gone_from is (k ∷ ks) h n r = by_name (gone_from is ks h.1 n r) (bytes_eq k.name n) refl
  where
    by_name : input_type ks n ≡ None → (b : Bool) → bytes_eq k.name n ≡ b → cond b (Some k.ty) (input_type ks n) ≡ None
    by_name rest true e = absurd (false≢true (sym h.0 ∙ ap (is_record_of is) (name_is k.name n e) ∙ r))
    by_name rest false e = rest

stay_ok : (is ks : List TInput) → Each (Stays is) ks → all_ok (left is) (inputs_bound ks)
stay_ok is [] h = refl
stay_ok is (k ∷ ks) h = and_from (left is (plain_key k.name)) (list_all (λ (b : Bound). left is b.key) (inputs_bound ks)) (not_from_false (is_record_of is k.name) h.0) (stay_ok is ks h.1)

new_ok : (ls : List Leaf) (is : List TInput) → None_of (λ n. has_name n (leaf_names ls)) (input_names is) → all_ok (seen ls) (inputs_bound is)
new_ok ls [] h = refl
new_ok ls (i ∷ is) h =
    let p = and_parts (not (has_name i.name (leaf_names ls))) (list_all (λ (m : List ℕ). not (has_name m (leaf_names ls))) (input_names is)) h in
    and_from (seen ls (plain_key i.name)) (list_all (λ (b : Bound). seen ls b.key) (inputs_bound is)) p.0 (new_ok ls is p.1)

pub no_leaf_typed : (ls : List Leaf) (is : List TInput) → None_of (λ n. has_name n (leaf_names ls)) (input_names is) → (n : List ℕ) (t : Ty) → input_type is n ≡ Some t → has_name n (leaf_names ls) ≡ false
no_leaf_typed ls [] h n t e = absurd (cc)
no_leaf_typed ls (i ∷ is) h n t e =
    let p = and_parts (not (has_name i.name (leaf_names ls))) (list_all (λ (m : List ℕ). not (has_name m (leaf_names ls))) (input_names is)) h in
    by_name (bytes_eq i.name n) refl e (not-true (has_name i.name (leaf_names ls)) p.0) (no_leaf_typed ls is p.1 n t)
  where
    by_name : (b : Bool) → bytes_eq i.name n ≡ b → cond b (Some i.ty) (input_type is n) ≡ Some t → has_name i.name (leaf_names ls) ≡ false → (input_type is n ≡ Some t → has_name n (leaf_names ls) ≡ false)
        → has_name n (leaf_names ls) ≡ false
    by_name true j e own rest = ap (λ m. has_name m (leaf_names ls)) (sym (name_is i.name n j)) ∙ own
    by_name false j e own rest = rest e

inputs_new : (ls : List Leaf) (is : List TInput) → None_of (λ n. has_name n (leaf_names ls)) (input_names is) → Each (λ (i : TInput). has_name i.name (leaf_names ls) ≡ false) is
inputs_new ls [] h = tt
inputs_new ls (i ∷ is) h =
    let p = and_parts (not (has_name i.name (leaf_names ls))) (list_all (λ (m : List ℕ). not (has_name m (leaf_names ls))) (input_names is)) h in
    (not-true (has_name i.name (leaf_names ls)) p.0, inputs_new ls is p.1)

-- ---- a workflow with its leaves

pub record HasLeaves (structs : Structs) (f : FlowDef) (ls : List Leaf) : Type 0 where
  pub inputs : Each (IsInput f.inputs) f.inputs
  pub distinct : are_distinct (leaf_names ls) ≡ true
  pub of : Each (λ (l : Leaf). OfRecord structs f.inputs l.input l.path l.ty) ls
  pub fine : LeavesOf f.inputs ls
  pub new_inputs : None_of (λ n. has_name n (leaf_names ls)) (input_names f.inputs)
  pub new_declared : None_of (λ n. has_name n (leaf_names ls)) (all_declared f.body)
  pub new_outputs : None_of (λ n. has_name n (leaf_names ls)) (decl_names f.outputs)
  pub new_items : None_of (λ n. has_name n (leaf_names ls)) (items_of f.body)
  pub own_declared : None_of (is_record_of f.inputs) (all_declared f.body)
  pub own_outputs : None_of (is_record_of f.inputs) (decl_names f.outputs)
  pub own_items : None_of (is_record_of f.inputs) (items_of f.body)
  pub each_new : Each (λ (i : TInput). has_name i.name (leaf_names ls) ≡ false) f.inputs
  pub stay : Each (Stays f.inputs) (all_inputs ls f.inputs)
  pub old_ok : all_ok (seen ls) (inputs_bound f.inputs)
  pub now_ok : all_ok (left f.inputs) (inputs_bound (all_inputs ls f.inputs))

pub has_leaves : (lib : Library) (f : FlowDef) (ls : List Leaf) → MembersDiffer lib.structs → IsFlow lib f → leaves_of lib.structs f ≡ Some ls → HasLeaves lib.structs f ls
has_leaves lib f ls differ flow h =
    let bad : List ℕ → Bool = λ n. has_name n (leaf_names ls) in
    let all : are_distinct (input_names f.inputs ++ (all_declared f.body ++ decl_names f.outputs)) ≡ true = ap are_distinct (sym (append_assoc (input_names f.inputs) (all_declared f.body) (decl_names f.outputs))) ∙ flow.distinct in
    let own_distinct : are_distinct (input_names f.inputs) ≡ true = names_left (input_names f.inputs) (all_declared f.body ++ decl_names f.outputs) all in
    let n = leaves_fine lib.structs f ls differ own_distinct h in
    let new : None_of bad (taken_by f) = leaves_new ls (taken_by f) n.new in
    let new_flow : None_of bad (flow_names f) = none_left bad (flow_names f) (items_of f.body) new in
    let new_first : None_of bad (input_names f.inputs ++ all_declared f.body) = none_left bad (input_names f.inputs ++ all_declared f.body) (decl_names f.outputs) new_flow in
    let new_inputs : None_of bad (input_names f.inputs) = none_left bad (input_names f.inputs) (all_declared f.body) new_first in
    let later : None_of (is_record_of f.inputs) (all_declared f.body ++ decl_names f.outputs) =
    none_by (λ m. has_name m (input_names f.inputs)) (is_record_of f.inputs) (no_input f.inputs) (all_declared f.body ++ decl_names f.outputs) (distinct_later (input_names f.inputs) (all_declared f.body ++ decl_names f.outputs) all) in
    let inputs = all_inputs_found f.inputs own_distinct in
    let fine : LeavesOf f.inputs ls = record {
      of = each_by (λ (l : Leaf). OfRecord lib.structs f.inputs l.input l.path l.ty) (λ (l : Leaf). is_record_of f.inputs l.input ≡ true) (λ l o. o.record_is) ls n.of;
      free = each_by (λ (l : Leaf). has_name l.name (taken_by f) ≡ false) (λ (l : Leaf). is_record_of f.inputs l.name ≡ false)
          (λ l k. no_input f.inputs l.name (has_name_append l.name (input_names f.inputs) (all_declared f.body) (has_name_append l.name (input_names f.inputs ++ all_declared f.body) (decl_names f.outputs) (has_name_append l.name (flow_names f) (items_of f.body) k).0).0).0) ls n.new;
    } in
    let stay = all_stay f.inputs ls fine f.inputs inputs in
    record {
      inputs = inputs;
      distinct = n.distinct;
      of = n.of;
      fine = fine;
      new_inputs = new_inputs;
      new_declared = none_right bad (input_names f.inputs) (all_declared f.body) new_first;
      new_outputs = none_right bad (input_names f.inputs ++ all_declared f.body) (decl_names f.outputs) new_flow;
      new_items = none_right bad (flow_names f) (items_of f.body) new;
      own_declared = none_left (is_record_of f.inputs) (all_declared f.body) (decl_names f.outputs) later;
      own_outputs = none_right (is_record_of f.inputs) (all_declared f.body) (decl_names f.outputs) later;
      own_items = none_by (λ m. has_name m (flow_names f)) (is_record_of f.inputs)
          (λ m k. no_input f.inputs m (has_name_append m (input_names f.inputs) (all_declared f.body) (has_name_append m (input_names f.inputs ++ all_declared f.body) (decl_names f.outputs) k).0).0)
          (items_of f.body) (all_apart f.body (flow_names f) flow.items);
      each_new = inputs_new ls f.inputs new_inputs;
      stay = stay;
      old_ok = new_ok ls f.inputs new_inputs;
      now_ok = stay_ok f.inputs (all_inputs ls f.inputs) stay;
    }
