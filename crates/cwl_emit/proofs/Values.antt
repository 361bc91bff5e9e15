-- Types, defaults and inputs.
use Rattle.std.proofs.Common.{◌≡◌, ℕ, ℤ, pos, negsuc, Bool, true, false, cond, ◌&&◌, ◌||◌, List, [], ◌∷◌, map, codes, Option, Some, None, option_map, bytes_eq, refl, sym, ap, ◌∙◌, subst}
use Rattle.std.proofs.lemmas.Bool.{false≢true, and_parts}
use Rattle.std.proofs.lemmas.Slice.Eq.{bytes_eq-Decides}
use Rattle.std.proofs.lemmas.Option.{same_Some}
use Rattle.serde_json.specs.Data.{Num, unsigned, negative, float, Data, null, boolean, number, string, array, object, Items, no_items, item, Members, no_members, member}
use Rattle.serde_json.specs.Find.{get_member, of_integer}
use Rattle.serde_json.specs.Written.{has_float}
use Rattle.wdl_value.specs.declared.value.Value.{Value, fold-roll-Value}
use Rattle.wdl_value.specs.declared.value.Value.TheVariants as v
use Rattle.wdl_value.specs.declared.value.Value.TheOpen as layer
use Rattle.wdl_value.specs.Fits.{is_int}
use Rattle.json_values.specs.Ordered.{is_ordered}
use Rattle.json_values.specs.Writing.{Written, written, written_step, json_of, all_items}
use Rattle.cwl_model.specs.declared.tool.CwlIn.{CwlIn}
use Rattle.cwl_model.specs.declared.ty.CwlTy.{CwlTy, fold-roll-CwlTy}
use Rattle.cwl_model.specs.declared.ty.CwlTy.TheVariants as ty
use Rattle.cwl_model.specs.declared.ty.CwlTy.TheOpen as type
use Rattle.cwl_emit.specs.Reading.{plain, text_of, is_text, has_names, is_member, member_of, optional, with3, named_type, type_of, type_or_null, last_type, item_type, int_of, number_of, value_of, values_of, cwl_in, input_in, input_of}
use Rattle.cwl_emit.specs.Writing.{type_step, type_json, list_type, null_type, input_json}
use Rattle.cwl_emit.proofs.Parts.{of_three, Is, ItemsAre, no_item, item_is, array_is, no_member, member_is, object_is, plain_is, string_is, text_is, word_is, shape_of, shape_is}
use Rattle.wdl_base.proofs.Options.{map_parts, then_parts, chosen_parts}

-- ---- types

bool_type : type_json ty.Bool ≡ string (codes "boolean")
bool_type = ap type_json (sym ty.rolls-Bool) ∙ fold-roll-CwlTy Data type_step type.Bool

long_type : type_json ty.Long ≡ string (codes "long")
long_type = ap type_json (sym ty.rolls-Long) ∙ fold-roll-CwlTy Data type_step type.Long

string_type : type_json ty.Str ≡ string (codes "string")
string_type = ap type_json (sym ty.rolls-Str) ∙ fold-roll-CwlTy Data type_step type.Str

file_type : type_json ty.File ≡ string (codes "File")
file_type = ap type_json (sym ty.rolls-File) ∙ fold-roll-CwlTy Data type_step type.File

list_type_is : (t : CwlTy) → type_json (ty.List t) ≡ list_type (type_json t)
list_type_is t = ap type_json (sym (ty.rolls-List t)) ∙ fold-roll-CwlTy Data type_step (type.List t)

null_type_is : (t : CwlTy) → type_json (ty.Null t) ≡ null_type (type_json t)
null_type_is t = ap type_json (sym (ty.rolls-Null t)) ∙ fold-roll-CwlTy Data type_step (type.Null t)

named_is : (s : List ℕ) (t : CwlTy) → named_type s ≡ Some t → Is (string s) (type_json t)
named_is s t h = by_tests (bytes_eq s (codes "boolean")) (bytes_eq s (codes "long")) (bytes_eq s (codes "string")) (bytes_eq s (codes "File")) refl refl refl refl h
  where
    named : (word : List ℕ) (u : CwlTy) → type_json u ≡ string word → bytes_eq s word ≡ true → u ≡ t → Is (string s) (type_json t)
    named word u is e same = subst (λ x. Is (string s) (type_json x)) same (subst (Is (string s)) (sym is) (string_is s word ((bytes_eq-Decides s word).0 e)))

    by_tests : (a b c d : Bool) → bytes_eq s (codes "boolean") ≡ a → bytes_eq s (codes "long") ≡ b → bytes_eq s (codes "string") ≡ c → bytes_eq s (codes "File") ≡ d
        → cond a (Some ty.Bool) (cond b (Some ty.Long) (cond c (Some ty.Str) (cond d (Some ty.File) None))) ≡ Some t → Is (string s) (type_json t)
    by_tests true b c d e f g i k = named (codes "boolean") ty.Bool bool_type e (same_Some ty.Bool t k)
    by_tests false true c d e f g i k = named (codes "long") ty.Long long_type f (same_Some ty.Long t k)
    by_tests false false true d e f g i k = named (codes "string") ty.Str string_type g (same_Some ty.Str t k)
    by_tests false false false true e f g i k = named (codes "File") ty.File file_type i (same_Some ty.File t k)
    by_tests false false false false e f g i k = cc

-- the first member of that name
abbrev pub first_named : List ℕ → Members → Option Data
first_named name no_members = None
first_named name (member k d ms) = cond (bytes_eq k name) (Some d) (first_named name ms)

-- the value of a member, and what it is
pub record Found (name : List ℕ) (ms : Members) (e : Data) : Type 0 where
  pub json : Data
  pub at : first_named name ms ≡ Some json
  pub is : Is json e

pub found_first : (name : List ℕ) (d e : Data) (ms : Members) → Is d e → Found name (member name d ms) e
found_first name d e ms i = record { json = d; at = ap (λ b. cond b (Some d) (first_named name ms)) ((bytes_eq-Decides name name).1 refl); is = i }

-- what stands for the member, at the front or later
pub found_at : {A : Type 0} (name k : List ℕ) (d : Data) (ms : Members) (here later : Option A) (x : A) (e : A → Data)
    → cond (bytes_eq k name) here later ≡ Some x → (here ≡ Some x → Is d (e x)) → (later ≡ Some x → Found name ms (e x)) → Found name (member k d ms) (e x)
found_at name k d ms here later x e h own more = by_test (bytes_eq k name) refl h
  where
    by_test : (b : Bool) → bytes_eq k name ≡ b → cond b here later ≡ Some x → Found name (member k d ms) (e x)
    by_test true is g = record { json = d; at = ap (λ b. cond b (Some d) (first_named name ms)) is; is = own g }
    by_test false is g = let f = more g in record { json = f.json; at = ap (λ b. cond b (Some d) (first_named name ms)) is ∙ f.at; is = f.is }

-- the one value that stands there
pub found_is : (name : List ℕ) (ms : Members) (d e : Data) → first_named name ms ≡ Some d → Found name ms e → Is d e
found_is name ms d e at f = subst (λ x. Is x e) (same_Some f.json d (sym f.at ∙ at)) f.is

array_type_is : (ms : Members) (t : CwlTy) → has_names (codes "items" ∷ codes "type" ∷ []) ms && is_member (codes "type") (is_text (codes "array")) ms ≡ true → Found (codes "items") ms (type_json t)
    → Is (object ms) (list_type (type_json t))
array_type_is ms t h f =
    let p = and_parts (has_names (codes "items" ∷ codes "type" ∷ []) ms) (is_member (codes "type") (is_text (codes "array")) ms) h in
    let names = codes "items" ∷ codes "type" ∷ [] in
    let s = shape_of names ms p.0 in
    let is : ms ≡ member (codes "items") s.0 (member (codes "type") s.3.0 no_members) = shape_is names ms s in
    let own = found_is (codes "items") ms s.0 (type_json t) (ap (first_named (codes "items")) is) f in
    let word = word_is (codes "array") s.3.0 (sym (ap (is_member (codes "type") (is_text (codes "array"))) is) ∙ p.1) in
    subst (λ m. Is (object m) (list_type (type_json t))) (sym is)
    (object_is _ _ (member_is (codes "items") s.0 (type_json t) _ _ own (member_is (codes "type") s.3.0 (string (codes "array")) _ _ word no_member)) refl)

mutual
  pub type_is : (d : Data) (t : CwlTy) → type_of d ≡ Some t → Is d (type_json t)
  type_is null t h = cc
  type_is (boolean b) t h = cc
  type_is (number n) t h = cc
  type_is (string s) t h = named_is s t h
  type_is (array ds) t h =
      let p = map_parts ty.Null (type_or_null ds) t h in
      subst (λ x. Is (array ds) (type_json x)) p.2 (subst (Is (array ds)) (sym (null_type_is p.0)) (array_is ds _ (null_or_type_are ds p.0 p.1)))
  type_is (object ms) t h =
      let c = chosen_parts (has_names (codes "items" ∷ codes "type" ∷ []) ms && is_member (codes "type") (is_text (codes "array")) ms) (option_map ty.List (item_type ms)) t h in
      let p = map_parts ty.List (item_type ms) t c.1 in
      subst (λ x. Is (object ms) (type_json x)) p.2 (subst (Is (object ms)) (sym (list_type_is p.0)) (array_type_is ms p.0 c.0 (item_type_found ms p.0 p.1)))

  null_or_type_are : (ds : Items) (t : CwlTy) → type_or_null ds ≡ Some t → ItemsAre ds (item (string (codes "null")) (item (type_json t) no_items))
  null_or_type_are no_items t h = cc
  null_or_type_are (item d ds) t h =
      let c = chosen_parts (is_text (codes "null") d) (last_type ds) t h in
      item_is d (string (codes "null")) ds (item (type_json t) no_items) (word_is (codes "null") d c.0) (last_type_is ds t c.1)

  last_type_is : (ds : Items) (t : CwlTy) → last_type ds ≡ Some t → ItemsAre ds (item (type_json t) no_items)
  last_type_is no_items t h = cc
  last_type_is (item d no_items) t h = item_is d (type_json t) no_items no_items (type_is d t h) no_item
  last_type_is (item d (item e ds)) t h = cc

  item_type_found : (ms : Members) (t : CwlTy) → item_type ms ≡ Some t → Found (codes "items") ms (type_json t)
  item_type_found no_members t h = cc
  item_type_found (member k d ms) t h = found_at (codes "items") k d ms (type_of d) (item_type ms) t type_json h (type_is d t) (item_type_found ms t)

-- ---- values

absent_json : json_of v.Absent ≡ null
absent_json = ap json_of (sym v.rolls-Absent) ∙ ap (λ (w : Written). w.json) (fold-roll-Value Written written_step layer.Absent)

bool_json : (b : Bool) → json_of (v.Bool b) ≡ boolean b
bool_json b = ap json_of (sym (v.rolls-Bool b)) ∙ ap (λ (w : Written). w.json) (fold-roll-Value Written written_step (layer.Bool b))

int_json : (n : ℤ) → json_of (v.Int n) ≡ number (of_integer n)
int_json n = ap json_of (sym (v.rolls-Int n)) ∙ ap (λ (w : Written). w.json) (fold-roll-Value Written written_step (layer.Int n))

str_json : (s : List ℕ) → json_of (v.Str s) ≡ string s
str_json s = ap json_of (sym (v.rolls-Str s)) ∙ ap (λ (w : Written). w.json) (fold-roll-Value Written written_step (layer.Str s))

list_json : (xs : List Value) → json_of (v.List xs) ≡ array (all_items (map written xs))
list_json xs = ap json_of (sym (v.rolls-List xs)) ∙ ap (λ (w : Written). w.json) (fold-roll-Value Written written_step (layer.List xs))

int_is : (n : Num) (z : ℤ) (x : Value) → number n ≡ number (of_integer z) → int_of z ≡ Some x → Is (number (of_integer z)) (number (of_integer z)) → Is (number n) (json_of x)
int_is n z x same h own =
    let c = chosen_parts (is_int z) (Some (v.Int z)) x h in
    subst (λ y. Is (number n) (json_of y)) (same_Some (v.Int z) x c.1)
    (subst (Is (number n)) (sym (int_json z)) (subst (λ d. Is d (number (of_integer z))) (sym same) own))

number_is : (n : Num) (x : Value) → number_of n ≡ Some x → Is (number n) (json_of x)
number_is (unsigned n) x h = int_is (unsigned n) (pos n) x refl h (record { same = refl; ordered = refl; exact = refl })
number_is (negative (pos n)) x h = cc
number_is (negative (negsuc n)) x h = int_is (negative (negsuc n)) (negsuc n) x refl h (record { same = refl; ordered = refl; exact = refl })
number_is (float f) x h = cc

mutual
  pub value_is : (d : Data) (x : Value) → value_of d ≡ Some x → Is d (json_of x)
  value_is null x h = subst (λ y. Is null (json_of y)) (same_Some v.Absent x h) (record { same = sym absent_json; ordered = ap is_ordered absent_json; exact = ap has_float absent_json })
  value_is (boolean b) x h = subst (λ y. Is (boolean b) (json_of y)) (same_Some (v.Bool b) x h) (subst (Is (boolean b)) (sym (bool_json b)) (record { same = refl; ordered = refl; exact = refl }))
  value_is (number n) x h = number_is n x h
  value_is (string s) x h =
      let p = map_parts v.Str (plain s) x h in
      subst (λ y. Is (string s) (json_of y)) p.2 (subst (Is (string s)) (sym (str_json p.0)) (string_is s p.0 (plain_is s p.0 p.1)))
  value_is (array ds) x h =
      let p = map_parts v.List (values_of ds) x h in
      subst (λ y. Is (array ds) (json_of y)) p.2 (subst (Is (array ds)) (sym (list_json p.0)) (array_is ds _ (values_are ds p.0 p.1)))
  value_is (object ms) x h = cc

  values_are : (ds : Items) (xs : List Value) → values_of ds ≡ Some xs → ItemsAre ds (all_items (map written xs))
  values_are no_items xs h = subst (λ ys. ItemsAre no_items (all_items (map written ys))) (same_Some [] xs h) no_item
  values_are (item d ds) xs h =
      let p = then_parts (λ x. option_map (λ ys. x ∷ ys) (values_of ds)) (value_of d) xs h in
      let q = map_parts (λ ys. p.0 ∷ ys) (values_of ds) xs p.2 in
      subst (λ ys. ItemsAre (item d ds) (all_items (map written ys))) q.2 (item_is d (json_of p.0) ds (all_items (map written q.0)) (value_is d p.0 p.1) (values_are ds q.0 q.1))

-- ---- inputs

input_names : (a b : Bool) → a || b ≡ true → a ≡ false → b ≡ true
input_names true b h k = absurd (false≢true (sym k))
input_names false b h k = h

abbrev plain_input : List (List ℕ)
plain_input = codes "id" ∷ codes "type" ∷ []

abbrev preset_input : List (List ℕ)
preset_input = codes "default" ∷ codes "id" ∷ codes "type" ∷ []

abbrev reads_input : Members → Option CwlIn
reads_input ms = with3 cwl_in (member_of (codes "id") text_of ms) (member_of (codes "type") type_of ms) (optional value_of (get_member (codes "default") ms))

plain_input_is : (ms : Members) (i : CwlIn) → has_names plain_input ms ≡ true → reads_input ms ≡ Some i → Is (object ms) (input_json i)
plain_input_is ms i names h =
    let s = shape_of plain_input ms names in
    let is : ms ≡ member (codes "id") s.0 (member (codes "type") s.3.0 no_members) = shape_is plain_input ms s in
    let r = of_three cwl_in (text_of s.0) (type_of s.3.0) (Some None) i (sym (ap reads_input is) ∙ h) in
    let preset : None ≡ r.rest.y = same_Some None r.rest.y r.rest.second in
    subst (λ m. Is (object m) (input_json i)) (sym is)
    (subst (λ (j : CwlIn). Is (object (member (codes "id") s.0 (member (codes "type") s.3.0 no_members))) (input_json j)) (ap (cwl_in r.x r.rest.x) preset ∙ r.rest.made)
    (object_is _ _ (member_is (codes "id") s.0 (string r.x) _ _ (text_is s.0 r.x r.first) (member_is (codes "type") s.3.0 (type_json r.rest.x) _ _ (type_is s.3.0 r.rest.x r.rest.first) no_member)) refl))

preset_input_is : (ms : Members) (i : CwlIn) → has_names preset_input ms ≡ true → reads_input ms ≡ Some i → Is (object ms) (input_json i)
preset_input_is ms i names h =
    let s = shape_of preset_input ms names in
    let is : ms ≡ member (codes "default") s.0 (member (codes "id") s.3.0 (member (codes "type") s.3.3.0 no_members)) = shape_is preset_input ms s in
    let r = of_three cwl_in (text_of s.3.0) (type_of s.3.3.0) (option_map Some (value_of s.0)) i (sym (ap reads_input is) ∙ h) in
    let p = map_parts Some (value_of s.0) r.rest.y r.rest.second in
    subst (λ m. Is (object m) (input_json i)) (sym is)
    (subst (λ (j : CwlIn). Is (object (member (codes "default") s.0 (member (codes "id") s.3.0 (member (codes "type") s.3.3.0 no_members)))) (input_json j)) (ap (cwl_in r.x r.rest.x) p.2 ∙ r.rest.made)
    (object_is _ _
    (member_is (codes "default") s.0 (json_of p.0) _ _ (value_is s.0 p.0 p.1)
    (member_is (codes "id") s.3.0 (string r.x) _ _ (text_is s.3.0 r.x r.first) (member_is (codes "type") s.3.3.0 (type_json r.rest.x) _ _ (type_is s.3.3.0 r.rest.x r.rest.first) no_member)))
    refl))

input_members_are : (ms : Members) (i : CwlIn) → input_in ms ≡ Some i → Is (object ms) (input_json i)
input_members_are ms i h =
    let c = chosen_parts (has_names plain_input ms || has_names preset_input ms) (reads_input ms) i h in
    by_names (has_names plain_input ms) refl c.0 c.1
  where
    by_names : (b : Bool) → has_names plain_input ms ≡ b → b || has_names preset_input ms ≡ true → reads_input ms ≡ Some i → Is (object ms) (input_json i)
    by_names true e n r = plain_input_is ms i e r
    by_names false e n r = preset_input_is ms i n r

pub input_is : (d : Data) (i : CwlIn) → input_of d ≡ Some i → Is d (input_json i)
input_is (object ms) i h = input_members_are ms i h
input_is d i h = cc
