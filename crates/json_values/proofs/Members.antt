-- The members of an object, as a map and as JSON.
use Rattle.std.proofs.Common.{◌≡◌, ◌≤◌, ◌==◌, ℕ, suc, Bool, true, false, cond, List, [], ◌∷◌, ◌++◌, length, append_assoc, codes, Option, Some, None, option_map, option_and_then, map, arith, String, Global, string_bytes, nat_cmp, is_eq, refl, sym, ap, ◌∙◌}
use Rattle.std.proofs.lemmas.Bool.{eq-eqb, eqb-true}
use Rattle.std.proofs.lemmas.Map.Text.{is_eq-slice_cmp}
use Rattle.std.specs.Cmp.Lexicographic.{slice_cmp}
use Rattle.std.specs.Map.{lookup}
use Rattle.std.specs.BTreeMap.{is_at}
use Rattle.std.specs.Str.{bytes_eq}
use Rattle.serde_json.specs.View.{view, items_view, members_view}
use Rattle.serde_json.specs.declared.value.Value as json
use Rattle.serde_json.proofs.Views.{Entry}
use Rattle.wdl_value.specs.declared.value.MapRow.{MapRow}
use Rattle.wdl_value.specs.declared.value.Value.{Value}
use Rattle.wdl_value.specs.declared.value.Value.TheVariants as v
use Rattle.wdl_value.specs.declared.ty.Ty.{Ty}
use Rattle.wdl_value.specs.Fits.{Structs}
use Rattle.json_values.specs.Reading.{Reader, Named, reads, reader_of, item_readers, member_readers, names_of, key_read, all_read, list_read, rows_read, part_read, pair_read}

abbrev at_name : List ℕ → String Global → Bool
at_name name = is_at (λ k. slice_cmp nat_cmp name (string_bytes k))

module _ (structs : Structs) where
  abbrev reader : json.Value → Reader
  reader x = reads structs (view x)

  reader_of-lookup : (name : List ℕ) (es : List Entry) → reader_of name (member_readers structs (members_view es)) ≡ option_map reader (lookup (at_name name) es)
  reader_of-lookup name [] = refl
  reader_of-lookup name (e ∷ es) =
      by_test (bytes_eq name (string_bytes e.0)) (is_eq (slice_cmp nat_cmp name (string_bytes e.0))) (is_eq-slice_cmp name (string_bytes e.0)) (reader_of-lookup name es)
    where
      by_test : (a b : Bool) → b ≡ a → reader_of name (member_readers structs (members_view es)) ≡ option_map reader (lookup (at_name name) es)
          → cond a (Some (reader e.1)) (reader_of name (member_readers structs (members_view es))) ≡ option_map reader (cond b (Some e.1) (lookup (at_name name) es))
      by_test true true same rest = refl
      by_test false false same rest = rest
      by_test true false same rest = cc
      by_test false true same rest = cc

  -- what a look-up by the name gives is the member of that name
  pub reader_found : (key name : List ℕ) (es : List Entry) (found : Option json.Value) → key ≡ name → found ≡ lookup (at_name key) es
      → reader_of name (member_readers structs (members_view es)) ≡ option_map reader found
  reader_found key name es found same is =
      ap (λ n. reader_of n (member_readers structs (members_view es))) (sym same) ∙ reader_of-lookup key es ∙ ap (option_map reader) (sym is)

  pub length-member_readers : (es : List Entry) → length (member_readers structs (members_view es)) ≡ length es
  length-member_readers [] = refl
  length-member_readers (e ∷ es) = ap suc (length-member_readers es)

  pub member_names : (es : List Entry) → names_of (member_readers structs (members_view es)) ≡ map (λ (e : Entry). string_bytes e.0) es
  member_names [] = refl
  member_names (e ∷ es) = ap (λ names. string_bytes e.0 ∷ names) (member_names es)

  -- a step of a loop that reads rows
  more : (rows : List (MapRow Value)) (row : MapRow Value) (o : Option (List (MapRow Value)))
      → option_map (λ rest. (rows ++ row ∷ []) ++ rest) o ≡ option_map (λ rest. rows ++ rest) (option_map (λ rest. row ∷ rest) o)
  more rows row None = refl
  more rows row (Some rest) = ap Some (append_assoc rows (row ∷ []) rest)

  abbrev with_value : Option (List (MapRow Value)) → Value → Value → Option (List (MapRow Value))
  with_value later j z = option_map (λ rs. record { key = j; value = z } ∷ rs) later

  pub row_step : (t u : Ty) (rows new : List (MapRow Value)) (es rest : List Entry) (name : String Global) (x : json.Value) (s : List ℕ) (k y : Value)
      → es ≡ (name, x) ∷ rest → s ≡ string_bytes name → Some k ≡ key_read s t → Some y ≡ reads structs (view x) u → new ≡ rows ++ record { key = k; value = y } ∷ []
      → option_map (λ r. new ++ r) (rows_read (member_readers structs (members_view rest)) t u) ≡ option_map (λ r. rows ++ r) (rows_read (member_readers structs (members_view es)) t u)
  row_step t u rows new es rest name x s k y at named key value grown =
      let later = rows_read (member_readers structs (members_view rest)) t u in
      let row : MapRow Value = record { key = k; value = y } in
      ap (λ xs. option_map (λ r. xs ++ r) later) grown
      ∙ more rows row later
      ∙ ap (option_map (λ r. rows ++ r))
      (ap (option_and_then (with_value later k)) value
      ∙ ap (option_and_then (λ j. option_and_then (with_value later j) (reads structs (view x) u))) (key ∙ ap (λ n. key_read n t) named)
      ∙ sym (ap (λ xs. rows_read (member_readers structs (members_view xs)) t u) at))

  pub list_read-some : (xs : List json.Value) (t : Ty) (some : Bool) → 1 ≤ length xs
      → list_read (item_readers structs (items_view xs)) t some ≡ option_map v.List (all_read (item_readers structs (items_view xs)) t)
  list_read-some [] t some h = absurd (omega arith)
  list_read-some (x ∷ xs) t some h = refl

-- ---- pairs

eqb_two : (n : ℕ) → n ≡ 2 → (n == 2) ≡ true
eqb_two n h = eq-eqb n 2 h

pub no_pair : (ms : List Named) (t u : Ty) (n : ℕ) → length ms ≡ n → (n ≡ 2 → ⊥) → None ≡ pair_read ms t u
no_pair ms t u n is other = by_test (length ms == 2) refl
  where
    by_test : (b : Bool) → (length ms == 2) ≡ b → None ≡ cond b (option_and_then (λ x. option_map (λ y. v.Pair x y) (part_read (codes "right") ms u)) (part_read (codes "left") ms t)) None
    by_test true h = absurd (other (sym is ∙ eqb-true (length ms) 2 h))
    by_test false h = refl

pub a_pair : (ms : List Named) (t u : Ty) (n : ℕ) (x y : Value) → length ms ≡ n → n ≡ 2 → Some x ≡ part_read (codes "left") ms t → Some y ≡ part_read (codes "right") ms u
    → Some (v.Pair x y) ≡ pair_read ms t u
a_pair ms t u n x y is two left right =
    let part = λ (o p : Option Value). option_and_then (λ a. option_map (λ b. v.Pair a b) p) o in
    ap (part (Some x)) right
    ∙ ap (λ o. part o (part_read (codes "right") ms u)) left
    ∙ sym (ap (λ b. cond b (part (part_read (codes "left") ms t) (part_read (codes "right") ms u)) None) (eqb_two (length ms) (is ∙ two)))
