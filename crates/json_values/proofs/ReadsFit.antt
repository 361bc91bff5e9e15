-- What JSON is read as at a type fits it.
use Rattle.std.proofs.Common.{◌≡◌, ℕ, ℤ, Bool, true, false, not, cond, ◌&&◌, ◌||◌, ◌==◌, List, [], ◌∷◌, length, codes, Option, Some, None, option_map, option_and_then, bytes_eq, nat_cmp, Ordering, Less, Equal, Greater, refl, sym, ap, ◌∙◌, subst}
use Rattle.std.proofs.lemmas.Bool.{false≢true, and_parts, and_from, or_right}
use Rattle.std.proofs.lemmas.Slice.Eq.{bytes_eq-Decides}
use Rattle.std.proofs.lemmas.Map.Text.{is_eq-slice_cmp}
use Rattle.std.specs.Cmp.Lexicographic.{slice_cmp}
use Rattle.std.specs.Fmt.{signed_decimal}
use Rattle.std.specs.Ordering.{is_lt, is_eq}
use Rattle.std.specs.Str.Parse.{signed_digits_value}
use Rattle.std.proofs.lemmas.Option.{same_Some}
use Rattle.serde_json.specs.Data.{Num, Data, null, boolean, number, string, array, object, Items, no_items, item, Members, no_members, member}
use Rattle.serde_json.specs.Find.{as_i64}
use Rattle.wdl_base.specs.Plain.{has_nul}
use Rattle.wdl_value.specs.declared.ty.Member.{Member}
use Rattle.wdl_value.specs.declared.ty.Ty.{Ty, Ty-F, out-Ty}
use Rattle.wdl_value.specs.declared.ty.Ty.TheOpen as type
use Rattle.wdl_value.specs.declared.value.Field.{Field}
use Rattle.wdl_value.specs.declared.value.MapRow.{MapRow}
use Rattle.wdl_value.specs.declared.value.Value.{Value, Value-F, out-Value, map-Value}
use Rattle.wdl_value.specs.declared.value.Value.TheVariants as v
use Rattle.wdl_value.specs.declared.value.Value.TheOpen as layer
use Rattle.wdl_value.specs.Bare.{bare, is_optional}
use Rattle.wdl_value.specs.Fits.{Structs, is_int, members_of, fits, takes, takes_at, takes_step, takes_all, takes_rows, takes_fields, is_absent}
use Rattle.wdl_value.specs.Keyed.{keyed, keyed_step, keyed_out, keyed_all, keyed_rows, keyed_fields, rows_of, distinct_keys, has_key}
use Rattle.wdl_value.specs.Kinds.{absent_at}
use Rattle.wdl_value.specs.SameValue.{same_value}
use Rattle.wdl_value.specs.ValueText.{text_of, text_at}
use Rattle.wdl_value.proofs.FitsLemmas.{tests, takes_out}
use Rattle.wdl_value.proofs.SameValueLemmas.{same_value-true}
use Rattle.json_values.specs.Ordered.{is_before, is_first, is_ordered, items_ordered, members_ordered}
use Rattle.json_values.specs.Reading.{Reader, Named, reads, item_readers, member_readers, null_read, bool_read, number_read, int_of, string_read, str_of, file_of, key_read, key_at, bool_key, int_key, is_decimal, all_read, list_read, array_read, reader_of, part_read, pair_read, rows_read, map_read, all_declared, names_of, left_out, member_at, member_read, field_of, fields_read, struct_in, object_read}
use Rattle.wdl_base.proofs.Options.{map_parts, then_parts, chosen_parts, refused_parts}

-- ---- answers that came

module _ (structs : Structs) where
  -- a value of a type without question marks
  pub record Suits (z : Ty-F Ty) (x : Value) : Type 0 where
    pub layer : Value-F Value
    pub is : out-Value x ≡ layer
    pub takes : takes_at structs (tests structs layer) z ≡ true
    pub keyed : keyed x ≡ true

  suits_fits : (x : Value) (t : Ty) → Suits (out-Ty (bare t)) x → fits structs x t ≡ true
  suits_fits x t s =
      and_from (takes structs x t) (keyed x)
      (takes_out structs x t
      ∙ ap (λ (l : Value-F Value). takes_step structs (tests structs l) t) s.is
      ∙ or_right (is_absent (tests structs s.layer) && is_optional (out-Ty t)) (takes_at structs (tests structs s.layer) (out-Ty (bare t))) s.takes)
      s.keyed

  keyed_by : (x : Value) (l : Value-F Value) → out-Value x ≡ l → keyed_step x (map-Value Value Bool keyed l) ≡ true → keyed x ≡ true
  keyed_by x l is h = keyed_out x ∙ ap (λ m. keyed_step x (map-Value Value Bool keyed m)) is ∙ h

  suits_bool : (b : Bool) → Suits type.Bool (v.Bool b)
  suits_bool b = record { layer = layer.Bool b; is = v.outs-Bool b; takes = refl; keyed = keyed_by (v.Bool b) (layer.Bool b) (v.outs-Bool b) refl }

  suits_int : (n : ℤ) → is_int n ≡ true → Suits type.Int (v.Int n)
  suits_int n h = record { layer = layer.Int n; is = v.outs-Int n; takes = h; keyed = keyed_by (v.Int n) (layer.Int n) (v.outs-Int n) refl }

  suits_str : (s : List ℕ) → Suits type.Str (v.Str s)
  suits_str s = record { layer = layer.Str s; is = v.outs-Str s; takes = refl; keyed = keyed_by (v.Str s) (layer.Str s) (v.outs-Str s) refl }

  suits_file : (s : List ℕ) → Suits type.File (v.File s)
  suits_file s = record { layer = layer.File s; is = v.outs-File s; takes = refl; keyed = keyed_by (v.File s) (layer.File s) (v.outs-File s) refl }

  -- ---- null

  absent_keyed : keyed v.Absent ≡ true
  absent_keyed = keyed_by v.Absent layer.Absent v.outs-Absent refl

  absent_takes : (z : Ty-F Ty) → absent_at z ≡ true → takes_at structs (tests structs layer.Absent) z ≡ true
  absent_takes type.Absent h = refl
  absent_takes z h = absurd (false≢true h)

  -- Absent fits an optional type, and that of `None`
  absent_fits : (t : Ty) → is_optional (out-Ty t) || absent_at (out-Ty (bare t)) ≡ true → fits structs v.Absent t ≡ true
  absent_fits t h =
      and_from (takes structs v.Absent t) (keyed v.Absent)
      (takes_out structs v.Absent t ∙ ap (λ (l : Value-F Value). takes_step structs (tests structs l) t) v.outs-Absent ∙ either (is_optional (out-Ty t)) h) absent_keyed
    where
      either : (b : Bool) → b || absent_at (out-Ty (bare t)) ≡ true → b || takes_at structs (tests structs layer.Absent) (out-Ty (bare t)) ≡ true
      either true k = refl
      either false k = absent_takes (out-Ty (bare t)) k

  null_fits : (t : Ty) (x : Value) → null_read t ≡ Some x → fits structs x t ≡ true
  null_fits t x h =
      let p = chosen_parts (is_optional (out-Ty t) || absent_at (out-Ty (bare t))) (Some v.Absent) x h in
      subst (λ (y : Value). fits structs y t ≡ true) (same_Some v.Absent x p.1) (absent_fits t p.0)

  left_out_fits : (t : Ty) (x : Value) → left_out t ≡ Some x → fits structs x t ≡ true
  left_out_fits t x h =
      let p = chosen_parts (is_optional (out-Ty t)) (Some v.Absent) x h in
      subst (λ (y : Value). fits structs y t ≡ true) (same_Some v.Absent x p.1) (absent_fits t (ap (λ b. b || absent_at (out-Ty (bare t))) p.0))

  -- ---- numbers and texts

  suits_of : (z : Ty-F Ty) (x y : Value) → Some y ≡ Some x → Suits z y → Suits z x
  suits_of z x y e s = subst (Suits z) (same_Some y x e) s

  bool_suits : (b : Bool) (z : Ty-F Ty) (x : Value) → bool_read b z ≡ Some x → Suits z x
  bool_suits b type.Bool x h = suits_of type.Bool x (v.Bool b) h (suits_bool b)
  bool_suits b z x h = cc

  int_suits : (n : ℤ) (x : Value) → int_of n ≡ Some x → Suits type.Int x
  int_suits n x h = let p = chosen_parts (is_int n) (Some (v.Int n)) x h in suits_of type.Int x (v.Int n) p.1 (suits_int n p.0)

  number_suits : (n : Num) (z : Ty-F Ty) (x : Value) → number_read n z ≡ Some x → Suits z x
  number_suits n type.Int x h = let p = then_parts int_of (as_i64 n) x h in int_suits p.0 x p.2
  number_suits n z x h = cc

  str_suits : (s : List ℕ) (x : Value) → str_of s ≡ Some x → Suits type.Str x
  str_suits s x h = let p = refused_parts (has_nul s) (Some (v.Str s)) x h in suits_of type.Str x (v.Str s) p.1 (suits_str s)

  file_suits : (s : List ℕ) (x : Value) → file_of s ≡ Some x → Suits type.File x
  file_suits s x h = let p = refused_parts (has_nul s) (Some (v.File s)) x h in suits_of type.File x (v.File s) p.1 (suits_file s)

  string_suits : (s : List ℕ) (z : Ty-F Ty) (x : Value) → string_read s z ≡ Some x → Suits z x
  string_suits s type.Str x h = str_suits s x h
  string_suits s type.File x h = file_suits s x h
  string_suits s z x h = cc

  -- ---- keys

  text_by : (x : Value) (l : Value-F Value) → out-Value x ≡ l → text_of x ≡ text_at l
  text_by x l is = ap text_at is

  -- a key suits its type, and has its text
  abbrev Keys : List ℕ → Ty-F Ty → Value → Type 0
  Keys k z x = Suits z x × (text_of x ≡ k)

  keys_of : (k : List ℕ) (z : Ty-F Ty) (x y : Value) → Some y ≡ Some x → Keys k z y → Keys k z x
  keys_of k z x y e s = subst (Keys k z) (same_Some y x e) s

  bool_keys : (k : List ℕ) (x : Value) → bool_key k ≡ Some x → Keys k type.Bool x
  bool_keys k x h = by_tests (bytes_eq k (codes "true")) refl (bytes_eq k (codes "false")) refl h
    where
      by_tests : (a : Bool) → bytes_eq k (codes "true") ≡ a → (b : Bool) → bytes_eq k (codes "false") ≡ b
          → cond a (Some (v.Bool true)) (cond b (Some (v.Bool false)) None) ≡ Some x → Keys k type.Bool x
      by_tests true i b j e =
          keys_of k type.Bool x (v.Bool true) e (suits_bool true, text_by (v.Bool true) (layer.Bool true) (v.outs-Bool true) ∙ sym ((bytes_eq-Decides k (codes "true")).0 i))
      by_tests false i true j e =
          keys_of k type.Bool x (v.Bool false) e (suits_bool false, text_by (v.Bool false) (layer.Bool false) (v.outs-Bool false) ∙ sym ((bytes_eq-Decides k (codes "false")).0 j))
      by_tests false i false j e = cc

  int_keys : (k : List ℕ) (x : Value) → int_key k ≡ Some x → Keys k type.Int x
  int_keys k x h =
      let n = signed_digits_value 10 k in
      let p = chosen_parts (is_decimal n k) (Some (v.Int n)) x h in
      let q = and_parts (is_int n) (bytes_eq (signed_decimal n) k) p.0 in
      keys_of k type.Int x (v.Int n) p.1 (suits_int n q.0, text_by (v.Int n) (layer.Int n) (v.outs-Int n) ∙ (bytes_eq-Decides (signed_decimal n) k).0 q.1)

  str_keys : (k : List ℕ) (x : Value) → str_of k ≡ Some x → Keys k type.Str x
  str_keys k x h = let p = refused_parts (has_nul k) (Some (v.Str k)) x h in keys_of k type.Str x (v.Str k) p.1 (suits_str k, text_by (v.Str k) (layer.Str k) (v.outs-Str k))

  file_keys : (k : List ℕ) (x : Value) → file_of k ≡ Some x → Keys k type.File x
  file_keys k x h = let p = refused_parts (has_nul k) (Some (v.File k)) x h in keys_of k type.File x (v.File k) p.1 (suits_file k, text_by (v.File k) (layer.File k) (v.outs-File k))

  key_keys : (k : List ℕ) (z : Ty-F Ty) (x : Value) → key_at k z ≡ Some x → Keys k z x
  key_keys k type.Bool x h = bool_keys k x h
  key_keys k type.Int x h = int_keys k x h
  key_keys k type.Str x h = str_keys k x h
  key_keys k type.File x h = file_keys k x h
  key_keys k z x h = cc

  key_fits : (k : List ℕ) (t : Ty) (x : Value) → key_read k t ≡ Some x → (fits structs x t ≡ true) × (text_of x ≡ k)
  key_fits k t x h = let p = key_keys k (out-Ty (bare t)) x h in (suits_fits x t p.0, p.1)

  -- ---- arrays

  abbrev Sound : Reader → Type 0
  Sound r = (t : Ty) (x : Value) → r t ≡ Some x → fits structs x t ≡ true

  abbrev AllSound : List Reader → Type 0
  AllSound [] = Unit {0}
  AllSound (r ∷ rs) = Sound r × AllSound rs

  abbrev AllFit : List Value → Ty → Type 0
  AllFit xs t = (takes_all structs xs t ≡ true) × (keyed_all xs ≡ true)

  all_fit : (rs : List Reader) (t : Ty) (xs : List Value) → AllSound rs → all_read rs t ≡ Some xs → AllFit xs t
  all_fit [] t xs s h = subst (λ (ys : List Value). AllFit ys t) (same_Some [] xs h) (refl, refl)
  all_fit (r ∷ rs) t xs s h =
      let p = then_parts (λ x. option_map (λ xs. x ∷ xs) (all_read rs t)) (r t) xs h in
      let q = map_parts (λ ys. p.0 ∷ ys) (all_read rs t) xs p.2 in
      let one = and_parts (takes structs p.0 t) (keyed p.0) (s.0 t p.0 p.1) in
      let more = all_fit rs t q.0 s.1 q.1 in
      subst (λ (ys : List Value). AllFit ys t) q.2 (and_from (takes structs p.0 t) (takes_all structs q.0 t) one.0 more.0, and_from (keyed p.0) (keyed_all q.0) one.1 more.1)

  -- a list of as many items
  some_items : (r : Reader) (rs : List Reader) (t : Ty) (xs : List Value) → all_read (r ∷ rs) t ≡ Some xs → (y : Value) × (ys : List Value) × (xs ≡ y ∷ ys)
  some_items r rs t xs h =
      let p = then_parts (λ x. option_map (λ xs. x ∷ xs) (all_read rs t)) (r t) xs h in
      let q = map_parts (λ ys. p.0 ∷ ys) (all_read rs t) xs p.2 in
      (p.0, q.0, sym q.2)

  list_suits : (rs : List Reader) (t : Ty) (some : Bool) (x : Value) → AllSound rs → list_read rs t some ≡ Some x → Suits (type.Array t some) x
  list_suits [] t true x s h = cc
  list_suits [] t false x s h =
      suits_of (type.Array t false) x (v.List []) h (record { layer = layer.List []; is = v.outs-List []; takes = refl; keyed = keyed_by (v.List []) (layer.List []) (v.outs-List []) refl })
  list_suits (r ∷ rs) t some x s h =
      let p = map_parts v.List (all_read (r ∷ rs) t) x h in
      let q = some_items r rs t p.0 p.1 in
      let xs = q.0 ∷ q.1 in
      let f = all_fit (r ∷ rs) t xs s (p.1 ∙ ap Some q.2) in
      suits_of (type.Array t some) x (v.List xs) (ap (λ ys. Some (v.List ys)) (sym q.2) ∙ ap Some p.2)
      (record { layer = layer.List xs; is = v.outs-List xs; takes = f.0; keyed = keyed_by (v.List xs) (layer.List xs) (v.outs-List xs) f.1 })

  array_suits : (rs : List Reader) (z : Ty-F Ty) (x : Value) → AllSound rs → array_read rs z ≡ Some x → Suits z x
  array_suits rs (type.Array t some) x s h = list_suits rs t some x s h
  array_suits rs z x s h = cc

  -- ---- objects

  abbrev MembersSound : List Named → Type 0
  MembersSound [] = Unit {0}
  MembersSound (m ∷ ms) = Sound m.reader × MembersSound ms

  reader_sound : (name : List ℕ) (ms : List Named) (r : Reader) → MembersSound ms → reader_of name ms ≡ Some r → Sound r
  reader_sound name [] r s h = cc
  reader_sound name (m ∷ ms) r s h = by_test (bytes_eq name m.name) h (reader_sound name ms r s.1)
    where
      by_test : (b : Bool) → cond b (Some m.reader) (reader_of name ms) ≡ Some r → (reader_of name ms ≡ Some r → Sound r) → Sound r
      by_test true k more = subst Sound (same_Some m.reader r k) s.0
      by_test false k more = more k

  part_fits : (name : List ℕ) (ms : List Named) (t : Ty) (x : Value) → MembersSound ms → part_read name ms t ≡ Some x → fits structs x t ≡ true
  part_fits name ms t x s h = let p = then_parts (λ (r : Reader). r t) (reader_of name ms) x h in reader_sound name ms p.0 s p.1 t x p.2

  pair_suits : (ms : List Named) (t u : Ty) (x : Value) → MembersSound ms → pair_read ms t u ≡ Some x → Suits (type.Pair t u) x
  pair_suits ms t u x s h =
      let p = chosen_parts (length ms == 2) (option_and_then (λ x. option_map (λ y. v.Pair x y) (part_read (codes "right") ms u)) (part_read (codes "left") ms t)) x h in
      let q = then_parts (λ x. option_map (λ y. v.Pair x y) (part_read (codes "right") ms u)) (part_read (codes "left") ms t) x p.1 in
      let r = map_parts (λ y. v.Pair q.0 y) (part_read (codes "right") ms u) x q.2 in
      let a = and_parts (takes structs q.0 t) (keyed q.0) (part_fits (codes "left") ms t q.0 s q.1) in
      let b = and_parts (takes structs r.0 u) (keyed r.0) (part_fits (codes "right") ms u r.0 s r.1) in
      suits_of (type.Pair t u) x (v.Pair q.0 r.0) (ap Some r.2)
      (record {
        layer = layer.Pair q.0 r.0;
        is = v.outs-Pair q.0 r.0;
        takes = and_from (takes structs q.0 t) (takes structs r.0 u) a.0 b.0;
        keyed = keyed_by (v.Pair q.0 r.0) (layer.Pair q.0 r.0) (v.outs-Pair q.0 r.0) (and_from (keyed q.0) (keyed r.0) a.1 b.1);
      })

  -- ---- maps

  abbrev before_all : List ℕ → List Named → Bool
  before_all k [] = true
  before_all k (m ∷ ms) = is_before k m.name && before_all k ms

  abbrev in_order : List Named → Bool
  in_order [] = true
  in_order (m ∷ ms) = before_all m.name ms && in_order ms

  -- a name that stands before another one is not this one
  apart : (k l : List ℕ) → is_before k l ≡ true → k ≡ l → ⊥
  apart k l h same = by_order (slice_cmp nat_cmp k l) h (is_eq-slice_cmp k l ∙ (bytes_eq-Decides k l).1 same)
    where
      by_order : (o : Ordering) → is_lt o ≡ true → is_eq o ≡ true → ⊥
      by_order Less i j = false≢true j
      by_order Equal i j = false≢true i
      by_order Greater i j = false≢true i

  abbrev RowsFit : List (MapRow Value) → Ty → Ty → Type 0
  RowsFit rows t u = (takes_rows structs rows t u ≡ true) × (keyed_rows rows ≡ true) × (distinct_keys rows ≡ true)

  row_parts : (m : Named) (ms : List Named) (t u : Ty) (rows : List (MapRow Value)) → rows_read (m ∷ ms) t u ≡ Some rows
      → (k : Value) × (x : Value) × (more : List (MapRow Value)) × (key_read m.name t ≡ Some k) × (m.reader u ≡ Some x) × (rows_read ms t u ≡ Some more) × (record { key = k; value = x } ∷ more ≡ rows)
  row_parts m ms t u rows h =
      let p = then_parts (λ k. option_and_then (λ x. option_map (λ rows. record { key = k; value = x } ∷ rows) (rows_read ms t u)) (m.reader u)) (key_read m.name t) rows h in
      let q = then_parts (λ x. option_map (λ rows. record { key = p.0; value = x } ∷ rows) (rows_read ms t u)) (m.reader u) rows p.2 in
      let r = map_parts (λ rows. record { key = p.0; value = q.0 } ∷ rows) (rows_read ms t u) rows q.2 in
      (p.0, q.0, r.0, p.1, q.1, r.1, r.2)

  -- a key whose text stands before the others' is none of them
  no_key : (k : List ℕ) (x : Value) (ms : List Named) (t u : Ty) (rows : List (MapRow Value)) → text_of x ≡ k → before_all k ms ≡ true → rows_read ms t u ≡ Some rows → has_key x rows ≡ false
  no_key k x [] t u rows text first h = ap (has_key x) (sym (same_Some [] rows h))
  no_key k x (m ∷ ms) t u rows text first h =
      let p = row_parts m ms t u rows h in
      let q = and_parts (is_before k m.name) (before_all k ms) first in
      let differ : same_value x p.0 ≡ false = by_test (same_value x p.0) refl (λ same. apart k m.name q.0 (sym text ∙ ap text_of (same_value-true x p.0 same) ∙ (key_fits m.name t p.0 p.3).1)) in
      ap (has_key x) (sym p.6) ∙ ap (λ b. b || has_key x p.2) differ ∙ no_key k x ms t u p.2 text q.1 p.5
    where
      by_test : (b : Bool) → b ≡ b → (b ≡ true → ⊥) → b ≡ false
      by_test true e h = absurd (h refl)
      by_test false e h = refl

  rows_fit : (ms : List Named) (t u : Ty) (rows : List (MapRow Value)) → MembersSound ms → in_order ms ≡ true → rows_read ms t u ≡ Some rows → RowsFit rows t u
  rows_fit [] t u rows s o h = subst (λ (rs : List (MapRow Value)). RowsFit rs t u) (same_Some [] rows h) (refl, refl, refl)
  rows_fit (m ∷ ms) t u rows s o h =
      let p = row_parts m ms t u rows h in
      let q = and_parts (before_all m.name ms) (in_order ms) o in
      let key = key_fits m.name t p.0 p.3 in
      let k = and_parts (takes structs p.0 t) (keyed p.0) key.0 in
      let x = and_parts (takes structs p.1 u) (keyed p.1) (s.0 u p.1 p.4) in
      let more = rows_fit ms t u p.2 s.1 q.1 p.5 in
      subst (λ (rs : List (MapRow Value)). RowsFit rs t u) p.6 (
        and_from (takes structs p.0 t && takes structs p.1 u) (takes_rows structs p.2 t u) (and_from (takes structs p.0 t) (takes structs p.1 u) k.0 x.0) more.0,
        and_from (keyed p.0 && keyed p.1) (keyed_rows p.2) (and_from (keyed p.0) (keyed p.1) k.1 x.1) more.1,
        and_from (not (has_key p.0 p.2)) (distinct_keys p.2) (ap not (no_key m.name p.0 ms t u p.2 key.1 q.0 p.5)) more.2,
      )

  map_suits : (ms : List Named) (t u : Ty) (x : Value) → MembersSound ms → in_order ms ≡ true → map_read ms t u ≡ Some x → Suits (type.Map t u) x
  map_suits ms t u x s o h =
      let p = map_parts v.Map (rows_read ms t u) x h in
      let f = rows_fit ms t u p.0 s o p.1 in
      let is = v.outs-Map p.0 in
      suits_of (type.Map t u) x (v.Map p.0) (ap Some p.2)
      (record {
        layer = layer.Map p.0;
        is = is;
        takes = f.0;
        keyed = keyed_by (v.Map p.0) (layer.Map p.0) is (and_from (distinct_keys (rows_of (out-Value (v.Map p.0)))) (keyed_rows p.0) (ap (λ m. distinct_keys (rows_of m)) is ∙ f.2) f.1);
      })

  -- ---- structs

  abbrev FieldsFit : List (Field Value) → List Member → Type 0
  FieldsFit fs ds = (takes_fields structs fs ds ≡ true) × (keyed_fields fs ≡ true)

  member_fits : (ms : List Named) (d : Member) (x : Value) → MembersSound ms → member_read ms d ≡ Some x → fits structs x d.ty ≡ true
  member_fits ms d x s h = by_reader (reader_of d.name ms) refl h
    where
      by_reader : (o : Option Reader) → reader_of d.name ms ≡ o → member_at o d.ty ≡ Some x → fits structs x d.ty ≡ true
      by_reader None is k = left_out_fits d.ty x k
      by_reader (Some r) is k = reader_sound d.name ms r s is d.ty x k

  fields_fit : (ms : List Named) (ds : List Member) (fs : List (Field Value)) → MembersSound ms → fields_read ms ds ≡ Some fs → FieldsFit fs ds
  fields_fit ms [] fs s h = subst (λ (gs : List (Field Value)). FieldsFit gs []) (same_Some [] fs h) (refl, refl)
  fields_fit ms (d ∷ ds) fs s h =
      let p = then_parts (λ x. option_map (λ fs. field_of d.name x ∷ fs) (fields_read ms ds)) (member_read ms d) fs h in
      let q = map_parts (λ gs. field_of d.name p.0 ∷ gs) (fields_read ms ds) fs p.2 in
      let one = and_parts (takes structs p.0 d.ty) (keyed p.0) (member_fits ms d p.0 s p.1) in
      let more = fields_fit ms ds q.0 s q.1 in
      subst (λ (gs : List (Field Value)). FieldsFit gs (d ∷ ds)) q.2 (
        and_from (bytes_eq d.name d.name && takes structs p.0 d.ty) (takes_fields structs q.0 ds)
            (and_from (bytes_eq d.name d.name) (takes structs p.0 d.ty) ((bytes_eq-Decides d.name d.name).1 refl) one.0) more.0,
        and_from (keyed p.0) (keyed_fields q.0) one.1 more.1,
      )

  abbrev takes_some : List (Field Value) → Option (List Member) → Bool
  takes_some fs None = false
  takes_some fs (Some ds) = takes_fields structs fs ds

  struct_suits : (name : List ℕ) (ms : List Named) (x : Value) → MembersSound ms → struct_in name ms (members_of structs name) ≡ Some x → Suits (type.Struct name) x
  struct_suits name ms x s h = by_members (members_of structs name) refl h
    where
      by_members : (o : Option (List Member)) → members_of structs name ≡ o → struct_in name ms o ≡ Some x → Suits (type.Struct name) x
      by_members None is k = cc
      by_members (Some ds) is k =
          let p = chosen_parts (all_declared (names_of ms) ds) (option_map (v.Struct name) (fields_read ms ds)) x k in
          let q = map_parts (v.Struct name) (fields_read ms ds) x p.1 in
          let f = fields_fit ms ds q.0 s q.1 in
          let known : takes_at structs (tests structs (layer.Struct name q.0)) (type.Struct name) ≡ true =
          and_from (bytes_eq name name) (takes_some q.0 (members_of structs name)) ((bytes_eq-Decides name name).1 refl) (ap (takes_some q.0) is ∙ f.0) in
          suits_of (type.Struct name) x (v.Struct name q.0) (ap Some q.2)
          (record {
            layer = layer.Struct name q.0;
            is = v.outs-Struct name q.0;
            takes = known;
            keyed = keyed_by (v.Struct name q.0) (layer.Struct name q.0) (v.outs-Struct name q.0) f.1;
          })

  object_suits : (ms : List Named) (z : Ty-F Ty) (x : Value) → MembersSound ms → in_order ms ≡ true → object_read structs ms z ≡ Some x → Suits z x
  object_suits ms (type.Pair t u) x s o h = pair_suits ms t u x s h
  object_suits ms (type.Map t u) x s o h = map_suits ms t u x s o h
  object_suits ms (type.Struct name) x s o h = struct_suits name ms x s h
  object_suits ms z x s o h = cc

  -- ---- all JSON

  first_names : (k : List ℕ) (ms : Members) → before_all k (member_readers structs ms) ≡ is_first k ms
  first_names k no_members = refl
  first_names k (member l d ms) = ap (λ b. is_before k l && b) (first_names k ms)

  names_ordered : (ms : Members) → members_ordered ms ≡ true → in_order (member_readers structs ms) ≡ true
  names_ordered no_members h = refl
  names_ordered (member k d ms) h =
      let p = and_parts (is_first k ms && is_ordered d) (members_ordered ms) h in
      and_from (before_all k (member_readers structs ms)) (in_order (member_readers structs ms)) (first_names k ms ∙ (and_parts (is_first k ms) (is_ordered d) p.0).0) (names_ordered ms p.1)

  mutual
    pub reads_fits : (d : Data) → is_ordered d ≡ true → Sound (reads structs d)
    reads_fits null o t x h = null_fits t x h
    reads_fits (boolean b) o t x h = suits_fits x t (bool_suits b (out-Ty (bare t)) x h)
    reads_fits (number n) o t x h = suits_fits x t (number_suits n (out-Ty (bare t)) x h)
    reads_fits (string s) o t x h = suits_fits x t (string_suits s (out-Ty (bare t)) x h)
    reads_fits (array ds) o t x h = suits_fits x t (array_suits (item_readers structs ds) (out-Ty (bare t)) x (items_sound ds o) h)
    reads_fits (object ms) o t x h = suits_fits x t (object_suits (member_readers structs ms) (out-Ty (bare t)) x (members_sound ms o) (names_ordered ms o) h)

    items_sound : (ds : Items) → items_ordered ds ≡ true → AllSound (item_readers structs ds)
    items_sound no_items o = tt
    items_sound (item d ds) o = let p = and_parts (is_ordered d) (items_ordered ds) o in (reads_fits d p.0, items_sound ds p.1)

    members_sound : (ms : Members) → members_ordered ms ≡ true → MembersSound (member_readers structs ms)
    members_sound no_members o = tt
    members_sound (member k d ms) o =
        let p = and_parts (is_first k ms && is_ordered d) (members_ordered ms) o in
        (reads_fits d (and_parts (is_first k ms) (is_ordered d) p.0).1, members_sound ms p.1)
