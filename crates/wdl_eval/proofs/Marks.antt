-- Two keys are one where their marks are, and a set of marks that were seen.
use Rattle.std.proofs.Common.{◌≡◌, ℕ, ℤ, ◌<◌, ◌+◌, Bool, true, false, cond, not, ◌&&◌, ◌||◌, List, [], ◌∷◌, length, get_or, drop, Option, Some, None, String, string_bytes, arith, sym, ap, ◌∙◌, refl}
use Rattle.std.specs.BTreeSet.{BTreeSet, contains_text}
use Rattle.std.specs.Cmp.Lexicographic.{slice_cmp}
use Rattle.std.specs.Fmt.{signed_decimal}
use Rattle.std.specs.Global.{Global}
use Rattle.std.specs.List.{list_any}
use Rattle.std.specs.Ordering.{is_eq, nat_cmp}
use Rattle.std.specs.Str.{bytes_eq}
use Rattle.std.proofs.lemmas.Bool.{false≢true}
use Rattle.std.proofs.lemmas.List.{drop_more}
use Rattle.std.proofs.lemmas.Slice.Eq.{bytes_eq-Decides}
use Rattle.wdl_value.specs.declared.value.MapRow.{MapRow}
use Rattle.wdl_value.specs.declared.value.Value.{Value, Value-F, out-Value, roll-Value, roll-out-Value}
use Rattle.wdl_value.specs.declared.value.Value.TheOpen as layer
use Rattle.wdl_value.specs.Fits.{is_int}
use Rattle.wdl_value.specs.Keyed.{distinct_keys, has_key}
use Rattle.wdl_value.specs.SameValue.{same_value}
use Rattle.wdl_value.specs.ValueText.{bool_text}
use Rattle.wdl_value.proofs.SameValueLemmas.{same_value-refl, same_value-true}
use Rattle.wdl_eval.specs.Marks.{int_mark, mark_at, mark_of}
use Rattle.wdl_value.proofs.CastParts.{bool_text_injective as same_bool_text, int_text_injective as same_int_text}
use Rattle.wdl_stdlib.proofs.Keys.{regroup}

-- ---- equal marks

int_marked : (n : ℤ) (s : List ℕ) → int_mark n ≡ Some s → (is_int n ≡ true) × (105 ∷ signed_decimal n ≡ s)
int_marked n s = by_test (is_int n) refl
  where
    by_test : (b : Bool) → is_int n ≡ b → cond b (Some (105 ∷ signed_decimal n)) None ≡ Some s → (is_int n ≡ true) × (105 ∷ signed_decimal n ≡ s)
    by_test true e h = (e, cc)
    by_test false e h = absurd (cc)

head_same : (m n : ℕ) (s t : List ℕ) → m ∷ s ≡ n ∷ t → m ≡ n
head_same m n s t h = cc

a_bool : (b : Bool) (l : Value-F Value) → mark_at l ≡ Some (98 ∷ bool_text b) → layer.Bool b ≡ l
a_bool b (layer.Bool c) h = let e : bool_text b ≡ bool_text c = cc in ap layer.Bool (same_bool_text b c e)
a_bool b (layer.Int n) h = let p = int_marked n (98 ∷ bool_text b) h in let e = head_same 105 98 (signed_decimal n) (bool_text b) p.1 in absurd (omega arith)
a_bool b (layer.Str s) h = let e = head_same 115 98 s (bool_text b) (cc) in absurd (omega arith)
a_bool b (layer.File s) h = let e = head_same 102 98 s (bool_text b) (cc) in absurd (omega arith)
a_bool b l h = absurd (cc)

an_int : (m : ℤ) (l : Value-F Value) → is_int m ≡ true → mark_at l ≡ Some (105 ∷ signed_decimal m) → layer.Int m ≡ l
an_int m (layer.Bool b) i h = let e = head_same 98 105 (bool_text b) (signed_decimal m) (cc) in absurd (omega arith)
an_int m (layer.Int n) i h = let p = int_marked n (105 ∷ signed_decimal m) h in let e : signed_decimal m ≡ signed_decimal n = cc in ap layer.Int (same_int_text m n i p.0 e)
an_int m (layer.Str s) i h = let e = head_same 115 105 s (signed_decimal m) (cc) in absurd (omega arith)
an_int m (layer.File s) i h = let e = head_same 102 105 s (signed_decimal m) (cc) in absurd (omega arith)
an_int m l i h = absurd (cc)

a_str : (t : List ℕ) (l : Value-F Value) → mark_at l ≡ Some (115 ∷ t) → layer.Str t ≡ l
a_str t (layer.Bool b) h = let e = head_same 98 115 (bool_text b) t (cc) in absurd (omega arith)
a_str t (layer.Int n) h = let p = int_marked n (115 ∷ t) h in let e = head_same 105 115 (signed_decimal n) t p.1 in absurd (omega arith)
a_str t (layer.Str s) h = let e : t ≡ s = cc in ap layer.Str e
a_str t (layer.File s) h = let e = head_same 102 115 s t (cc) in absurd (omega arith)
a_str t l h = absurd (cc)

a_file : (t : List ℕ) (l : Value-F Value) → mark_at l ≡ Some (102 ∷ t) → layer.File t ≡ l
a_file t (layer.Bool b) h = let e = head_same 98 102 (bool_text b) t (cc) in absurd (omega arith)
a_file t (layer.Int n) h = let p = int_marked n (102 ∷ t) h in let e = head_same 105 102 (signed_decimal n) t p.1 in absurd (omega arith)
a_file t (layer.Str s) h = let e = head_same 115 102 s t (cc) in absurd (omega arith)
a_file t (layer.File s) h = let e : t ≡ s = cc in ap layer.File e
a_file t l h = absurd (cc)

same_layer : (l m : Value-F Value) (s : List ℕ) → mark_at l ≡ Some s → mark_at m ≡ Some s → l ≡ m
same_layer (layer.Bool b) m s h k = a_bool b m (k ∙ sym h)
same_layer (layer.Int n) m s h k = let p = int_marked n s h in an_int n m p.0 (k ∙ ap (λ z. Some z) (sym p.1))
same_layer (layer.Str t) m s h k = a_str t m (k ∙ sym h)
same_layer (layer.File t) m s h k = a_file t m (k ∙ sym h)
same_layer l m s h k = absurd (cc)

abbrev is_mark : List ℕ → Option (List ℕ) → Bool
is_mark s None = false
is_mark s (Some t) = bytes_eq s t

one_mark : (x y : Value) (s : List ℕ) → mark_of x ≡ Some s → is_mark s (mark_of y) ≡ same_value x y
one_mark x y s h = by_value (same_value x y) refl
  where
    by_text : (t : List ℕ) → mark_of y ≡ Some t → same_value x y ≡ false → (b : Bool) → bytes_eq s t ≡ b → b ≡ false
    by_text t k e true same =
        let layers = same_layer (out-Value x) (out-Value y) t (h ∙ ap (λ z. Some z) ((bytes_eq-Decides s t).0 same)) k in
        let values : x ≡ y = sym (roll-out-Value x) ∙ ap roll-Value layers ∙ roll-out-Value y in
        absurd (false≢true (sym e ∙ ap (same_value x) (sym values) ∙ same_value-refl x))
    by_text t k e false same = refl

    by_mark : (o : Option (List ℕ)) → mark_of y ≡ o → same_value x y ≡ false → is_mark s o ≡ false
    by_mark None k e = refl
    by_mark (Some t) k e = by_text t k e (bytes_eq s t) refl

    by_value : (b : Bool) → same_value x y ≡ b → is_mark s (mark_of y) ≡ b
    by_value true e = ap (is_mark s) (ap mark_of (sym (same_value-true x y e)) ∙ h) ∙ (bytes_eq-Decides s s).1 refl
    by_value false e = by_mark (mark_of y) refl e

-- ---- rows and a set of marks

abbrev has_mark : List ℕ → List (MapRow Value) → Bool
has_mark s [] = false
has_mark s (r ∷ rows) = is_mark s (mark_of r.key) || has_mark s rows

has_marks : (x : Value) (s : List ℕ) → mark_of x ≡ Some s → (rows : List (MapRow Value)) → has_mark s rows ≡ has_key x rows
has_marks x s h [] = refl
has_marks x s h (r ∷ rows) = ap (λ b. b || has_mark s rows) (one_mark x r.key s h) ∙ ap (λ b. same_value x r.key || b) (has_marks x s h rows)

abbrev is_seen : BTreeSet (String Global) → Option (List ℕ) → Bool
is_seen seen None = false
is_seen seen (Some s) = contains_text seen s

-- some row has a key whose mark was seen
abbrev pub meet : BTreeSet (String Global) → List (MapRow Value) → Bool
meet seen [] = false
meet seen (r ∷ rows) = is_seen seen (mark_of r.key) || meet seen rows

abbrev Adds : BTreeSet (String Global) → BTreeSet (String Global) → List ℕ → Type 0
Adds seen more s = (t : List ℕ) → contains_text more t ≡ cond (bytes_eq s t) true (contains_text seen t)

pub meet-empty : (seen : BTreeSet (String Global)) → seen.keys ≡ [] → (rows : List (MapRow Value)) → meet seen rows ≡ false
meet-empty seen h [] = refl
meet-empty seen h (r ∷ rows) = by_mark (mark_of r.key) (meet-empty seen h rows)
  where
    by_mark : (o : Option (List ℕ)) → meet seen rows ≡ false → (is_seen seen o || meet seen rows) ≡ false
    by_mark None e = e
    by_mark (Some s) e = ap (λ keys. list_any (λ k. is_eq (slice_cmp nat_cmp s (string_bytes k))) keys || meet seen rows) h ∙ e

meet-insert : (seen more : BTreeSet (String Global)) (s : List ℕ) → Adds seen more s → (rows : List (MapRow Value)) → meet more rows ≡ (meet seen rows || has_mark s rows)
meet-insert seen more s h [] = refl
meet-insert seen more s h (r ∷ rows) = by_mark (mark_of r.key) (meet-insert seen more s h rows)
  where
    by_mark : (o : Option (List ℕ)) → meet more rows ≡ (meet seen rows || has_mark s rows)
        → (is_seen more o || meet more rows) ≡ ((is_seen seen o || meet seen rows) || (is_mark s o || has_mark s rows))
    by_mark None e = e
    by_mark (Some t) e =
        ap (λ b. b || meet more rows) (h t) ∙ ap (λ b. cond (bytes_eq s t) true (contains_text seen t) || b) e
        ∙ regroup (bytes_eq s t) (contains_text seen t) (meet seen rows) (has_mark s rows)

-- no key of the rows was seen, and they are distinct
abbrev pub are_new : BTreeSet (String Global) → List (MapRow Value) → Bool
are_new seen rows = not (meet seen rows) && distinct_keys rows

apart : (a b c : Bool) → (not (a || b) && c) ≡ (not a && (not b && c))
apart true b c = refl
apart false b c = refl

module _ (seen : BTreeSet (String Global)) (rows : List (MapRow Value)) (i : ℕ) (r : MapRow Value) (s : List ℕ) (at : r ≡ get_or rows i r) (below : i < length rows)
    (marked : mark_of r.key ≡ Some s) (before : are_new seen (drop i rows) ≡ distinct_keys rows) where
  rest : List (MapRow Value)
  rest = drop (i + 1) rows

  cut : drop i rows ≡ r ∷ drop (i + 1) rows
  cut = drop_more rows i r below ∙ ap (λ z. z ∷ drop (i + 1) rows) (sym at)

  all : are_new seen (r ∷ drop (i + 1) rows) ≡ distinct_keys rows
  all = ap (are_new seen) (sym cut) ∙ before

  -- with what the set says of the mark
  told : (b : Bool) → contains_text seen s ≡ b → (not (b || meet seen (drop (i + 1) rows)) && distinct_keys (r ∷ drop (i + 1) rows)) ≡ distinct_keys rows
  told b h = ap (λ c. not (c || meet seen (drop (i + 1) rows)) && distinct_keys (r ∷ drop (i + 1) rows)) (sym (ap (is_seen seen) marked ∙ h)) ∙ all

  pub repeated : contains_text seen s ≡ true → false ≡ distinct_keys rows
  repeated h = told true h

  pub one_more : (more : BTreeSet (String Global)) → contains_text seen s ≡ false → Adds seen more s → are_new more (drop (i + 1) rows) ≡ distinct_keys rows
  one_more more h adds =
      let after = drop (i + 1) rows in
      ap (λ b. not b && distinct_keys after) (meet-insert seen more s adds after)
      ∙ ap (λ b. not (meet seen after || b) && distinct_keys after) (has_marks r.key s marked after)
      ∙ apart (meet seen after) (has_key r.key after) (distinct_keys after)
      ∙ told false h
