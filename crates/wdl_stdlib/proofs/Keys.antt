-- Pairs by the texts of their keys: a set of keys seen, and the groups that are left.
use Rattle.std.proofs.Common.{◌≡◌, ℕ, Bool, true, false, cond, not, ◌||◌, List, [], ◌∷◌, ◌++◌, length, map, get_or, drop, Some, None, is_some, sym, ap, ◌∙◌, refl, append_assoc, String, string_bytes, ◌<◌, ◌+◌}
use Rattle.std.specs.Cmp.Lexicographic.{slice_cmp}
use Rattle.std.specs.Ordering.{is_eq, nat_cmp}
use Rattle.std.proofs.lemmas.List.{drop_more}
use Rattle.std.proofs.lemmas.Slice.Eq.{bytes_eq-Decides}
use Rattle.std.specs.Option.{option_map_or}
use Rattle.wdl_stdlib.specs.Groups.{AreGroups}
use Rattle.std.specs.BTreeMap.{BTreeMap, get_by_text}
use Rattle.std.specs.BTreeSet.{BTreeSet, contains_text}
use Rattle.std.specs.Global.{Global, Vec}
use Rattle.std.specs.List.{filter, list_any}
use Rattle.std.specs.Str.{bytes_eq}
use Rattle.std.proofs.Math.Bool.{or_assoc}
use Rattle.wdl_value.specs.declared.value.Value.{Value}
use Rattle.wdl_value.specs.declared.value.Value.TheVariants as v
use Rattle.wdl_value.specs.declared.value.MapRow.{MapRow}
use Rattle.wdl_value.specs.Parts.{left_in}
use Rattle.wdl_value.specs.Functions.{key_text, has_key_text, repeat_a_key, without_key, first_pairs, values_at, group_of}

-- some pair has a key that was seen
abbrev pub meet : BTreeSet (String Global) → List Value → Bool
meet seen [] = false
meet seen (pair ∷ pairs) = contains_text seen (key_text pair) || meet seen pairs

-- the pairs whose groups are left
abbrev pub left_of : BTreeMap (String Global) (Vec Value) → List Value → List Value
left_of groups = filter (λ pair. is_some (get_by_text groups (key_text pair)))

-- the groups that are left are those of the pairs
abbrev pub AreLeft : BTreeMap (String Global) (Vec Value) → List Value → Type 0
AreLeft groups pairs = (key : List ℕ) (g : Vec Value) → get_by_text groups key ≡ Some g → g.items ≡ values_at key pairs

-- ---- a key that is repeated

pub regroup : (a b c d : Bool) → (cond a true b || (c || d)) ≡ ((b || c) || (a || d))
regroup true true c d = refl
regroup true false true d = refl
regroup true false false d = refl
regroup false true c d = refl
regroup false false c d = refl

abbrev Adds : BTreeSet (String Global) → BTreeSet (String Global) → List ℕ → Type 0
Adds seen more key = (other : List ℕ) → contains_text more other ≡ cond (bytes_eq key other) true (contains_text seen other)

pub meet-empty : (seen : BTreeSet (String Global)) → seen.keys ≡ [] → (pairs : List Value) → meet seen pairs ≡ false
meet-empty seen h [] = refl
meet-empty seen h (pair ∷ pairs) = ap (λ keys. list_any (λ k. is_eq (slice_cmp nat_cmp (key_text pair) (string_bytes k))) keys || meet seen pairs) h ∙ meet-empty seen h pairs

meet-insert : (seen more : BTreeSet (String Global)) (key : List ℕ) → Adds seen more key → (pairs : List Value) → meet more pairs ≡ (meet seen pairs || has_key_text key pairs)
meet-insert seen more key h [] = refl
meet-insert seen more key h (pair ∷ pairs) =
    ap (λ b. b || meet more pairs) (h (key_text pair))
    ∙ ap (λ b. cond (bytes_eq key (key_text pair)) true (contains_text seen (key_text pair)) || b) (meet-insert seen more key h pairs)
    ∙ regroup (bytes_eq key (key_text pair)) (contains_text seen (key_text pair)) (meet seen pairs) (has_key_text key pairs)

next_pair : (pairs : List Value) (i : ℕ) (pair : Value) → pair ≡ get_or pairs i pair → i < length pairs → drop i pairs ≡ pair ∷ drop (i + 1) pairs
next_pair pairs i pair at below = drop_more pairs i pair below ∙ ap (λ z. z ∷ drop (i + 1) pairs) (sym at)

pub repeat_found : (seen : BTreeSet (String Global)) (pairs : List Value) (i : ℕ) (pair : Value) (r : Bool) → pair ≡ get_or pairs i pair → i < length pairs
    → contains_text seen (key_text pair) ≡ true → (meet seen (drop i pairs) || repeat_a_key (drop i pairs)) ≡ r → true ≡ r
repeat_found seen pairs i pair r at below h k =
    ap (λ b. (b || meet seen (drop (i + 1) pairs)) || repeat_a_key (pair ∷ drop (i + 1) pairs)) (sym h)
    ∙ ap (λ z. meet seen z || repeat_a_key z) (sym (next_pair pairs i pair at below)) ∙ k

pub repeat_more : (seen more : BTreeSet (String Global)) (pairs : List Value) (i : ℕ) (pair : Value) (r : Bool) → pair ≡ get_or pairs i pair → i < length pairs
    → contains_text seen (key_text pair) ≡ false → Adds seen more (key_text pair)
    → (meet seen (drop i pairs) || repeat_a_key (drop i pairs)) ≡ r → (meet more (drop (i + 1) pairs) || repeat_a_key (drop (i + 1) pairs)) ≡ r
repeat_more seen more pairs i pair r at below h adds k =
    let rest = drop (i + 1) pairs in
    ap (λ b. b || repeat_a_key rest) (meet-insert seen more (key_text pair) adds rest)
    ∙ or_assoc (meet seen rest) (has_key_text (key_text pair) rest) (repeat_a_key rest)
    ∙ ap (λ b. (b || meet seen rest) || repeat_a_key (pair ∷ rest)) (sym h)
    ∙ ap (λ z. meet seen z || repeat_a_key z) (sym (next_pair pairs i pair at below)) ∙ k

-- ---- groups

-- the map without that key
abbrev Drops : BTreeMap (String Global) (Vec Value) → BTreeMap (String Global) (Vec Value) → List ℕ → Type 0
Drops groups fewer key = (other : List ℕ) → get_by_text fewer other ≡ cond (bytes_eq key other) None (get_by_text groups other)

filter_comm : (f g : Value → Bool) (xs : List Value) → filter f (filter g xs) ≡ filter g (filter f xs)
filter_comm f g [] = refl
filter_comm f g (x ∷ xs) = by_tests (filter_comm f g xs) (f x) refl (g x) refl
  where
    by_tests : filter f (filter g xs) ≡ filter g (filter f xs) → (a : Bool) → f x ≡ a → (b : Bool) → g x ≡ b → filter f (filter g (x ∷ xs)) ≡ filter g (filter f (x ∷ xs))
    by_tests e true h true k = rw (h, k) (rw h (ap (λ z. x ∷ z) e))
    by_tests e true h false k = rw (h, k) e
    by_tests e false h true k = rw (h, k) (rw h e)
    by_tests e false h false k = rw (h, k) e

pub bytes_eq-refl : (xs : List ℕ) → bytes_eq xs xs ≡ true
bytes_eq-refl xs = (bytes_eq-Decides xs xs).1 refl

-- each of the first pairs has a key that one of the pairs has
all_left : (has : List ℕ → Bool) (pairs : List Value) → ((key : List ℕ) → has_key_text key pairs ≡ true → has key ≡ true)
    → filter (λ pair. has (key_text pair)) (first_pairs pairs) ≡ first_pairs pairs
all_left has [] h = refl
all_left has (pair ∷ pairs) h =
    let own : has (key_text pair) ≡ true = h (key_text pair) (ap (λ b. b || has_key_text (key_text pair) pairs) (bytes_eq-refl (key_text pair))) in
    let rest = all_left has pairs (λ key k. h key (ap (λ b. bytes_eq key (key_text pair) || b) k ∙ or_true (bytes_eq key (key_text pair)))) in
    let test : Value → Bool = λ (p : Value). has (key_text p) in
    ap (λ b. cond b (pair ∷ filter test (without_key (key_text pair) (first_pairs pairs))) (filter test (without_key (key_text pair) (first_pairs pairs)))) own
    ∙ ap (λ z. pair ∷ z) (filter_comm test (λ p. not (bytes_eq (key_text pair) (key_text p))) (first_pairs pairs) ∙ ap (without_key (key_text pair)) rest)
  where
    or_true : (b : Bool) → (b || true) ≡ true
    or_true true = refl
    or_true false = refl

left_dropped : (groups fewer : BTreeMap (String Global) (Vec Value)) (key : List ℕ) → Drops groups fewer key → (pairs : List Value) → left_of fewer pairs ≡ left_of groups (without_key key pairs)
left_dropped groups fewer key h [] = refl
left_dropped groups fewer key h (pair ∷ pairs) = by_key (left_dropped groups fewer key h pairs) (bytes_eq key (key_text pair)) refl
  where
    by_key : left_of fewer pairs ≡ left_of groups (without_key key pairs) → (b : Bool) → bytes_eq key (key_text pair) ≡ b → left_of fewer (pair ∷ pairs) ≡ left_of groups (without_key key (pair ∷ pairs))
    by_key rest true k =
        let gone : is_some (get_by_text fewer (key_text pair)) ≡ false = ap is_some (h (key_text pair) ∙ ap (λ b. cond b None (get_by_text groups (key_text pair))) k) in
        rw (gone, k) rest
    by_key rest false k =
        let same : is_some (get_by_text fewer (key_text pair)) ≡ is_some (get_by_text groups (key_text pair)) = ap is_some (h (key_text pair) ∙ ap (λ b. cond b None (get_by_text groups (key_text pair))) k) in
        rw (same, k) (ap (λ z. cond (is_some (get_by_text groups (key_text pair))) (pair ∷ z) z) rest)

pub are_left-all : (groups : BTreeMap (String Global) (Vec Value)) (pairs : List Value) → AreGroups groups pairs → AreLeft groups pairs
are_left-all groups pairs h key g k = sym (ap (λ o. option_map_or (λ (v : Vec Value). v.items) o []) k) ∙ (h key).1

pub left_of-all : (groups : BTreeMap (String Global) (Vec Value)) (pairs : List Value) → AreGroups groups pairs → left_of groups (first_pairs pairs) ≡ first_pairs pairs
left_of-all groups pairs h = all_left (λ key. is_some (get_by_text groups key)) pairs (λ key k. (h key).0 ∙ k)

pub are_left-dropped : (groups fewer : BTreeMap (String Global) (Vec Value)) (key : List ℕ) (pairs : List Value) → Drops groups fewer key → AreLeft groups pairs → AreLeft fewer pairs
are_left-dropped groups fewer key pairs h left other g k = by_key (bytes_eq key other) refl
  where
    by_key : (b : Bool) → bytes_eq key other ≡ b → g.items ≡ values_at other pairs
    by_key true e = let n : get_by_text fewer other ≡ None = h other ∙ ap (λ b. cond b None (get_by_text groups other)) e in cc
    by_key false e = left other g (sym (h other ∙ ap (λ b. cond b None (get_by_text groups other)) e) ∙ k)

-- the next pair's group is left, or was taken before
left_taken : (groups fewer : BTreeMap (String Global) (Vec Value)) (pairs : List Value) (i : ℕ) (pair : Value) (g : Vec Value) → pair ≡ get_or pairs i pair → i < length pairs
    → Drops groups fewer (key_text pair) → get_by_text groups (key_text pair) ≡ Some g
    → left_of groups (first_pairs (drop i pairs)) ≡ pair ∷ left_of fewer (first_pairs (drop (i + 1) pairs))
left_taken groups fewer pairs i pair g at below h k =
    let more = first_pairs (drop (i + 1) pairs) in
    ap (λ z. left_of groups (first_pairs z)) (next_pair pairs i pair at below)
    ∙ ap (λ o. cond (is_some o) (pair ∷ left_of groups (without_key (key_text pair) more)) (left_of groups (without_key (key_text pair) more))) k
    ∙ ap (λ z. pair ∷ z) (sym (left_dropped groups fewer (key_text pair) h more))

left_absent : (groups fewer : BTreeMap (String Global) (Vec Value)) (pairs : List Value) (i : ℕ) (pair : Value) → pair ≡ get_or pairs i pair → i < length pairs
    → Drops groups fewer (key_text pair) → get_by_text groups (key_text pair) ≡ None
    → left_of groups (first_pairs (drop i pairs)) ≡ left_of fewer (first_pairs (drop (i + 1) pairs))
left_absent groups fewer pairs i pair at below h k =
    let more = first_pairs (drop (i + 1) pairs) in
    ap (λ z. left_of groups (first_pairs z)) (next_pair pairs i pair at below)
    ∙ ap (λ o. cond (is_some o) (pair ∷ left_of groups (without_key (key_text pair) more)) (left_of groups (without_key (key_text pair) more))) k
    ∙ sym (left_dropped groups fewer (key_text pair) h more)

abbrev rows_left : BTreeMap (String Global) (Vec Value) → List Value → List Value → List (MapRow Value)
rows_left groups all pairs = map (group_of all) (left_of groups (first_pairs pairs))

pub row_taken : (groups fewer : BTreeMap (String Global) (Vec Value)) (pairs : List Value) (i : ℕ) (pair : Value) (g : Vec Value) (rows total : List (MapRow Value)) (key : Value)
    → pair ≡ get_or pairs i pair → i < length pairs → Drops groups fewer (key_text pair) → get_by_text groups (key_text pair) ≡ Some g → AreLeft groups pairs → key ≡ left_in pair
    → rows ++ rows_left groups pairs (drop i pairs) ≡ total → (rows ++ record { key = key; value = v.List g.items } ∷ []) ++ rows_left fewer pairs (drop (i + 1) pairs) ≡ total
row_taken groups fewer pairs i pair g rows total key at below h k left is whole =
    let more = rows_left fewer pairs (drop (i + 1) pairs) in
    let row : MapRow Value = record { key = key; value = v.List g.items } in
    let same : row ≡ group_of pairs pair = ap (λ z. record { key = z; value = v.List g.items }) is ∙ ap (λ z. record { key = left_in pair; value = v.List z }) (left (key_text pair) g k) in
    append_assoc rows (row ∷ []) more ∙ ap (λ z. rows ++ z ∷ more) same ∙ ap (λ z. rows ++ map (group_of pairs) z) (sym (left_taken groups fewer pairs i pair g at below h k)) ∙ whole

pub row_absent : (groups fewer : BTreeMap (String Global) (Vec Value)) (pairs : List Value) (i : ℕ) (pair : Value) (rows total : List (MapRow Value))
    → pair ≡ get_or pairs i pair → i < length pairs → Drops groups fewer (key_text pair) → get_by_text groups (key_text pair) ≡ None
    → rows ++ rows_left groups pairs (drop i pairs) ≡ total → rows ++ rows_left fewer pairs (drop (i + 1) pairs) ≡ total
row_absent groups fewer pairs i pair rows total at below h k whole =
    ap (λ z. rows ++ map (group_of pairs) z) (sym (left_absent groups fewer pairs i pair at below h k)) ∙ whole
