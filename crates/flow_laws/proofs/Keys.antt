-- Lists of keys that differ, and keys that are none of a list.
use Rattle.std.proofs.Common.{◌≡◌, ℕ, Bool, true, false, not, ◌||◌, List, [], ◌∷◌, ◌++◌, Option, Some, None, sym, ap, ◌∙◌, refl}
use Rattle.std.specs.Str.{bytes_eq}
use Rattle.std.proofs.lemmas.Bool.{false≢true, and_parts, and_from, or_from, or_parts, or_left, or_right, not-true, not_from_false}
use Rattle.std.proofs.lemmas.Slice.Eq.{bytes_eq-Decides}
use Rattle.std.proofs.Math.Bool.{or_assoc}
use Rattle.wdl_base.specs.declared.name.Key.{Key}
use Rattle.wdl_typed.specs.Journal.{keys_distinct}
use Rattle.wdl_typed.specs.Scope.{is_among, same_key, same_second}

-- ---- one key

second_same : (s t : Option (List ℕ)) → same_second s t ≡ true → s ≡ t
second_same None None h = refl
second_same (Some s) (Some t) h = ap Some ((bytes_eq-Decides s t).0 h)
second_same None (Some t) h = absurd (false≢true h)
second_same (Some s) None h = absurd (false≢true h)

same_itself : (s : Option (List ℕ)) → same_second s s ≡ true
same_itself None = refl
same_itself (Some s) = (bytes_eq-Decides s s).1 refl

pub key_same : (j k : Key) → same_key j k ≡ true → j ≡ k
key_same j k h =
    let p = and_parts (bytes_eq j.first k.first) (same_second j.second k.second) h in
    ap (λ (x : List ℕ). record { first = x; second = j.second }) ((bytes_eq-Decides j.first k.first).0 p.0)
    ∙ ap (λ (x : Option (List ℕ)). record { first = k.first; second = x }) (second_same j.second k.second p.1)

pub key_itself : (k : Key) → same_key k k ≡ true
key_itself k = and_from (bytes_eq k.first k.first) (same_second k.second k.second) ((bytes_eq-Decides k.first k.first).1 refl) (same_itself k.second)

-- ---- keys of a list

pub among_append : (key : Key) (ks ls : List Key) → is_among key (ks ++ ls) ≡ (is_among key ks || is_among key ls)
among_append key [] ls = refl
among_append key (k ∷ ks) ls = ap (λ b. same_key k key || b) (among_append key ks ls) ∙ sym (or_assoc (same_key k key) (is_among key ks) (is_among key ls))

-- no key of the list is this one
pub apart_left : (key : Key) (ks ls : List Key) → is_among key (ks ++ ls) ≡ false → is_among key ks ≡ false
apart_left key ks ls h = (or_parts (is_among key ks) (is_among key ls) (sym (among_append key ks ls) ∙ h)).0

pub apart_right : (key : Key) (ks ls : List Key) → is_among key (ks ++ ls) ≡ false → is_among key ls ≡ false
apart_right key ks ls h = (or_parts (is_among key ks) (is_among key ls) (sym (among_append key ks ls) ∙ h)).1

pub apart_both : (key : Key) (ks ls : List Key) → is_among key ks ≡ false → is_among key ls ≡ false → is_among key (ks ++ ls) ≡ false
apart_both key ks ls h j = among_append key ks ls ∙ or_from (is_among key ks) (is_among key ls) h j

-- ---- keys that differ

pub distinct_left : (ks ls : List Key) → keys_distinct (ks ++ ls) ≡ true → keys_distinct ks ≡ true
distinct_left [] ls h = refl
distinct_left (k ∷ ks) ls h =
    let p = and_parts (not (is_among k (ks ++ ls))) (keys_distinct (ks ++ ls)) h in
    and_from (not (is_among k ks)) (keys_distinct ks) (not_from_false (is_among k ks) (apart_left k ks ls (not-true (is_among k (ks ++ ls)) p.0))) (distinct_left ks ls p.1)

pub distinct_right : (ks ls : List Key) → keys_distinct (ks ++ ls) ≡ true → keys_distinct ls ≡ true
distinct_right [] ls h = h
distinct_right (k ∷ ks) ls h = distinct_right ks ls (and_parts (not (is_among k (ks ++ ls))) (keys_distinct (ks ++ ls)) h).1

-- one more key, behind the first list
pub distinct_between : (ks ls : List Key) (key : Key) → keys_distinct (ks ++ ls) ≡ true → is_among key (ks ++ ls) ≡ false → keys_distinct ((ks ++ key ∷ []) ++ ls) ≡ true
distinct_between [] ls key h j = and_from (not (is_among key ls)) (keys_distinct ls) (not_from_false (is_among key ls) j) h
distinct_between (k ∷ ks) ls key h j =
    let p = and_parts (not (is_among k (ks ++ ls))) (keys_distinct (ks ++ ls)) h in
    let apart = or_parts (same_key k key) (is_among key (ks ++ ls)) j in
    let before = apart_left k ks ls (not-true (is_among k (ks ++ ls)) p.0) in
    let behind = apart_right k ks ls (not-true (is_among k (ks ++ ls)) p.0) in
    let itself : is_among k (key ∷ []) ≡ false = or_from (same_key key k) false (turned (same_key key k) refl apart.0) refl in
    let all = apart_both k (ks ++ key ∷ []) ls (apart_both k ks (key ∷ []) before itself) behind in
    and_from (not (is_among k ((ks ++ key ∷ []) ++ ls))) (keys_distinct ((ks ++ key ∷ []) ++ ls)) (not_from_false (is_among k ((ks ++ key ∷ []) ++ ls)) all)
    (distinct_between ks ls key p.1 apart.1)
  where
    turned : (b : Bool) → same_key key k ≡ b → same_key k key ≡ false → b ≡ false
    turned false e n = refl
    turned true e n = absurd (false≢true (sym n ∙ ap (λ x. same_key k x) (key_same key k e) ∙ key_itself k))

-- lists of keys that differ and share none
pub distinct_both : (ks ls : List Key) → keys_distinct ks ≡ true → keys_distinct ls ≡ true → ((k : Key) → is_among k ks ≡ true → is_among k ls ≡ false) → keys_distinct (ks ++ ls) ≡ true
distinct_both [] ls h j apart = j
distinct_both (k ∷ ks) ls h j apart =
    let p = and_parts (not (is_among k ks)) (keys_distinct ks) h in
    let first = apart k (or_left (same_key k k) (is_among k ks) (key_itself k)) in
    let all = apart_both k ks ls (not-true (is_among k ks) p.0) first in
    and_from (not (is_among k (ks ++ ls))) (keys_distinct (ks ++ ls)) (not_from_false (is_among k (ks ++ ls)) all)
    (distinct_both ks ls p.1 j (λ m i. apart m (or_right (same_key k m) (is_among m ks) i)))
