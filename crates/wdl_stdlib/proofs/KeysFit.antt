-- Rows whose keys have distinct texts have distinct keys.
use Rattle.std.proofs.Common.{◌≡◌, Bool, true, false, cond, not, List, [], ◌∷◌, map, sym, ap, ◌∙◌, refl}
use Rattle.std.proofs.lemmas.Bool.{false≢true, and_parts, and_from, or_parts, or_from, not-true}
use Rattle.std.specs.Str.{bytes_eq}
use Rattle.std.proofs.lemmas.Slice.Eq.{bytes_eq-Decides}
use Rattle.std.specs.List.{filter}
use Rattle.wdl_value.specs.declared.value.MapRow.{MapRow}
use Rattle.wdl_value.specs.declared.value.Value.{Value}
use Rattle.wdl_value.specs.Functions.{key_text, has_key_text, repeat_a_key, row_of, without_key, first_pairs, group_of}
use Rattle.wdl_value.specs.Keyed.{has_key, distinct_keys}
use Rattle.wdl_value.specs.Parts.{left_in}
use Rattle.wdl_value.specs.SameValue.{same_value}
use Rattle.wdl_value.specs.ValueText.{text_of}
use Rattle.wdl_value.proofs.SameValueLemmas.{same_value-true}

not_same : (k l : Value) → bytes_eq (text_of k) (text_of l) ≡ false → same_value k l ≡ false
not_same k l h = by_test (same_value k l) refl
  where
    by_test : (b : Bool) → same_value k l ≡ b → b ≡ false
    by_test true e = absurd (false≢true (sym h ∙ ap (λ z. bytes_eq (text_of k) (text_of z)) (sym (same_value-true k l e)) ∙ (bytes_eq-Decides (text_of k) (text_of k)).1 refl))
    by_test false e = refl

key_absent : (pair : Value) (pairs : List Value) → has_key_text (key_text pair) pairs ≡ false → has_key (left_in pair) (map row_of pairs) ≡ false
key_absent pair [] h = refl
key_absent pair (q ∷ qs) h =
    let p = or_parts (bytes_eq (key_text pair) (key_text q)) (has_key_text (key_text pair) qs) h in
    or_from _ (has_key (left_in pair) (map row_of qs)) (not_same (left_in pair) (left_in q) p.0) (key_absent pair qs p.1)

pub keys_distinct : (pairs : List Value) → repeat_a_key pairs ≡ false → distinct_keys (map row_of pairs) ≡ true
keys_distinct [] h = refl
keys_distinct (q ∷ qs) h =
    let p = or_parts (has_key_text (key_text q) qs) (repeat_a_key qs) h in
    and_from (not (has_key (left_in q) (map row_of qs))) (distinct_keys (map row_of qs)) (ap not (key_absent q qs p.0)) (keys_distinct qs p.1)

-- the rows of groups, for all pairs
module _ (all : List Value) where
  abbrev rows_for : List Value → List (MapRow Value)
  rows_for = map (group_of all)

  key_gone : (pair : Value) (pairs : List Value) → has_key (left_in pair) (rows_for (without_key (key_text pair) pairs)) ≡ false
  key_gone pair [] = refl
  key_gone pair (q ∷ qs) = by_test (bytes_eq (key_text pair) (key_text q)) refl (key_gone pair qs)
    where
      by_test : (b : Bool) → bytes_eq (key_text pair) (key_text q) ≡ b → has_key (left_in pair) (rows_for (without_key (key_text pair) qs)) ≡ false
          → has_key (left_in pair) (rows_for (cond (not b) (q ∷ without_key (key_text pair) qs) (without_key (key_text pair) qs))) ≡ false
      by_test true e rest = rest
      by_test false e rest = or_from (same_value (left_in pair) (left_in q)) _ (not_same (left_in pair) (left_in q) e) rest

  key_filtered : (k : Value) (f : Value → Bool) (pairs : List Value) → has_key k (rows_for pairs) ≡ false → has_key k (rows_for (filter f pairs)) ≡ false
  key_filtered k f [] h = refl
  key_filtered k f (q ∷ qs) h =
      let p = or_parts (same_value k (left_in q)) (has_key k (rows_for qs)) h in
      let rest = key_filtered k f qs p.1 in
      elim (f q) as (λ b. has_key k (rows_for (cond b (q ∷ filter f qs) (filter f qs))) ≡ false) [ true ↦ or_from (same_value k (left_in q)) _ p.0 rest | false ↦ rest ]

  distinct_filtered : (f : Value → Bool) (pairs : List Value) → distinct_keys (rows_for pairs) ≡ true → distinct_keys (rows_for (filter f pairs)) ≡ true
  distinct_filtered f [] h = refl
  distinct_filtered f (q ∷ qs) h =
      let p = and_parts (not (has_key (left_in q) (rows_for qs))) (distinct_keys (rows_for qs)) h in
      let rest = distinct_filtered f qs p.1 in
      elim (f q) as (λ b. distinct_keys (rows_for (cond b (q ∷ filter f qs) (filter f qs))) ≡ true) [
        | true ↦ and_from (not (has_key (left_in q) (rows_for (filter f qs)))) _ (ap not (key_filtered (left_in q) f qs (not-true _ p.0))) rest
        | false ↦ rest
      ]

  pub firsts_distinct : (pairs : List Value) → distinct_keys (rows_for (first_pairs pairs)) ≡ true
  firsts_distinct [] = refl
  firsts_distinct (q ∷ qs) =
      and_from (not (has_key (left_in q) (rows_for (without_key (key_text q) (first_pairs qs))))) _ (ap not (key_gone q (first_pairs qs)))
      (distinct_filtered (λ pair. not (bytes_eq (key_text q) (key_text pair))) (first_pairs qs) (firsts_distinct qs))
