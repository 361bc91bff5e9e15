-- Numbers that differ, read from the first to the last.
use Rattle.std.proofs.Common.{◌≡◌, ℕ, suc, ◌+◌, ◌<◌, ◌≤◌, ◌==◌, Bool, true, false, not, ◌&&◌, ◌||◌, cond, List, [], ◌∷◌, ◌++◌, length, drop, get_or, sym, ap, ◌∙◌, refl, arith, drop-cons}
use Rattle.std.proofs.lemmas.Bool.Decides.{Decides-eqb, Decides-like, same_from_decides}
use Rattle.wdl_typed.specs.Lists.{has_number, numbers_differ}
use Rattle.wdl_names.specs.Marks.{first_place}
use Rattle.wdl_names.proofs.FreshLemmas.{new-distinct}
use Rattle.wdl_well_typed.specs.Numbers.{fresh_numbers}

eqb-sym : (m n : ℕ) → (m == n) ≡ (n == m)
eqb-sym m n = same_from_decides _ _ (Decides-eqb m n) (Decides-like _ sym sym (Decides-eqb n m))

pub fresh_numbers-differ : (ns : List ℕ) → fresh_numbers [] ns ≡ numbers_differ ns
fresh_numbers-differ = new-distinct {same = λ m n. m == n} {has = has_number} {distinct = numbers_differ} {new = fresh_numbers} (record { same_sym = eqb-sym; has_none = λ _. refl; has_more = λ _ _ _. refl; distinct_none = refl; distinct_more = λ _ _. refl; new_none = λ _. refl; new_more = λ _ _ _. refl })

number_seen : (k : ℕ) (ns : List ℕ) → first_place k ns < length ns → has_number k ns ≡ true
number_seen k [] within = absurd (omega arith)
number_seen k (n ∷ ns) within = by_test (n == k) (number_seen k ns) within
  where
    by_test : (b : Bool) → (first_place k ns < length ns → has_number k ns ≡ true) → cond (not b) (1 + first_place k ns) 0 < length (n ∷ ns) → (b || has_number k ns) ≡ true
    by_test true rest h = refl
    by_test false rest h = rest (omega arith)

number_new : (k : ℕ) (ns : List ℕ) → length ns ≤ first_place k ns → has_number k ns ≡ false
number_new k [] past = refl
number_new k (n ∷ ns) past = by_test (n == k) (number_new k ns) past
  where
    by_test : (b : Bool) → (length ns ≤ first_place k ns → has_number k ns ≡ false) → length (n ∷ ns) ≤ cond (not b) (1 + first_place k ns) 0 → (b || has_number k ns) ≡ false
    by_test true rest h = absurd (omega arith)
    by_test false rest h = rest (omega arith)

pub drop_number : (ns : List ℕ) (i : ℕ) → i < length ns → drop i ns ≡ get_or ns i 0 ∷ drop (i + 1) ns
drop_number ns i within =
    let next : suc i ≡ i + 1 = omega arith in
    drop-cons ns i 0 within ∙ ap (λ j. get_or ns i 0 ∷ drop j ns) next

-- a number, and those after it
pub differ_stop : (seen : List ℕ) (n : ℕ) (ns ds : List ℕ) (all : Bool) (k most : ℕ) → ds ≡ n ∷ ns → k ≡ first_place n seen → most ≡ length seen → k < most
    → fresh_numbers seen ds ≡ all → false ≡ all
differ_stop seen n ns ds all k most next at count early rest =
    let here : first_place n seen < length seen = omega arith in
    ap (λ b. not b && fresh_numbers (seen ++ n ∷ []) ns) (sym (number_seen n seen here)) ∙ sym (ap (fresh_numbers seen) next) ∙ rest

pub differ_go : (seen more : List ℕ) (n : ℕ) (ns ds : List ℕ) (all : Bool) (k most : ℕ) → ds ≡ n ∷ ns → k ≡ first_place n seen → most ≡ length seen → most ≤ k
    → more ≡ seen ++ n ∷ [] → fresh_numbers seen ds ≡ all → fresh_numbers more ns ≡ all
differ_go seen more n ns ds all k most next at count late added rest =
    let past : length seen ≤ first_place n seen = omega arith in
    ap (λ s. fresh_numbers s ns) added
    ∙ ap (λ b. not b && fresh_numbers (seen ++ n ∷ []) ns) (sym (number_new n seen past))
    ∙ sym (ap (fresh_numbers seen) next)
    ∙ rest
