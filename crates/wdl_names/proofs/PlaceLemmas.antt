-- Where a number first stands in a list.
use Rattle.std.proofs.Common.{◌≡◌, ℕ, ◌<◌, ◌≤◌, ◌==◌, Bool, true, false, not, ◌&&◌, nat_lt, List, Option, Some, None, length, get_or, sym, ap, ◌∙◌, arith, ⊎_elim}
use Rattle.std.proofs.lemmas.Bool.{and_parts, cases_lt, false≢true, lt-ltb, ltb-true}
use Rattle.std.proofs.lemmas.List.Sums.{fails_before_first, passes_at_first, prefix_len-le-length}
use Rattle.wdl_names.specs.Marks.{first_place}

pub first_place-le : (n : ℕ) (ns : List ℕ) → first_place n ns ≤ length ns
first_place-le n ns = prefix_len-le-length (λ m. not (m == n)) ns

-- an index that has the place of each number in the list
abbrev pub Finds : (ℕ → Option ℕ) → List ℕ → Type 0
Finds at ns = (q : ℕ) → first_place q ns < length ns → at q ≡ Some (first_place q ns)

-- whether a number stands at a place
abbrev pub Stands : List ℕ → ℕ → ℕ → Bool
Stands ns p n = nat_lt p (length ns) && get_or ns p 0 == n

first_stands : (ns : List ℕ) (n : ℕ) → first_place n ns < length ns → Stands ns (first_place n ns) n ≡ true
first_stands ns n within = ap (λ b. b && get_or ns (first_place n ns) 0 == n) (lt-ltb _ _ within) ∙ passes_at_first (λ m. m == n) ns 0 within

past : (ns : List ℕ) (n : ℕ) → (first_place n ns < length ns → ⊥) → length ns ≡ first_place n ns
past ns n missing = ⊎_elim (λ l. absurd (missing l)) (λ l. omega (arith, first_place-le n ns)) (cases_lt (first_place n ns) (length ns))

pub place_unknown : (at : ℕ → Option ℕ) (ns : List ℕ) (n : ℕ) → Finds at ns → at n ≡ None → length ns ≡ first_place n ns
place_unknown at ns n finds none = past ns n (λ l. let there = finds n l in cc)

pub place_stale : (at : ℕ → Option ℕ) (ns : List ℕ) (n p : ℕ) → Finds at ns → at n ≡ Some p → Stands ns p n ≡ false → length ns ≡ first_place n ns
place_stale at ns n p finds is gone = past ns n missing
  where
    missing : first_place n ns < length ns → ⊥
    missing l =
        let there = finds n l in
        let same : p ≡ first_place n ns = cc in
        false≢true (sym gone ∙ ap (λ k. Stands ns k n) same ∙ first_stands ns n l)

pub place_found : (at : ℕ → Option ℕ) (ns : List ℕ) (n p : ℕ) → Finds at ns → at n ≡ Some p → Stands ns p n ≡ true → p ≡ first_place n ns
place_found at ns n p finds is stands = ⊎_elim early late (cases_lt p (first_place n ns))
  where
    parts : (nat_lt p (length ns) ≡ true) × ((get_or ns p 0 == n) ≡ true)
    parts = and_parts (nat_lt p (length ns)) (get_or ns p 0 == n) stands

    early : p < first_place n ns → p ≡ first_place n ns
    early l = absurd (false≢true (sym (fails_before_first (λ m. m == n) ns p 0 l) ∙ parts.1))

    late : first_place n ns ≤ p → p ≡ first_place n ns
    late l =
        let within : p < length ns = ltb-true p (length ns) parts.0 in
        let there = finds n (omega arith) in
        cc
