-- How often a name stands in a list. Names differ where each of them stands there once.
use Rattle.std.proofs.Common.{◌≡◌, inl, inr, ℕ, ◌+◌, ◌≤◌, true, false, not, cond, List, [], ◌∷◌, ◌++◌, map, arith, refl, ap, sym, ◌∙◌}
use Rattle.std.specs.Str.{bytes_eq}
use Rattle.std.proofs.lemmas.Bool.{and_from, and_parts, cases_Bool, cond-false, cond-true, false_from_ne_true, false≢true, not-true, not_from_false, or_cases, or_parts}
use Rattle.std.proofs.lemmas.Slice.Eq.{bytes_eq-Decides}
use Rattle.wdl_typed.specs.Kept.{sum_of}
use Rattle.wdl_typed.specs.Lists.{are_distinct, has_name}
use Rattle.wdl_check_flow.proofs.Orders.{sum-append}

-- 1 where the second name is the first
abbrev pub once : List ℕ → List ℕ → ℕ
once name n = cond (bytes_eq n name) 1 0

once_same : (name n : List ℕ) → bytes_eq n name ≡ true → once name n ≡ 1
once_same name n e = cond-true {A = ℕ} (bytes_eq n name) 1 0 e

once_other : (name n : List ℕ) → bytes_eq n name ≡ false → once name n ≡ 0
once_other name n e = cond-false {A = ℕ} (bytes_eq n name) 1 0 e

abbrev pub occurs : List ℕ → List (List ℕ) → ℕ
occurs name ns = sum_of (map (once name) ns)

-- each name stands no more often in the one
abbrev pub Fewer : List (List ℕ) → List (List ℕ) → Type 0
Fewer ns ms = (name : List ℕ) → occurs name ns ≤ occurs name ms

pub occurs-append : (name : List ℕ) (ns ms : List (List ℕ)) → occurs name (ns ++ ms) ≡ occurs name ns + occurs name ms
occurs-append name ns ms = sum-append (once name) ns ms

-- ---- names that do not stand there

none_occurs : (name : List ℕ) (ns : List (List ℕ)) → has_name name ns ≡ false → occurs name ns ≡ 0
none_occurs name [] h = refl
none_occurs name (n ∷ ns) h =
    let q = or_parts (bytes_eq n name) (has_name name ns) h in omega (arith, once_other name n q.0, none_occurs name ns q.1)

has_occurs : (name : List ℕ) (ns : List (List ℕ)) → has_name name ns ≡ true → 1 ≤ occurs name ns
has_occurs name [] h = absurd (false≢true h)
has_occurs name (n ∷ ns) h =
    elim (or_cases (bytes_eq n name) (has_name name ns) h) [
      | inl e ↦ omega (arith, once_same name n e)
      | inr e ↦ omega (arith, has_occurs name ns e)
    ]

occurs_none : (name : List ℕ) (ns : List (List ℕ)) → occurs name ns ≤ 0 → has_name name ns ≡ false
occurs_none name ns h = false_from_ne_true (has_name name ns) (λ e. omega (arith, h, has_occurs name ns e))

pub fewer_none : (ns ms : List (List ℕ)) → Fewer ns ms → (name : List ℕ) → has_name name ms ≡ false → has_name name ns ≡ false
fewer_none ns ms f name h = occurs_none name ns (omega (arith, f name, none_occurs name ms h))

-- ---- names that differ

distinct_once : (ns : List (List ℕ)) → are_distinct ns ≡ true → (name : List ℕ) → occurs name ns ≤ 1
distinct_once [] d name = omega arith
distinct_once (n ∷ ns) d name =
    let q = and_parts (not (has_name n ns)) (are_distinct ns) d in
    elim (cases_Bool (bytes_eq n name)) [
      | inl e ↦
          let new : has_name name ns ≡ false =
          ap (λ (x : List ℕ). has_name x ns) (sym ((bytes_eq-Decides n name).0 e)) ∙ not-true (has_name n ns) q.0 in
          omega (arith, once_same name n e, none_occurs name ns new)
      | inr e ↦ omega (arith, once_other name n e, distinct_once ns q.1 name)
    ]

once_distinct : (ns : List (List ℕ)) → ((name : List ℕ) → occurs name ns ≤ 1) → are_distinct ns ≡ true
once_distinct [] h = refl
once_distinct (n ∷ ns) h =
    let first = once_same n n ((bytes_eq-Decides n n).1 refl) in
    and_from (not (has_name n ns)) (are_distinct ns) (not_from_false (has_name n ns) (occurs_none n ns (omega (arith, h n, first))))
    (once_distinct ns (λ name. omega (arith, h name)))

pub fewer_distinct : (ns ms : List (List ℕ)) → Fewer ns ms → are_distinct ms ≡ true → are_distinct ns ≡ true
fewer_distinct ns ms f d = once_distinct ns (λ name. omega (arith, f name, distinct_once ms d name))
