-- The new name of a task is none that is taken: as many numbers are tried as names are taken, and one name without a number.
use Rattle.std.proofs.Common.{◌≡◌, ℕ, zero, suc, ◌+◌, ◌^◌, ◌<◌, ◌≤◌, Bool, true, false, ◌||◌, inl, inr, List, [], ◌∷◌, ◌++◌, length, codes, cond, refl, sym, ap, ◌∙◌, subst, add-one, arith, length-append}
use Rattle.std.specs.Fmt.{decimal}
use Rattle.std.specs.List.{AllByRecursion, IsDistinct}
use Rattle.std.specs.Set.{is_member}
use Rattle.std.specs.Str.{bytes_eq}
use Rattle.std.proofs.lemmas.Bool.{false≢true, false_from_ne_true, or_cases}
use Rattle.std.proofs.lemmas.Cmp.{nat_list_eq_equiv}
use Rattle.std.proofs.lemmas.Fmt.{decimal_injective}
use Rattle.std.proofs.lemmas.List.{append_cancel_left}
use Rattle.std.proofs.lemmas.Map.Made.{length-le_from_is_member}
use Rattle.std.proofs.lemmas.Slice.Eq.{bytes_eq-Decides}
use Rattle.wdl_typed.specs.Lists.{has_name}
use Rattle.wdl_bundle.specs.TaskNames.{Name, free_from, numbered, task_name}

-- ---- names that are tried differ

same_tail : (doc task : ℕ) (xs ys : List ℕ) → codes "task_" ++ (decimal doc ++ (codes "_" ++ (decimal task ++ xs))) ≡ codes "task_" ++ (decimal doc ++ (codes "_" ++ (decimal task ++ ys))) → xs ≡ ys
same_tail doc task xs ys e =
    append_cancel_left (decimal task) xs ys
    (append_cancel_left (codes "_") (decimal task ++ xs) (decimal task ++ ys)
    (append_cancel_left (decimal doc) (codes "_" ++ (decimal task ++ xs)) (codes "_" ++ (decimal task ++ ys))
    (append_cancel_left (codes "task_") (decimal doc ++ (codes "_" ++ (decimal task ++ xs))) (decimal doc ++ (codes "_" ++ (decimal task ++ ys))) e)))

same_number : (doc task m n : ℕ) → m < 2 ^ 64 → n < 2 ^ 64 → numbered doc task m ≡ numbered doc task n → m ≡ n
unfolding numbered
same_number doc task m n a b e =
    decimal_injective m n a b (append_cancel_left (codes "_") (decimal m) (decimal n) (same_tail doc task (codes "_" ++ decimal m) (codes "_" ++ decimal n) e))

is_longer : (doc task n : ℕ) → length (task_name doc task) < length (numbered doc task n)
unfolding numbered task_name
is_longer doc task n = simp length-append (omega arith)

-- the names before this number
abbrev tried : ℕ → ℕ → ℕ → List Name
tried doc task zero = task_name doc task ∷ []
tried doc task (suc n) = numbered doc task n ∷ tried doc task n

so_many : (doc task n : ℕ) → length (tried doc task n) ≡ suc n
so_many doc task zero = refl
so_many doc task (suc n) = ap suc (so_many doc task n)

differs : (xs ys : List ℕ) → (xs ≡ ys → ⊥) → bytes_eq xs ys ≡ false
differs xs ys d = false_from_ne_true (bytes_eq xs ys) (λ h. d ((bytes_eq-Decides xs ys).0 h))

apart : (doc task m n : ℕ) → n ≤ m → m < 2 ^ 64 → AllByRecursion (λ (y : Name). bytes_eq (numbered doc task m) y ≡ false) (tried doc task n)
apart doc task m zero h b =
    (differs (numbered doc task m) (task_name doc task) (λ e. let l = is_longer doc task m in let k = ap length e in absurd (omega arith)), tt)
apart doc task m (suc n) h b = (
  differs (numbered doc task m) (numbered doc task n) (λ e. let k = same_number doc task m n b (omega arith) e in absurd (omega arith)),
  apart doc task m n (omega arith) b,
)

distinct : (doc task n : ℕ) → n < 2 ^ 64 → IsDistinct bytes_eq (tried doc task n)
unfolding IsDistinct
distinct doc task zero b = (tt, tt)
distinct doc task (suc n) b = (apart doc task n n (omega arith) (omega arith), distinct doc task n (omega arith))

-- ---- one of them is not taken

member : (name : Name) (taken : List Name) → has_name name taken ≡ is_member bytes_eq taken name
member name [] = refl
member name (n ∷ ns) = ap (λ b. b || has_name name ns) (nat_list_eq_equiv.symm n name) ∙ ap (λ b. bytes_eq name n || b) (member name ns)

module _ (taken : List Name) (doc task : ℕ) where
  abbrev AreTaken : List Name → Type 0
  AreTaken names = (q : Name) → is_member bytes_eq names q ≡ true → is_member bytes_eq taken q ≡ true

  more : (name : Name) (names : List Name) → has_name name taken ≡ true → AreTaken names → AreTaken (name ∷ names)
  more name names here all q h =
      elim (or_cases (bytes_eq q name) (is_member bytes_eq names q) h) [
        | inl e ↦ subst (λ (n : Name). is_member bytes_eq taken n ≡ true) (sym ((bytes_eq-Decides q name).0 e)) (sym (member name taken) ∙ here)
        | inr k ↦ all q k
      ]

  none_left : (n : ℕ) → n ≡ length taken → length taken < 2 ^ 64 → AreTaken (tried doc task n) → ⊥
  none_left n e b all =
      let many = so_many doc task n in
      let few = length-le_from_is_member nat_list_eq_equiv (tried doc task n) taken (distinct doc task n (omega arith)) all in
      absurd (omega arith)

  number_is_free : (left n : ℕ) → left + n ≡ length taken → length taken < 2 ^ 64 → AreTaken (tried doc task n)
      → has_name (free_from left taken doc task n) taken ≡ false
  number_is_free zero n e b all = absurd (none_left n (omega arith) b all)
  number_is_free (suc left) n e b all =
      by_test (has_name (numbered doc task n) taken) refl
      (λ k. number_is_free left (n + 1) (omega arith) b
      (subst (λ (m : ℕ). AreTaken (tried doc task m)) (sym (add-one n)) (more (numbered doc task n) (tried doc task n) k all)))
    where
      by_test : (test : Bool) → has_name (numbered doc task n) taken ≡ test
          → (has_name (numbered doc task n) taken ≡ true → has_name (free_from left taken doc task (n + 1)) taken ≡ false)
          → has_name (cond test (free_from left taken doc task (n + 1)) (numbered doc task n)) taken ≡ false
      by_test true h later = later h
      by_test false h later = h

  pub some_is_free : length taken < 2 ^ 64 → has_name (task_name doc task) taken ≡ true → free_from (length taken) taken doc task 0 ≡ task_name doc task → ⊥
  some_is_free b here e =
      let free = number_is_free (length taken) 0 (omega arith) b (more (task_name doc task) [] here (λ q k. absurd (false≢true k))) in
      false≢true (sym free ∙ ap (λ (name : Name). has_name name taken) e ∙ here)
