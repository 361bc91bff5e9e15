-- Names, each once.
use Rattle.std.proofs.Common.{◌≡◌, ℕ, zero, suc, Bool, true, false, not, ◌||◌, List, [], ◌∷◌, ◌++◌, slice_get, Some, None, refl, sym, ap, ◌∙◌, inl, inr, append_assoc}
use Rattle.std.specs.Prelude.{if◌then◌else◌, filter}
use Rattle.std.specs.Str.{bytes_eq}
use Rattle.std.proofs.lemmas.Bool.{true≢false, false≢true, and_parts, and_from, or_parts, or_cases, or_left, or_right, or_from, not-true}
use Rattle.std.proofs.lemmas.Slice.Eq.{bytes_eq-Decides}
use Rattle.wdl_base.specs.Names.{is_among}
use Rattle.wdl_typed.specs.Lists.{has_name, are_distinct}
use Rattle.wdl_ast.specs.declared.document.Alias.{Alias}
use Rattle.wdl_library.specs.Names.{once, given, given_for}
use Rattle.wdl_structs.specs.Tables.{Names, with_name, with_names, with_groups, groups}
use Rattle.wdl_names.proofs.FreshLemmas.{bytes_eq-sym as eq_back}

-- ---- the two words for a name in a list

pub same_among : (n : List ℕ) (ns : Names) → has_name n ns ≡ is_among n ns
same_among n [] = refl
same_among n (m ∷ ms) = ap (λ b. bytes_eq m n || b) (same_among n ms)

pub eq_itself : (a : List ℕ) → bytes_eq a a ≡ true
eq_itself a = (bytes_eq-Decides a a).1 refl

pub among_append : (n : List ℕ) (ns ms : Names) → is_among n (ns ++ ms) ≡ (is_among n ns || is_among n ms)
among_append n [] ms = refl
among_append n (m ∷ ns) ms = ap (λ b. bytes_eq m n || b) (among_append n ns ms) ∙ or_assoc (bytes_eq m n) (is_among n ns) (is_among n ms)
  where
    or_assoc : (a b c : Bool) → a || (b || c) ≡ (a || b) || c
    or_assoc true b c = refl
    or_assoc false b c = refl

pub among_at : (n : List ℕ) (ns : Names) (p : ℕ) → slice_get ns p ≡ Some n → is_among n ns ≡ true
among_at n [] p h = absurd (none_some h)
  where
    none_some : None ≡ Some n → ⊥
    none_some e = cc
among_at n (m ∷ ns) zero h = or_left (bytes_eq m n) (is_among n ns) ((bytes_eq-Decides m n).1 (some_same h))
  where
    some_same : Some m ≡ Some n → m ≡ n
    some_same e = cc
among_at n (m ∷ ns) (suc p) h = or_right (bytes_eq m n) (is_among n ns) (among_at n ns p h)

pub among_place : (n : List ℕ) (ns : Names) → is_among n ns ≡ true → (p : ℕ) × (slice_get ns p ≡ Some n)
among_place n [] h = absurd (false≢true h)
among_place n (m ∷ ns) h = elim (or_cases (bytes_eq m n) (is_among n ns) h) as (λ c. (p : ℕ) × (slice_get (m ∷ ns) p ≡ Some n)) [
  | inl e ↦ (0, ap Some ((bytes_eq-Decides m n).0 e))
  | inr e ↦ let r = among_place n ns e in (suc r.0, r.1)
]

-- ---- distinct names

pub distinct_push : (ns : Names) (n : List ℕ) → are_distinct ns ≡ true → is_among n ns ≡ false → are_distinct (ns ++ n ∷ []) ≡ true
distinct_push [] n d h = refl
distinct_push (m ∷ ns) n d h =
    let p = and_parts (not (has_name m ns)) (are_distinct ns) d in
    let q = or_parts (bytes_eq m n) (is_among n ns) h in
    and_from (not (has_name m (ns ++ n ∷ []))) (are_distinct (ns ++ n ∷ []))
    (ap not (same_among m (ns ++ n ∷ []) ∙ among_append m ns (n ∷ []) ∙ or_from (is_among m ns) (bytes_eq n m || false)
    (sym (same_among m ns) ∙ not-true (has_name m ns) p.0) (or_from (bytes_eq n m) false (eq_back n m ∙ q.0) refl)))
    (distinct_push ns n p.1 q.1)

pub distinct_with : (ns : Names) (n : List ℕ) → are_distinct ns ≡ true → are_distinct (with_name ns n) ≡ true
distinct_with ns n d = on (is_among n ns) refl
  where
    on : (b : Bool) → is_among n ns ≡ b → are_distinct (if b then ns else ns ++ n ∷ []) ≡ true
    on true e = d
    on false e = distinct_push ns n d e

-- a name has one place
pub one_place : (ns : Names) (n : List ℕ) (p q : ℕ) → are_distinct ns ≡ true → slice_get ns p ≡ Some n → slice_get ns q ≡ Some n → p ≡ q
one_place [] n p q d h k = absurd (none_some h)
  where
    none_some : None ≡ Some n → ⊥
    none_some e = cc
one_place (m ∷ ns) n zero zero d h k = refl
one_place (m ∷ ns) n zero (suc q) d h k = absurd (apart (not-true (has_name m ns) (and_parts (not (has_name m ns)) (are_distinct ns) d).0) (some_same h))
  where
    some_same : Some m ≡ Some n → m ≡ n
    some_same e = cc

    apart : has_name m ns ≡ false → m ≡ n → ⊥
    apart f e = true≢false (sym (among_at n ns q k) ∙ ap (λ x. is_among x ns) (sym e) ∙ sym (same_among m ns) ∙ f)
one_place (m ∷ ns) n (suc p) zero d h k = absurd (apart (not-true (has_name m ns) (and_parts (not (has_name m ns)) (are_distinct ns) d).0) (some_same k))
  where
    some_same : Some m ≡ Some n → m ≡ n
    some_same e = cc

    apart : has_name m ns ≡ false → m ≡ n → ⊥
    apart f e = true≢false (sym (among_at n ns p h) ∙ ap (λ x. is_among x ns) (sym e) ∙ sym (same_among m ns) ∙ f)
one_place (m ∷ ns) n (suc p) (suc q) d h k = ap suc (one_place ns n p q (and_parts (not (has_name m ns)) (are_distinct ns) d).1 h k)

-- ---- adding names

pub with_append : (ns ms ks : Names) → with_names ns (ms ++ ks) ≡ with_names (with_names ns ms) ks
with_append ns [] ks = refl
with_append ns (m ∷ ms) ks = with_append (with_name ns m) ms ks

pub with_given : (aliases : List Alias) (acc ns : Names) → with_groups acc (groups aliases ns) ≡ with_names acc (given aliases ns)
with_given aliases acc [] = refl
with_given aliases acc (n ∷ ns) = with_given aliases (with_names acc (given_for aliases n)) ns ∙ sym (with_append acc (given_for aliases n) (given aliases ns))

pub others : Names → Names → Names
others acc ns = filter (λ m. not (is_among m acc)) ns

others_more : (acc ns : Names) (n : List ℕ) → is_among n acc ≡ true → others acc (filter (λ m. not (bytes_eq m n)) ns) ≡ others acc ns
unfolding others
others_more acc [] n h = refl
others_more acc (m ∷ ns) n h = on (others_more acc ns n h) (bytes_eq m n) refl
  where
    on : others acc (filter (λ k. not (bytes_eq k n)) ns) ≡ others acc ns → (b : Bool) → bytes_eq m n ≡ b → others acc (if not b then m ∷ filter (λ m. not (bytes_eq m n)) ns else filter (λ m. not (bytes_eq m n)) ns) ≡ others acc (m ∷ ns)
    on more true e =
        let i : is_among m acc ≡ true = ap (λ x. is_among x acc) ((bytes_eq-Decides m n).0 e) ∙ h in
        more ∙ sym (ap (λ b. if not b then m ∷ others acc ns else others acc ns) i)
    on more false e = ap (λ r. if not (is_among m acc) then m ∷ r else r) more

others_push : (acc ns : Names) (n : List ℕ) → others (acc ++ n ∷ []) ns ≡ others acc (filter (λ m. not (bytes_eq m n)) ns)
unfolding others
others_push acc [] n = refl
others_push acc (m ∷ ns) n = on (others_push acc ns n) (bytes_eq m n) (is_among m acc) refl refl
  where
    test : (a b : Bool) → bytes_eq m n ≡ b → is_among m acc ≡ a → is_among m (acc ++ n ∷ []) ≡ (a || b)
    test a b e i = among_append m acc (n ∷ []) ∙ ap (λ x. x || (bytes_eq n m || false)) i ∙ ap (λ x. a || x) (no_more (bytes_eq n m) ∙ eq_back n m ∙ e)
      where
        no_more : (x : Bool) → x || false ≡ x
        no_more true = refl
        no_more false = refl

    on : others (acc ++ n ∷ []) ns ≡ others acc (filter (λ k. not (bytes_eq k n)) ns) → (b a : Bool) → bytes_eq m n ≡ b → is_among m acc ≡ a
        → others (acc ++ n ∷ []) (m ∷ ns) ≡ others acc (if not b then m ∷ filter (λ m. not (bytes_eq m n)) ns else filter (λ m. not (bytes_eq m n)) ns)
    on more true true e i = ap (λ x. if not x then m ∷ others (acc ++ n ∷ []) ns else others (acc ++ n ∷ []) ns) (test true true e i) ∙ more
    on more true false e i = ap (λ x. if not x then m ∷ others (acc ++ n ∷ []) ns else others (acc ++ n ∷ []) ns) (test false true e i) ∙ more
    on more false true e i = ap (λ x. if not x then m ∷ others (acc ++ n ∷ []) ns else others (acc ++ n ∷ []) ns) (test true false e i) ∙ more
        ∙ sym (ap (λ x. if not x then m ∷ others acc (filter (λ m. not (bytes_eq m n)) ns) else others acc (filter (λ m. not (bytes_eq m n)) ns)) i)
    on more false false e i = ap (λ x. if not x then m ∷ others (acc ++ n ∷ []) ns else others (acc ++ n ∷ []) ns) (test false false e i) ∙ ap (λ r. m ∷ r) more
        ∙ sym (ap (λ x. if not x then m ∷ others acc (filter (λ m. not (bytes_eq m n)) ns) else others acc (filter (λ m. not (bytes_eq m n)) ns)) i)

with_others : (acc ns : Names) → with_names acc ns ≡ acc ++ others acc (once ns)
unfolding others
with_others acc [] = sym (append_nil acc)
  where
    append_nil : (xs : Names) → xs ++ [] ≡ xs
    append_nil [] = refl
    append_nil (x ∷ xs) = ap (λ r. x ∷ r) (append_nil xs)
with_others acc (n ∷ ns) = on (λ a. with_others a ns) (is_among n acc) refl
  where
    on : ((a : Names) → with_names a ns ≡ a ++ others a (once ns)) → (b : Bool) → is_among n acc ≡ b → with_names (if b then acc else acc ++ n ∷ []) ns ≡ acc ++ others acc (once (n ∷ ns))
    on more true e = more acc ∙ ap (λ r. acc ++ r)
        (sym (others_more acc (once ns) n e) ∙ sym (ap (λ x. if not x then n ∷ others acc (filter (λ m. not (bytes_eq m n)) (once ns)) else others acc (filter (λ m. not (bytes_eq m n)) (once ns))) e))
    on more false e = more (acc ++ n ∷ []) ∙ append_assoc acc (n ∷ []) (others (acc ++ n ∷ []) (once ns)) ∙ ap (λ r. acc ++ r)
        (ap (λ r. n ∷ r) (others_push acc (once ns) n) ∙ sym (ap (λ x. if not x then n ∷ others acc (filter (λ m. not (bytes_eq m n)) (once ns)) else others acc (filter (λ m. not (bytes_eq m n)) (once ns))) e))

others_none : (ns : Names) → others [] ns ≡ ns
unfolding others
others_none [] = refl
others_none (n ∷ ns) = ap (λ r. n ∷ r) (others_none ns)

pub with_once : (ns : Names) → with_names [] ns ≡ once ns
with_once ns = with_others [] ns ∙ others_none (once ns)
