-- Names that differ, read from the first to the last.
use Rattle.std.proofs.Common.{◌≡◌, ℕ, Bool, true, false, not, ◌&&◌, ◌||◌, List, [], ◌∷◌, ◌++◌, sym, ap, ◌∙◌, refl, append_assoc}
use Rattle.std.proofs.lemmas.List.{append-nil}
use Rattle.std.proofs.lemmas.Bool.Decides.{Decides-like, same_from_decides}
use Rattle.std.proofs.lemmas.Slice.Eq.{bytes_eq-Decides}
use Rattle.std.specs.Str.{bytes_eq}
use Rattle.std.proofs.Math.Bool.{or-false}
use Rattle.wdl_typed.specs.Lists.{are_distinct, has_name}
use Rattle.wdl_names.specs.Fresh.{fresh}

pub or_assoc : (a b c : Bool) → (a || (b || c)) ≡ ((a || b) || c)
or_assoc true b c = refl
or_assoc false b c = refl

pub and_assoc : (a b c : Bool) → (a && (b && c)) ≡ ((a && b) && c)
and_assoc true b c = refl
and_assoc false b c = refl

moved : (a b c d : Bool) → (not (a || b) && (c && not d)) ≡ ((not a && c) && not (b || d))
moved true b c d = refl
moved false true true d = refl
moved false true false d = refl
moved false false c d = refl

regrouped : (a c d e : Bool) → (a && ((c && not d) && e)) ≡ ((a && c) && (not d && e))
regrouped true true d e = refl
regrouped true false d e = refl
regrouped false c d e = refl

-- a list has an item that is the same; its items differ; they differ from those before and from each other
pub record Reads {A : Type 0} (same : A → A → Bool) (has : A → List A → Bool) (distinct : List A → Bool) (new : List A → List A → Bool) : Type 0 where
  pub same_sym : (x y : A) → same x y ≡ same y x
  pub has_none : (x : A) → has x [] ≡ false
  pub has_more : (x y : A) (ys : List A) → has x (y ∷ ys) ≡ (same y x || has x ys)
  pub distinct_none : distinct [] ≡ true
  pub distinct_more : (x : A) (xs : List A) → distinct (x ∷ xs) ≡ (not (has x xs) && distinct xs)
  pub new_none : (ts : List A) → new ts [] ≡ true
  pub new_more : (ts : List A) (x : A) (xs : List A) → new ts (x ∷ xs) ≡ (not (has x ts) && new (ts ++ x ∷ []) xs)

module _ {A : Type 0} {same : A → A → Bool} {has : A → List A → Bool} {distinct : List A → Bool} {new : List A → List A → Bool} (reads : Reads same has distinct new) where
  has-push : (x y : A) (ts : List A) → has x (ts ++ y ∷ []) ≡ (has x ts || same y x)
  has-push x y [] = reads.has_more x y [] ∙ ap (λ b. same y x || b) (reads.has_none x) ∙ or-false (same y x) ∙ sym (ap (λ b. b || same y x) (reads.has_none x))
  has-push x y (t ∷ ts) =
      reads.has_more x t (ts ++ y ∷ []) ∙ ap (λ b. same t x || b) (has-push x y ts)
      ∙ or_assoc (same t x) (has x ts) (same y x) ∙ sym (ap (λ b. b || same y x) (reads.has_more x t ts))

  -- no item of the second list is in the first
  abbrev clear : List A → List A → Bool
  clear ts [] = true
  clear ts (x ∷ xs) = not (has x ts) && clear ts xs

  clear-push : (x : A) (ts xs : List A) → clear (ts ++ x ∷ []) xs ≡ (clear ts xs && not (has x xs))
  clear-push x ts [] = sym (ap not (reads.has_none x))
  clear-push x ts (y ∷ ys) =
      ap (λ b. not b && clear (ts ++ x ∷ []) ys) (has-push y x ts ∙ ap (λ b. has y ts || b) (reads.same_sym x y))
      ∙ ap (λ b. not (has y ts || same y x) && b) (clear-push x ts ys)
      ∙ moved (has y ts) (same y x) (clear ts ys) (has x ys)
      ∙ sym (ap (λ b. clear ts (y ∷ ys) && not b) (reads.has_more x y ys))

  new-clear : (ts xs : List A) → new ts xs ≡ (clear ts xs && distinct xs)
  new-clear ts [] = reads.new_none ts ∙ sym reads.distinct_none
  new-clear ts (x ∷ xs) =
      reads.new_more ts x xs
      ∙ ap (λ b. not (has x ts) && b) (new-clear (ts ++ x ∷ []) xs ∙ ap (λ b. b && distinct xs) (clear-push x ts xs))
      ∙ regrouped (not (has x ts)) (clear ts xs) (has x xs) (distinct xs)
      ∙ sym (ap (λ b. clear ts (x ∷ xs) && b) (reads.distinct_more x xs))

  clear-none : (xs : List A) → clear [] xs ≡ true
  clear-none [] = refl
  clear-none (x ∷ xs) = ap (λ b. not b && clear [] xs) (reads.has_none x) ∙ clear-none xs

  pub new-distinct : (xs : List A) → new [] xs ≡ distinct xs
  new-distinct xs = new-clear [] xs ∙ ap (λ b. b && distinct xs) (clear-none xs)

pub bytes_eq-sym : (a b : List ℕ) → bytes_eq a b ≡ bytes_eq b a
bytes_eq-sym a b = same_from_decides _ _ (bytes_eq-Decides a b) (Decides-like _ sym sym (bytes_eq-Decides b a))

pub fresh-distinct : (ns : List (List ℕ)) → fresh [] ns ≡ are_distinct ns
fresh-distinct = new-distinct {same = bytes_eq} {has = has_name} {distinct = are_distinct} {new = fresh} (record { same_sym = bytes_eq-sym; has_none = λ _. refl; has_more = λ _ _ _. refl; distinct_none = refl; distinct_more = λ _ _. refl; new_none = λ _. refl; new_more = λ _ _ _. refl })

pub fresh-append : (ts ns ms : List (List ℕ)) → fresh ts (ns ++ ms) ≡ (fresh ts ns && fresh (ts ++ ns) ms)
fresh-append ts [] ms = ap (λ us. fresh us ms) (sym (append-nil ts))
fresh-append ts (n ∷ ns) ms =
    ap (λ b. not (has_name n ts) && b) (fresh-append (ts ++ n ∷ []) ns ms)
    ∙ and_assoc (not (has_name n ts)) (fresh (ts ++ n ∷ []) ns) (fresh ((ts ++ n ∷ []) ++ ns) ms)
    ∙ ap (λ us. fresh ts (n ∷ ns) && fresh us ms) (append_assoc ts (n ∷ []) ns)
