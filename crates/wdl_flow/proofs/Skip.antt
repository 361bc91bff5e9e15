-- A search in a list may begin where the number of what is sought first stands.
use Rattle.std.proofs.Common.{◌≡◌, ℕ, suc, ◌+◌, ◌-◌, ◌==◌, Bool, true, false, not, cond, List, [], ◌∷◌, length, take, drop, map, sym, ap, ◌∙◌, refl, arith}
use Rattle.std.proofs.lemmas.List.{take_rest}
use Rattle.std.proofs.lemmas.Bool.{eq-eqb}
use Rattle.wdl_names.specs.Marks.{first_place}

-- what is equal has one number
pub apart : (b : Bool) (m n : ℕ) → (b ≡ true → m ≡ n) → (m == n) ≡ false → b ≡ false
apart true m n one differ = cc (eq-eqb m n (one refl))
apart false m n one differ = refl

pub skip : {A B : Type 0} (f : List A → B) (mark : A → ℕ) (m : ℕ)
    → ((x : A) (xs : List A) → (mark x == m) ≡ false → f (x ∷ xs) ≡ f xs)
    → (xs : List A) → f (drop (first_place m (map mark xs)) xs) ≡ f xs
skip f mark m step [] = refl
skip {A} {B} f mark m step (x ∷ xs) = by_test (mark x == m) refl (skip f mark m step xs)
  where
    by_test : (b : Bool) → (mark x == m) ≡ b → f (drop (first_place m (map mark xs)) xs) ≡ f xs
        → f (drop (cond (not b) (1 + first_place m (map mark xs)) 0) (x ∷ xs)) ≡ f (x ∷ xs)
    by_test true e rest = refl
    by_test false e rest =
        let one : 1 + first_place m (map mark xs) ≡ suc (first_place m (map mark xs)) = omega arith in
        ap (λ n. f (drop n (x ∷ xs))) one ∙ rest ∙ sym (step x xs e)

-- what a search found from there on is what it finds in the whole list
pub searched : {A B : Type 0} (f : List A → B) (marks : List A → List ℕ) (m : ℕ) → ((xs : List A) → f (drop (first_place m (marks xs)) xs) ≡ f xs)
    → (r : B) (slice xs all : List A) (ms : List ℕ) (n k : ℕ)
    → r ≡ f (take (length slice - k) (drop k slice)) → slice ≡ xs → xs ≡ all → k ≡ first_place n ms → ms ≡ marks xs → n ≡ m → r ≡ f all
searched f marks m skipped r slice xs all ms n k is within view at index number =
    is
    ∙ ap f (take_rest slice k)
    ∙ ap (λ ys. f (drop k ys)) within
    ∙ ap (λ j. f (drop j xs)) (at ∙ ap (λ j. first_place j ms) number ∙ ap (first_place m) index)
    ∙ skipped xs
    ∙ ap f view
