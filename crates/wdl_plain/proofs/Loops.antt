-- Loops over lists whose items run one after the other.
use Rattle.std.proofs.Common.{◌≡◌, ℕ, ◌+◌, ◌<◌, true, false, List, ◌∷◌, length, drop, get_or, sym, ap, ◌∙◌}
use Rattle.std.proofs.lemmas.List.{drop_more}
use Rattle.wdl_typed.specs.Flow.{Flowing, Runner, Sight, seeing, together, too_many}
use Rattle.wdl_plain.proofs.Turns.{Going, goes, many_part, many_sum}

-- the first item of the rest of a list
pub cut : {A : Type 0} (xs : List A) (i : ℕ) (x : A) → i < length xs → x ≡ get_or xs i x → drop i xs ≡ x ∷ drop (i + 1) xs
cut xs i x below at = drop_more xs i x below ∙ ap (λ z. z ∷ drop (i + 1) xs) (sym at)

module _ {A : Type 0} (f : A → Runner) (runs : List A → List Runner) (step : (x : A) (xs : List A) → runs (x ∷ xs) ≡ f x ∷ runs xs) where
  first : (xs : List A) (i : ℕ) (x : A) → i < length xs → x ≡ get_or xs i x → runs (drop i xs) ≡ f x ∷ runs (drop (i + 1) xs)
  first xs i x below at = ap runs (cut xs i x below at) ∙ step x (drop (i + 1) xs)

  pub runs_on : (xs : List A) (i : ℕ) (x : A) (total more total' all : Flowing) (s s' start : Sight) → i < length xs → x ≡ get_or xs i x → more ≡ f x s → s' ≡ seeing s more
      → total' ≡ together total more → too_many (together total more) ≡ false → Going total (runs (drop i xs)) s start all → Going total' (runs (drop (i + 1) xs)) s' start all
  runs_on xs i x total more total' all s s' start below at is seen sum within g =
      goes (f x) (runs (drop (i + 1) xs)) (runs (drop i xs)) total more total' all s s' start (first xs i x below at) is seen sum within g

  pub part_is_many : (xs : List A) (i : ℕ) (x : A) (total all : Flowing) (s start : Sight) → i < length xs → x ≡ get_or xs i x → too_many (f x s) ≡ true
      → Going total (runs (drop i xs)) s start all → too_many all ≡ true
  part_is_many xs i x total all s start below at h g = many_part (f x) (runs (drop (i + 1) xs)) (runs (drop i xs)) total all s start (first xs i x below at) h g

  pub sum_is_many : (xs : List A) (i : ℕ) (x : A) (total more all : Flowing) (s start : Sight) → i < length xs → x ≡ get_or xs i x → more ≡ f x s
      → too_many (together total more) ≡ true → Going total (runs (drop i xs)) s start all → too_many all ≡ true
  sum_is_many xs i x total more all s start below at is h g = many_sum (f x) (runs (drop (i + 1) xs)) (runs (drop i xs)) total more all s start (first xs i x below at) is h g
