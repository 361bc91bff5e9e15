-- Lists of declared names.
use Rattle.std.specs.Prelude.{ℕ, Bool, true, false, not, ◌&&◌, ◌||◌, ◌==◌, nat_lt, List, [], ◌∷◌, length}
use Rattle.std.specs.Str.{bytes_eq}

abbrev pub has_name : List ℕ → List (List ℕ) → Bool
has_name name [] = false
has_name name (n ∷ ns) = bytes_eq n name || has_name name ns

abbrev pub are_distinct : List (List ℕ) → Bool
are_distinct [] = true
are_distinct (n ∷ ns) = not (has_name n ns) && are_distinct ns

-- numbers from 0 on, each once, in any order
abbrev pub has_number : ℕ → List ℕ → Bool
has_number k [] = false
has_number k (n ∷ ns) = n == k || has_number k ns

abbrev pub numbers_differ : List ℕ → Bool
numbers_differ [] = true
numbers_differ (n ∷ ns) = not (has_number n ns) && numbers_differ ns

abbrev pub are_below : ℕ → List ℕ → Bool
are_below most [] = true
are_below most (n ∷ ns) = nat_lt n most && are_below most ns

abbrev pub are_counted : List ℕ → Bool
are_counted ns = are_below (length ns) ns && numbers_differ ns
