-- Numbered lists of numbers, and numbered flags.
use Rattle.std.specs.Prelude.{◌≡◌, ℕ, ◌<◌, Bool, true, false, List, [], length}
use Rattle.std.specs.List.{slice_index_or}
use Rattle.wdl_typed.specs.Lists.{has_number}

abbrev pub row : List (List ℕ) → ℕ → List ℕ
row rows p = slice_index_or rows p []

-- whether row p has the number q
abbrev pub has : List (List ℕ) → ℕ → ℕ → Bool
has rows p q = has_number q (row rows p)

abbrev pub is_set : List Bool → ℕ → Bool
is_set flags p = slice_index_or flags p false

abbrev pub AllBelow : ℕ → List ℕ → Type 0
AllBelow most ns = (k : ℕ) → has_number k ns ≡ true → k < most

-- Each number is that of a row.
abbrev pub AreWithin : List (List ℕ) → Type 0
AreWithin rows = (p : ℕ) → AllBelow (length rows) (row rows p)
