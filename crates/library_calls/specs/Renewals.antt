-- Texts of rows, and those in which their entries are written.
use Rattle.std.specs.Prelude.{◌≡◌, ◌<◌, ℕ, List, [], ◌∷◌, length, take, get_or, ⊤}
use Rattle.std.specs.List.{AllByRecursion}
use Rattle.wdl_base.specs.declared.entry.Entry.{Entry}
use Rattle.run_keeper.specs.Reads.{IsNoRow}
use Rattle.run_keeper.specs.RowText.{IsRowOf, row_text}

-- the text is a row's, and the other is that in which its entry is written
abbrev pub IsRenewed : List ℕ → List ℕ → Type 0
IsRenewed s t = (e : Entry) × IsRowOf s e × (t ≡ row_text e)

-- each text is a row's, and is replaced by that in which its entry is written
abbrev pub AreRenewed : List (List ℕ) → List (List ℕ) → Type 0
AreRenewed [] [] = ⊤
AreRenewed [] (t ∷ ts) = ⊥
AreRenewed (s ∷ ss) [] = ⊥
AreRenewed (s ∷ ss) (t ∷ ts) = IsRenewed s t × AreRenewed ss ts

abbrev pub IsRow : List ℕ → Type 0
IsRow s = (e : Entry) × IsRowOf s e

-- the text of that number is no row's, and each before it is a row's
pub record IsFirstBad (n : ℕ) (rows : List (List ℕ)) : Type 0 where
  pub before : AllByRecursion IsRow (take n rows)
  pub within : n < length rows
  pub bad : IsNoRow (get_or rows n [])
