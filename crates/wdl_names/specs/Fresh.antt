-- Names that differ, read from the first to the last.
use Rattle.std.specs.Prelude.{ℕ, Bool, true, not, ◌&&◌, List, [], ◌∷◌, ◌++◌}
use Rattle.wdl_typed.specs.Lists.{has_name}

-- whether names differ from those and from each other
abbrev pub fresh : List (List ℕ) → List (List ℕ) → Bool
fresh taken [] = true
fresh taken (n ∷ ns) = not (has_name n taken) && fresh (taken ++ n ∷ []) ns
