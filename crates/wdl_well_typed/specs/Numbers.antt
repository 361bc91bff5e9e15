-- The numbers of the blocks of a body.
use Rattle.std.specs.Prelude.{ℕ, Bool, true, not, ◌&&◌, List, [], ◌∷◌, ◌++◌, map}
use Rattle.std.specs.List.{list_all}
use Rattle.wdl_typed.specs.declared.flow.Statement.{Statement, fold-Statement}
use Rattle.wdl_typed.specs.Bodies.{Numbered, append_numbers, numbered_step}
use Rattle.wdl_typed.specs.Lists.{has_number}

abbrev pub numbered : Statement → Numbered
numbered = fold-Statement Numbered numbered_step

abbrev pub scatter_numbers : List Statement → List ℕ
scatter_numbers ss = append_numbers (map (λ (n : Numbered). n.scatter) (map numbered ss))

abbrev pub condition_numbers : List Statement → List ℕ
condition_numbers ss = append_numbers (map (λ (n : Numbered). n.condition) (map numbered ss))

abbrev pub inside_numbered : Statement → Bool
inside_numbered s = (numbered s).inside

abbrev pub all_numbered : List Statement → Bool
all_numbered ss = list_all (λ (n : Numbered). n.inside) (map numbered ss)

-- whether numbers differ from those and from each other, read from the first to the last
abbrev pub fresh_numbers : List ℕ → List ℕ → Bool
fresh_numbers taken [] = true
fresh_numbers taken (n ∷ ns) = not (has_number n taken) && fresh_numbers (taken ++ n ∷ []) ns
