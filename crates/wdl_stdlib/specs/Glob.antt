-- Which ends of a name the rest of a pattern has to match, one test for each end from the whole name to the empty one.
use Rattle.std.specs.Prelude.{ℕ, Bool, true, false, ◌&&◌, ◌||◌, List, [], ◌∷◌, map}
use Rattle.wdl_value.specs.Paths.{takes}

-- the whole name alone
abbrev pub first_row : List ℕ → List Bool
first_row name = true ∷ map (λ c. false) name

-- the ends after one character that the pattern's character takes
abbrev pub moved : ℕ → List Bool → List ℕ → List Bool
moved p row [] = []
moved p [] (c ∷ cs) = []
moved p (b ∷ bs) (c ∷ cs) = (b && takes p c) ∷ moved p bs cs

-- the ends after any run
abbrev pub spread : Bool → List Bool → List Bool
spread seen [] = []
spread seen (b ∷ bs) = (seen || b) ∷ spread (seen || b) bs
