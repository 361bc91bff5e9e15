-- How the note of a fault begins.
use Rattle.std.specs.Prelude.{◌≡◌, ℕ, List, ◌++◌}

-- the text begins with these bytes
abbrev pub Begins : List ℕ → List ℕ → Type 0
Begins head text = (rest : List ℕ) × (text ≡ head ++ rest)
