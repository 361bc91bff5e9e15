-- Lists that are the same element by element.
use Rattle.std.specs.Prelude.{Bool, true, false, ◌&&◌, List, [], ◌∷◌}

abbrev pub alike : {A B : Type 0} → (A → B → Bool) → List A → List B → Bool
alike same [] [] = true
alike same [] (b ∷ bs) = false
alike same (a ∷ as_) [] = false
alike same (a ∷ as_) (b ∷ bs) = same a b && alike same as_ bs
