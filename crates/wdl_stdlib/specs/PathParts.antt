-- The parts of paths, as code lends them.
use Rattle.std.specs.Prelude.{◌≡◌, ℕ, false, List, [], ◌∷◌, map}
use denote.Ref.{Bor}
use Rattle.wdl_base.specs.Plain.{has_nul}

abbrev pub texts : List (Bor (List ℕ)) → List (List ℕ)
texts parts = map (λ p. p.now) parts

abbrev pub EachPlain : List (List ℕ) → Type 0
EachPlain [] = Unit {0}
EachPlain (x ∷ xs) = (has_nul x ≡ false) × EachPlain xs
