-- One byte cut from the end of a text.
use Rattle.std.specs.Prelude.{◌≡◌, ℕ, Bool, true, false, List, [], ◌∷◌, ◌++◌, Option, Some, None}

-- without its last byte, which passes; or there is no such byte
abbrev pub CutsEnd : (ℕ → Bool) → List ℕ → Option (List ℕ) → Type 0
CutsEnd test s None = (front : List ℕ) (last : ℕ) → s ≡ front ++ last ∷ [] → test last ≡ false
CutsEnd test s (Some x) = (last : ℕ) × (test last ≡ true) × (s ≡ x ++ last ∷ [])
