-- What the reader of a path keeps of its segments.
use Rattle.std.specs.Prelude.{◌≡◌, ℕ, Bool, true, false, ◌&&◌, ◌||◌, not, List, [], ◌∷◌, ◌++◌, map, Option, MatchOption}
use denote.Ref.{Bor}
use Rattle.wdl_base.specs.Plain.{has_nul}
use Rattle.wdl_paths.specs.Resolve.{has_slash, is_here, is_folder, begins_up, segments, folder, settled}

abbrev pub Segments : Type 0
Segments = List (List ℕ)

abbrev pub texts : List (Bor (List ℕ)) → Segments
texts ss = map (λ s. s.now) ss

abbrev pub any_nul : Segments → Bool
any_nul [] = false
any_nul (s ∷ ss) = has_nul s || any_nul ss

-- no segment goes: none is `.`, and none that goes with a `..` has one behind it
abbrev pub is_settled : Segments → Bool
is_settled [] = true
is_settled (s ∷ ss) = not (is_here s) && not (is_folder s && begins_up ss) && is_settled ss

-- the last segment goes with a `..` behind it
abbrev pub ends_folder : Segments → Bool
ends_folder [] = false
ends_folder (s ∷ []) = is_folder s
ends_folder (s ∷ t ∷ ts) = ends_folder (t ∷ ts)

-- what is kept settles to the same as what was kept with this segment behind it
pub record Keeps (old : Segments) (s : List ℕ) (new : Segments) : Type 0 where
  pub same : is_settled old ≡ true → (rest : Segments) → settled (new ++ rest) ≡ settled (old ++ s ∷ rest)
  pub settles : is_settled old ≡ true → is_settled new ≡ true
  pub plain : any_nul old ≡ false → has_nul s ≡ false → any_nul new ≡ false

-- the same of a text up to its last slash
pub record KeepsFolder (old : Segments) (text : List ℕ) (new : Segments) : Type 0 where
  pub same : is_settled old ≡ true → (more : List ℕ) → settled (new ++ segments more) ≡ settled (old ++ segments (folder text ++ more))
  pub settles : is_settled old ≡ true → is_settled new ≡ true
  pub plain : any_nul old ≡ false → has_nul text ≡ false → any_nul new ≡ false

-- the text is cut at its first slash
abbrev pub IsCut : List ℕ → Option (Bor (List ℕ) × Bor (List ℕ)) → Type 0
IsCut text cut = MatchOption cut (has_slash text ≡ false) (λ p. (text ≡ p.0.now ++ (47 ∷ p.1.now)) × (has_slash p.0.now ≡ false))

-- a front of the text was put, up to a slash, and this is left of it
pub record Follows (old : List (Bor (List ℕ))) (text : List ℕ) (new : List (Bor (List ℕ))) (rest : List ℕ) : Type 0 where
  pub same : is_settled (texts old) ≡ true → (more : List ℕ) → settled (texts new ++ segments (folder rest ++ more)) ≡ settled (texts old ++ segments (folder text ++ more))
  pub settles : is_settled (texts old) ≡ true → is_settled (texts new) ≡ true
  pub plain : any_nul (texts old) ≡ false → has_nul text ≡ false → any_nul (texts new) ≡ false
  pub left : has_nul text ≡ false → has_nul rest ≡ false
