-- Identifiers and reserved words.
use Rattle.std.specs.Prelude.{ℕ, Bool, true, false, ◌==◌, ◌||◌, ◌&&◌, not, List, [], ◌∷◌, length, map, nat_le}
use Rattle.std.specs.Str.{bytes_eq}
use Rattle.std.specs.Char.{is_ascii_alphabetic, is_ascii_alphanumeric}
use Rattle.wdl_base.specs.declared.reserved.TheConstants.{RESERVED}

abbrev pub is_among : List ℕ → List (List ℕ) → Bool
is_among word [] = false
is_among word (w ∷ ws) = bytes_eq w word || is_among word ws

abbrev pub is_word_from : List ℕ → Bool
is_word_from [] = true
is_word_from (b ∷ bs) = (is_ascii_alphanumeric b || b == 95) && is_word_from bs

-- an ASCII letter, followed by ASCII letters, digits and underscores
abbrev pub is_word : List ℕ → Bool
is_word [] = false
is_word (b ∷ bs) = is_ascii_alphabetic b && is_word_from bs

unfoldable pub reserved_words : List (List ℕ)
reserved_words = map (λ w. w.now) RESERVED

abbrev pub is_name : List ℕ → Bool
is_name s = nat_le (length s) 128 && is_word s && not (is_among s reserved_words)
