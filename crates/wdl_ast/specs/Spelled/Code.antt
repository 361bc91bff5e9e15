-- The tokens outside strings and commands.
use Rattle.std.specs.Prelude.{◌≡◌, ℕ, ◌≤◌, Bool, true, false, not, ◌∷◌, ◌++◌, length, nat_le, Some, pos, negsuc}
use Rattle.std.specs.List.{list_all}
use Rattle.wdl_ast.specs.declared.token.Kind.{Kind}
use Rattle.wdl_ast.specs.declared.token.Kind.TheVariants as kind
use Rattle.wdl_ast.specs.Spelled.Classes.{Bytes, is_letter, is_word_byte, first}
use Rattle.wdl_ast.specs.Spelled.Numbers.{IsInt, IsFrac}
use Rattle.wdl_ast.specs.Spelled.Marks.{mark_of}

-- what a whole word of bytes is
pub data Spells (awaits closes : Bool) : Bytes → Kind → Type 0 where
  word : (b : ℕ) (w : Bytes) → is_letter b ≡ true → list_all is_word_byte w ≡ true → Spells awaits closes (b ∷ w) (kind.Word (b ∷ w))
  int : (w : Bytes) (n : ℕ) → IsInt w n → Spells awaits closes w (kind.Int (pos n))
  frac : (w : Bytes) → IsFrac w → Spells awaits closes w (kind.Frac w)
  mark : (w : Bytes) (k : Kind) → mark_of awaits closes w ≡ Some k → Spells awaits closes w k

-- w is k, and no longer front of the text is a token
pub record IsLongest (awaits closes : Bool) (w rest : Bytes) (k : Kind) : Type 0 where
  pub spells : Spells awaits closes w k
  pub longest : (v more : Bytes) (j : Kind) → w ++ rest ≡ v ++ more → Spells awaits closes v j → length v ≤ length w

-- a number is not directly followed by a letter, a digit or `_`
abbrev pub stands_alone : Kind → Bytes → Bool
stands_alone (kind.Int n) rest = not (is_word_byte (first rest))
stands_alone (kind.Frac w) rest = not (is_word_byte (first rest))
stands_alone _ rest = true

-- an integer is at most 9223372036854775807
abbrev pub fits : Kind → Bool
fits (kind.Int (pos n)) = nat_le n 9223372036854775807
fits (kind.Int (negsuc n)) = false
fits _ = true

pub record IsCodeToken (awaits closes : Bool) (w rest : Bytes) (k : Kind) : Type 0 where
  pub longest : IsLongest awaits closes w rest k
  pub alone : stands_alone k rest ≡ true
  pub in_range : fits k ≡ true
