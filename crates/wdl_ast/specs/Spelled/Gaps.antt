-- What stands between the tokens outside strings and commands.
use Rattle.std.specs.Prelude.{◌≡◌, ℕ, Bool, true, not, ◌||◌, ◌==◌, [], ◌∷◌, ◌++◌, ◌⊎◌}
use Rattle.std.specs.List.{list_all}
use Rattle.wdl_ast.specs.Spelled.Classes.{Bytes, is_blank}

-- what may stand in a comment: no newline and no NUL
abbrev pub is_inside : ℕ → Bool
is_inside b = not (b == 10 || b == 0)

-- blank space and whole comments, from `#` to the end of the line
pub data IsGap : Bytes → Type 0 where
  none : IsGap []
  blank : (b : ℕ) (z : Bytes) → is_blank b ≡ true → IsGap z → IsGap (b ∷ z)
  comment : (body z : Bytes) → list_all is_inside body ≡ true → IsGap z → IsGap (35 ∷ (body ++ 10 ∷ z))

-- the end of a text: a gap, and maybe a comment that no newline ends
abbrev pub IsLastGap : Bytes → Type 0
IsLastGap z = IsGap z ⊎ ((g : Bytes) × (body : Bytes) × (z ≡ g ++ 35 ∷ body) × IsGap g × (list_all is_inside body ≡ true))
