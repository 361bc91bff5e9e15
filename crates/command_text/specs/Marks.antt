-- What the marked text of a template keeps, and the lines that may be cut.
use Rattle.std.specs.Prelude.{ℕ, ◌≡◌, ◌≤◌, ◌==◌, false, List, [], ◌∷◌, ◌++◌}
use Rattle.std.specs.List.{count_by, prefix_len}
use Rattle.wdl_base.specs.declared.template.Part.{Part}
use Rattle.wdl_base.specs.declared.template.Part.TheVariants.{Chars}
use Rattle.wdl_base.specs.Templates.{is_blank_line, is_indent}

-- how many holes stand in a marked text
abbrev pub zeros : List ℕ → ℕ
zeros = count_by (λ b. b == 0)

-- a text as a part, which no empty text is
abbrev pub text_parts : List ℕ → List Part
text_parts [] = []
text_parts (b ∷ text) = Chars (b ∷ text) ∷ []

-- a line that is not blank begins with so many blanks and tabs
abbrev pub Fits : ℕ → List ℕ → Type 0
Fits width line = is_blank_line line ≡ false → width ≤ prefix_len is_indent line

-- lines, a newline before each of them
abbrev pub led : List (List ℕ) → List ℕ
led [] = []
led (line ∷ more) = 10 ∷ (line ++ led more)
