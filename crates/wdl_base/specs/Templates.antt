-- Templates of commands: the dedent rule, and what a filled template is.
use Rattle.std.specs.Prelude.{ℕ, zero, suc, ◌<◌, ◌==◌, ◌&&◌, ◌||◌, Bool, false, not, List, [], ◌∷◌, ◌++◌, length, map, drop, take, reverse, slice_index_or, if◌then◌else◌}
use Rattle.std.specs.List.{All, common_prefix_len, filter, join_with_byte, fold, list_all, prefix_len, slice_split}
use Rattle.wdl_base.specs.declared.template.Part.{Part}
use Rattle.wdl_base.specs.declared.template.Part.TheVariants.{Chars, Hole}

-- ---- a template as one text, in which NUL, which no text holds, stands for each hole

abbrev pub marked : List Part → List ℕ
marked [] = []
marked (Chars text ∷ parts) = text ++ marked parts
marked (Hole k ∷ parts) = 0 ∷ marked parts

-- the numbers of the holes, in their order
abbrev pub holes : List Part → List ℕ
holes [] = []
holes (Chars text ∷ parts) = holes parts
holes (Hole k ∷ parts) = k ∷ holes parts

abbrev pub onto_text : ℕ → List Part → List Part
onto_text b (Chars text ∷ parts) = Chars (b ∷ text) ∷ parts
onto_text b parts = Chars (b ∷ []) ∷ parts

-- the template of such a text and the numbers of its holes: neighbouring characters are joined, and none are empty
abbrev pub template_of : List ℕ → List ℕ → List Part
template_of [] numbers = []
template_of (zero ∷ text) [] = template_of text []
template_of (zero ∷ text) (k ∷ numbers) = Hole k ∷ template_of text numbers
template_of (suc b ∷ text) numbers = onto_text (suc b) (template_of text numbers)

-- ---- lines

abbrev pub begins_with_newline : List ℕ → Bool
begins_with_newline [] = false
begins_with_newline (b ∷ text) = b == 10

-- a text without each carriage return that stands directly before a newline
abbrev pub without_returns : List ℕ → List ℕ
without_returns [] = []
without_returns (b ∷ text) =
    if b == 13 && begins_with_newline text then without_returns text else b ∷ without_returns text

-- a blank or a tab
abbrev pub is_indent : ℕ → Bool
is_indent b = b == 32 || b == 9

-- a blank, a tab or a carriage return
abbrev pub is_blank : ℕ → Bool
is_blank b = is_indent b || b == 13

abbrev pub is_blank_line : List ℕ → Bool
is_blank_line = list_all is_blank

abbrev pub is_written : List ℕ → Bool
is_written line = not (is_blank_line line)

abbrev pub lines : List ℕ → List (List ℕ)
lines = slice_split (λ b. b == 10)

-- of two lines or more, the first goes where it is blank
abbrev pub without_first : List (List ℕ) → List (List ℕ)
without_first (first ∷ (second ∷ more)) =
    if is_blank_line first then second ∷ more else first ∷ (second ∷ more)
without_first few = few

-- of two lines or more, the last goes where it is blank
abbrev pub without_last : List (List ℕ) → List (List ℕ)
without_last all = reverse (without_first (reverse all))

-- ---- the indent that the lines have in common

abbrev pub indent : List ℕ → List ℕ
indent line = take (prefix_len is_indent line) line

abbrev pub common : List ℕ → List ℕ → List ℕ
common left right = take (common_prefix_len (λ a b. a == b) left right) left

-- the longest common prefix
abbrev pub longest_common : List (List ℕ) → List ℕ
longest_common [] = []
longest_common (first ∷ more) = fold common first more

-- the longest common prefix of blanks and tabs of the lines that are not blank
abbrev pub common_indent : List (List ℕ) → List ℕ
common_indent all = longest_common (map indent (filter is_written all))

-- ---- the dedent rule

-- a line without so many characters, and a blank line without any
abbrev pub cut : ℕ → List ℕ → List ℕ
cut width line = if is_blank_line line then [] else drop width line

abbrev pub dedented_lines : List (List ℕ) → List (List ℕ)
dedented_lines all = map (cut (length (common_indent all))) all

unfoldable pub dedented_text : List ℕ → List ℕ
dedented_text text =
    join_with_byte 10 (dedented_lines (without_last (without_first (lines (without_returns text)))))

-- A hole counts as a character that is not blank and no newline.
abbrev pub dedented : List Part → List Part
dedented parts = template_of (dedented_text (marked parts)) (holes parts)

-- ---- filled templates

-- piece k stands in the place of hole k
abbrev pub part_text : Part → List (List ℕ) → List ℕ
part_text (Chars text) pieces = text
part_text (Hole k) pieces = slice_index_or pieces k []

-- the texts of the parts, in their order
abbrev pub joined : List Part → List (List ℕ) → List ℕ
joined [] pieces = []
joined (part ∷ parts) pieces = part_text part pieces ++ joined parts pieces

-- there is a piece for the part, where it is a hole
abbrev pub HasPiece : ℕ → Part → Type 0
HasPiece count (Chars text) = Unit {0}
HasPiece count (Hole k) = k < count

abbrev pub HasPieces : ℕ → List Part → Type 0
HasPieces count parts = All (HasPiece count) parts
