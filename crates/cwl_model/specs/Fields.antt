-- Fields with parameter references (CWL v1.2 CommandLineTool, "Parameter references"). The references of this profile
-- are `$(inputs.NAME)` and `$(inputs.NAME.path)`, and there is no escape.
use Rattle.std.specs.Prelude.{◌≡◌, ℕ, zero, suc, ◌==◌, Bool, true, false, not, ◌&&◌, ◌||◌, List, [], ◌∷◌, ◌++◌, length, Option, Some, None, option_map, option_and_then, if◌then◌else◌, codes}
use Rattle.std.specs.Char.{is_ascii_alphanumeric}
use Rattle.std.specs.Option.{is_some}
use Rattle.wdl_base.specs.Names.{is_name}
use Rattle.cwl_model.specs.declared.tool.Piece.{Piece}
use Rattle.cwl_model.specs.declared.tool.Piece.TheVariants as piece
use Rattle.cwl_model.specs.Ids.{behind}

-- ---- the text of pieces

-- a reference without its `$`
abbrev pub reference_body : Piece → List ℕ
reference_body (piece.Chars s) = []
reference_body (piece.Input name) = codes "(inputs." ++ (name ++ codes ")")
reference_body (piece.InputPath name) = codes "(inputs." ++ (name ++ codes ".path)")

abbrev pub piece_field : Piece → List ℕ
piece_field (piece.Chars s) = s
piece_field (piece.Input name) = 36 ∷ reference_body (piece.Input name)
piece_field (piece.InputPath name) = 36 ∷ reference_body (piece.InputPath name)

abbrev pub field_text : List Piece → List ℕ
field_text [] = []
field_text (p ∷ ps) = piece_field p ++ field_text ps

-- ---- the reference that a text begins with, behind its `$`

abbrev pub is_word_char : ℕ → Bool
is_word_char c = is_ascii_alphanumeric c || c == 95

-- the letters, digits and underscores that a text begins with
abbrev pub word_at : List ℕ → List ℕ
word_at [] = []
word_at (c ∷ cs) = if is_word_char c then c ∷ word_at cs else []

abbrev pub past_word : List ℕ → List ℕ
past_word [] = []
past_word (c ∷ cs) = if is_word_char c then past_word cs else c ∷ cs

abbrev pub starts : List ℕ → List ℕ → Bool
starts prefix s = is_some (behind prefix s)

abbrev pub closed_by : List ℕ → Bool → Bool → Option Piece
closed_by name true path = Some (piece.Input name)
closed_by name false true = Some (piece.InputPath name)
closed_by name false false = None

abbrev pub reference_of : List ℕ → List ℕ → Option Piece
reference_of name rest = if is_name name then closed_by name (starts (codes ")") rest) (starts (codes ".path)") rest) else None

abbrev pub reference_at : List ℕ → Option Piece
reference_at s = option_and_then (λ t. reference_of (word_at t) (past_word t)) (behind (codes "(inputs.") s)

-- ---- plain fields

abbrev pub begins_with : ℕ → List ℕ → Bool
begins_with c [] = false
begins_with c (d ∷ ds) = d == c

-- NUL, a backslash, or `${`
abbrev pub is_refused : ℕ → List ℕ → Bool
is_refused c cs = c == 0 || c == 92 || (c == 36 && begins_with 123 cs)

-- `$(`
abbrev pub opens : ℕ → List ℕ → Bool
opens c cs = c == 36 && begins_with 40 cs

abbrev pub is_stray : ℕ → List ℕ → Bool
is_stray c cs = is_refused c cs || (opens c cs && not (is_some (reference_at cs)))

-- It holds no NUL, no backslash, no `${`, and no `$(` that does not begin a reference.
abbrev pub is_plain_field : List ℕ → Bool
is_plain_field [] = true
is_plain_field (c ∷ cs) = not (is_stray c cs) && is_plain_field cs

-- ---- the pieces of a field

-- Characters that stand for themselves hold no NUL, no backslash, no `${` and no `$(`.
abbrev pub are_plain : List ℕ → Bool
are_plain [] = true
are_plain (c ∷ cs) = not (is_refused c cs) && not (opens c cs) && are_plain cs

abbrev pub is_empty : List ℕ → Bool
is_empty [] = true
is_empty (c ∷ cs) = false

abbrev pub is_piece : Piece → Bool
is_piece (piece.Chars s) = not (is_empty s) && are_plain s
is_piece (piece.Input name) = is_name name
is_piece (piece.InputPath name) = is_name name

abbrev pub is_chars : Piece → Bool
is_chars (piece.Chars s) = true
is_chars (piece.Input name) = false
is_chars (piece.InputPath name) = false

abbrev pub begins_with_chars : List Piece → Bool
begins_with_chars [] = false
begins_with_chars (p ∷ ps) = is_chars p

-- neighbouring characters are joined, and none are empty
abbrev pub are_pieces : List Piece → Bool
are_pieces [] = true
are_pieces (p ∷ ps) = is_piece p && not (is_chars p && begins_with_chars ps) && are_pieces ps

abbrev pub piece_at : ℕ → List ℕ → Option Piece
piece_at c cs = if opens c cs then reference_at cs else None

abbrev pub reference_length : Option Piece → ℕ
reference_length None = 0
reference_length (Some p) = length (reference_body p)

abbrev pub with_char : ℕ → List Piece → List Piece
with_char c [] = piece.Chars (c ∷ []) ∷ []
with_char c (piece.Chars s ∷ ps) = piece.Chars (c ∷ s) ∷ ps
with_char c (piece.Input name ∷ ps) = piece.Chars (c ∷ []) ∷ piece.Input name ∷ ps
with_char c (piece.InputPath name ∷ ps) = piece.Chars (c ∷ []) ∷ piece.InputPath name ∷ ps

abbrev pub with_front : ℕ → Option Piece → List Piece → List Piece
with_front c None ps = with_char c ps
with_front c (Some p) ps = p ∷ ps

-- the pieces of what follows so many characters, which a reference takes up
abbrev pub pieces_past : List ℕ → ℕ → Option (List Piece)
pieces_past [] n = Some []
pieces_past (c ∷ cs) (suc n) = pieces_past cs n
pieces_past (c ∷ cs) zero =
    if is_stray c cs then None else option_map (with_front c (piece_at c cs)) (pieces_past cs (reference_length (piece_at c cs)))

-- the pieces that a text stands for; a text that is no plain field stands for none
abbrev pub pieces_in : List ℕ → Option (List Piece)
pieces_in s = pieces_past s 0

-- Exactly the plain fields have pieces, whose text is the field; and pieces that are joined are those of their text.
pub record FieldsAreRead : Type 0 where
  pub plain : (s : List ℕ) → is_plain_field s ≡ is_some (pieces_in s)
  pub text : (s : List ℕ) (ps : List Piece) → pieces_in s ≡ Some ps → (are_pieces ps ≡ true) × (field_text ps ≡ s)
  pub pieces : (ps : List Piece) → are_pieces ps ≡ true → pieces_in (field_text ps) ≡ Some ps
