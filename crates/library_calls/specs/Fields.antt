-- What reading a field with parameter references answers (CWL v1.2 CommandLineTool, "Parameter references").
use Rattle.std.specs.Prelude.{◌≡◌, ℕ, Bool, true, false, ◌||◌, List, [], ◌∷◌, ◌++◌, Result, Ok, Err}
use Rattle.wdl_base.specs.Names.{is_name}
use Rattle.cwl_model.specs.declared.tool.Piece.{Piece}
use Rattle.cwl_model.specs.declared.tool.Piece.TheVariants as piece
use Rattle.cwl_model.specs.Fields.{are_pieces, field_text, is_chars, is_piece, is_plain_field, is_refused, piece_field}
use Rattle.library_calls.specs.declared.fields.FieldFault.{FieldFault}
use Rattle.library_calls.specs.declared.fields.FieldFault.TheVariants.{NotPlain, NoMemory as OutOfMemory}

abbrev pub begins_refused : List ℕ → Bool
begins_refused [] = false
begins_refused (c ∷ cs) = is_refused c cs

abbrev pub holds_refused : List ℕ → Bool
holds_refused [] = false
holds_refused (c ∷ cs) = is_refused c cs || holds_refused cs

-- no piece for no characters
abbrev pub chars_piece : List ℕ → List Piece
chars_piece [] = []
chars_piece (c ∷ cs) = piece.Chars (c ∷ cs) ∷ []

abbrev pub NameReads : List ℕ → Result (List ℕ) FieldFault → Type 0
NameReads s (Ok name) = (is_name s ≡ true) × (name ≡ s)
NameReads s (Err NotPlain) = is_name s ≡ false
NameReads s (Err OutOfMemory) = Unit {0}

-- a reference, and what stands between its parentheses
pub record IsReference (word : List ℕ) (p : Piece) : Type 0 where
  pub kind : is_chars p ≡ false
  pub named : is_piece p ≡ true
  pub text : piece_field p ≡ 36 ∷ 40 ∷ (word ++ 41 ∷ [])

abbrev pub ReferenceReads : List ℕ → Result Piece FieldFault → Type 0
ReferenceReads word (Ok p) = IsReference word p
ReferenceReads word (Err NotPlain) = (p : Piece) → IsReference word p → ⊥
ReferenceReads word (Err OutOfMemory) = Unit {0}

abbrev pub PiecesRead : List ℕ → Result (List Piece) FieldFault → Type 0
PiecesRead s (Ok ps) = (are_pieces ps ≡ true) × (field_text ps ≡ s)
PiecesRead s (Err NotPlain) = is_plain_field s ≡ false
PiecesRead s (Err OutOfMemory) = Unit {0}
