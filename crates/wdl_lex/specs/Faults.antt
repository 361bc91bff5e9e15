-- What each code says of a text at its span.
use Rattle.std.specs.Prelude.{◌≡◌, ℕ, ◌+◌, ◌<◌, Bool, true, false, List, [], ◌∷◌, ◌++◌, length, Option, Some, None, ◌⊎◌}
use Rattle.std.specs.Str.{IsValidUpTo}
use Rattle.wdl_base.specs.declared.span.Span.{Span}
use Rattle.wdl_ast.specs.declared.token.Kind.{Kind}
use Rattle.wdl_ast.specs.declared.token.Token.{Token}
use Rattle.wdl_ast.specs.Spelled.{Open, inside_of, inside, in_hole, unclosed, IsGapIn, span_at, AreTokens}
use Rattle.wdl_ast.specs.Spelled.Classes.{Bytes, first}
use Rattle.wdl_ast.specs.Spelled.Code.{Spells, IsLongest, stands_alone, fits}
use Rattle.wdl_ast.specs.Spelled.Escapes.{IsEscape}
use Rattle.wdl_ast.specs.Spelled.Chars.{Inside, command, is_string, AreChars}
use Rattle.wdl_ast.specs.Spelled.Gaps.{IsLastGap}
use Rattle.wdl_lex.specs.declared.fault.Flaw.{Flaw}
use Rattle.wdl_lex.specs.Limits.{max_document, is_short}
use Rattle.wdl_lex.specs.declared.fault.LexFault.{LexFault}
use Rattle.wdl_lex.specs.declared.fault.LexFault.TheVariants as lex_fault
use Rattle.std.specs.Str.{continuation_len}
use Rattle.std.specs.Prelude.{Result, Ok, Err}

-- a code, and from where to where
abbrev pub flaw : ℕ → ℕ → ℕ → Flaw
flaw c from to = record { code = c; start = from; end = to }

-- how many bytes the character has that begins with b
abbrev pub char_len : ℕ → ℕ
char_len b = 1 + continuation_len b

-- What is wrong at the front of a text outside strings and commands: a character with which no token begins (102), a number that a
-- letter, a digit or `_` follows (102), an integer past 9223372036854775807 (106), a word past its limit (107).
pub data IsCodeFlaw (awaits closes : Bool) : Bytes → Flaw → Type 0 where
  stray : (z : Bytes) → ((w rest : Bytes) (k : Kind) → z ≡ w ++ rest → Spells awaits closes w k → ⊥) → IsCodeFlaw awaits closes z (flaw 102 0 (char_len (first z)))
  glued : (w rest : Bytes) (k : Kind) → IsLongest awaits closes w rest k → stands_alone k rest ≡ false → IsCodeFlaw awaits closes (w ++ rest) (flaw 102 0 (length w + 1))
  large : (w rest : Bytes) (k : Kind) → IsLongest awaits closes w rest k → fits k ≡ false → IsCodeFlaw awaits closes (w ++ rest) (flaw 106 0 (length w))
  long : (w rest : Bytes) (k : Kind) → IsLongest awaits closes w rest k → is_short k ≡ false → IsCodeFlaw awaits closes (w ++ rest) (flaw 107 0 (length w))

-- a backslash with no escape behind it
abbrev pub IsBadEscape : Bytes → Type 0
IsBadEscape z = (y : Bytes) × (z ≡ 92 ∷ y) × ((x rest : Bytes) (c : ℕ) → y ≡ x ++ rest → IsEscape x c → ⊥)

-- What is wrong in a string or a command: NUL (102), a newline in a string (103), a bad escape in a string, maybe behind some
-- characters (105).
pub data IsTextFlaw (i : Inside) : Bytes → Flaw → Type 0 where
  nul : (z : Bytes) → IsTextFlaw i (0 ∷ z) (flaw 102 0 1)
  newline : (z : Bytes) → is_string i ≡ true → IsTextFlaw i (10 ∷ z) (flaw 103 0 1)
  escape : (w rest out : Bytes) → is_string i ≡ true → AreChars IsBadEscape i w rest out → IsTextFlaw i (w ++ rest) (flaw 105 (length w) (length w + 1))

abbrev pub IsFlawIn : Option Inside → Bool → Bool → Bytes → Flaw → Type 0
IsFlawIn None awaits closes z f = IsCodeFlaw awaits closes z f
IsFlawIn (Some i) awaits closes z f = IsTextFlaw i z f

-- behind a gap, or at a NUL in one
abbrev pub IsFlawedBy : ℕ → Flaw → ℕ → Bool → Open → Bytes → Type 0
IsFlawedBy from f at awaits opened z =
    (g y : Bytes) × (z ≡ g ++ y) × (IsGapIn (inside opened) g ⊎ (first y ≡ 0)) × IsFlawIn (inside opened) awaits (in_hole opened) y f × (from ≡ at + length g)

-- a text that ends in a command, and in a string
abbrev pub open_code : Option Inside → ℕ
open_code (Some (command f)) = 104
open_code _ = 103

-- the text ends in a string (103) or in a command (104), which opens at the span
abbrev pub IsUnclosed : ℕ → Span → ℕ → Bool → Open → Bytes → Type 0
IsUnclosed code s at awaits opened z = IsLastGap z × ((t : Token) × (unclosed opened ≡ Some t) × (code ≡ open_code (inside_of t.kind)) × (s ≡ t.span))

-- the text has more bytes than a document may have, the first of them at the span (107)
abbrev pub IsTooLong : ℕ → Bytes → ℕ → Span → Type 0
IsTooLong doc z code s = (max_document < length z) × (code ≡ 107) × (s ≡ span_at doc max_document (max_document + 1))

-- the text is UTF-8 up to the span, and no longer (101)
abbrev pub IsNotUtf8 : ℕ → Bytes → ℕ → Span → Type 0
IsNotUtf8 doc z code s = IsValidUpTo z s.start × (code ≡ 101) × (s ≡ span_at doc s.start (s.start + 1))

-- behind some tokens of the text something is wrong
abbrev pub IsFlawed : ℕ → Bytes → ℕ → Span → Type 0
IsFlawed doc z code s =
    (ts : List Token) × (from : ℕ) × (f : Flaw) × AreTokens (IsFlawedBy from f) doc 0 false [] z ts × (code ≡ f.code) × (s ≡ span_at doc (from + f.start) (from + f.end))

-- all tokens of the text, and then what is open at its end
abbrev pub IsCutOff : ℕ → Bytes → ℕ → Span → Type 0
IsCutOff doc z code s = (ts : List Token) × AreTokens (IsUnclosed code s) doc 0 false [] z ts

-- what a code says of a text at a span
abbrev pub IsFault : ℕ → Bytes → ℕ → Span → Type 0
IsFault doc z code s = IsTooLong doc z code s ⊎ (IsNotUtf8 doc z code s ⊎ (IsFlawed doc z code s ⊎ IsCutOff doc z code s))

-- the cause of an answer that is not Ok
abbrev pub HasCause : ℕ → Bytes → LexFault → Type 0
HasCause doc z lex_fault.NoMemory = Unit {0}
HasCause doc z (lex_fault.Bad code s) = IsFault doc z code s

-- these tokens, unless memory runs out
abbrev pub Answers : List Token → Result (List Token) LexFault → Type 0
Answers ts (Ok us) = us ≡ ts
Answers ts (Err lex_fault.NoMemory) = Unit {0}
Answers ts (Err (lex_fault.Bad code s)) = ⊥
