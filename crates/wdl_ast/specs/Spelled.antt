-- Which tokens a text spells. The relation speaks of whole parts of the text: a gap, a spelling, and what follows it.
-- (OpenWDL 1.1: "Whitespace", "Literals", "Strings", "Expression Placeholders", "Command Section".)
pub mod Classes
pub mod Numbers
pub mod Marks
pub mod Code
pub mod Escapes
pub mod Chars
pub mod Gaps
use Rattle.std.specs.Prelude.{◌≡◌, ℕ, ◌+◌, Bool, true, false, if◌then◌else◌, List, [], ◌∷◌, ◌++◌, length, codes, Option, Some, None}
use Rattle.std.specs.Str.{IsUtf8, bytes_eq}
use Rattle.wdl_base.specs.declared.span.Span.{Span}
use Rattle.wdl_ast.specs.declared.token.Mark.TheVariants as mark
use Rattle.wdl_ast.specs.declared.token.Kind.{Kind}
use Rattle.wdl_ast.specs.declared.token.Kind.TheVariants as kind
use Rattle.wdl_ast.specs.declared.token.Token.{Token}
use Rattle.wdl_ast.specs.Spelled.Classes.{Bytes}
use Rattle.wdl_ast.specs.Spelled.Code.{IsCodeToken}
use Rattle.wdl_ast.specs.Spelled.Chars.{Inside, string, command, IsTextToken}
use Rattle.wdl_ast.specs.Spelled.Gaps.{IsGap, IsLastGap}

-- ---- What is open: the tokens that opened strings, commands and placeholders, and braces in placeholders. The innermost stands first.

abbrev pub Open : Type 0
Open = List Token

-- the string or command whose characters stand here; None in a placeholder and outside of all
abbrev pub inside_of : Kind → Option Inside
inside_of (kind.StrOpen q) = Some (string q)
inside_of (kind.CommandOpen f) = Some (command f)
inside_of _ = None

abbrev pub innermost : Open → Option Kind
innermost [] = None
innermost (t ∷ opened) = Some t.kind

abbrev pub inside_at : Option Kind → Option Inside
inside_at None = None
inside_at (Some k) = inside_of k

abbrev pub inside : Open → Option Inside
inside opened = inside_at (innermost opened)

abbrev pub is_hole : Option Kind → Bool
is_hole (Some (kind.HoleOpen m)) = true
is_hole _ = false

abbrev pub is_open_brace : Option Kind → Bool
is_open_brace (Some (kind.Mark mark.OpenBrace)) = true
is_open_brace _ = false

-- a placeholder is innermost, with no open brace in it
abbrev pub in_hole : Open → Bool
in_hole opened = is_hole (innermost opened)

-- a brace in a placeholder is innermost
abbrev pub in_brace : Open → Bool
in_brace opened = is_open_brace (innermost opened)

abbrev pub closed : Open → Open
closed [] = []
closed (t ∷ opened) = opened

-- what is open behind a token of this kind at this span
abbrev pub after : Open → Span → Kind → Open
after opened s (kind.StrOpen q) = record { span = s; kind = kind.StrOpen q } ∷ opened
after opened s (kind.CommandOpen f) = record { span = s; kind = kind.CommandOpen f } ∷ opened
after opened s (kind.HoleOpen m) = record { span = s; kind = kind.HoleOpen m } ∷ opened
after opened s kind.StrClose = closed opened
after opened s kind.CommandClose = closed opened
after opened s kind.HoleClose = closed opened
after opened s (kind.Mark mark.OpenBrace) =
    if in_hole opened then record { span = s; kind = kind.Mark mark.OpenBrace } ∷ opened
    else (if in_brace opened then record { span = s; kind = kind.Mark mark.OpenBrace } ∷ opened else opened)
after opened s (kind.Mark mark.CloseBrace) = if in_brace opened then closed opened else opened
after opened s _ = opened

abbrev pub is_command : Kind → Bool
is_command (kind.Word w) = bytes_eq w (codes "command")
is_command _ = false

-- the innermost string or command that is open
abbrev pub unclosed_from : Option Inside → Token → Option Token → Option Token
unclosed_from (Some i) t outer = Some t
unclosed_from None t outer = outer

abbrev pub unclosed : Open → Option Token
unclosed [] = None
unclosed (t ∷ opened) = unclosed_from (inside_of t.kind) t (unclosed opened)

-- ---- Whole texts.

abbrev pub IsTokenIn : Option Inside → Bool → Bool → Bytes → Bytes → Kind → Type 0
IsTokenIn None awaits closes w rest k = IsCodeToken awaits closes w rest k
IsTokenIn (Some i) awaits closes w rest k = IsTextToken i w rest k

-- w is the token k here; `awaits` says that the last token is the word `command`
abbrev pub IsToken : Bool → Open → Bytes → Bytes → Kind → Type 0
IsToken awaits opened w rest k = IsTokenIn (inside opened) awaits (in_hole opened) w rest k

-- between the tokens of a string or command stands nothing
abbrev pub IsGapIn : Option Inside → Bytes → Type 0
IsGapIn None g = IsGap g
IsGapIn (Some i) g = g ≡ []

abbrev pub span_at : ℕ → ℕ → ℕ → Span
span_at in_doc from to = record { doc = in_doc; start = from; end = to }

abbrev pub placed : Kind → Span → Token
placed k s = record { span = s; kind = k }

-- The text from a place on is these tokens with gaps between, and then what `Ends` says of the place, of what is open there, and of
-- the text that is left.
module _ (Ends : ℕ → Bool → Open → Bytes → Type 0) (doc : ℕ) where
  abbrev pub AreTokens : ℕ → Bool → Open → Bytes → List Token → Type 0
  AreTokens at awaits opened z [] = Ends at awaits opened z
  AreTokens at awaits opened z (t ∷ ts) =
      (g : Bytes) × (w : Bytes) × (rest : Bytes) × (k : Kind) × (z ≡ g ++ (w ++ rest)) × IsGapIn (inside opened) g × IsToken awaits opened w rest k
      × (t ≡ placed k (span_at doc (at + length g) (at + length g + length w)))
      × AreTokens (at + length g + length w) (is_command k) (after opened (span_at doc (at + length g) (at + length g + length w)) k) rest ts

-- at the end of a text no string and no command is open
abbrev pub IsOver : ℕ → Bool → Open → Bytes → Type 0
IsOver at awaits opened z = (unclosed opened ≡ None) × IsLastGap z

-- the tokens that a whole text of a document spells
pub record Spelled (doc : ℕ) (bytes : Bytes) (tokens : List Token) : Type 0 where
  pub utf8 : IsUtf8 bytes
  pub spells : AreTokens IsOver doc 0 false [] bytes tokens
