-- What the reader of documents answers, by the grammar alone.
use Rattle.std.specs.Prelude.{◌≡◌, ◌⊎◌, ℕ, Bool, true, false, ◌&&◌, [], ◌∷◌, if◌then◌else◌, codes}
use Rattle.std.specs.Str.{bytes_eq}
use Rattle.wdl_base.specs.declared.span.Span.{Span}
use Rattle.wdl_ast.specs.declared.token.Kind.{Kind}
use Rattle.wdl_ast.specs.declared.token.Kind.TheVariants as kind
use Rattle.wdl_ast.specs.declared.document.Document.{Document}
use Rattle.wdl_ast.specs.Words.{Words, at, keyword}
use Rattle.wdl_ast.specs.DocumentWords.{document_words}
use Rattle.token_reading.specs.Outcome.{is_word}
use Rattle.wdl_parse_expr.specs.Contract.{IsSpanOf}
use Rattle.wdl_parse_expr.specs.Context.{Points}
use Rattle.wdl_parse_doc.specs.Grammar.{IsDocument}
use Rattle.wdl_parse_doc.specs.Context.{Cause}

-- the document has these tokens
pub record Written (ts : Words) (d : Document) : Type 0 where
  pub text : ts ≡ document_words d
  pub sound : IsDocument d

-- no document has them
abbrev pub IsNoDocument : Words → Type 0
IsNoDocument ts = (d : Document) → Written ts d → ⊥

-- ---- the version

abbrev pub is_version : Kind → Bool
is_version = is_word (codes "version")

abbrev pub is_number : Kind → Bool
is_number (kind.Frac w) = bytes_eq w (codes "1.1")
is_number _ = false

-- whether the tokens begin with `version 1.1`
abbrev pub begins_version : Words → Bool
begins_version [] = false
begins_version (t ∷ []) = false
begins_version (t ∷ u ∷ ts) = is_version t.kind && is_number u.kind

-- the first token that is another, the last one where one is missing, and nowhere where there are none
abbrev pub version_span : Words → Span
version_span [] = record { doc = 0; start = 0; end = 0 }
version_span (t ∷ []) = t.span
version_span (t ∷ u ∷ ts) = if is_version t.kind then u.span else t.span

-- the tokens behind the version, whose two tokens have these spans
abbrev pub BehindVersion : Words → Span → Span → Words → Type 0
BehindVersion ts v n rest = ts ≡ keyword (codes "version") v ∷ at (kind.Frac (codes "1.1")) n ∷ rest

-- ---- refusals

-- Why they are refused: 112 where they do not begin with the version. 111 and 120 to 123 are true of the token that has the span, as Cause says.
-- 110 is every other refusal, at one of the tokens.
abbrev pub Because : Words → ℕ → Span → Type 0
Because ts c s =
    ((begins_version ts ≡ false) × (c ≡ 112) × (s ≡ version_span ts))
    ⊎ ((begins_version ts ≡ true) × (((c ≡ 110) × IsSpanOf ts s) ⊎ Points (Cause c) ts s))

abbrev pub RefusesDocument : Words → ℕ → Span → Type 0
RefusesDocument ts c s = IsNoDocument ts × Because ts c s

-- a list of tokens has at most one document
abbrev pub OneDocument : Type 0
OneDocument = (ts : Words) (d e : Document) → Written ts d → Written ts e → d ≡ e
