-- The document that bytes are.
use Rattle.std.specs.Prelude.{◌≡◌, ◌⊎◌, ℕ, List, Result, Ok, Err}
use Rattle.wdl_base.specs.declared.span.Span.{Span}
use Rattle.wdl_ast.specs.declared.token.Token.{Token}
use Rattle.wdl_ast.specs.declared.document.Document.{Document}
use Rattle.wdl_ast.specs.Spelled.{Spelled}
use Rattle.wdl_lex.specs.Limits.{IsWithinLimits}
use Rattle.wdl_lex.specs.Faults.{IsFault}
use Rattle.token_reading.specs.declared.fault.ParseFault.{ParseFault}
use Rattle.token_reading.specs.declared.fault.ParseFault.TheVariants as fault
use Rattle.wdl_parse_doc.specs.Contract.{Written, RefusesDocument}

-- the bytes are the text of the document of that number
pub record IsRead (number : ℕ) (bytes : List ℕ) (d : Document) : Type 0 where
  pub tokens : List Token
  pub spelled : Spelled number bytes tokens
  pub within : IsWithinLimits bytes tokens
  pub written : Written tokens d

-- the span in the document of that number
abbrev pub in_document : ℕ → Span → Span
in_document number s = record s { doc = number }

-- the bytes have tokens, and no document has these
pub record IsUnwritten (number : ℕ) (bytes : List ℕ) (code : ℕ) (s : Span) : Type 0 where
  pub tokens : List Token
  pub spelled : Spelled number bytes tokens
  pub within : IsWithinLimits bytes tokens
  pub at : Span
  pub refused : RefusesDocument tokens code at
  pub placed : s ≡ in_document number at

-- the bytes are the text of no document
abbrev pub IsNoText : ℕ → List ℕ → Type 0
IsNoText number bytes = (d : Document) → IsRead number bytes d → ⊥

-- the bytes are no document, and why
abbrev pub IsTextFault : ℕ → List ℕ → ℕ → Span → Type 0
IsTextFault number bytes code s = (IsFault number bytes code s ⊎ IsUnwritten number bytes code s) × IsNoText number bytes

-- the document, or why there is none
abbrev pub IsOutcome : ℕ → List ℕ → Result Document ParseFault → Type 0
IsOutcome number bytes (Ok d) = IsRead number bytes d
IsOutcome number bytes (Err (fault.Bad code s)) = IsTextFault number bytes code s
IsOutcome number bytes (Err fault.NoMemory) = Unit {0}
