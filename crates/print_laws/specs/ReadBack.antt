-- The tokens of the text that is made of a document.
use Rattle.std.specs.Prelude.{◌≡◌, ℕ, List, [], ◌∷◌}
use Rattle.wdl_ast.specs.declared.document.Document.{Document}
use Rattle.wdl_ast.specs.declared.token.Kind.{Kind}
use Rattle.wdl_ast.specs.declared.token.Token.{Token}
use Rattle.wdl_ast.specs.DocumentWords.{document_words}
use Rattle.wdl_ast.specs.Spelled.{Spelled}
use Rattle.wdl_print.specs.Printed.{printed_document}

-- tokens without their spans
abbrev pub kinds : List Token → List Kind
kinds [] = []
kinds (t ∷ ts) = t.kind ∷ kinds ts

-- this text of this document has these tokens, but for their spans
abbrev pub IsReadAs : ℕ → List ℕ → List Token → Type 0
IsReadAs doc bytes ts = (read : List Token) × Spelled doc bytes read × (kinds read ≡ kinds ts)

-- some text has these tokens, but for their spans
abbrev pub IsWritten : List Token → Type 0
IsWritten ts = (doc : ℕ) × (bytes : List ℕ) × IsReadAs doc bytes ts

-- Where some text has the tokens of a document, the text that is made of the document has them, but for their spans.
abbrev pub PrintedIsReadBack : Type 0
PrintedIsReadBack = (doc : ℕ) (d : Document) → IsWritten (document_words d) → IsReadAs doc (printed_document d) (document_words d)
