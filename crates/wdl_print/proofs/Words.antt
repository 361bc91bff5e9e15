-- The text of a document is that of its words.
use Rattle.std.proofs.Common.{◌≡◌, List, ap}
use Rattle.wdl_ast.specs.declared.document.Document.{Document}
use Rattle.wdl_ast.specs.declared.token.Token.{Token}
use Rattle.wdl_ast.specs.DocumentWords.{document_words}
use Rattle.wdl_print.specs.Printed.{printed, printed_document}

pub printed_words : (ts : List Token) (d : Document) → ts ≡ document_words d → printed ts ≡ printed_document d
unfolding printed_document
printed_words ts d e = ap printed e
