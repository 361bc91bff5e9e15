-- The text of a document, made of its tokens.
use Rattle.std.specs.Prelude.{◌≡◌, Bool, true, false, List, [], ◌∷◌, ◌++◌, Option, Some, None, codes, if◌then◌else◌}
use Rattle.wdl_ast.specs.declared.document.Document.{Document}
use Rattle.wdl_ast.specs.declared.token.Kind.{Kind}
use Rattle.wdl_ast.specs.declared.token.Kind.TheVariants as kind
use Rattle.wdl_ast.specs.declared.token.Mark.TheVariants as mark
use Rattle.wdl_ast.specs.declared.token.Token.{Token}
use Rattle.wdl_ast.specs.DocumentWords.{document_words}
use Rattle.wdl_print.specs.declared.inside.Open.{Open}
use Rattle.wdl_print.specs.declared.inside.Open.TheVariants as open_
use Rattle.wdl_print.specs.TokenText.{Bytes, after, innermost, spelling}

-- a line ends behind each brace, and behind a command
abbrev pub ends_line : Kind → Bool
ends_line (kind.Mark mark.OpenBrace) = true
ends_line (kind.Mark mark.CloseBrace) = true
ends_line kind.CommandClose = true
ends_line k = false

abbrev pub blank_before : List Token → Bytes
blank_before [] = []
blank_before (t ∷ ts) = codes " "

-- What stands behind a token, by the innermost that is open behind it: nothing among the characters of a string or a command, a blank in a
-- placeholder, and a newline or a blank outside of all; no blank at the end.
abbrev pub gap : Option Open → Kind → List Token → Bytes
gap None k rest = if ends_line k then codes "\n" else blank_before rest
gap (Some open_.Placeholder) k rest = blank_before rest
gap (Some (open_.Quoted q)) k rest = []
gap (Some (open_.Command f)) k rest = []

abbrev pub printed_from : List Open → List Token → Bytes
printed_from os [] = []
printed_from os (t ∷ ts) = spelling (innermost os) t.kind ++ gap (innermost (after os t.kind)) t.kind ts ++ printed_from (after os t.kind) ts

-- The first two tokens are those of the version, which has a line of its own.
abbrev pub printed : List Token → Bytes
printed [] = []
printed (t ∷ []) = spelling None t.kind
printed (t ∷ u ∷ ts) = spelling None t.kind ++ codes " " ++ spelling None u.kind ++ codes "\n" ++ printed_from [] ts

unfoldable pub printed_document : Document → Bytes
printed_document d = printed (document_words d)

-- a token and what stands behind it are written, and the token is passed
abbrev pub Pushes : Bytes → Bytes → List Open → List Open → Kind → List Token → Type 0
Pushes old new os after_it k rest = (new ≡ old ++ spelling (innermost os) k ++ gap (innermost after_it) k rest) × (after_it ≡ after os k)
