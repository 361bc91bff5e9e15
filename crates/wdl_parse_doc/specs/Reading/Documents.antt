-- Reads documents.
use Rattle.std.specs.Prelude.{List, [], ◌∷◌, Option, Some, None, Ok, codes}
use Rattle.wdl_base.specs.declared.span.Span.{Span}
use Rattle.wdl_ast.specs.declared.token.Mark.TheVariants as mark
use Rattle.wdl_ast.specs.declared.document.Alias.{Alias}
use Rattle.wdl_ast.specs.declared.document.Import.{Import}
use Rattle.wdl_ast.specs.declared.document.StructMember.{StructMember}
use Rattle.wdl_ast.specs.declared.document.StructSection.{StructSection}
use Rattle.wdl_ast.specs.declared.document.Section.{Section}
use Rattle.wdl_ast.specs.declared.document.Section.TheVariants as section
use Rattle.token_reading.specs.Outcome.{Parser, missing, then_, found, eat_word}
use Rattle.token_reading.specs.Strings.{plain}
use Rattle.wdl_parse_expr.specs.Contract.{read_type}
use Rattle.wdl_parse_parts.specs.Reading.Parts.{name_at, word_at, many, until}
use Rattle.wdl_parse_doc.specs.Reading.Lists.{braced}
use Rattle.wdl_parse_doc.specs.Reading.Calls.{renaming}
use Rattle.wdl_parse_doc.specs.Reading.Tasks as tasks
use Rattle.wdl_parse_doc.specs.Reading.Tasks.{mapped}

-- `alias name as name`, if it stands there
unfoldable pub alias_at : Parser (Option Alias)
alias_at ts = found (eat_word (codes "alias") ts) (λ k a. then_ (name_at a) (λ f b. then_ (word_at (codes "as") b) (λ s c. then_ (name_at c)
    (λ t d. Ok (Some (record { keyword = k; from = f; as_word = s; to = t }), d))))) (Ok (None, ts))

-- ---- sections, behind their words

unfoldable pub import_ : Span → Parser Import
import_ k ts = then_ (plain ts) (λ u a. then_ (renaming a) (λ n b. then_ (many alias_at b) (λ xs c. Ok (record { keyword = k; uri = u; namespace = n; aliases = xs }, c))))

unfoldable pub struct_member : Parser StructMember
struct_member ts = then_ (read_type ts) (λ t a. then_ (name_at a) (λ n b. Ok (record { ty = t; name = n }, b)))

unfoldable pub struct_ : Span → Parser StructSection
struct_ k ts = then_ (name_at ts) (λ n a. then_ (braced (until mark.CloseBrace struct_member) a)
    (λ b rest. Ok (record { keyword = k; name = n; opening = b.opening; members = b.items; closing = b.closing }, rest)))

unfoldable pub section_at : Parser Section
section_at ts = found (eat_word (codes "import") ts) (λ k rest. mapped section.Import (import_ k rest))
    (found (eat_word (codes "struct") ts) (λ k rest. mapped section.Struct (struct_ k rest))
    (found (eat_word (codes "task") ts) (λ k rest. mapped section.Task (tasks.task k rest))
    (found (eat_word (codes "workflow") ts) (λ k rest. mapped section.Workflow (tasks.workflow k rest))
    missing)))

-- a section, unless no tokens are left
unfoldable pub section_part : Parser (Option Section)
section_part [] = Ok (None, [])
section_part (t ∷ ts) = then_ (section_at (t ∷ ts)) (λ x rest. Ok (Some x, rest))

abbrev pub ended : List Section → Parser (List Section)
ended xs [] = Ok (xs, [])
ended xs (t ∷ ts) = missing

-- all sections, up to the end
unfoldable pub sections : Parser (List Section)
sections ts = then_ (many section_part ts) (λ xs rest. ended xs rest)
