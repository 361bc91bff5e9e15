-- Reads the sections that tasks and workflows have, behind their words.
use Rattle.std.specs.Prelude.{Ok}
use Rattle.wdl_base.specs.declared.span.Span.{Span}
use Rattle.wdl_ast.specs.declared.token.Mark.TheVariants as mark
use Rattle.wdl_ast.specs.declared.section.InputSection.{InputSection}
use Rattle.wdl_ast.specs.declared.section.OutputSection.{OutputSection}
use Rattle.wdl_ast.specs.declared.task.RuntimeSection.{RuntimeSection}
use Rattle.token_reading.specs.Outcome.{Parser, then_}
use Rattle.wdl_parse_expr.specs.Contract.{read_expr}
use Rattle.wdl_parse_parts.specs.Reading.Parts.{until, attribute}
use Rattle.wdl_parse_doc.specs.Reading.Lists.{braced}
use Rattle.wdl_ast.specs.declared.meta.MetaSection.{MetaSection}
use Rattle.wdl_parse_parts.specs.Grammar.{max_meta_depth}
use Rattle.wdl_parse_parts.specs.Reading.Declarations.{declaration, input}
use Rattle.wdl_parse_parts.specs.Reading.Metadata.{meta_at}

unfoldable pub inputs : Span → Parser InputSection
inputs k ts = then_ (braced (until mark.CloseBrace input) ts) (λ b rest. Ok (record { keyword = k; opening = b.opening; inputs = b.items; closing = b.closing }, rest))

unfoldable pub outputs : Span → Parser OutputSection
outputs k ts = then_ (braced (until mark.CloseBrace declaration) ts) (λ b rest. Ok (record { keyword = k; opening = b.opening; outputs = b.items; closing = b.closing }, rest))

unfoldable pub runtime : Span → Parser RuntimeSection
runtime k ts = then_ (braced (until mark.CloseBrace (attribute read_expr)) ts) (λ b rest. Ok (record { keyword = k; opening = b.opening; attributes = b.items; closing = b.closing }, rest))

unfoldable pub metadata : Span → Parser MetaSection
metadata k ts = then_ (braced (until mark.CloseBrace (attribute (meta_at max_meta_depth))) ts) (λ b rest. Ok (record { keyword = k; opening = b.opening; attributes = b.items; closing = b.closing }, rest))
