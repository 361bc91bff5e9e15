-- Reads lists of parts in braces.
use Rattle.std.specs.Prelude.{Option, Ok}
use Rattle.wdl_ast.specs.declared.token.Mark.TheVariants as mark
use Rattle.token_reading.specs.Outcome.{Parser, then_}
use Rattle.wdl_parse_doc.specs.declared.part_list.Braced.{Braced}
use Rattle.wdl_parse_parts.specs.Reading.Parts.{mark_at, many}

unfoldable pub braced : {A : Type 0} → Parser (Option A) → Parser (Braced A)
braced one ts = then_ (mark_at mark.OpenBrace ts) (λ o rest. then_ (many one rest) (λ xs more. then_ (mark_at mark.CloseBrace more)
    (λ c after. Ok (record { opening = o; items = xs; closing = c }, after))))
