use Rattle.std.proofs.Common.{◌≡◌, length, ap, ◌∙◌, arith}
use Rattle.wdl_ast.specs.DocumentWords.{document_words}
use Rattle.wdl_print.specs.Printed.{printed_document}
use Rattle.wdl_print.proofs.Words.{printed_words}
use Rattle.wdl_print.proofs.document.document_text.Goals as goal

pub returns-then-as_str-gt-PRINT_LIMIT-clause-long : goal.returns-then-as_str-gt-PRINT_LIMIT-clause-long
returns-then-as_str-gt-PRINT_LIMIT-clause-long c =
    let words : c.as_slice.result.now ≡ document_words c.args.document.now = c.as_slice.ensures ∙ c.in_ok-tokens.ensures.value in
    let text = c.as_str.ensures.value ∙ c.in_ok-text.ensures ∙ printed_words c.as_slice.result.now c.args.document.now words in
    let size : length c.as_str.result.now ≡ length (printed_document c.args.document.now) = ap length text in
    λ long. omega (arith, size, c.if-as_str-gt-PRINT_LIMIT.true)

pub returns-clause-value : goal.returns-clause-value
returns-clause-value c =
    let words : c.as_slice.result.now ≡ document_words c.args.document.now = c.as_slice.ensures ∙ c.in_ok-tokens.ensures.value in
    c.in_ok-text.ensures ∙ printed_words c.as_slice.result.now c.args.document.now words
