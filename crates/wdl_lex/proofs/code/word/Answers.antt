use Rattle.std.proofs.Common.{◌∙◌, ap, take}
use Rattle.wdl_ast.specs.Spelled.Classes.{is_word_byte}
use Rattle.wdl_lex.proofs.Digits.{are_plain, plain_utf8, plain_nul, front_plain}
use Rattle.wdl_lex.proofs.CodeLaws.{word_byte_plain}
use Rattle.wdl_lex.proofs.code.word.Goals as goal

pub copied-requires-clause-utf8 : goal.copied-requires-clause-utf8
copied-requires-clause-utf8 c =
    plain_utf8 c.front.result.now (ap are_plain (c.front.ensures ∙ ap (λ n. take n c.args.z.now) c.word_len-len.ensures.value) ∙ front_plain is_word_byte word_byte_plain c.args.z.now)

pub copied-requires-clause-plain : goal.copied-requires-clause-plain
copied-requires-clause-plain c =
    plain_nul c.front.result.now (ap are_plain (c.front.ensures ∙ ap (λ n. take n c.args.z.now) c.word_len-len.ensures.value) ∙ front_plain is_word_byte word_byte_plain c.args.z.now)
