use Rattle.std.proofs.Common.{sym, ◌∙◌}
use Rattle.wdl_lex.proofs.Digits.{digits_plain, plain_utf8, numbers_ok, numbers_err}
use Rattle.wdl_lex.proofs.escapes.number.Goals as goal

pub as_str-requires : goal.as_str-requires
as_str-requires c =
    plain_utf8 c.args.digits.now (digits_plain c.args.base c.args.digits.now c.requires.high (sym c.are_digits.ensures ∙ c.if-not-are_digits.false))

pub returns-in-Ok : goal.returns-in-Ok
returns-in-Ok c =
    c.character.ensures ∙ numbers_ok c.args.base c.args.digits.now c.as_str.result.now c.in-Ok.code c.requires.high c.requires.some (sym c.are_digits.ensures ∙ c.if-not-are_digits.false) c.as_str.ensures c.in-Ok.ensures.value

pub returns-in-Err : goal.returns-in-Err
returns-in-Err c =
    numbers_err c.args.base c.args.digits.now c.as_str.result.now c.requires.high c.requires.some (sym c.are_digits.ensures ∙ c.if-not-are_digits.false) c.as_str.ensures c.in-Err.ensures.value
