use Rattle.std.proofs.Common.{◌≡◌, ◌∙◌, ap, sym, false, true, arith}
use Rattle.wdl_ast.specs.Spelled.Classes.{is_letter, is_digit_of, first}
use Rattle.wdl_lex.specs.Reading.Code.{code_token, checked}
use Rattle.wdl_lex.specs.Reading.Numbers.{frac_len}
use Rattle.wdl_lex.proofs.MarkLaws.{mark_checked}
use Rattle.wdl_lex.proofs.CodeLaws.{at_mark}
use Rattle.wdl_lex.proofs.code.code_token.Goals as goal

pub returns-in-Some : goal.returns-in-Some
unfolding code_token
returns-in-Some c =
    let z = c.args.z.now in
    let letter : is_letter (first z) ≡ false = ap is_letter (sym c.first-b.ensures) ∙ sym c.is_letter.ensures ∙ c.if-is_letter.false in
    let digit : is_digit_of 10 (first z) ≡ false = ap (is_digit_of 10) (sym c.first-b.ensures) ∙ sym c.is_digit.ensures ∙ c.if-is_digit.false in
    let none : frac_len z ≡ 0 = omega (arith, c.frac_len-len.ensures.value) in
    ap (checked true z) (at_mark c.args.awaits c.args.closes z letter none digit)
    ∙ mark_checked c.args.awaits c.args.closes z c.in-Some.found.0 c.in-Some.found.1 (sym c.mark_at.ensures ∙ c.in-Some.is)
