use Rattle.std.proofs.Common.{sym, ◌∙◌, rules}
use Rattle.wdl_words.proofs.Numbers.{not_within}
use Rattle.wdl_words.proofs.values.number_within.Goals as goal

pub returns-in_err-number : goal.returns-in_err-number
returns-in_err-number c =
    c.from_residual.ensures ∙ sym (not_within c.args.low c.args.high c.args.text.now c.parse.result
    (sym c.ok.ensures.value ∙ c.in_err-number.was) c.ranges.high.fits (search rules) c.parse.ensures.value.0)
