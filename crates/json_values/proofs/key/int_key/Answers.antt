use Rattle.std.proofs.Common.{ℕ, sym, ◌∙◌}
use Rattle.json_values.proofs.Numerals.{not_decimal, same_decimal, other_decimal}
use Rattle.json_values.proofs.key.int_key.Goals as goal

pub returns-in_default : goal.returns-in_default
returns-in_default c = not_decimal {E = ℕ} c.args.key.now 0 c.in_default.ensures.value.0

pub returns-then-eq : goal.returns-then-eq
returns-then-eq c =
    same_decimal c.args.key.now c.in-Ok.n c.as_str.result.now c.in-Ok.ensures.value.0 (c.as_str.ensures.value ∙ c.in_ok-to_string.ensures.ok)
    (sym c.eq.ensures ∙ c.if-eq.true)

pub returns : goal.returns
returns c =
    other_decimal c.args.key.now c.in-Ok.n c.as_str.result.now c.in-Ok.ensures.value.0 (c.as_str.ensures.value ∙ c.in_ok-to_string.ensures.ok)
    (sym c.eq.ensures ∙ c.if-eq.false)
