use Rattle.std.proofs.Common.{◌≡◌, ℕ, ◌<◌, ◌∙◌, ◌⊎◌, inl, inr, ap, sym, true, take, arith}
use Rattle.wdl_ast.specs.Spelled.Classes.{Bytes}
use Rattle.wdl_lex.specs.Reading.Numbers.{frac_len}
use Rattle.wdl_lex.proofs.Digits.{are_plain, plain_utf8, plain_nul}
use Rattle.wdl_lex.proofs.Lists.{cut}
use Rattle.wdl_lex.proofs.NumberLaws.{HasFrac, frac_cases}
use Rattle.wdl_lex.proofs.CodeLaws.{frac_plain}
use Rattle.wdl_lex.proofs.code.frac.Goals as goal

front_is_plain : (z : Bytes) (n : ℕ) → n ≡ frac_len z → 0 < n → are_plain (take n z) ≡ true
front_is_plain z n e some = go (frac_cases z)
  where
    go : (frac_len z ≡ 0) ⊎ HasFrac z → are_plain (take n z) ≡ true
    go (inl none) = absurd (omega (arith, e, none))
    go (inr (v, rest, text, len, i)) = ap are_plain (cut z v rest n text (len ∙ sym e)) ∙ frac_plain v i

pub copied-requires-clause-utf8 : goal.copied-requires-clause-utf8
copied-requires-clause-utf8 c = plain_utf8 c.front.result.now (ap are_plain c.front.ensures ∙ front_is_plain c.args.z.now c.args.len c.requires.measured c.requires.some)

pub copied-requires-clause-plain : goal.copied-requires-clause-plain
copied-requires-clause-plain c = plain_nul c.front.result.now (ap are_plain c.front.ensures ∙ front_is_plain c.args.z.now c.args.len c.requires.measured c.requires.some)
