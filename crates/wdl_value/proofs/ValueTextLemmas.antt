-- Integers of 64 bits and their texts.
use Rattle.std.proofs.Common.{◌≡◌, true, false, arith, suc, ℤ, pos, negsuc}
use Rattle.std.specs.Fmt.{signed_decimal}
use mir.Val.{SFits}
use mir.Syntax.{w64}
use Rattle.std.proofs.lemmas.Bool.Decides.{nat_tests}
use Rattle.wdl_base.specs.Plain.{has_nul}
use Rattle.wdl_value.specs.Fits.{is_int}
use Rattle.wdl_base.proofs.PlainLemmas.{decimal_is_plain}

pub is_int-fits : (n : ℤ) → SFits w64 n → is_int n ≡ true
unfolding is_int
is_int-fits (pos n) h = let k = h.sfits in grind (arith, nat_tests)
is_int-fits (negsuc n) h = let k = h.sfits in grind (arith, nat_tests)

pub signed_decimal_is_plain : (n : ℤ) → SFits w64 n → has_nul (signed_decimal n) ≡ false
signed_decimal_is_plain (pos n) h = decimal_is_plain n (let k = h.sfits in omega arith)
signed_decimal_is_plain (negsuc n) h = decimal_is_plain (suc n) (let k = h.sfits in omega arith)
