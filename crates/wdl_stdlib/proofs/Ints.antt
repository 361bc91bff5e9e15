-- Numbers in the range of Int.
use Rattle.std.proofs.Common.{◌≡◌, ◌<◌, ◌^◌, false, cond, Ok, Err, ℤ, pos, negsuc, ap, sym, ◌∙◌, refl, arith}
use lib.Signed.{mag_rem, rem_z, quot_z}
use mir.Val.{SFits, of_z}
use mir.Syntax.{w64}
use Rattle.std.specs.Int.{CanDivide}
use Rattle.std.proofs.lemmas.Bool.{ne_eqb}
use Rattle.std.proofs.lemmas.Bool.Decides.{nat_tests}
use Rattle.wdl_value.specs.declared.value.Value.TheVariants as v
use Rattle.wdl_base.specs.declared.fault.EvalCode.TheVariants.{Overflow, ZeroDivisor}
use Rattle.wdl_value.specs.Fits.{is_int}
use Rattle.wdl_value.specs.Operate.{int_of, is_zero, quotient, remainder}
use Rattle.wdl_value.proofs.ValueTextLemmas.{is_int-fits}

is_int-not : (z : ℤ) → (SFits w64 z → ⊥) → is_int z ≡ false
unfolding is_int
is_int-not (pos n) h = let k : n < 2 ^ 63 → ⊥ = λ l. h (record { sfits = l }) in grind (arith, nat_tests)
is_int-not (negsuc n) h = let k : n < 2 ^ 63 → ⊥ = λ l. h (record { sfits = l }) in grind (arith, nat_tests)

pub int_of-fits : (z : ℤ) → SFits w64 z → int_of z ≡ Ok (v.Int z)
int_of-fits z h = ap (λ b. cond b (Ok (v.Int z)) (Err Overflow)) (is_int-fits z h)

pub int_of-not : (z : ℤ) → (SFits w64 z → ⊥) → int_of z ≡ Err Overflow
int_of-not z h = ap (λ b. cond b (Ok (v.Int z)) (Err Overflow)) (is_int-not z h)

pub int_of-rem : (m n : ℤ) → SFits w64 m → int_of (rem_z m n) ≡ Ok (v.Int (rem_z m n))
int_of-rem m n h = let k = h.sfits in int_of-fits (rem_z m n) (record { sfits = omega (arith, mag_rem m n) })

not_zero : (n : ℤ) → (of_z w64 n ≡ 0 → ⊥) → is_zero n ≡ false
not_zero (pos n) h = ne_eqb n 0 h
not_zero (negsuc n) h = refl

pub quotient-fits : (m n q : ℤ) → (of_z w64 n ≡ 0 → ⊥) → CanDivide w64 m n × (q ≡ quot_z m n) → quotient m n ≡ Ok (v.Int q)
quotient-fits m n q h k =
    ap (λ b. cond b (Err ZeroDivisor) (int_of (quot_z m n))) (not_zero n h) ∙ int_of-fits (quot_z m n) k.0.1 ∙ ap (λ z. Ok (v.Int z)) (sym k.1)

pub remainder-fits : (m n : ℤ) → (of_z w64 n ≡ 0 → ⊥) → SFits w64 m → remainder m n ≡ Ok (v.Int (rem_z m n))
remainder-fits m n h k = ap (λ b. cond b (Err ZeroDivisor) (int_of (rem_z m n))) (not_zero n h) ∙ int_of-rem m n k

pub ruleset ints = (int_of-fits, int_of-not, quotient-fits, remainder-fits)
