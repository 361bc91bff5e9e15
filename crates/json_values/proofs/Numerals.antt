-- The decimals of integers of 64 bits.
use Rattle.std.proofs.Common.{◌≡◌, ◌&&◌, ◌<◌, ◌^◌, Bool, true, false, cond, List, ℕ, ℤ, pos, negsuc, Some, None, Ok, Err, sym, ap, ◌∙◌, subst, refl, arith, to_z, of_z}
use Rattle.std.proofs.lemmas.Bool.{and_parts}
use Rattle.std.proofs.lemmas.Bool.Decides.{nat_tests}
use Rattle.std.proofs.lemmas.Fmt.{parse-signed_decimal}
use Rattle.std.proofs.lemmas.Int.{to_z-of_z}
use Rattle.std.proofs.lemmas.Slice.Eq.{bytes_eq-Decides}
use Rattle.std.specs.Fmt.{signed_decimal}
use Rattle.std.specs.Str.{bytes_eq}
use Rattle.std.specs.Str.Parse.{ParsesSigned, signed_digits_value}
use lib.Signed.{mag}
use mir.Syntax.{w64}
use mir.Val.{SFits}
use Rattle.wdl_value.specs.declared.value.Value.TheVariants as v
use Rattle.wdl_value.specs.Fits.{is_int}
use Rattle.wdl_value.proofs.ValueTextLemmas.{is_int-fits}
use Rattle.json_values.specs.Reading.{is_decimal, int_key, int_of}

pub fits_mag : (z : ℤ) → is_int z ≡ true → mag z < 2 ^ 63
unfolding is_int
fits_mag (pos n) h = grind (arith, nat_tests)
fits_mag (negsuc n) h = grind (arith, nat_tests)

pub fits_word : (z : ℤ) → is_int z ≡ true → SFits w64 z
unfolding is_int
fits_word (pos n) h = let k : n < 2 ^ 63 = grind (arith, nat_tests) in record { sfits = omega arith }
fits_word (negsuc n) h = let k : n < 2 ^ 63 = grind (arith, nat_tests) in record { sfits = omega arith }

-- what is no number is no decimal of one
pub not_decimal : {E : Type 0} (k : List ℕ) (e : E) → ParsesSigned w64 10 k (Err e) → None ≡ int_key k
not_decimal k e h = by_test (is_decimal (signed_digits_value 10 k) k) refl
  where
    by_test : (b : Bool) → is_decimal (signed_digits_value 10 k) k ≡ b → None ≡ cond b (Some (v.Int (signed_digits_value 10 k))) None
    by_test true is =
        let z = signed_digits_value 10 k in
        let p = and_parts (is_int z) (bytes_eq (signed_decimal z) k) is in
        let same : signed_decimal z ≡ k = (bytes_eq-Decides (signed_decimal z) k).0 p.1 in
        let r = parse-signed_decimal w64 z k (Err e) (fits_word z p.0) (fits_mag z p.0) (sym same) h in
        cc
    by_test false is = refl

parsed_fits : (k : List ℕ) (n : ℤ) → ParsesSigned {E = ℕ} w64 10 k (Ok n) → SFits w64 n
parsed_fits k n h = subst (SFits w64) (sym h.1) h.0.1

-- whether a number that was read has this decimal
decimal_test : (k : List ℕ) (n : ℤ) (text : List ℕ) → ParsesSigned {E = ℕ} w64 10 k (Ok n) → text ≡ signed_decimal (to_z w64 (of_z w64 n)) → is_decimal (signed_digits_value 10 k) k ≡ bytes_eq text k
decimal_test k n text h written =
    let fits = parsed_fits k n h in
    ap (λ z. is_decimal z k) (sym h.1)
    ∙ ap (λ b. b && bytes_eq (signed_decimal n) k) (is_int-fits n fits)
    ∙ ap (λ z. bytes_eq (signed_decimal z) k) (sym (to_z-of_z w64 n fits))
    ∙ ap (λ s. bytes_eq s k) (sym written)

pub same_decimal : (k : List ℕ) (n : ℤ) (text : List ℕ) → ParsesSigned {E = ℕ} w64 10 k (Ok n) → text ≡ signed_decimal (to_z w64 (of_z w64 n)) → bytes_eq text k ≡ true
    → Some (v.Int (to_z w64 (of_z w64 n))) ≡ int_key k
same_decimal k n text h written same =
    sym (ap (λ b. cond b (Some (v.Int (signed_digits_value 10 k))) None) (decimal_test k n text h written ∙ same)
    ∙ ap (λ z. Some (v.Int z)) (sym h.1 ∙ sym (to_z-of_z w64 n (parsed_fits k n h))))

pub other_decimal : (k : List ℕ) (n : ℤ) (text : List ℕ) → ParsesSigned {E = ℕ} w64 10 k (Ok n) → text ≡ signed_decimal (to_z w64 (of_z w64 n)) → bytes_eq text k ≡ false
    → None ≡ int_key k
other_decimal k n text h written other =
    sym (ap (λ b. cond b (Some (v.Int (signed_digits_value 10 k))) None) (decimal_test k n text h written ∙ other))

-- an integer of 64 bits is one
pub int_of-word : (n : ℤ) → SFits w64 n → Some (v.Int (to_z w64 (of_z w64 n))) ≡ int_of n
int_of-word n fits = ap (λ z. Some (v.Int z)) (to_z-of_z w64 n fits) ∙ sym (ap (λ b. cond b (Some (v.Int n)) None) (is_int-fits n fits))
