-- What `parse` reads is what the digits and the sign say.
use Rattle.std.proofs.Common.{◌≡◌, ◌≢◌, ℕ, zero, suc, ◌<◌, ◌≤◌, ◌^◌, ◌==◌, Bool, true, false, cond, ◌&&◌, List, [], ◌∷◌, length, get_or, Result, Ok, Err, MatchResult, ℤ, pos, refl, sym, ap, ◌∙◌, arith, rules}
use Rattle.std.proofs.lemmas.Bool.{false≢true, eqb-true, eq-eqb, and_parts, and_from}
use Rattle.std.proofs.lemmas.Bool.Decides.{nat_tests}
use Rattle.std.proofs.lemmas.Str.{IsUtf8-from_ascii}
use Rattle.std.proofs.lemmas.Str.Parse.{IsNumeralModel, numerals_by_fold, parse_signed_plain, parse_signed_plus, parse_signed_minus}
use Rattle.std.specs.Char.{is_ascii_digit}
use Rattle.std.specs.Result.{OkIff}
use Rattle.std.specs.Str.{IsUtf8, IsAscii, all_ascii_digits}
use Rattle.std.specs.Str.Parse.{ParsesSigned}
use mir.Syntax.{w64}
use Rattle.wdl_base.specs.declared.fault.EvalCode.TheVariants.{NotAnInteger}
use Rattle.wdl_base.specs.declared.fault.EvalCode.{EvalCode}
use Rattle.wdl_value.specs.declared.value.Value.{Value}
use Rattle.wdl_value.specs.declared.value.Value.TheVariants as v
use Rattle.wdl_value.specs.Fits.{is_int}
use Rattle.wdl_value.specs.Reads.{digits_after, are_digits, numeral_read, minus, signed_read}

own : IsNumeralModel (λ ds. all_ascii_digits ds ≡ true) (digits_after 0)
own = numerals_by_fold _ (search rules) digits_after (search rules)

-- the value that a text says, or that it says none
abbrev pub Says : {E : Type 0} → Result ℤ E → Result Value EvalCode → Type 0
Says r said = MatchResult r (λ n. said ≡ Ok (v.Int n)) (λ e. said ≡ Err NotAnInteger)

some_digits : (ds : List ℕ) → are_digits ds ≡ true → (all_ascii_digits ds ≡ true) × (0 < length ds)
some_digits [] h = absurd (false≢true h)
some_digits (d ∷ ds) h = (h, omega arith)

from_digits : (ds : List ℕ) → all_ascii_digits ds ≡ true → 0 < length ds → are_digits ds ≡ true
from_digits [] h l = absurd (omega arith)
from_digits (d ∷ ds) h l = h

numeral_says : {E : Type 0} (sign : ℕ → ℤ) (Bound : ℕ → Type 0) (ds : List ℕ) (r : Result ℤ E)
    → ((n : ℕ) → is_int (sign n) ≡ true → Bound n) → ((n : ℕ) → Bound n → is_int (sign n) ≡ true)
    → OkIff r ((all_ascii_digits ds ≡ true) × (0 < length ds) × Bound (digits_after 0 ds)) (sign (digits_after 0 ds)) → Says r (numeral_read sign ds)
numeral_says sign Bound ds (Ok n) to from h =
    let value = sign (digits_after 0 ds) in
    ap (λ b. cond b (Ok (v.Int value)) (Err NotAnInteger)) (and_from (are_digits ds) (is_int value) (from_digits ds h.0.0 h.0.1) (from (digits_after 0 ds) h.0.2)) ∙ ap (λ z. Ok (v.Int z)) (sym h.1)
numeral_says sign Bound ds (Err e) to from h = by_test (are_digits ds && is_int (sign (digits_after 0 ds))) refl
  where
    by_test : (b : Bool) → (are_digits ds && is_int (sign (digits_after 0 ds))) ≡ b → cond b (Ok (v.Int (sign (digits_after 0 ds)))) (Err NotAnInteger) ≡ Err NotAnInteger
    by_test true k =
        let p = and_parts (are_digits ds) (is_int (sign (digits_after 0 ds))) k in
        let d = some_digits ds p.0 in
        absurd (h (d.0, d.1, to (digits_after 0 ds) p.1))
    by_test false k = refl

pub pos_to : (n : ℕ) → is_int (pos n) ≡ true → n < 2 ^ 63
unfolding is_int
pos_to n h = grind (arith, nat_tests)

pub pos_from : (n : ℕ) → n < 2 ^ 63 → is_int (pos n) ≡ true
unfolding is_int
pos_from n h = grind (arith, nat_tests)

minus_to : (n : ℕ) → is_int (minus n) ≡ true → n ≤ 2 ^ 63
unfolding is_int
minus_to zero h = omega arith
minus_to (suc n) h = let k : n < 2 ^ 63 = grind (arith, nat_tests) in omega arith

minus_from : (n : ℕ) → n ≤ 2 ^ 63 → is_int (minus n) ≡ true
unfolding is_int
minus_from zero h = refl
minus_from (suc n) h = let k : n < 2 ^ 63 = omega arith in grind (arith, nat_tests)

plain_says : {E : Type 0} (bs : List ℕ) (r : Result ℤ E) → ParsesSigned w64 10 bs r → get_or bs 0 0 ≢ 43 → get_or bs 0 0 ≢ 45 → Says r (numeral_read pos bs)
plain_says bs r h p m = numeral_says pos (λ n. n < 2 ^ 63) bs r pos_to pos_from (parse_signed_plain own w64 bs r h p m)

pub signed_says : {E : Type 0} (bs : List ℕ) (r : Result ℤ E) → ParsesSigned w64 10 bs r → Says r (signed_read bs)
signed_says [] r h = plain_says [] r h (λ e. omega arith) (λ e. omega arith)
signed_says (c ∷ cs) r h = by_tests (c == 45) refl (c == 43) refl
  where
    by_tests : (a : Bool) → (c == 45) ≡ a → (b : Bool) → (c == 43) ≡ b → Says r (cond a (numeral_read minus cs) (cond b (numeral_read pos cs) (numeral_read pos (c ∷ cs))))
    by_tests true i b j = numeral_says minus (λ n. n ≤ 2 ^ 63) cs r minus_to minus_from (parse_signed_minus own w64 (c ∷ cs) r h (eqb-true c 45 i))
    by_tests false i true j = numeral_says pos (λ n. n < 2 ^ 63) cs r pos_to pos_from (parse_signed_plus own w64 (c ∷ cs) r h (eqb-true c 43 j))
    by_tests false i false j = plain_says (c ∷ cs) r h (λ e. false≢true (sym j ∙ eq-eqb c 43 e)) (λ e. false≢true (sym i ∙ eq-eqb c 45 e))

-- ---- what is no text is no numeral

cons_ascii : (c : ℕ) (cs : List ℕ) → c < 128 → IsAscii cs → IsAscii (c ∷ cs)
cons_ascii c cs l h zero = l
cons_ascii c cs l h (suc i) = h i

digit_ascii : (d : ℕ) → is_ascii_digit d ≡ true → d < 128
digit_ascii d h = grind (arith, nat_tests)

ascii_digits : (ds : List ℕ) → all_ascii_digits ds ≡ true → IsAscii ds
ascii_digits [] h = λ i. omega arith
ascii_digits (d ∷ ds) h = let p = and_parts (is_ascii_digit d) (all_ascii_digits ds) h in cons_ascii d ds (digit_ascii d p.0) (ascii_digits ds p.1)

numeral_not : (sign : ℕ → ℤ) (ds : List ℕ) → (are_digits ds ≡ true → ⊥) → numeral_read sign ds ≡ Err NotAnInteger
numeral_not sign ds h = by_test (are_digits ds) refl
  where
    by_test : (b : Bool) → are_digits ds ≡ b → cond (b && is_int (sign (digits_after 0 ds))) (Ok (v.Int (sign (digits_after 0 ds)))) (Err NotAnInteger) ≡ Err NotAnInteger
    by_test true k = absurd (h k)
    by_test false k = refl

pub not_text_says : (bs : List ℕ) → (IsUtf8 bs → ⊥) → signed_read bs ≡ Err NotAnInteger
not_text_says [] h = refl
not_text_says (c ∷ cs) h = by_tests (c == 45) refl (c == 43) refl
  where
    rest : c < 128 → are_digits cs ≡ true → ⊥
    rest l k = h (IsUtf8-from_ascii (c ∷ cs) (cons_ascii c cs l (ascii_digits cs (some_digits cs k).0)))

    by_tests : (a : Bool) → (c == 45) ≡ a → (b : Bool) → (c == 43) ≡ b → cond a (numeral_read minus cs) (cond b (numeral_read pos cs) (numeral_read pos (c ∷ cs))) ≡ Err NotAnInteger
    by_tests true i b j = numeral_not minus cs (rest (let e = eqb-true c 45 i in omega arith))
    by_tests false i true j = numeral_not pos cs (rest (let e = eqb-true c 43 j in omega arith))
    by_tests false i false j = numeral_not pos (c ∷ cs) (λ k. h (IsUtf8-from_ascii (c ∷ cs) (ascii_digits (c ∷ cs) k)))
