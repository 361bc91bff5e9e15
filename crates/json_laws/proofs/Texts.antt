-- The text of JSON holds no NUL.
use Rattle.std.proofs.Common.{◌≡◌, ℕ, zero, suc, ◌+◌, ◌/◌, ◌%◌, ◌<◌, ◌==◌, nat_lt, pos, negsuc, Bool, true, false, cond, List, [], ◌∷◌, ◌++◌, decimal, refl, arith}
use Rattle.std.proofs.lemmas.Bool.{or_from}
use Rattle.std.proofs.lemmas.Bool.Decides.{nat_tests}
use Rattle.std.specs.Char.{digit_char}
use Rattle.std.specs.Fmt.{digits, digits_onto, digit_glyph}
use Rattle.json.specs.Print.{escape_letter, escape_byte, escape, quoted}
use Rattle.serde_json.specs.Data.{Num, unsigned, negative, float, Data, null, boolean, number, string, array, object, Items, no_items, item, Members, no_members, member}
use Rattle.serde_json.specs.Written.{comma_if, compact_text, items_text, members_text, number_text}
use Rattle.wdl_base.specs.Plain.{has_nul}
use Rattle.wdl_base.proofs.PlainLemmas.{has_nul-append as append_nul}

no_zero : (b : ℕ) → 0 < b → b == 0 ≡ false
no_zero b h = grind (arith, nat_tests)

cons_nul : (b : ℕ) (bs : List ℕ) → 0 < b → has_nul bs ≡ false → has_nul (b ∷ bs) ≡ false
cons_nul b bs h k = or_from (b == 0) (has_nul bs) (no_zero b h) k

either_nul : (b : Bool) (xs ys : List ℕ) → has_nul xs ≡ false → has_nul ys ≡ false → has_nul (cond b xs ys) ≡ false
either_nul true xs ys h k = h
either_nul false xs ys h k = k

glyph_some : (d : ℕ) → 0 < digit_glyph false d
glyph_some d = by_test (nat_lt d 10)
  where
    by_test : (b : Bool) → 0 < cond b (48 + d) (87 + d)
    by_test true = omega arith
    by_test false = omega arith

digits_onto_nul : (k n : ℕ) (acc : List ℕ) → has_nul acc ≡ false → has_nul (digits_onto k 10 false n acc) ≡ false
digits_onto_nul zero n acc h = h
digits_onto_nul (suc k) n acc h =
    let d = digit_glyph false (n % 10) in
    let front = cons_nul d acc (glyph_some (n % 10)) h in
    either_nul (n / 10 == 0) (d ∷ acc) (digits_onto k 10 false (n / 10) (d ∷ acc)) front (digits_onto_nul k (n / 10) (d ∷ acc) front)

decimal_nul : (n : ℕ) → has_nul (decimal n) ≡ false
unfolding digits
decimal_nul n = digits_onto_nul 64 n [] refl

char_some : (d : ℕ) → 0 < digit_char d
char_some d = by_test (nat_lt d 10)
  where
    by_test : (b : Bool) → 0 < cond b (48 + d) (87 + d)
    by_test true = omega arith
    by_test false = omega arith

escape_byte_nul : (x : ℕ) → has_nul (escape_byte x) ≡ false
unfolding escape_byte
escape_byte_nul x = by_tests (nat_lt 0 (escape_letter x)) (nat_lt x 32) refl refl
  where
    by_tests : (short control : Bool) → short ≡ nat_lt 0 (escape_letter x) → control ≡ nat_lt x 32
        → has_nul (cond short (92 ∷ escape_letter x ∷ []) (cond control (92 ∷ 117 ∷ 48 ∷ 48 ∷ digit_char (x / 16) ∷ digit_char (x % 16) ∷ []) (x ∷ []))) ≡ false
    by_tests true control s c = let some : 0 < escape_letter x = grind (arith, nat_tests) in cons_nul (escape_letter x) [] some refl
    by_tests false true s c = cons_nul (digit_char (x / 16)) (digit_char (x % 16) ∷ []) (char_some (x / 16)) (cons_nul (digit_char (x % 16)) [] (char_some (x % 16)) refl)
    by_tests false false s c = let some : 0 < x = grind (arith, nat_tests) in cons_nul x [] some refl

escape_nul : (s : List ℕ) → has_nul (escape s) ≡ false
escape_nul [] = refl
escape_nul (x ∷ s) = append_nul (escape_byte x) (escape s) (escape_byte_nul x) (escape_nul s)

quoted_nul : (s : List ℕ) → has_nul (quoted s) ≡ false
quoted_nul s = append_nul (escape s) (34 ∷ []) (escape_nul s) refl

number_nul : (n : Num) → has_nul (number_text n) ≡ false
number_nul (unsigned n) = decimal_nul n
number_nul (negative (pos n)) = decimal_nul n
number_nul (negative (negsuc n)) = decimal_nul (suc n)
number_nul (float x) = refl

comma_nul : (later : Bool) (xs : List ℕ) → has_nul xs ≡ false → has_nul (comma_if later ++ xs) ≡ false
comma_nul true xs h = h
comma_nul false xs h = h

mutual
  -- the text of JSON holds no NUL
  pub text_nul : (d : Data) → has_nul (compact_text d) ≡ false
  text_nul null = refl
  text_nul (boolean true) = refl
  text_nul (boolean false) = refl
  text_nul (number n) = number_nul n
  text_nul (string s) = quoted_nul s
  text_nul (array ds) = items_nul false ds
  text_nul (object ms) = members_nul false ms

  items_nul : (later : Bool) (ds : Items) → has_nul (items_text later ds) ≡ false
  items_nul later no_items = refl
  items_nul later (item d ds) = comma_nul later _ (append_nul (compact_text d) (items_text true ds) (text_nul d) (items_nul true ds))

  members_nul : (later : Bool) (ms : Members) → has_nul (members_text later ms) ≡ false
  members_nul later no_members = refl
  members_nul later (member k d ms) =
      comma_nul later _
      (append_nul (quoted k) (58 ∷ (compact_text d ++ members_text true ms)) (quoted_nul k)
      (cons_nul 58 (compact_text d ++ members_text true ms) (omega arith) (append_nul (compact_text d) (members_text true ms) (text_nul d) (members_nul true ms))))
