-- What is shown for the characters of a text, one behind the other; it holds no NUL where the text holds none.
use Rattle.std.proofs.Common.{◌≡◌, ℕ, zero, suc, ◌<◌, ◌==◌, Bool, true, false, not, ◌&&◌, ◌||◌, List, [], ◌∷◌, ◌++◌, map, cond, refl, ap, sym, ◌∙◌, append_assoc, arith}
use Rattle.std.proofs.lemmas.Bool.{and_parts, or_parts}
use Rattle.std.proofs.lemmas.Bool.Decides.{nat_tests}
use Rattle.std.proofs.lemmas.List.{append-nil}
use Rattle.std.proofs.lemmas.Str.{encodes-chars}
use Rattle.std.specs.Char.{is_control}
use Rattle.std.specs.Char.Escape.{escape_default}
use Rattle.std.specs.List.{flat_map}
use Rattle.std.specs.Prelude.{encode_utf8, encode_utf8_all}
use Rattle.std.specs.Str.{IsUtf8, chars}
use Rattle.wdl_base.specs.Plain.{has_nul}
use Rattle.wdl_base.proofs.PlainLemmas.{has_nul-append}
use Rattle.shown_text.specs.Shown.{shown_char, shown}

-- one character more
pub shown_more : (cs : List ℕ) (c : ℕ) → flat_map shown_char (map (λ c. c) (cs ++ c ∷ [])) ≡ flat_map shown_char (map (λ c. c) cs) ++ shown_char c
shown_more [] c = append-nil (shown_char c)
shown_more (d ∷ cs) c =
    ap (λ x. shown_char d ++ x) (shown_more cs c) ∙ sym (append_assoc (shown_char d) (flat_map shown_char (map (λ c. c) cs)) (shown_char c))

-- a test of the first numbers, and what it says of one of them
abbrev all_below : (ℕ → Bool) → ℕ → Bool
all_below p zero = true
all_below p (suc n) = p zero && all_below (λ k. p (suc k)) n

below : (p : ℕ → Bool) (n c : ℕ) → all_below p n ≡ true → c < n → p c ≡ true
below p zero c h l = absurd (omega arith)
below p (suc n) zero h l = (and_parts (p zero) (all_below (λ k. p (suc k)) n) h).0
below p (suc n) (suc c) h l = below (λ k. p (suc k)) n c (and_parts (p zero) (all_below (λ k. p (suc k)) n) h).1 (omega arith)

abbrev no_nul : ℕ → Bool
no_nul c = not (has_nul (encode_utf8_all (escape_default c)))

is_low : (c : ℕ) → is_control c ≡ true → c < 160
is_low c h = grind (arith, nat_tests)

from_not : (b : Bool) → not b ≡ true → b ≡ false
from_not true h = sym h
from_not false h = refl

escape_plain : (c : ℕ) → is_control c ≡ true → has_nul (encode_utf8_all (escape_default c)) ≡ false
unfolding lib.Utf8.encode
escape_plain c h = from_not _ (below no_nul 160 c refl (is_low c h))

one_of : (b : Bool) (x y : List ℕ) → (b ≡ true → has_nul x ≡ false) → has_nul y ≡ false → has_nul (cond b x y) ≡ false
one_of true x y h k = h refl
one_of false x y h k = k

one_plain : (c : ℕ) → has_nul (encode_utf8 c) ≡ false → has_nul (shown_char c) ≡ false
one_plain c h = one_of (is_control c) (encode_utf8_all (escape_default c)) (encode_utf8 c) (escape_plain c) h

parts : (x y : List ℕ) → has_nul (x ++ y) ≡ false → (has_nul x ≡ false) × (has_nul y ≡ false)
parts [] y h = (refl, h)
parts (b ∷ x) y h =
    let p = or_parts (b == 0) (has_nul (x ++ y)) h in
    let t = parts x y p.1 in
    (ap (λ t. t || has_nul x) p.0 ∙ t.0, t.1)

all_plain : (cs : List ℕ) → has_nul (encode_utf8_all cs) ≡ false → has_nul (flat_map shown_char cs) ≡ false
all_plain [] h = refl
all_plain (c ∷ cs) h =
    let t = parts (encode_utf8 c) (encode_utf8_all cs) h in
    has_nul-append (shown_char c) (flat_map shown_char cs) (one_plain c t.0) (all_plain cs t.1)

chars_plain : (s : List ℕ) → IsUtf8 s → has_nul s ≡ false → has_nul (flat_map shown_char (chars s)) ≡ false
chars_plain s u h = all_plain (chars s) (ap has_nul (encodes-chars s u) ∙ h)

-- what is shown of a text without NUL
pub shown_plain : (s : List ℕ) → IsUtf8 s → has_nul s ≡ false → has_nul (shown s) ≡ false
unfolding shown
shown_plain s u h = chars_plain s u h

-- it stands for each character of the text
pub shown_is : (s : List ℕ) → flat_map shown_char (chars s) ≡ shown s
unfolding shown
shown_is s = refl
