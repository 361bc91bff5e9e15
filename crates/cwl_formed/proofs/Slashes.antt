-- Texts without slashes.
use Rattle.std.proofs.Common.{◌≡◌, ℕ, zero, suc, ◌+◌, ◌/◌, ◌%◌, ◌==◌, nat_le, nat_lt, Bool, true, false, cond, not, ◌&&◌, ◌||◌, List, [], ◌∷◌, ◌++◌, length, Some, codes, decimal, arith, sym, ap, ◌∙◌, refl}
use Rattle.std.proofs.lemmas.Bool.{false≢true, and_from, and_parts}
use Rattle.std.specs.Char.{is_ascii_alphabetic, is_ascii_alphanumeric}
use Rattle.std.specs.Fmt.{digit_glyph, digits, digits_onto}
use Rattle.wdl_base.specs.Names.{is_among, is_name, is_word, is_word_from, reserved_words}
use Rattle.cwl_image.specs.Image.{joined_id}
use Rattle.cwl_laws.proofs.Files.{number_same}
use Rattle.cwl_emit.specs.Formed.{lacks}

pub lacks_both : (s t : List ℕ) → lacks 47 s ≡ true → lacks 47 t ≡ true → lacks 47 (s ++ t) ≡ true
lacks_both [] t h k = k
lacks_both (c ∷ s) t h k =
    let p = and_parts (not (c == 47)) (lacks 47 s) h in and_from (not (c == 47)) (lacks 47 (s ++ t)) p.0 (lacks_both s t p.1 k)

no_slash : (f : ℕ → Bool) (c : ℕ) → f 47 ≡ false → f c ≡ true → not (c == 47) ≡ true
no_slash f c n h = by_test (c == 47) refl
  where
    by_test : (b : Bool) → (c == 47) ≡ b → not b ≡ true
    by_test false e = refl
    by_test true e = absurd (false≢true (sym n ∙ ap f (sym (number_same c 47 e)) ∙ h))

word_from_lacks : (s : List ℕ) → is_word_from s ≡ true → lacks 47 s ≡ true
word_from_lacks [] h = refl
word_from_lacks (c ∷ s) h =
    let p = and_parts (is_ascii_alphanumeric c || c == 95) (is_word_from s) h in
    and_from (not (c == 47)) (lacks 47 s) (no_slash (λ d. is_ascii_alphanumeric d || d == 95) c refl p.0) (word_from_lacks s p.1)

word_lacks : (s : List ℕ) → is_word s ≡ true → lacks 47 s ≡ true
word_lacks [] h = refl
word_lacks (c ∷ s) h =
    let p = and_parts (is_ascii_alphabetic c) (is_word_from s) h in
    and_from (not (c == 47)) (lacks 47 s) (no_slash is_ascii_alphabetic c refl p.0) (word_from_lacks s p.1)

-- a NAME has no slash
pub name_lacks : (s : List ℕ) → is_name s ≡ true → lacks 47 s ≡ true
name_lacks s h = word_lacks s (and_parts (nat_le (length s) 128) (is_word s) (and_parts (nat_le (length s) 128 && is_word s) (not (is_among s reserved_words)) h).0).1

-- nor has the id of an output of a call
pub output_lacks : (first second : List ℕ) → is_name first ≡ true → is_name second ≡ true → lacks 47 (joined_id first (Some second)) ≡ true
output_lacks first second h k = lacks_both first (45 ∷ second) (name_lacks first h) (name_lacks second k)

-- ---- decimal numbers

glyph_lacks : (d : ℕ) → not (digit_glyph false d == 47) ≡ true
glyph_lacks d = by_test (nat_lt d 10)
  where
    other : (n : ℕ) → (n ≡ 47 → ⊥) → not (n == 47) ≡ true
    other n h = by_equal (n == 47) refl
      where
        by_equal : (b : Bool) → (n == 47) ≡ b → not b ≡ true
        by_equal false e = refl
        by_equal true e = absurd (h (number_same n 47 e))

    above : (d : ℕ) → 48 + d ≡ 47 → ⊥
    above d h = omega arith

    far : (d : ℕ) → 87 + d ≡ 47 → ⊥
    far d h = omega arith

    by_test : (b : Bool) → not (cond b (48 + d) (87 + d) == 47) ≡ true
    by_test true = other (48 + d) (above d)
    by_test false = other (87 + d) (far d)

digits_lack : (k n : ℕ) (acc : List ℕ) → lacks 47 acc ≡ true → lacks 47 (digits_onto k 10 false n acc) ≡ true
digits_lack zero n acc h = h
digits_lack (suc k) n acc h =
    let own = and_from (not (digit_glyph false (n % 10) == 47)) (lacks 47 acc) (glyph_lacks (n % 10)) h in
    by_test (n / 10 == 0) own (digits_lack k (n / 10) (digit_glyph false (n % 10) ∷ acc) own)
  where
    by_test : (b : Bool) → lacks 47 (digit_glyph false (n % 10) ∷ acc) ≡ true → lacks 47 (digits_onto k 10 false (n / 10) (digit_glyph false (n % 10) ∷ acc)) ≡ true
        → lacks 47 (cond b (digit_glyph false (n % 10) ∷ acc) (digits_onto k 10 false (n / 10) (digit_glyph false (n % 10) ∷ acc))) ≡ true
    by_test true q rest = q
    by_test false q rest = rest

decimal_lacks : (n : ℕ) → lacks 47 (decimal n) ≡ true
unfolding digits
decimal_lacks n = digits_lack 64 n [] refl

-- the ids of the steps of scatters and conditions
pub scatter_lacks : (k : ℕ) → lacks 47 (codes "scatter-" ++ decimal k) ≡ true
scatter_lacks k = lacks_both (codes "scatter-") (decimal k) refl (decimal_lacks k)

pub if_lacks : (k : ℕ) → lacks 47 (codes "if-" ++ decimal k) ≡ true
if_lacks k = lacks_both (codes "if-") (decimal k) refl (decimal_lacks k)
