-- The tokens outside strings and commands: reading one gives the longest spelling, and each longest spelling is read.
use Rattle.std.proofs.Common.{◌≡◌, ℕ, zero, suc, ◌+◌, ◌<◌, ◌≤◌, Bool, true, false, not, cond, ◌&&◌, ◌||◌, ◌==◌, nat_lt, ◌⊎◌, inl, inr, [], ◌∷◌, ◌++◌, length, take, drop, Option, Some, None, Result, Ok, Err, refl, ap, sym, ◌∙◌, subst, arith}
use Rattle.std.proofs.lemmas.Bool.{and_parts, and_from, cond-true, cond-false, eqb-true, lt-ltb, not-true, not-false, not_from_true, cases_Bool}
use Rattle.std.proofs.lemmas.Bool.Decides.{nat_tests}
use Rattle.std.proofs.lemmas.List.{append-nil, drop_at}
use Rattle.std.specs.List.{list_all, prefix_len}
use Rattle.wdl_ast.specs.declared.token.Kind.{Kind}
use Rattle.wdl_ast.specs.declared.token.Kind.TheVariants as kind
use Rattle.wdl_ast.specs.Spelled.Classes.{Bytes, is_blank, is_letter, is_word_byte, is_digit_of, are_digits, first}
use Rattle.wdl_ast.specs.Spelled.Numbers as n
use Rattle.wdl_ast.specs.Spelled.Numbers.{IsInt, IsExponent, MayBeExponent, IsFrac, is_exponent_mark, is_sign, is_hex_mark}
use Rattle.wdl_ast.specs.Spelled.Marks.{mark_of}
use Rattle.wdl_ast.specs.Spelled.Code as s
use Rattle.wdl_ast.specs.Spelled.Code.{Spells, IsLongest, IsCodeToken, stands_alone, fits}
use Rattle.wdl_lex.specs.declared.fault.Flaw.{Flaw}
use Rattle.wdl_lex.specs.Limits.{is_short}
use Rattle.wdl_lex.specs.Faults as fault
use Rattle.wdl_lex.specs.Faults.{IsCodeFlaw}
use Rattle.wdl_lex.specs.Reading.Numbers.{digits_len, behind_digits, frac_len, int_at}
use Rattle.wdl_lex.specs.Reading.Code.{Found, flaw, word_at, mark_at, longest_at, checked, code_token}
use Rattle.wdl_lex.proofs.Digits.{is_plain, are_plain, all_more, digits_plain}
use Rattle.wdl_lex.proofs.Lists.{chosen, same_head, front_of, front_more, front_whole, cut, left, same_front}
use Rattle.wdl_lex.proofs.NumberLaws.{frac_more, frac_exact, HasFrac, frac_cases, int_len, int_exact, int_or_frac, int_no_frac, int_cases, zero_octal, octal_decimal}
use Rattle.wdl_lex.proofs.MarkLaws.{mark_first, mark_plain, no_letter, no_digit, no_blank, same_some, Most, mark_least, mark_exact, mark_sound, point_mark}

-- ---- classes of bytes

letter_word : (b : ℕ) → is_letter b ≡ true → is_word_byte b ≡ true
unfolding is_letter is_word_byte
letter_word b h = grind (arith, nat_tests)

pub word_byte_plain : (b : ℕ) → is_word_byte b ≡ true → is_plain b ≡ true
unfolding is_word_byte
word_byte_plain b h = grind (arith, nat_tests)

digit_no_letter : (b : ℕ) → is_digit_of 10 b ≡ true → is_letter b ≡ false
unfolding is_letter is_digit_of
digit_no_letter b h = grind (arith, nat_tests)

point_no_letter : is_letter 46 ≡ false
unfolding is_letter
point_no_letter = refl

abbrev pub opens_gap : ℕ → Bool
opens_gap b = is_blank b || b == 35

letter_no_gap : (b : ℕ) → is_letter b ≡ true → opens_gap b ≡ false
unfolding is_letter
letter_no_gap b h = grind (arith, nat_tests)

digit_no_gap : (b : ℕ) → is_digit_of 10 b ≡ true → opens_gap b ≡ false
unfolding is_digit_of
digit_no_gap b h = grind (arith, nat_tests)

exponent_plain : (x : ℕ) → is_exponent_mark x ≡ true → is_plain x ≡ true
exponent_plain x h = grind (arith, nat_tests)

sign_plain : (x : ℕ) → is_sign x ≡ true → is_plain x ≡ true
sign_plain x h = grind (arith, nat_tests)

hex_plain : (x : ℕ) → is_hex_mark x ≡ true → is_plain x ≡ true
hex_plain x h = grind (arith, nat_tests)

-- ---- the first byte of a spelling

-- a digit, or the point of a number
int_first : (v : Bytes) (m : ℕ) → IsInt v m → (b : ℕ) × (w : Bytes) × (v ≡ b ∷ w) × (is_digit_of 10 b ≡ true)
int_first v m (n.decimal b w h d) = (b, w, refl, (and_parts (is_digit_of 10 b) (are_digits 10 w) d).0)
int_first v m (n.octal w d) = (48, w, refl, octal_decimal 48 zero_octal)
int_first v m (n.hex x w h d) = (48, x ∷ w, refl, octal_decimal 48 zero_octal)

frac_first : (v : Bytes) → IsFrac v → (b : ℕ) × (w : Bytes) × (v ≡ b ∷ w) × ((is_digit_of 10 b ≡ true) ⊎ (b ≡ 46))
frac_first v (n.pointed [] b e da db some h) = (46, b ++ e, refl, inr refl)
frac_first v (n.pointed (x ∷ a) b e da db some h) = (x, a ++ 46 ∷ (b ++ e), refl, inl (and_parts (is_digit_of 10 x) (are_digits 10 a) da).0)
frac_first v (n.whole [] e da h) = cc
frac_first v (n.whole (x ∷ a) e da h) = (x, a ++ e, refl, inl (and_parts (is_digit_of 10 x) (are_digits 10 a) da).0)

frac_no_letter : (b : ℕ) → (is_digit_of 10 b ≡ true) ⊎ (b ≡ 46) → is_letter b ≡ false
frac_no_letter b (inl d) = digit_no_letter b d
frac_no_letter b (inr e) = ap is_letter e ∙ point_no_letter

pub spells_first : (awaits closes : Bool) (v : Bytes) (k : Kind) → Spells awaits closes v k → (b : ℕ) × (w : Bytes) × (v ≡ b ∷ w) × (opens_gap b ≡ false)
spells_first awaits closes v k (s.word b w h d) = (b, w, refl, letter_no_gap b h)
spells_first awaits closes v k (s.int w m i) = let t = int_first w m i in (t.0, t.1, t.2, digit_no_gap t.0 t.3)
spells_first awaits closes v k (s.frac w i) = let t = frac_first w i in (t.0, t.1, t.2, go t.0 t.3)
  where
    go : (b : ℕ) → (is_digit_of 10 b ≡ true) ⊎ (b ≡ 46) → opens_gap b ≡ false
    go b (inl d) = digit_no_gap b d
    go b (inr e) = ap opens_gap e
spells_first awaits closes v k (s.mark w j q) = mark_first opens_gap awaits closes w j no_blank q

-- ---- a spelling is plain ASCII

plain_append : (a b : Bytes) → are_plain a ≡ true → are_plain b ≡ true → are_plain (a ++ b) ≡ true
plain_append [] b h k = k
plain_append (x ∷ a) b h k = let q = and_parts (is_plain x) (are_plain a) h in and_from (is_plain x) (are_plain (a ++ b)) q.0 (plain_append a b q.1 k)

some_plain : (base : ℕ) (w : Bytes) → base ≤ 36 → Rattle.wdl_ast.specs.Spelled.Classes.some_digits base w ≡ true → are_plain w ≡ true
some_plain base [] h d = refl
some_plain base (b ∷ w) h d = digits_plain base (b ∷ w) h d

exponent_is_plain : (e : Bytes) → IsExponent e → are_plain e ≡ true
exponent_is_plain e (n.plain x w h d) = and_from (is_plain x) (are_plain w) (exponent_plain x h) (some_plain 10 w (omega arith) d)
exponent_is_plain e (n.signed x t w h g d) = and_from (is_plain x) (are_plain (t ∷ w)) (exponent_plain x h) (and_from (is_plain t) (are_plain w) (sign_plain t g) (some_plain 10 w (omega arith) d))

maybe_plain : (e : Bytes) → MayBeExponent e → are_plain e ≡ true
maybe_plain e n.none = refl
maybe_plain e (n.some x h) = exponent_is_plain x h

pub frac_plain : (v : Bytes) → IsFrac v → are_plain v ≡ true
frac_plain v (n.pointed a b e da db some h) =
    plain_append a (46 ∷ (b ++ e)) (digits_plain 10 a (omega arith) da) (and_from (is_plain 46) (are_plain (b ++ e)) refl (plain_append b e (digits_plain 10 b (omega arith) db) (maybe_plain e h)))
frac_plain v (n.whole a e da h) = plain_append a e (some_plain 10 a (omega arith) da) (exponent_is_plain e h)

int_plain : (v : Bytes) (m : ℕ) → IsInt v m → are_plain v ≡ true
int_plain v m (n.decimal b w h d) = digits_plain 10 (b ∷ w) (omega arith) d
int_plain v m (n.octal w d) = and_from (is_plain 48) (are_plain w) refl (digits_plain 8 w (omega arith) d)
int_plain v m (n.hex x w h d) = and_from (is_plain 48) (are_plain (x ∷ w)) refl (and_from (is_plain x) (are_plain w) (hex_plain x h) (some_plain 16 w (omega arith) d))

pub spells_plain : (awaits closes : Bool) (v : Bytes) (k : Kind) → Spells awaits closes v k → are_plain v ≡ true
spells_plain awaits closes v k (s.word b w h d) = and_from (is_plain b) (are_plain w) (word_byte_plain b (letter_word b h)) (all_more is_word_byte is_plain word_byte_plain w d)
spells_plain awaits closes v k (s.int w m i) = int_plain w m i
spells_plain awaits closes v k (s.frac w i) = frac_plain w i
spells_plain awaits closes v k (s.mark w j q) = mark_plain awaits closes w j q

-- ---- the order in which a token is looked for

module _ (awaits closes : Bool) (z : Bytes) where
  pub at_letter : is_letter (first z) ≡ true → longest_at awaits closes z ≡ Some (word_at z)
  unfolding longest_at
  at_letter h = cond-true (is_letter (first z)) _ _ h

  pub at_frac : is_letter (first z) ≡ false → 0 < frac_len z → longest_at awaits closes z ≡ Some (kind.Frac (take (frac_len z) z), frac_len z)
  unfolding longest_at
  at_frac h q = cond-false (is_letter (first z)) _ _ h ∙ cond-true (nat_lt 0 (frac_len z)) _ _ (lt-ltb 0 (frac_len z) q)

  pub at_int : is_letter (first z) ≡ false → frac_len z ≡ 0 → is_digit_of 10 (first z) ≡ true → longest_at awaits closes z ≡ Some (int_at z)
  unfolding longest_at
  at_int h q d = cond-false (is_letter (first z)) _ _ h ∙ cond-false (nat_lt 0 (frac_len z)) _ _ (ap (nat_lt 0) q) ∙ cond-true (is_digit_of 10 (first z)) _ _ d

  pub at_mark : is_letter (first z) ≡ false → frac_len z ≡ 0 → is_digit_of 10 (first z) ≡ false → longest_at awaits closes z ≡ mark_at awaits closes z
  unfolding longest_at
  at_mark h q d = cond-false (is_letter (first z)) _ _ h ∙ cond-false (nat_lt 0 (frac_len z)) _ _ (ap (nat_lt 0) q) ∙ cond-false (is_digit_of 10 (first z)) _ _ d

-- ---- each spelling is found, or a longer one

no_frac : (b : ℕ) (y : Bytes) → is_digit_of 10 b ≡ false → (b == 46) ≡ false → frac_len (b ∷ y) ≡ 0
unfolding frac_len
no_frac b y d p =
    ap (λ m. behind_digits m (drop m (b ∷ y))) (cond-false (is_digit_of 10 b) (1 + digits_len 10 y) 0 d) ∙ cond-false (b == 46) _ _ p

no_frac_mark : (awaits closes : Bool) (v : Bytes) (k : Kind) → mark_of awaits closes v ≡ Some k → (b : ℕ) (w : Bytes) → v ≡ b ∷ w → is_digit_of 10 b ≡ false → frac_len v ≡ 0
unfolding frac_len is_digit_of
no_frac_mark awaits closes v k q b w e d = go (cases_Bool (b == 46))
  where
    go : ((b == 46) ≡ true) ⊎ ((b == 46) ≡ false) → frac_len v ≡ 0
    go (inl p) =
        let none = point_mark awaits closes w k (ap (λ x. mark_of awaits closes (x ∷ w)) (sym (eqb-true b 46 p)) ∙ ap (mark_of awaits closes) (sym e) ∙ q) in
        ap frac_len e ∙ ap (λ x. frac_len (x ∷ w)) (eqb-true b 46 p) ∙ ap (λ x. frac_len (46 ∷ x)) none
    go (inr p) = ap frac_len e ∙ no_frac b w d p

module _ (awaits closes : Bool) where
  word_len : (b : ℕ) (w more : Bytes) → is_letter b ≡ true → list_all is_word_byte w ≡ true → prefix_len is_word_byte ((b ∷ w) ++ more) ≡ length (b ∷ w) + prefix_len is_word_byte more
  word_len b w more h d = front_more is_word_byte (b ∷ w) more (and_from (is_word_byte b) (list_all is_word_byte w) (letter_word b h) d)

  by_frac : (v more : Bytes) → is_letter (first (v ++ more)) ≡ false → 0 < frac_len (v ++ more) → length v ≤ frac_len (v ++ more) → Most (longest_at awaits closes (v ++ more)) (length v)
  by_frac v more h some fits = (kind.Frac (take (frac_len (v ++ more)) (v ++ more)), frac_len (v ++ more), at_frac awaits closes (v ++ more) h some, fits)

  least_int : (v more : Bytes) (m : ℕ) → IsInt v m → Most (longest_at awaits closes (v ++ more)) (length v)
  least_int v more m i = go (int_first v m i) (int_or_frac v more m i)
    where
      go : ((b : ℕ) × (w : Bytes) × (v ≡ b ∷ w) × (is_digit_of 10 b ≡ true)) → (frac_len (v ++ more) ≡ 0) ⊎ (length v < frac_len (v ++ more)) → Most (longest_at awaits closes (v ++ more)) (length v)
      go (b, w, e, d) (inr past) = by_frac v more (ap (λ x. is_letter (first (x ++ more))) e ∙ digit_no_letter b d) (omega (arith, past)) (omega (arith, past))
      go (b, w, e, d) (inl none) =
          ((int_at (v ++ more)).0, (int_at (v ++ more)).1, at_int awaits closes (v ++ more) (ap (λ x. is_letter (first (x ++ more))) e ∙ digit_no_letter b d) none (ap (λ x. is_digit_of 10 (first (x ++ more))) e ∙ d), int_len v more m i)

  least_mark : (v more : Bytes) (k : Kind) → mark_of awaits closes v ≡ Some k → (b : ℕ) (w : Bytes) → v ≡ b ∷ w → is_letter b ≡ false → is_digit_of 10 b ≡ false → (t : ℕ) → frac_len (v ++ more) ≡ t → Most (longest_at awaits closes (v ++ more)) (length v)
  least_mark v more k q b w e l d zero f =
      let m = mark_least awaits closes v more k q in
      (m.0, m.1, at_mark awaits closes (v ++ more) (ap (λ x. is_letter (first (x ++ more))) e ∙ l) f (ap (λ x. is_digit_of 10 (first (x ++ more))) e ∙ d) ∙ m.2, m.3)
  least_mark v more k q b w e l d (suc t) f = by_frac v more (ap (λ x. is_letter (first (x ++ more))) e ∙ l) (omega (arith, f)) (let o = one (cases_Bool (b == 46)) in omega (arith, o, f))
    where
      one : ((b == 46) ≡ true) ⊎ ((b == 46) ≡ false) → length v ≤ 1
      one (inl p) =
          let none = point_mark awaits closes w k (ap (λ x. mark_of awaits closes (x ∷ w)) (sym (eqb-true b 46 p)) ∙ ap (mark_of awaits closes) (sym e) ∙ q) in
          let len : length v ≡ 1 = ap length e ∙ ap (λ x. suc (length x)) none in omega (arith, len)
      one (inr p) = (let z = sym f ∙ ap (λ x. frac_len (x ++ more)) e ∙ no_frac b (w ++ more) d p in let n : ⊥ = cc in absurd n)

  pub least : (v more : Bytes) (k : Kind) → Spells awaits closes v k → Most (longest_at awaits closes (v ++ more)) (length v)
  least v more k (s.word b w h d) =
      ((word_at ((b ∷ w) ++ more)).0, (word_at ((b ∷ w) ++ more)).1, at_letter awaits closes ((b ∷ w) ++ more) h, (let q = word_len b w more h d in omega (arith, q)))
  least v more k (s.int w m i) = least_int w more m i
  least v more k (s.frac w i) =
      let x = frac_more w more i in
      let t = frac_first w i in
      let some : 0 < length w = (let q = ap length t.2 in omega (arith, q)) in
      by_frac w more (ap (λ y. is_letter (first (y ++ more))) t.2 ∙ frac_no_letter t.0 t.3) (omega (arith, x.1, some)) (omega (arith, x.1))
  least v more k (s.mark w j q) =
      let l = mark_first is_letter awaits closes w j no_letter q in
      let d = mark_first (is_digit_of 10) awaits closes w j no_digit q in
      let same : d.0 ≡ l.0 = (same_head d.0 l.0 d.1 l.1 (sym d.2 ∙ l.2)).0 in
      least_mark w more j q l.0 l.1 l.2 l.3 (ap (is_digit_of 10) (sym same) ∙ d.3) (frac_len (w ++ more)) refl

  -- and alone it is found itself
  pub exact : (v : Bytes) (k : Kind) → Spells awaits closes v k → longest_at awaits closes v ≡ Some (k, length v)
  exact v k (s.word b w h d) =
      let len : prefix_len is_word_byte (b ∷ w) ≡ length (b ∷ w) = front_whole is_word_byte (b ∷ w) (and_from (is_word_byte b) (list_all is_word_byte w) (letter_word b h) d) in
      at_letter awaits closes (b ∷ w) h ∙ ap (λ m. Some (kind.Word (take m (b ∷ w)), m)) len
      ∙ ap (λ x. Some (kind.Word x, length (b ∷ w))) (cut (b ∷ w) (b ∷ w) [] (length (b ∷ w)) (sym (append-nil (b ∷ w))) refl)
  exact v k (s.int w m i) =
      let t = int_first w m i in
      at_int awaits closes w (ap (λ y. is_letter (first y)) t.2 ∙ digit_no_letter t.0 t.3) (int_no_frac w m i) (ap (λ y. is_digit_of 10 (first y)) t.2 ∙ t.3) ∙ ap (λ x. Some x) (int_exact w m i)
  exact v k (s.frac w i) =
      let t = frac_first w i in
      let len = frac_exact w i in
      let some : 0 < frac_len w = (let q = ap length t.2 in omega (arith, q, len)) in
      at_frac awaits closes w (ap (λ y. is_letter (first y)) t.2 ∙ frac_no_letter t.0 t.3) some ∙ ap (λ m. Some (kind.Frac (take m w), m)) len
      ∙ ap (λ x. Some (kind.Frac x, length w)) (cut w w [] (length w) (sym (append-nil w)) refl)
  exact v k (s.mark w j q) =
      let l = mark_first is_letter awaits closes w j no_letter q in
      let d = mark_first (is_digit_of 10) awaits closes w j no_digit q in
      at_mark awaits closes w (ap (λ y. is_letter (first y)) l.2 ∙ l.3) (no_frac_mark awaits closes w j q l.0 l.1 l.2 (let same : d.0 ≡ l.0 = (same_head d.0 l.0 d.1 l.1 (sym d.2 ∙ l.2)).0 in ap (is_digit_of 10) (sym same) ∙ d.3)) (ap (λ y. is_digit_of 10 (first y)) d.2 ∙ d.3) ∙ mark_exact awaits closes w j q

  -- what is found is a spelling
  abbrev pub Finds : Bytes → Kind → ℕ → Type 0
  Finds z k m = (w : Bytes) × (rest : Bytes) × (z ≡ w ++ rest) × (length w ≡ m) × Spells awaits closes w k

  abbrev some_found : Found → Option Found
  some_found t = Some t

  finds_word : (z : Bytes) (k : Kind) (m : ℕ) → is_letter (first z) ≡ true → Some (word_at z) ≡ Some (k, m) → Finds z k m
  unfolding is_letter
  finds_word [] k m l h = cc
  finds_word (b ∷ y) k m l h =
      let f = front_of is_word_byte y in
      let len : prefix_len is_word_byte (b ∷ y) ≡ length (b ∷ f.0) = cond-true (is_word_byte b) _ _ (letter_word b l) ∙ (let e : 1 + prefix_len is_word_byte y ≡ length (b ∷ f.0) = omega (arith, f.3) in e) in
      let text : b ∷ y ≡ (b ∷ f.0) ++ f.1 = ap (λ x. b ∷ x) f.2 in
      let is = same_some (word_at (b ∷ y)) (k, m) h in
      let kind_is : kind.Word (b ∷ f.0) ≡ k = ap kind.Word (sym (cut (b ∷ y) (b ∷ f.0) f.1 (prefix_len is_word_byte (b ∷ y)) text (sym len))) ∙ is.0 in
      (b ∷ f.0, f.1, text, sym len ∙ is.1, subst (λ x. Spells awaits closes (b ∷ f.0) x) kind_is (s.word b f.0 l f.4))

  finds_int : (z : Bytes) (k : Kind) (m : ℕ) → is_digit_of 10 (first z) ≡ true → Some (int_at z) ≡ Some (k, m) → Finds z k m
  unfolding is_digit_of
  finds_int [] k m d h = cc
  finds_int (b ∷ y) k m d h =
      let i = int_cases b y d in
      let is = same_some (int_at (b ∷ y)) (k, m) h in
      let int_is = ap (λ (x : Found). x.0) i.4 in
      let len_is = ap (λ (x : Found). x.1) i.4 in
      (i.0, i.1, i.3, sym len_is ∙ is.1, subst (λ x. Spells awaits closes i.0 x) (sym int_is ∙ is.0) (s.int i.0 i.2 i.5))

  finds_frac : (z : Bytes) (k : Kind) (m : ℕ) → HasFrac z → some_found (kind.Frac (take (frac_len z) z), frac_len z) ≡ Some (k, m) → Finds z k m
  finds_frac z k m (v, rest, text, len, i) h =
      let is = same_some (kind.Frac (take (frac_len z) z), frac_len z) (k, m) h in
      (v, rest, text, len ∙ is.1, subst (λ x. Spells awaits closes v x) (ap kind.Frac (sym (cut z v rest (frac_len z) text len)) ∙ is.0) (s.frac v i))

  finds_mark : (z : Bytes) (k : Kind) (m : ℕ) → mark_at awaits closes z ≡ Some (k, m) → Finds z k m
  finds_mark z k m h = let t = mark_sound awaits closes z k m h in (t.0, t.1, t.2, t.3, s.mark t.0 k t.4)

  pub finds : (z : Bytes) (k : Kind) (m : ℕ) → longest_at awaits closes z ≡ Some (k, m) → Finds z k m
  finds z k m h = letter (cases_Bool (is_letter (first z)))
    where
      digit : is_letter (first z) ≡ false → frac_len z ≡ 0 → (is_digit_of 10 (first z) ≡ true) ⊎ (is_digit_of 10 (first z) ≡ false) → Finds z k m
      digit l none (inl d) = finds_int z k m d (sym (at_int awaits closes z l none d) ∙ h)
      digit l none (inr d) = finds_mark z k m (sym (at_mark awaits closes z l none d) ∙ h)

      frac : is_letter (first z) ≡ false → (frac_len z ≡ 0) ⊎ HasFrac z → Finds z k m
      frac l (inl none) = digit l none (cases_Bool (is_digit_of 10 (first z)))
      frac l (inr (v, rest, text, len, i)) =
          let t = frac_first v i in
          let some : 0 < frac_len z = (let q = ap length t.2 in omega (arith, q, len)) in
          finds_frac z k m (v, rest, text, len, i) (sym (at_frac awaits closes z l some) ∙ h)

      letter : (is_letter (first z) ≡ true) ⊎ (is_letter (first z) ≡ false) → Finds z k m
      letter (inl l) = finds_word z k m l (sym (at_letter awaits closes z l) ∙ h)
      letter (inr l) = frac l (frac_cases z)

  -- and the longest one
  pub finds_longest : (z : Bytes) (k : Kind) (m : ℕ) → longest_at awaits closes z ≡ Some (k, m) → (w : Bytes) × (rest : Bytes) × (z ≡ w ++ rest) × (length w ≡ m) × IsLongest awaits closes w rest k
  finds_longest z k m h =
      let t = finds z k m h in
      (t.0, t.1, t.2, t.3, record { spells = t.4; longest = λ v more j e q. fits_in v more (sym e ∙ sym t.2) (least v more j q) t.0 t.3 })
    where
      fits_in : (v more : Bytes) → v ++ more ≡ z → Most (longest_at awaits closes (v ++ more)) (length v) → (w : Bytes) → length w ≡ m → length v ≤ length w
      fits_in v more e (j, l, q, le) w len = let s = same_some (j, l) (k, m) (sym q ∙ ap (longest_at awaits closes) e ∙ h) in omega (arith, s.1, le, len)

  pub longest_found : (w rest : Bytes) (k : Kind) → IsLongest awaits closes w rest k → longest_at awaits closes (w ++ rest) ≡ Some (k, length w)
  longest_found w rest k t = go (least w rest k t.spells)
    where
      one : (j : Kind) (m : ℕ) → length w ≤ m → Finds (w ++ rest) j m → (j ≡ k) × (m ≡ length w)
      one j m le (v, more, text, len, q) =
          let most : length v ≤ length w = t.longest v more j text q in
          let same = same_front v w more rest (sym text) (let e : length v ≡ length w = omega (arith, most, le, len) in e) in
          ((same_some (j, length v) (k, length w) (sym (exact v j q) ∙ ap (longest_at awaits closes) same.0 ∙ exact w k t.spells)).0, (let e : m ≡ length w = omega (arith, most, le, len) in e))

      go : Most (longest_at awaits closes (w ++ rest)) (length w) → longest_at awaits closes (w ++ rest) ≡ Some (k, length w)
      go (j, m, h, le) =
          let is = one j m le (finds (w ++ rest) j m h) in
          let p : (j, m) ≡ (k, length w) = (let e = is.0 in let f = is.1 in cc) in
          h ∙ ap some_found p

  pub none_found : (z : Bytes) → longest_at awaits closes z ≡ None → (w rest : Bytes) (k : Kind) → z ≡ w ++ rest → Spells awaits closes w k → ⊥
  none_found z h w rest k e q = let l = least w rest k q in let f = sym h ∙ ap (longest_at awaits closes) e ∙ l.2 in let n : ⊥ = cc in n

-- ---- what is read

abbrev got : Found → Result Found Flaw
got t = Ok t

same_got : (x y : Found) → got x ≡ got y → (x.0 ≡ y.0) × (x.1 ≡ y.1)
same_got x y h = let e : x ≡ y = cc in (ap (λ (z : Found). z.0) e, ap (λ (z : Found). z.1) e)

abbrev bad : Flaw → Result Found Flaw
bad f = Err f

same_err : (f g : Flaw) → bad f ≡ bad g → f ≡ g
same_err f g h = cc

module _ (limited awaits closes : Bool) where
  abbrev pub Limits : Kind → Type 0
  Limits k = limited ≡ true → is_short k ≡ true

  abbrev pub ReadsCode : Bytes → Kind → ℕ → Type 0
  ReadsCode z k m = (w : Bytes) × (rest : Bytes) × (z ≡ w ++ rest) × (length w ≡ m) × IsCodeToken awaits closes w rest k × Limits k

  abbrev Looked : Bytes → Option Found → Type 0
  Looked z None = (w rest : Bytes) (k : Kind) → z ≡ w ++ rest → Spells awaits closes w k → ⊥
  Looked z (Some t) = (w : Bytes) × (rest : Bytes) × (z ≡ w ++ rest) × (length w ≡ t.1) × IsLongest awaits closes w rest t.0

  looked : (z : Bytes) (o : Option Found) → longest_at awaits closes z ≡ o → Looked z o
  looked z None h = none_found awaits closes z h
  looked z (Some t) h = finds_longest awaits closes z t.0 t.1 h

  -- the tests of a token that was found, in their order
  abbrev alone : Bytes → Found → Bool
  alone z t = stands_alone t.0 (drop t.1 z)

  abbrev long_ : Found → Bool
  long_ t = limited && not (is_short t.0)

  abbrev at_short : Bytes → Found → Result Found Flaw
  at_short z t = cond (long_ t) (Err (flaw 107 0 t.1)) (Ok t)

  abbrev at_fit : Bytes → Found → Result Found Flaw
  at_fit z t = cond (not (fits t.0)) (Err (flaw 106 0 t.1)) (at_short z t)

  not_long : (k : Kind) → (limited && not (is_short k)) ≡ false → Limits k
  not_long k h l = not-false (is_short k) (ap (λ x. x && not (is_short k)) (sym l) ∙ h)

  is_long : (k : Kind) → Limits k → (t : Bool) → limited ≡ t → (limited && not (is_short k)) ≡ false
  is_long k h true l = ap (λ x. x && not (is_short k)) l ∙ not_from_true (is_short k) (h l)
  is_long k h false l = ap (λ x. x && not (is_short k)) l

  pub code_sound : (z : Bytes) (k : Kind) (m : ℕ) → code_token limited awaits closes z ≡ Ok (k, m) → ReadsCode z k m
  unfolding code_token
  code_sound z k m h = go (longest_at awaits closes z) (looked z (longest_at awaits closes z) refl) h
    where
      short : (t : Found) → Looked z (Some t) → not (alone z t) ≡ false → not (fits t.0) ≡ false → (long_ t ≡ true) × (Err (flaw 107 0 t.1) ≡ got (k, m)) ⊎ ((long_ t ≡ false) × (got t ≡ got (k, m))) → ReadsCode z k m
      short t l a f (inl q) = (let e = q.1 in let n : ⊥ = cc in absurd n)
      short t (w, rest, text, len, l) a f (inr q) =
          let is = same_got t (k, m) q.1 in
          let stands : stands_alone t.0 rest ≡ true = ap (stands_alone t.0) (sym (left z w rest t.1 text len)) ∙ not-false (alone z t) a in
          (w, rest, text, len ∙ is.1, subst (IsCodeToken awaits closes w rest) is.0 (record { longest = l; alone = stands; in_range = not-false (fits t.0) f }), subst Limits is.0 (not_long t.0 q.0))

      fit : (t : Found) → Looked z (Some t) → not (alone z t) ≡ false → (not (fits t.0) ≡ true) × (Err (flaw 106 0 t.1) ≡ got (k, m)) ⊎ ((not (fits t.0) ≡ false) × (at_short z t ≡ got (k, m))) → ReadsCode z k m
      fit t l a (inl q) = (let e = q.1 in let n : ⊥ = cc in absurd n)
      fit t l a (inr q) = short t l a q.0 (chosen (long_ t) _ _ _ q.1)

      stands : (t : Found) → Looked z (Some t) → (not (alone z t) ≡ true) × (Err (flaw 102 0 (t.1 + 1)) ≡ got (k, m)) ⊎ ((not (alone z t) ≡ false) × (at_fit z t ≡ got (k, m))) → ReadsCode z k m
      stands t l (inl q) = (let e = q.1 in let n : ⊥ = cc in absurd n)
      stands t l (inr q) = fit t l q.0 (chosen (not (fits t.0)) _ _ _ q.1)

      go : (o : Option Found) → Looked z o → checked limited z o ≡ got (k, m) → ReadsCode z k m
      go None l h = cc
      go (Some t) l h = stands t l (chosen (not (alone z t)) _ _ _ h)

  pub code_full : (w rest : Bytes) (k : Kind) → IsCodeToken awaits closes w rest k → Limits k → code_token limited awaits closes (w ++ rest) ≡ Ok (k, length w)
  unfolding code_token
  code_full w rest k t l =
      ap (checked limited (w ++ rest)) (longest_found awaits closes w rest k t.longest)
      ∙ cond-false (not (alone (w ++ rest) (k, length w))) _ _ (not_from_true _ (ap (stands_alone k) (drop_at w rest (length w) refl) ∙ t.alone))
      ∙ cond-false (not (fits k)) _ _ (not_from_true (fits k) t.in_range) ∙ cond-false (long_ (k, length w)) _ _ (is_long k l limited refl)

  pub code_wrong : (z : Bytes) (f : Flaw) → code_token limited awaits closes z ≡ Err f → IsCodeFlaw awaits closes z f
  unfolding code_token
  code_wrong z f h = go (longest_at awaits closes z) (looked z (longest_at awaits closes z) refl) h
    where
      flawed : (w rest : Bytes) (g : Flaw) → z ≡ w ++ rest → IsCodeFlaw awaits closes (w ++ rest) g → g ≡ f → IsCodeFlaw awaits closes z f
      flawed w rest g text q e = subst (IsCodeFlaw awaits closes z) e (subst (λ x. IsCodeFlaw awaits closes x g) (sym text) q)

      short : (t : Found) → Looked z (Some t) → (long_ t ≡ true) × (bad (flaw 107 0 t.1) ≡ Err f) ⊎ ((long_ t ≡ false) × (got t ≡ Err f)) → IsCodeFlaw awaits closes z f
      short t (w, rest, text, len, l) (inl q) =
          flawed w rest (flaw 107 0 (length w)) text (fault.long w rest t.0 l (not-true (is_short t.0) (and_parts limited (not (is_short t.0)) q.0).1)) (ap (flaw 107 0) len ∙ same_err _ f q.1)
      short t l (inr q) = (let e = q.1 in let n : ⊥ = cc in absurd n)

      fit : (t : Found) → Looked z (Some t) → (not (fits t.0) ≡ true) × (bad (flaw 106 0 t.1) ≡ Err f) ⊎ ((not (fits t.0) ≡ false) × (at_short z t ≡ Err f)) → IsCodeFlaw awaits closes z f
      fit t (w, rest, text, len, l) (inl q) = flawed w rest (flaw 106 0 (length w)) text (fault.large w rest t.0 l (not-true (fits t.0) q.0)) (ap (flaw 106 0) len ∙ same_err _ f q.1)
      fit t l (inr q) = short t l (chosen (long_ t) _ _ _ q.1)

      stands : (t : Found) → Looked z (Some t) → (not (alone z t) ≡ true) × (bad (flaw 102 0 (t.1 + 1)) ≡ Err f) ⊎ ((not (alone z t) ≡ false) × (at_fit z t ≡ Err f)) → IsCodeFlaw awaits closes z f
      stands t (w, rest, text, len, l) (inl q) =
          flawed w rest (flaw 102 0 (length w + 1)) text (fault.glued w rest t.0 l (ap (stands_alone t.0) (sym (left z w rest t.1 text len)) ∙ not-true (alone z t) q.0)) (ap (λ m. flaw 102 0 (m + 1)) len ∙ same_err _ f q.1)
      stands t l (inr q) = fit t l (chosen (not (fits t.0)) _ _ _ q.1)

      go : (o : Option Found) → Looked z o → checked limited z o ≡ Err f → IsCodeFlaw awaits closes z f
      go None l h = subst (IsCodeFlaw awaits closes z) (same_err _ f h) (fault.stray z l)
      go (Some t) l h = stands t l (chosen (not (alone z t)) _ _ _ h)
