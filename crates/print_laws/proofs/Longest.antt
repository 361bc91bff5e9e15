-- The tokens outside strings and commands: what is written for one is that token again, whatever follows behind a gap.
use Rattle.std.proofs.Common.{◌≡◌, ℕ, zero, suc, ◌<◌, ◌≤◌, ◌^◌, Bool, true, false, not, cond, ◌&&◌, ◌||◌, ◌==◌, ◌⊎◌, inl, inr, List, [], ◌∷◌, ◌++◌, length, get_or, Option, Some, None, refl, ap, sym, ◌∙◌, subst, arith}
use Rattle.std.proofs.lemmas.Bool.{and_parts, and_from, eqb-true, leb-true, lt-ltb}
use Rattle.std.proofs.lemmas.Bool.Decides.{nat_tests}
use Rattle.std.proofs.lemmas.Fmt.{decimal_is_IsNumeral, decimal_digit, first_decimal}
use Rattle.std.proofs.lemmas.List.Folds.{list_all-append}
use Rattle.std.proofs.lemmas.Slice.Eq.{bytes_eq-Decides}
use Rattle.std.specs.Char.{digit_value}
use Rattle.std.specs.Fmt.{decimal}
use Rattle.std.specs.List.{list_all}
use Rattle.std.specs.Str.{bytes_eq}
use Rattle.std.specs.Str.Parse.{AllDigits, digits_value}
use Rattle.wdl_ast.specs.declared.token.Fence.TheVariants.{Brace, Angle}
use Rattle.wdl_ast.specs.declared.token.Quote.TheVariants.{Single, Double}
use Rattle.wdl_ast.specs.declared.token.Kind.{Kind}
use Rattle.wdl_ast.specs.declared.token.Kind.TheVariants as kind
use Rattle.wdl_ast.specs.Spelled.Classes.{Bytes, is_letter, is_word_byte, is_digit_of, are_digits, some_digits, first}
use Rattle.wdl_ast.specs.Spelled.Code as s
use Rattle.wdl_ast.specs.Spelled.Code.{Spells, IsLongest, IsCodeToken, stands_alone, fits}
use Rattle.wdl_ast.specs.Spelled.Marks.{singles, doubles, single_in, double_in, single, double, triple, mark_of}
use Rattle.wdl_ast.specs.Spelled.Numbers as n
use Rattle.wdl_ast.specs.Spelled.Numbers.{IsInt, IsExponent, MayBeExponent, IsFrac, is_hex_mark, is_exponent_mark, is_sign}
use Rattle.wdl_lex.proofs.CodeLaws.{finds_longest}
use Rattle.wdl_lex.proofs.Digits.{all_more}
use Rattle.wdl_lex.proofs.Lists.{chosen, same_front, same_head}
use Rattle.wdl_lex.specs.Reading.Code.{longest_at}
use Rattle.wdl_lex.specs.Reading.Numbers.{frac_len}
use Rattle.wdl_print.specs.declared.inside.Open.{Open}
use Rattle.wdl_print.specs.TokenText.{spelling}

-- ---- no token holds a blank or a newline

abbrev pub is_space : ℕ → Bool
is_space b = b == 32 || b == 10

abbrev pub is_filled : ℕ → Bool
is_filled b = not (is_space b)

abbrev pub are_filled : Bytes → Bool
are_filled w = list_all is_filled w

letter_filled : (b : ℕ) → is_letter b ≡ true → is_filled b ≡ true
unfolding is_letter
letter_filled b h = grind (arith, nat_tests)

word_filled : (b : ℕ) → is_word_byte b ≡ true → is_filled b ≡ true
unfolding is_word_byte
word_filled b h = grind (arith, nat_tests)

digit_filled : (base b : ℕ) → base ≤ 36 → is_digit_of base b ≡ true → is_filled b ≡ true
unfolding is_digit_of
digit_filled base b h d = grind (arith, nat_tests)

exponent_filled : (x : ℕ) → is_exponent_mark x ≡ true → is_filled x ≡ true
exponent_filled x h = grind (arith, nat_tests)

sign_filled : (x : ℕ) → is_sign x ≡ true → is_filled x ≡ true
sign_filled x h = grind (arith, nat_tests)

hex_filled : (x : ℕ) → is_hex_mark x ≡ true → is_filled x ≡ true
hex_filled x h = grind (arith, nat_tests)

filled_append : (a b : Bytes) → are_filled a ≡ true → are_filled b ≡ true → are_filled (a ++ b) ≡ true
filled_append a b h k = list_all-append is_filled a b ∙ and_from (are_filled a) (are_filled b) h k

digits_filled : (base : ℕ) (w : Bytes) → base ≤ 36 → are_digits base w ≡ true → are_filled w ≡ true
digits_filled base w h d = all_more (is_digit_of base) is_filled (λ b e. digit_filled base b h e) w d

some_filled : (base : ℕ) (w : Bytes) → base ≤ 36 → some_digits base w ≡ true → are_filled w ≡ true
some_filled base [] h d = refl
some_filled base (b ∷ w) h d = digits_filled base (b ∷ w) h d

int_filled : (v : Bytes) (m : ℕ) → IsInt v m → are_filled v ≡ true
int_filled v m (n.decimal b w h d) = digits_filled 10 (b ∷ w) (omega arith) d
int_filled v m (n.octal w d) = and_from (is_filled 48) (are_filled w) refl (digits_filled 8 w (omega arith) d)
int_filled v m (n.hex x w h d) = and_from (is_filled x) (are_filled w) (hex_filled x h) (some_filled 16 w (omega arith) d)

signed_filled : (e : Bytes) → IsExponent e → are_filled e ≡ true
signed_filled e (n.plain x w h d) = and_from (is_filled x) (are_filled w) (exponent_filled x h) (some_filled 10 w (omega arith) d)
signed_filled e (n.signed x t w h g d) = and_from (is_filled x) (are_filled (t ∷ w)) (exponent_filled x h) (and_from (is_filled t) (are_filled w) (sign_filled t g) (some_filled 10 w (omega arith) d))

maybe_filled : (e : Bytes) → MayBeExponent e → are_filled e ≡ true
maybe_filled e n.none = refl
maybe_filled e (n.some x h) = signed_filled x h

frac_filled : (v : Bytes) → IsFrac v → are_filled v ≡ true
frac_filled v (n.pointed a b e da db some h) = filled_append a (46 ∷ (b ++ e)) (digits_filled 10 a (omega arith) da) (filled_append b e (digits_filled 10 b (omega arith) db) (maybe_filled e h))
frac_filled v (n.whole a e da h) = filled_append a e (some_filled 10 a (omega arith) da) (signed_filled e h)

-- ---- marks are written as they are read

in_singles : (p : ℕ → Kind → Bool) (es : List (ℕ × Kind)) (b : ℕ) (k : Kind) → list_all (λ (e : ℕ × Kind). p e.0 e.1) es ≡ true → single_in es b ≡ Some k → p b k ≡ true
in_singles p [] b k h q = cc
in_singles p (e ∷ es) b k h q = go (λ r. in_singles p es b k (and_parts (p e.0 e.1) (list_all (λ (e : ℕ × Kind). p e.0 e.1) es) h).1 r) (chosen (b == e.0) _ _ _ q)
  where
    go : (single_in es b ≡ Some k → p b k ≡ true) → ((b == e.0) ≡ true) × (Some e.1 ≡ Some k) ⊎ (((b == e.0) ≡ false) × (single_in es b ≡ Some k)) → p b k ≡ true
    go more (inl r) =
        let same : e.1 ≡ k = (let g = r.1 in cc) in
        ap (λ x. p x k) (eqb-true b e.0 r.0) ∙ ap (p e.0) (sym same) ∙ (and_parts (p e.0 e.1) (list_all (λ (e : ℕ × Kind). p e.0 e.1) es) h).0
    go more (inr r) = more r.1

in_doubles : (p : ℕ → ℕ → Kind → Bool) (es : List (ℕ × ℕ × Kind)) (b c : ℕ) (k : Kind) → list_all (λ (e : ℕ × ℕ × Kind). p e.0 e.1 e.2) es ≡ true → double_in es b c ≡ Some k → p b c k ≡ true
in_doubles p [] b c k h q = cc
in_doubles p (e ∷ es) b c k h q = go (λ r. in_doubles p es b c k (and_parts (p e.0 e.1 e.2) (list_all (λ (e : ℕ × ℕ × Kind). p e.0 e.1 e.2) es) h).1 r) (chosen (b == e.0 && c == e.1) _ _ _ q)
  where
    go : (double_in es b c ≡ Some k → p b c k ≡ true) → ((b == e.0 && c == e.1) ≡ true) × (Some e.2 ≡ Some k) ⊎ (((b == e.0 && c == e.1) ≡ false) × (double_in es b c ≡ Some k)) → p b c k ≡ true
    go more (inl r) =
        let same : e.2 ≡ k = (let g = r.1 in cc) in
        let t = and_parts (b == e.0) (c == e.1) r.0 in
        ap (λ x. p x c k) (eqb-true b e.0 t.0) ∙ ap (λ x. p e.0 x k) (eqb-true c e.1 t.1) ∙ ap (p e.0 e.1) (sym same)
        ∙ (and_parts (p e.0 e.1 e.2) (list_all (λ (e : ℕ × ℕ × Kind). p e.0 e.1 e.2) es) h).0
    go more (inr r) = more r.1

-- a token that may stand outside strings and commands
abbrev pub is_code : Kind → Bool
is_code kind.StrClose = false
is_code (kind.Chars w) = false
is_code (kind.HoleOpen m) = false
is_code kind.CommandClose = false
is_code k = true

-- w is written for k, and holds no blank
abbrev is_mark : Option Open → Bytes → Kind → Bool
is_mark o w k = bytes_eq (spelling o k) w && (are_filled w && is_code k)

abbrev IsMark : Option Open → Bytes → Kind → Type 0
IsMark o w k = (spelling o k ≡ w) × (are_filled w ≡ true) × (is_code k ≡ true)

as_mark : (o : Option Open) (w : Bytes) (k : Kind) → is_mark o w k ≡ true → IsMark o w k
as_mark o w k h =
    let t = and_parts (bytes_eq (spelling o k) w) (are_filled w && is_code k) h in
    let u = and_parts (are_filled w) (is_code k) t.1 in
    ((bytes_eq-Decides (spelling o k) w).0 t.0, u.0, u.1)

same_kind : (j k : Kind) → Some j ≡ Some k → j ≡ k
same_kind j k e = cc

single_mark : (o : Option Open) (awaits closes : Bool) (b : ℕ) (k : Kind) → single awaits closes b ≡ Some k → is_mark o (b ∷ []) k ≡ true
unfolding single
single_mark o awaits closes b k q = braced (chosen (b == 123 && awaits) _ _ _ q)
  where
    ended : ((b == 125 && closes) ≡ true) × (Some kind.HoleClose ≡ Some k) ⊎ (((b == 125 && closes) ≡ false) × (single_in singles b ≡ Some k)) → is_mark o (b ∷ []) k ≡ true
    ended (inl r) = ap (λ x. is_mark o (x ∷ []) k) (eqb-true b 125 (and_parts (b == 125) closes r.0).0) ∙ ap (is_mark o (125 ∷ [])) (sym (same_kind kind.HoleClose k r.1))
    ended (inr r) = in_singles (λ b k. is_mark o (b ∷ []) k) singles b k refl r.1

    braced : ((b == 123 && awaits) ≡ true) × (Some (kind.CommandOpen Brace) ≡ Some k) ⊎ (((b == 123 && awaits) ≡ false) × (cond (b == 125 && closes) (Some kind.HoleClose) (single_in singles b) ≡ Some k)) → is_mark o (b ∷ []) k ≡ true
    braced (inl r) = ap (λ x. is_mark o (x ∷ []) k) (eqb-true b 123 (and_parts (b == 123) awaits r.0).0) ∙ ap (is_mark o (123 ∷ [])) (sym (same_kind (kind.CommandOpen Brace) k r.1))
    braced (inr r) = ended (chosen (b == 125 && closes) _ _ _ r.1)

double_mark : (o : Option Open) (b c : ℕ) (k : Kind) → double b c ≡ Some k → is_mark o (b ∷ c ∷ []) k ≡ true
unfolding double
double_mark o b c k q = in_doubles (λ b c k. is_mark o (b ∷ c ∷ []) k) doubles b c k refl q

triple_mark : (o : Option Open) (awaits : Bool) (b c d : ℕ) (k : Kind) → triple awaits b c d ≡ Some k → is_mark o (b ∷ c ∷ d ∷ []) k ≡ true
unfolding triple
triple_mark o awaits b c d k q = go (chosen (b == 60 && (c == 60 && (d == 60 && awaits))) _ _ _ q)
  where
    go : ((b == 60 && (c == 60 && (d == 60 && awaits))) ≡ true) × (Some (kind.CommandOpen Angle) ≡ Some k) ⊎ (((b == 60 && (c == 60 && (d == 60 && awaits))) ≡ false) × (None ≡ Some k)) → is_mark o (b ∷ c ∷ d ∷ []) k ≡ true
    go (inl r) =
        let t = and_parts (b == 60) (c == 60 && (d == 60 && awaits)) r.0 in
        let u = and_parts (c == 60) (d == 60 && awaits) t.1 in
        ap (λ x. is_mark o (x ∷ c ∷ d ∷ []) k) (eqb-true b 60 t.0) ∙ ap (λ x. is_mark o (60 ∷ x ∷ d ∷ []) k) (eqb-true c 60 u.0)
        ∙ ap (λ x. is_mark o (60 ∷ 60 ∷ x ∷ []) k) (eqb-true d 60 (and_parts (d == 60) awaits u.1).0) ∙ ap (is_mark o (60 ∷ 60 ∷ 60 ∷ [])) (sym (same_kind (kind.CommandOpen Angle) k r.1))
    go (inr r) = (let e = r.1 in let n : ⊥ = cc in absurd n)

mark_is : (o : Option Open) (awaits closes : Bool) (w : Bytes) (k : Kind) → mark_of awaits closes w ≡ Some k → IsMark o w k
mark_is o awaits closes [] k q = cc
mark_is o awaits closes (b ∷ []) k q = as_mark o (b ∷ []) k (single_mark o awaits closes b k q)
mark_is o awaits closes (b ∷ c ∷ []) k q = as_mark o (b ∷ c ∷ []) k (double_mark o b c k q)
mark_is o awaits closes (b ∷ c ∷ d ∷ []) k q = as_mark o (b ∷ c ∷ d ∷ []) k (triple_mark o awaits b c d k q)
mark_is o awaits closes (b ∷ c ∷ d ∷ e ∷ w) k q = cc

-- ---- integers are written in decimal

all_digits : (w : Bytes) → AllDigits 10 w → are_digits 10 w ≡ true
unfolding is_digit_of
all_digits [] h = refl
all_digits (b ∷ w) h = and_from (is_digit_of 10 b) (are_digits 10 w) (lt-ltb (digit_value b) 10 h.0) (all_digits w h.1)

zero_octal : IsInt (48 ∷ []) 0
zero_octal = n.octal [] refl

int_is : (m : ℕ) → m < 2 ^ 64 → IsInt (decimal m) m
int_is zero h = subst (λ w. IsInt w 0) (sym (decimal_digit 0 (omega arith))) zero_octal
int_is (suc m) h = go (decimal (suc m)) refl
  where
    go : (w : Bytes) → decimal (suc m) ≡ w → IsInt (decimal (suc m)) (suc m)
    go [] e = (let f = first_decimal (suc m) (omega arith) h in let g : get_or (decimal (suc m)) 0 0 ≡ 0 = ap (λ w. get_or w 0 0) e in absurd (omega (arith, f, g)))
    go (b ∷ w) e =
        let t = decimal_is_IsNumeral (suc m) h in
        let f = first_decimal (suc m) (omega arith) h in
        let g : get_or (decimal (suc m)) 0 0 ≡ b = ap (λ w. get_or w 0 0) e in
        let past : 48 < b = omega (arith, f, g) in
        let no_zero : (b == 48) ≡ false = grind (arith, nat_tests) in
        let value : digits_value 10 (b ∷ w) ≡ suc m = ap (digits_value 10) (sym e) ∙ t.1 in
        subst (λ v. IsInt v (suc m)) (sym e) (subst (IsInt (b ∷ w)) value (n.decimal b w no_zero (all_digits (b ∷ w) (subst (AllDigits 10) e t.0.1))))

-- ---- what is written is that token

module _ (o : Option Open) (awaits closes : Bool) where
  written : (w : Bytes) (k : Kind) → Spells awaits closes w k → fits k ≡ true → Spells awaits closes (spelling o k) k
  written w k (s.word b v h d) f = s.word b v h d
  written w k (s.int v m i) f = s.int (decimal m) m (int_is m (let q = leb-true m 9223372036854775807 f in omega (arith, q)))
  written w k (s.frac v i) f = s.frac v i
  written w k (s.mark v j q) f = s.mark (spelling o j) j (ap (mark_of awaits closes) (mark_is o awaits closes v j q).0 ∙ q)

  all_filled : (v : Bytes) (j : Kind) → Spells awaits closes v j → are_filled v ≡ true
  all_filled v j (s.word b w h d) = and_from (is_filled b) (are_filled w) (letter_filled b h) (all_more is_word_byte is_filled word_filled w d)
  all_filled v j (s.int w m i) = int_filled w m i
  all_filled v j (s.frac w i) = frac_filled w i
  all_filled v j (s.mark w k q) = (mark_is o awaits closes w k q).1

pub code_kind : (awaits closes : Bool) (w rest : Bytes) (k : Kind) → IsCodeToken awaits closes w rest k → is_code k ≡ true
code_kind awaits closes w rest k t = go w k t.longest.spells
  where
    go : (w : Bytes) (k : Kind) → Spells awaits closes w k → is_code k ≡ true
    go w k (s.word b v h d) = refl
    go w k (s.int v m i) = refl
    go w k (s.frac v i) = refl
    go w k (s.mark v j q) = (mark_is None awaits closes v j q).2

closing_brace : (awaits closes : Bool) → mark_of awaits closes (125 ∷ []) ≡ Some kind.HoleClose → closes ≡ true
unfolding single
closing_brace awaits true q = refl
closing_brace awaits false q = cc

-- a placeholder is closed where one may be
pub hole_closes : (awaits closes : Bool) (w rest : Bytes) → IsCodeToken awaits closes w rest kind.HoleClose → closes ≡ true
hole_closes awaits closes w rest t = go w kind.HoleClose refl t.longest.spells
  where
    go : (w : Bytes) (k : Kind) → k ≡ kind.HoleClose → Spells awaits closes w k → closes ≡ true
    go w k e (s.word b v h d) = (let n : ⊥ = cc in absurd n)
    go w k e (s.int v m i) = (let n : ⊥ = cc in absurd n)
    go w k e (s.frac v i) = (let n : ⊥ = cc in absurd n)
    go w k e (s.mark v j q) =
        let text : 125 ∷ [] ≡ v = ap (spelling None) (sym e) ∙ (mark_is None awaits closes v j q).0 in
        closing_brace awaits closes (ap (mark_of awaits closes) text ∙ q ∙ ap (λ x. Some x) e)

-- ---- what follows

-- nothing, or a blank or a newline
abbrev pub IsApart : Bytes → Type 0
IsApart rest = (rest ≡ []) ⊎ ((b : ℕ) × (r : Bytes) × (rest ≡ b ∷ r) × (is_space b ≡ true))

-- a text without blanks ends before what is apart
no_further : (w rest v more : Bytes) → IsApart rest → w ++ rest ≡ v ++ more → are_filled v ≡ true → length v ≤ length w
no_further w rest [] more apart e f = omega arith
no_further [] rest (b ∷ v) more (inl q) e f = (let h = sym q ∙ e in let n : ⊥ = cc in absurd n)
no_further [] rest (b ∷ v) more (inr (c, r, q, space)) e f =
    let same : c ≡ b = (same_head c b r (v ++ more) (sym q ∙ e)).0 in
    let filled : not (is_space c) ≡ true = ap is_filled same ∙ (and_parts (is_filled b) (are_filled v) f).0 in
    (let h : not true ≡ true = ap not (sym space) ∙ filled in let n : ⊥ = cc in absurd n)
no_further (a ∷ w) rest (b ∷ v) more apart e f =
    let t = no_further w rest v more apart (same_head a b (w ++ rest) (v ++ more) e).1 (and_parts (is_filled b) (are_filled v) f).1 in omega (arith, t)

space_no_word : (b : ℕ) → is_space b ≡ true → is_word_byte b ≡ false
unfolding is_word_byte
space_no_word b h = grind (arith, nat_tests)

nul_no_word : is_word_byte 0 ≡ false
unfolding is_word_byte
nul_no_word = refl

apart_no_word : (rest : Bytes) → IsApart rest → is_word_byte (first rest) ≡ false
apart_no_word rest (inl q) = ap (λ x. is_word_byte (first x)) q ∙ nul_no_word
apart_no_word rest (inr (b, r, q, space)) = ap (λ x. is_word_byte (first x)) q ∙ space_no_word b space

apart_alone : (k : Kind) (rest : Bytes) → IsApart rest → stands_alone k rest ≡ true
apart_alone (kind.Word w) rest apart = refl
apart_alone (kind.Int i) rest apart = ap not (apart_no_word rest apart)
apart_alone (kind.Frac w) rest apart = ap not (apart_no_word rest apart)
apart_alone (kind.Mark m) rest apart = refl
apart_alone (kind.StrOpen q) rest apart = refl
apart_alone kind.StrClose rest apart = refl
apart_alone (kind.Chars w) rest apart = refl
apart_alone (kind.HoleOpen m) rest apart = refl
apart_alone kind.HoleClose rest apart = refl
apart_alone (kind.CommandOpen f) rest apart = refl
apart_alone kind.CommandClose rest apart = refl

-- a token that no longer one begins with
abbrev pub is_edge : Kind → Bool
is_edge (kind.StrOpen q) = true
is_edge kind.HoleClose = true
is_edge (kind.CommandOpen f) = true
is_edge k = false

module _ (o : Option Open) where
  edge_read : (awaits closes : Bool) (k : Kind) (rest : Bytes) → is_edge k ≡ true → mark_of awaits closes (spelling o k) ≡ Some k → longest_at awaits closes (spelling o k ++ rest) ≡ Some (k, length (spelling o k))
  unfolding longest_at frac_len is_letter is_digit_of single double triple
  edge_read awaits closes (kind.StrOpen Single) rest h q = refl
  edge_read awaits closes (kind.StrOpen Double) rest h q = refl
  edge_read awaits true kind.HoleClose rest h q = refl
  edge_read awaits false kind.HoleClose rest h q = cc
  edge_read true closes (kind.CommandOpen Brace) rest h q = refl
  edge_read false closes (kind.CommandOpen Brace) rest h q = cc
  edge_read true closes (kind.CommandOpen Angle) rest h q = refl
  edge_read false closes (kind.CommandOpen Angle) rest h q = cc
  edge_read awaits closes (kind.Word w) rest h q = cc
  edge_read awaits closes (kind.Int i) rest h q = cc
  edge_read awaits closes (kind.Frac w) rest h q = cc
  edge_read awaits closes (kind.Mark m) rest h q = cc
  edge_read awaits closes kind.StrClose rest h q = cc
  edge_read awaits closes (kind.Chars w) rest h q = cc
  edge_read awaits closes (kind.HoleOpen m) rest h q = cc
  edge_read awaits closes kind.CommandClose rest h q = cc

  edge_alone : (k : Kind) (rest : Bytes) → is_edge k ≡ true → stands_alone k rest ≡ true
  edge_alone (kind.StrOpen q) rest h = refl
  edge_alone kind.HoleClose rest h = refl
  edge_alone (kind.CommandOpen f) rest h = refl
  edge_alone (kind.Word w) rest h = refl
  edge_alone (kind.Int i) rest h = cc
  edge_alone (kind.Frac w) rest h = cc
  edge_alone (kind.Mark m) rest h = refl
  edge_alone kind.StrClose rest h = refl
  edge_alone (kind.Chars w) rest h = refl
  edge_alone (kind.HoleOpen m) rest h = refl
  edge_alone kind.CommandClose rest h = refl

  module _ (awaits closes : Bool) where
    edge_longest : (w rest : Bytes) (k : Kind) → is_edge k ≡ true → Spells awaits closes w k → mark_of awaits closes (spelling o k) ≡ Some k → IsLongest awaits closes (spelling o k) rest k
    edge_longest w rest k h q is =
        let (v, more, text, len, longest) = finds_longest awaits closes (spelling o k ++ rest) k (length (spelling o k)) (edge_read awaits closes k rest h is) in
        let same = same_front v (spelling o k) more rest (sym text) len in
        subst (λ x. IsLongest awaits closes x rest k) same.0 (subst (λ x. IsLongest awaits closes v x k) same.1 longest)

    edge_mark : (w : Bytes) (k : Kind) → is_edge k ≡ true → Spells awaits closes w k → mark_of awaits closes (spelling o k) ≡ Some k
    edge_mark w k h (s.word b v l d) = cc
    edge_mark w k h (s.int v m i) = cc
    edge_mark w k h (s.frac v i) = cc
    edge_mark w k h (s.mark v j q) = ap (mark_of awaits closes) (mark_is o awaits closes v j q).0 ∙ q

    -- the token as it is written, before another rest
    pub code_again : (w rest new : Bytes) (k : Kind) → IsCodeToken awaits closes w rest k → IsApart new ⊎ (is_edge k ≡ true) → IsCodeToken awaits closes (spelling o k) new k
    code_again w rest new k t (inl apart) =
        record {
          longest = record {
            spells = written o awaits closes w k t.longest.spells t.in_range;
            longest = λ v more j e q. no_further (spelling o k) new v more apart e (all_filled o awaits closes v j q);
          };
          alone = apart_alone k new apart;
          in_range = t.in_range;
        }
    code_again w rest new k t (inr edge) =
        record {
          longest = edge_longest w new k edge t.longest.spells (edge_mark w k edge t.longest.spells);
          alone = edge_alone k new edge;
          in_range = t.in_range;
        }
