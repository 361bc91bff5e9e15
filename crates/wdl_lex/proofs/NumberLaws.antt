-- The numbers at the front of a text: what is measured is the longest spelling, and each spelling is measured.
use Rattle.std.proofs.Common.{◌≡◌, ℕ, zero, suc, ◌+◌, ◌<◌, ◌≤◌, Bool, true, false, cond, ◌&&◌, ◌==◌, ◌⊎◌, inl, inr, [], ◌∷◌, ◌++◌, length, take, drop, refl, ap, sym, ◌∙◌, subst, append_assoc, length-append, arith, pos}
use Rattle.std.proofs.lemmas.Bool.{and_parts, and_from, cond-true, cond-false, eqb-true, cases_Bool}
use Rattle.std.proofs.lemmas.Bool.Decides.{nat_tests}
use Rattle.std.proofs.lemmas.List.{append-nil, drop_at, drop-drop, take_at}
use Rattle.std.specs.Str.Parse.{digits_value}
use Rattle.wdl_ast.specs.declared.token.Kind.{Kind}
use Rattle.wdl_ast.specs.declared.token.Kind.TheVariants as kind
use Rattle.wdl_ast.specs.Spelled.Classes.{Bytes, is_digit_of, are_digits, some_digits, first, is_end}
use Rattle.wdl_ast.specs.Spelled.Numbers as s
use Rattle.wdl_ast.specs.Spelled.Numbers.{is_hex_mark, is_exponent_mark, is_sign, IsInt, IsExponent, IsFrac}
use Rattle.wdl_lex.specs.Reading.Numbers.{digits_len, exponent_mark_len, joined_len, exponent_len, pointed_len, behind_digits, frac_len, is_hex, base_of, int_from, int_at}
use Rattle.wdl_lex.proofs.Lists.{clash, same_head, StopsAt, front_of, front_more, front_exact, front_whole, nonempty_length}

-- ---- classes of bytes

pub sign_no_digit : (b : ℕ) → is_digit_of 10 b ≡ true → is_sign b ≡ false
unfolding is_digit_of
sign_no_digit b h = grind (arith, nat_tests)

pub exponent_no_digit : (b : ℕ) → is_exponent_mark b ≡ true → is_digit_of 10 b ≡ false
unfolding is_digit_of
exponent_no_digit b h = grind (arith, nat_tests)

pub exponent_no_point : (b : ℕ) → is_exponent_mark b ≡ true → (b == 46) ≡ false
exponent_no_point b h = grind (arith, nat_tests)

pub hex_no_digit : (b : ℕ) → is_hex_mark b ≡ true → is_digit_of 10 b ≡ false
unfolding is_digit_of
hex_no_digit b h = grind (arith, nat_tests)

pub hex_no_exponent : (b : ℕ) → is_hex_mark b ≡ true → is_exponent_mark b ≡ false
hex_no_exponent b h = grind (arith, nat_tests)

pub hex_no_point : (b : ℕ) → is_hex_mark b ≡ true → (b == 46) ≡ false
hex_no_point b h = grind (arith, nat_tests)

pub octal_no_hex : (b : ℕ) → is_digit_of 8 b ≡ true → is_hex_mark b ≡ false
unfolding is_digit_of
octal_no_hex b h = grind (arith, nat_tests)

pub octal_decimal : (b : ℕ) → is_digit_of 8 b ≡ true → is_digit_of 10 b ≡ true
unfolding is_digit_of
octal_decimal b h = grind (arith, nat_tests)

pub octals_decimals : (w : Bytes) → are_digits 8 w ≡ true → are_digits 10 w ≡ true
octals_decimals [] h = refl
octals_decimals (b ∷ w) h = let q = and_parts (is_digit_of 8 b) (are_digits 8 w) h in and_from _ _ (octal_decimal b q.0) (octals_decimals w q.1)

pub point_no_digit : is_digit_of 10 46 ≡ false
unfolding is_digit_of
point_no_digit = refl

pub nul_no_digit : is_digit_of 16 0 ≡ false
unfolding is_digit_of
nul_no_digit = refl

pub zero_octal : is_digit_of 8 48 ≡ true
unfolding is_digit_of
zero_octal = refl

-- ---- digits

some_are : (base : ℕ) (w : Bytes) → some_digits base w ≡ true → (b : ℕ) × (v : Bytes) × (w ≡ b ∷ v) × (is_digit_of base b ≡ true) × (are_digits base w ≡ true)
some_are base [] h = cc
some_are base (b ∷ v) h = (b, v, refl, (and_parts (is_digit_of base b) (are_digits base v) h).0, h)

-- digits at the front, or none
abbrev SomeFront : ℕ → Bytes → Type 0
SomeFront base z = (w : Bytes) × (rest : Bytes) × (z ≡ w ++ rest) × (length w ≡ digits_len base z) × (some_digits base w ≡ true)

some_front : (base : ℕ) (z : Bytes) → (digits_len base z ≡ 0) ⊎ SomeFront base z
some_front base z = go (front_of (is_digit_of base) z).0 (front_of (is_digit_of base) z).1 (front_of (is_digit_of base) z).2 (front_of (is_digit_of base) z).3 (front_of (is_digit_of base) z).4
  where
    go : (w rest : Bytes) → z ≡ w ++ rest → length w ≡ digits_len base z → are_digits base w ≡ true → (digits_len base z ≡ 0) ⊎ SomeFront base z
    go [] rest e n d = inl (sym n)
    go (b ∷ w) rest e n d = inr (b ∷ w, rest, e, n, d)

joined : (m n : ℕ) → 0 < m → 0 < n → joined_len m n ≡ m + n
joined m n h k = grind (arith, nat_tests)

joined_none : (m : ℕ) → joined_len m 0 ≡ 0
joined_none m = grind (arith, nat_tests)

joined_cases : (m n : ℕ) → (joined_len m n ≡ 0) ⊎ ((0 < m) × (0 < n) × (joined_len m n ≡ m + n))
joined_cases zero n = inl refl
joined_cases (suc m) zero = inl (joined_none (suc m))
joined_cases (suc m) (suc n) = inr (omega arith, omega arith, joined (suc m) (suc n) (omega arith) (omega arith))

-- ---- exponents

exponent_first : (e : Bytes) → IsExponent e → (x : ℕ) × (v : Bytes) × (e ≡ x ∷ v) × (is_exponent_mark x ≡ true)
exponent_first e (s.plain x w h d) = (x, w, refl, h)
exponent_first e (s.signed x t w h g d) = (x, t ∷ w, refl, h)

-- an exponent is measured with the digits behind it
exponent_more : (e more : Bytes) → IsExponent e → exponent_len (e ++ more) ≡ length e + digits_len 10 more
unfolding exponent_len
exponent_more e more (s.plain x w h d) =
    let t = some_are 10 w d in
    let mark : exponent_mark_len (x ∷ (w ++ more)) ≡ 1 =
    cond-true (is_exponent_mark x) _ _ h ∙ ap (λ v. cond (is_sign (first (v ++ more))) 2 1) t.2 ∙ cond-false (is_sign t.0) 2 1 (sign_no_digit t.0 t.3) in
    let some : 0 < length w = (let q = ap length t.2 in omega (arith, q)) in
    let all : digits_len 10 (w ++ more) ≡ length w + digits_len 10 more = front_more (is_digit_of 10) w more t.4 in
    ap (λ n. joined_len n (digits_len 10 (drop n (x ∷ (w ++ more))))) mark ∙ ap (joined_len 1) all
    ∙ joined 1 (length w + digits_len 10 more) (omega arith) (omega arith) ∙ (let q : 1 + (length w + digits_len 10 more) ≡ length (x ∷ w) + digits_len 10 more = omega arith in q)
exponent_more e more (s.signed x t w h g d) =
    let f = some_are 10 w d in
    let mark : exponent_mark_len (x ∷ t ∷ (w ++ more)) ≡ 2 = cond-true (is_exponent_mark x) _ _ h ∙ cond-true (is_sign t) 2 1 g in
    let some : 0 < length w = (let q = ap length f.2 in omega (arith, q)) in
    let all : digits_len 10 (w ++ more) ≡ length w + digits_len 10 more = front_more (is_digit_of 10) w more f.4 in
    ap (λ n. joined_len n (digits_len 10 (drop n (x ∷ t ∷ (w ++ more))))) mark ∙ ap (joined_len 2) all
    ∙ joined 2 (length w + digits_len 10 more) (omega arith) (omega arith) ∙ (let q : 2 + (length w + digits_len 10 more) ≡ length (x ∷ t ∷ w) + digits_len 10 more = omega arith in q)

abbrev HasExponent : Bytes → Type 0
HasExponent z = (e : Bytes) × (rest : Bytes) × (z ≡ e ++ rest) × (length e ≡ exponent_len z) × IsExponent e

exponent_cases : (z : Bytes) → (exponent_len z ≡ 0) ⊎ HasExponent z
unfolding exponent_len
exponent_cases [] = inl refl
exponent_cases (x ∷ y) = marked (cases_Bool (is_exponent_mark x))
  where
    -- digits behind the letter, with or without a sign
    behind : (m : ℕ) (w rest : Bytes) → exponent_mark_len (x ∷ y) ≡ m → 0 < m → x ∷ y ≡ w ++ rest → length w ≡ m → ((v : Bytes) → some_digits 10 v ≡ true → IsExponent (w ++ v)) → (exponent_len (x ∷ y) ≡ 0) ⊎ HasExponent (x ∷ y)
    behind m w rest mark some text len is = go (some_front 10 rest)
      where
        same : exponent_len (x ∷ y) ≡ joined_len m (digits_len 10 rest)
        same = ap (λ n. joined_len n (digits_len 10 (drop n (x ∷ y)))) mark ∙ ap (λ z. joined_len m (digits_len 10 (drop m z))) text ∙ ap (λ z. joined_len m (digits_len 10 z)) (drop_at w rest m len)

        go : (digits_len 10 rest ≡ 0) ⊎ SomeFront 10 rest → (exponent_len (x ∷ y) ≡ 0) ⊎ HasExponent (x ∷ y)
        go (inl none) = inl (same ∙ ap (joined_len m) none ∙ joined_none m)
        go (inr (v, more, e, n, d)) =
            let t = some_are 10 v d in
            let some_v : 0 < digits_len 10 rest = (let q = ap length t.2 in omega (arith, q, n)) in
            inr (w ++ v, more, text ∙ ap (λ z. w ++ z) e ∙ sym (append_assoc w v more), (let q : length (w ++ v) ≡ m + digits_len 10 rest = omega (arith, length-append w v, len, n) in q ∙ sym (same ∙ joined m (digits_len 10 rest) some some_v)), is v d)

    marked : (is_exponent_mark x ≡ true) ⊎ (is_exponent_mark x ≡ false) → (exponent_len (x ∷ y) ≡ 0) ⊎ HasExponent (x ∷ y)
    marked (inr nope) = inl (ap (λ n. joined_len n (digits_len 10 (drop n (x ∷ y)))) (cond-false (is_exponent_mark x) (cond (is_sign (first y)) 2 1) 0 nope))
    marked (inl h) = signed y refl (cases_Bool (is_sign (first y)))
      where
        signed : (u : Bytes) → y ≡ u → (is_sign (first y) ≡ true) ⊎ (is_sign (first y) ≡ false) → (exponent_len (x ∷ y) ≡ 0) ⊎ HasExponent (x ∷ y)
        signed u e (inr nope) = behind 1 (x ∷ []) y (cond-true (is_exponent_mark x) _ _ h ∙ cond-false (is_sign (first y)) 2 1 nope) (omega arith) refl refl (λ v d. s.plain x v h d)
        signed [] e (inl g) = let q : is_sign 0 ≡ true = ap (λ u. is_sign (first u)) (sym e) ∙ g in let n : ⊥ = cc in absurd n
        signed (t ∷ u) e (inl g) = behind 2 (x ∷ t ∷ []) u (cond-true (is_exponent_mark x) _ _ h ∙ cond-true (is_sign (first y)) 2 1 g) (omega arith) (ap (λ u. x ∷ u) e) refl (λ v d. s.signed x t v h (ap (λ u. is_sign (first u)) (sym e) ∙ g) d)

-- ---- numbers with a point or an exponent

-- what stands behind the digits of a front
digits_then : (a y : Bytes) → are_digits 10 a ≡ true → StopsAt (is_digit_of 10) y → frac_len (a ++ y) ≡ behind_digits (length a) y
unfolding frac_len
digits_then a y d s =
    let n : digits_len 10 (a ++ y) ≡ length a = front_exact (is_digit_of 10) a y d s in
    ap (λ k. behind_digits k (drop k (a ++ y))) n ∙ ap (behind_digits (length a)) (drop_at a y (length a) refl)

abbrev Extends : Bytes → Bytes → Type 0
Extends v more = (extra : ℕ) × (frac_len (v ++ more) ≡ length v + extra) × (more ≡ [] → extra ≡ 0)

pointed_some : (whole part : ℕ) (y : Bytes) → 0 < whole + part → pointed_len whole part y ≡ whole + 1 + part + exponent_len (drop part y)
pointed_some whole part y h = grind (arith, nat_tests)

exponent_stops : (e more : Bytes) → IsExponent e → StopsAt (is_digit_of 10) (e ++ more)
exponent_stops e more (s.plain x w h d) = exponent_no_digit x h
exponent_stops e more (s.signed x t w h g d) = exponent_no_digit x h

none_left : 0 + exponent_len [] ≡ 0
unfolding exponent_len
none_left = refl

frac_plain : (a b more : Bytes) → are_digits 10 a ≡ true → are_digits 10 b ≡ true → is_end (a ++ b) ≡ false → Extends (a ++ 46 ∷ (b ++ [])) more
frac_plain a b more da db some = (extra, same, over)
  where
    d : ℕ
    d = digits_len 10 more

    extra : ℕ
    extra = d + exponent_len (drop d more)

    text : (a ++ 46 ∷ (b ++ [])) ++ more ≡ a ++ 46 ∷ (b ++ more)
    text = append_assoc a (46 ∷ (b ++ [])) more ∙ ap (λ x. a ++ 46 ∷ (x ++ more)) (append-nil b)

    behind : digits_len 10 (b ++ more) ≡ length b + d
    behind = front_more (is_digit_of 10) b more db

    same : frac_len ((a ++ 46 ∷ (b ++ [])) ++ more) ≡ length (a ++ 46 ∷ (b ++ [])) + extra
    same =
        ap frac_len text ∙ digits_then a (46 ∷ (b ++ more)) da point_no_digit ∙ ap (λ n. pointed_len (length a) n (b ++ more)) behind
        ∙ pointed_some (length a) (length b + d) (b ++ more) (omega (arith, nonempty_length a b some))
        ∙ ap (λ y. length a + 1 + (length b + d) + exponent_len y) (sym (drop-drop d (length b) (b ++ more)) ∙ ap (drop d) (drop_at b more (length b) refl))
        ∙ (let q : length a + 1 + (length b + d) + exponent_len (drop d more) ≡ length (a ++ 46 ∷ (b ++ [])) + (d + exponent_len (drop d more)) = omega (arith, length-append a (46 ∷ (b ++ [])), length-append b []) in q)

    over : more ≡ [] → extra ≡ 0
    over e = ap (λ z. digits_len 10 z + exponent_len (drop (digits_len 10 z) z)) e ∙ none_left

frac_pointed : (a b e more : Bytes) → are_digits 10 a ≡ true → are_digits 10 b ≡ true → is_end (a ++ b) ≡ false → IsExponent e → Extends (a ++ 46 ∷ (b ++ e)) more
frac_pointed a b e more da db some h = (digits_len 10 more, same, λ q. ap (digits_len 10) q)
  where
    text : (a ++ 46 ∷ (b ++ e)) ++ more ≡ a ++ 46 ∷ (b ++ (e ++ more))
    text = append_assoc a (46 ∷ (b ++ e)) more ∙ ap (λ x. a ++ 46 ∷ x) (append_assoc b e more)

    behind : digits_len 10 (b ++ (e ++ more)) ≡ length b
    behind = front_exact (is_digit_of 10) b (e ++ more) db (exponent_stops e more h)

    same : frac_len ((a ++ 46 ∷ (b ++ e)) ++ more) ≡ length (a ++ 46 ∷ (b ++ e)) + digits_len 10 more
    same =
        ap frac_len text ∙ digits_then a (46 ∷ (b ++ (e ++ more))) da point_no_digit ∙ ap (λ n. pointed_len (length a) n (b ++ (e ++ more))) behind
        ∙ pointed_some (length a) (length b) (b ++ (e ++ more)) (nonempty_length a b some)
        ∙ ap (λ y. length a + 1 + length b + exponent_len y) (drop_at b (e ++ more) (length b) refl)
        ∙ ap (λ n. length a + 1 + length b + n) (exponent_more e more h)
        ∙ (let q : length a + 1 + length b + (length e + digits_len 10 more) ≡ length (a ++ 46 ∷ (b ++ e)) + digits_len 10 more = omega (arith, length-append a (46 ∷ (b ++ e)), length-append b e) in q)

frac_whole : (a e more : Bytes) → some_digits 10 a ≡ true → IsExponent e → Extends (a ++ e) more
frac_whole a e more da h = (digits_len 10 more, same, λ q. ap (digits_len 10) q)
  where
    text : (a ++ e) ++ more ≡ a ++ (e ++ more)
    text = append_assoc a e more

    no_point : (y : Bytes) → ((x : ℕ) × (v : Bytes) × (y ≡ x ∷ v) × (is_exponent_mark x ≡ true)) → behind_digits (length a) (y ++ more) ≡ joined_len (length a) (exponent_len (y ++ more))
    no_point y (x, v, q, m) = ap (λ y. behind_digits (length a) (y ++ more)) q ∙ cond-false (x == 46) _ _ (exponent_no_point x m) ∙ ap (λ y. joined_len (length a) (exponent_len (y ++ more))) (sym q)

    same : frac_len ((a ++ e) ++ more) ≡ length (a ++ e) + digits_len 10 more
    same =
        let t = some_are 10 a da in
        let some : 0 < length a = (let q = ap length t.2 in omega (arith, q)) in
        let f = exponent_first e h in
        let some_e : 0 < length e = (let q = ap length f.2 in omega (arith, q)) in
        ap frac_len text ∙ digits_then a (e ++ more) t.4 (exponent_stops e more h)
        ∙ no_point e f ∙ ap (joined_len (length a)) (exponent_more e more h) ∙ joined (length a) (length e + digits_len 10 more) some (omega arith)
        ∙ (let q : length a + (length e + digits_len 10 more) ≡ length (a ++ e) + digits_len 10 more = omega (arith, length-append a e) in q)

pub frac_more : (v more : Bytes) → IsFrac v → Extends v more
frac_more v more (s.pointed a b e da db some s.none) = frac_plain a b more da db some
frac_more v more (s.pointed a b e da db some (s.some x h)) = frac_pointed a b x more da db some h
frac_more v more (s.whole a e da h) = frac_whole a e more da h

pub frac_exact : (v : Bytes) → IsFrac v → frac_len v ≡ length v
frac_exact v h = let f = frac_more v [] h in ap frac_len (sym (append-nil v)) ∙ f.1 ∙ ap (λ n. length v + n) (f.2 refl) ∙ (let q : length v + 0 ≡ length v = omega arith in q)

abbrev pub HasFrac : Bytes → Type 0
HasFrac z = (v : Bytes) × (rest : Bytes) × (z ≡ v ++ rest) × (length v ≡ frac_len z) × IsFrac v

-- what is measured is a spelling
pub frac_cases : (z : Bytes) → (frac_len z ≡ 0) ⊎ HasFrac z
frac_cases z = go (front_of (is_digit_of 10) z).0 (front_of (is_digit_of 10) z).1 (front_of (is_digit_of 10) z).2 (front_of (is_digit_of 10) z).4 (front_of (is_digit_of 10) z).5
  where
    go : (a y : Bytes) → z ≡ a ++ y → are_digits 10 a ≡ true → StopsAt (is_digit_of 10) y → (frac_len z ≡ 0) ⊎ HasFrac z
    go a [] text d st = inl (ap frac_len text ∙ digits_then a [] d tt)
    go a (x ∷ y) text d st = point (cases_Bool (x == 46))
      where
        len : frac_len z ≡ behind_digits (length a) (x ∷ y)
        len = ap frac_len text ∙ digits_then a (x ∷ y) d st

        joined_up : (x == 46) ≡ false → (exponent_len (x ∷ y) ≡ 0) ⊎ HasExponent (x ∷ y) → (frac_len z ≡ 0) ⊎ HasFrac z
        joined_up p (inl none) = inl (len ∙ cond-false (x == 46) _ _ p ∙ ap (joined_len (length a)) none ∙ joined_none (length a))
        joined_up p (inr (e, rest, et, n, h)) = whole a refl
          where
            same : frac_len z ≡ joined_len (length a) (length e)
            same = len ∙ cond-false (x == 46) _ _ p ∙ ap (joined_len (length a)) (sym n)

            whole : (u : Bytes) → a ≡ u → (frac_len z ≡ 0) ⊎ HasFrac z
            whole [] q = inl (same ∙ ap (λ u. joined_len (length u) (length e)) q)
            whole (c ∷ u) q =
                let f = exponent_first e h in
                let some_e : 0 < length e = (let r = ap length f.2 in omega (arith, r)) in
                let some_a : 0 < length a = (let r = ap length q in omega (arith, r)) in
                inr (a ++ e, rest, text ∙ ap (λ w. a ++ w) et ∙ sym (append_assoc a e rest), length-append a e ∙ sym (same ∙ joined (length a) (length e) some_a some_e), s.whole a e (ap (some_digits 10) q ∙ ap (are_digits 10) (sym q) ∙ d) h)

        pointed : (b u : Bytes) → y ≡ b ++ u → (length b ≡ digits_len 10 y) → are_digits 10 b ≡ true → (x == 46) ≡ true → (frac_len z ≡ 0) ⊎ HasFrac z
        pointed b u yt n db p = some (is_end (a ++ b)) refl
          where
            base : frac_len z ≡ pointed_len (length a) (length b) y
            base = len ∙ cond-true (x == 46) _ _ p ∙ ap (λ m. pointed_len (length a) m y) (sym n)

            left_over : drop (length b) y ≡ u
            left_over = ap (drop (length b)) yt ∙ drop_at b u (length b) refl

            whole_text : z ≡ a ++ 46 ∷ (b ++ u)
            whole_text = text ∙ ap (λ w. a ++ w ∷ y) (eqb-true x 46 p) ∙ ap (λ w. a ++ 46 ∷ w) yt

            more : is_end (a ++ b) ≡ false → frac_len z ≡ length a + 1 + length b + exponent_len u
            more q = base ∙ pointed_some (length a) (length b) y (nonempty_length a b q) ∙ ap (λ w. length a + 1 + length b + exponent_len w) left_over

            tail_ : is_end (a ++ b) ≡ false → (exponent_len u ≡ 0) ⊎ HasExponent u → HasFrac z
            tail_ q (inl none) = (
              a ++ 46 ∷ (b ++ []),
              u,
              whole_text ∙ sym (append_assoc a (46 ∷ (b ++ [])) u ∙ ap (λ w. a ++ 46 ∷ (w ++ u)) (append-nil b)),
              (let r : length (a ++ 46 ∷ (b ++ [])) ≡ length a + 1 + length b + exponent_len u = omega (arith, length-append a (46 ∷ (b ++ [])), length-append b [], none) in r ∙ sym (more q)),
              s.pointed a b [] d db q s.none,
            )
            tail_ q (inr (e, rest, et, k, h)) = (
              a ++ 46 ∷ (b ++ e),
              rest,
              whole_text ∙ ap (λ w. a ++ 46 ∷ (b ++ w)) et ∙ sym (append_assoc a (46 ∷ (b ++ e)) rest ∙ ap (λ w. a ++ 46 ∷ w) (append_assoc b e rest)),
              (let r : length (a ++ 46 ∷ (b ++ e)) ≡ length a + 1 + length b + exponent_len u = omega (arith, length-append a (46 ∷ (b ++ e)), length-append b e, k) in r ∙ sym (more q)),
              s.pointed a b e d db q (s.some e h),
            )

            some : (t : Bool) → is_end (a ++ b) ≡ t → (frac_len z ≡ 0) ⊎ HasFrac z
            some false q = inr (tail_ q (exponent_cases u))
            some true q = inl (none_at a b q refl refl)
              where
                none_at : (a_ b_ : Bytes) → is_end (a_ ++ b_) ≡ true → a ≡ a_ → b ≡ b_ → frac_len z ≡ 0
                none_at [] [] q ea eb = base ∙ ap (λ w. pointed_len (length w) (length b) y) ea ∙ ap (λ w. pointed_len 0 (length w) y) eb
                none_at [] (c ∷ w) q ea eb = cc
                none_at (c ∷ v) w q ea eb = cc

        point : ((x == 46) ≡ true) ⊎ ((x == 46) ≡ false) → (frac_len z ≡ 0) ⊎ HasFrac z
        point (inr p) = joined_up p (exponent_cases (x ∷ y))
        point (inl p) = let f = front_of (is_digit_of 10) y in pointed f.0 f.1 f.2 f.3 f.4 p

-- a number with a point or an exponent has more than its front digits
pub frac_past : (z : Bytes) → (frac_len z ≡ 0) ⊎ (digits_len 10 z < frac_len z)
unfolding frac_len
frac_past z = go (digits_len 10 z) (drop (digits_len 10 z) z)
  where
    go : (whole : ℕ) (y : Bytes) → (behind_digits whole y ≡ 0) ⊎ (whole < behind_digits whole y)
    go whole [] = inl refl
    go whole (x ∷ y) = at_point (cases_Bool (x == 46))
      where
        at_joined : (joined_len whole (exponent_len (x ∷ y)) ≡ 0) ⊎ ((0 < whole) × (0 < exponent_len (x ∷ y)) × (joined_len whole (exponent_len (x ∷ y)) ≡ whole + exponent_len (x ∷ y))) → (x == 46) ≡ false → (behind_digits whole (x ∷ y) ≡ 0) ⊎ (whole < behind_digits whole (x ∷ y))
        at_joined (inl none) p = inl (cond-false (x == 46) _ _ p ∙ none)
        at_joined (inr j) p = inr (let q : behind_digits whole (x ∷ y) ≡ whole + exponent_len (x ∷ y) = cond-false (x == 46) _ _ p ∙ j.2 in omega (arith, q, j.1))

        at_some : (n : ℕ) → whole + digits_len 10 y ≡ n → (x == 46) ≡ true → (behind_digits whole (x ∷ y) ≡ 0) ⊎ (whole < behind_digits whole (x ∷ y))
        at_some zero e p = inl (cond-true (x == 46) _ _ p ∙ cond-true (whole + digits_len 10 y == 0) _ _ (ap (λ n. n == 0) e))
        at_some (suc n) e p = inr (let q : behind_digits whole (x ∷ y) ≡ whole + 1 + digits_len 10 y + exponent_len (drop (digits_len 10 y) y) = cond-true (x == 46) _ _ p ∙ pointed_some whole (digits_len 10 y) y (omega arith) in omega (arith, q))

        at_point : ((x == 46) ≡ true) ⊎ ((x == 46) ≡ false) → (behind_digits whole (x ∷ y) ≡ 0) ⊎ (whole < behind_digits whole (x ∷ y))
        at_point (inl p) = at_some (whole + digits_len 10 y) refl p
        at_point (inr p) = at_joined (joined_cases whole (exponent_len (x ∷ y))) p

-- ---- integers

abbrev read_int : ℕ → Bytes → ℕ → Kind × ℕ
read_int base w n = (kind.Int (pos (digits_value base w)), n)

int_is : (z w rest : Bytes) (base skip : ℕ) → base_of z ≡ (base, skip) → drop skip z ≡ w ++ rest → digits_len base (w ++ rest) ≡ length w → int_at z ≡ read_int base w (skip + length w)
unfolding int_at
int_is z w rest base skip b d n =
    ap (λ (x : ℕ × ℕ). int_from x z) b ∙ ap (λ y. read_int base (take (digits_len base y) y) (skip + digits_len base y)) d
    ∙ ap (λ k. read_int base (take k (w ++ rest)) (skip + k)) n ∙ ap (λ x. read_int base x (skip + length w)) (take_at w rest (length w) refl)

hex_at : (x : ℕ) (w more : Bytes) → is_hex_mark x ≡ true → some_digits 16 w ≡ true → is_hex (48 ∷ x ∷ (w ++ more)) ≡ true
hex_at x w more h d = let t = some_are 16 w d in and_from (is_hex_mark x) _ h (ap (λ v. is_digit_of 16 (first (v ++ more))) t.2 ∙ t.3)

no_hex : (b : ℕ) (y : Bytes) → (b == 48) ≡ false → is_hex (b ∷ y) ≡ false
no_hex b [] h = refl
no_hex b (x ∷ y) h = ap (λ t. t && (is_hex_mark x && is_digit_of 16 (first y))) h

octal_hex : (w : Bytes) → are_digits 8 w ≡ true → is_hex (48 ∷ w) ≡ false
octal_hex [] h = refl
octal_hex (x ∷ w) h = ap (λ t. t && is_digit_of 16 (first w)) (octal_no_hex x (and_parts (is_digit_of 8 x) (are_digits 8 w) h).0)

octal_base : (y : Bytes) → is_hex (48 ∷ y) ≡ false → base_of (48 ∷ y) ≡ (8, 0)
octal_base y h = cond-false (is_hex (48 ∷ y)) _ _ h

decimal_base : (b : ℕ) (y : Bytes) → (b == 48) ≡ false → base_of (b ∷ y) ≡ (10, 0)
decimal_base b y h = cond-false (is_hex (b ∷ y)) _ _ (no_hex b y h) ∙ cond-false (b == 48) _ _ h

hex_base : (y : Bytes) → is_hex (48 ∷ y) ≡ true → base_of (48 ∷ y) ≡ (16, 2)
hex_base y h = cond-true (is_hex (48 ∷ y)) _ _ h

-- digits at the front, and then what is left
abbrev Measures : Bytes → ℕ → ℕ → Type 0
Measures z base skip = (w : Bytes) × (rest : Bytes) × (drop skip z ≡ w ++ rest) × (int_at z ≡ read_int base w (skip + length w)) × (are_digits base w ≡ true) × (length w ≡ digits_len base (drop skip z))

measures : (z : Bytes) (base skip : ℕ) → base_of z ≡ (base, skip) → Measures z base skip
measures z base skip b =
    let f = front_of (is_digit_of base) (drop skip z) in
    (f.0, f.1, f.2, int_is z f.0 f.1 base skip b f.2 (ap (digits_len base) (sym f.2) ∙ sym f.3), f.4, f.3)

int_reach : (z : Bytes) (base skip k : ℕ) → base_of z ≡ (base, skip) → k ≤ digits_len base (drop skip z) → skip + k ≤ (int_at z).1
int_reach z base skip k b h =
    let m = measures z base skip b in
    let e : (int_at z).1 ≡ skip + length m.0 = ap (λ (x : Kind × ℕ). x.1) m.3 in
    omega (arith, e, m.5)

pub int_len : (v more : Bytes) (n : ℕ) → IsInt v n → length v ≤ (int_at (v ++ more)).1
int_len v more n (s.decimal b w h d) =
    let r = int_reach (b ∷ (w ++ more)) 10 0 (length (b ∷ w)) (decimal_base b (w ++ more) h) (let f = front_more (is_digit_of 10) (b ∷ w) more d in omega (arith, f)) in omega (arith, r)
int_len v more n (s.hex x w h d) =
    let t = some_are 16 w d in
    let r = int_reach (48 ∷ x ∷ (w ++ more)) 16 2 (length w) (hex_base (x ∷ (w ++ more)) (hex_at x w more h d)) (let f = front_more (is_digit_of 16) w more t.4 in omega (arith, f)) in omega (arith, r)
int_len v more n (s.octal w d) = go w d (is_hex (48 ∷ (w ++ more))) refl
  where
    go : (w : Bytes) → are_digits 8 w ≡ true → (t : Bool) → is_hex (48 ∷ (w ++ more)) ≡ t → length (48 ∷ w) ≤ (int_at (48 ∷ (w ++ more))).1
    go w d false h =
        let all : are_digits 8 (48 ∷ w) ≡ true = and_from (is_digit_of 8 48) (are_digits 8 w) zero_octal d in
        let r = int_reach (48 ∷ (w ++ more)) 8 0 (length (48 ∷ w)) (octal_base (w ++ more) h) (let f = front_more (is_digit_of 8) (48 ∷ w) more all in omega (arith, f)) in omega (arith, r)
    go [] d true h = let r = int_reach (48 ∷ more) 16 2 0 (hex_base more h) (omega arith) in omega (arith, r)
    go (x ∷ w) d true h = clash (is_hex_mark x) (and_parts (is_hex_mark x) (is_digit_of 16 (first (w ++ more))) h).0 (octal_no_hex x (and_parts (is_digit_of 8 x) (are_digits 8 w) d).0)

whole_int : (z : Bytes) (base skip : ℕ) (w : Bytes) → base_of z ≡ (base, skip) → drop skip z ≡ w → are_digits base w ≡ true → int_at z ≡ read_int base w (skip + length w)
whole_int z base skip w b e d = int_is z w [] base skip b (e ∙ sym (append-nil w)) (ap (digits_len base) (append-nil w) ∙ front_whole (is_digit_of base) w d)

pub int_exact : (v : Bytes) (n : ℕ) → IsInt v n → int_at v ≡ (kind.Int (pos n), length v)
int_exact v n (s.decimal b w h d) = whole_int (b ∷ w) 10 0 (b ∷ w) (decimal_base b w h) refl d ∙ ap (read_int 10 (b ∷ w)) (let e : 0 + length (b ∷ w) ≡ length (b ∷ w) = omega arith in e)
int_exact v n (s.octal w d) =
    whole_int (48 ∷ w) 8 0 (48 ∷ w) (octal_base w (octal_hex w d)) refl (and_from (is_digit_of 8 48) (are_digits 8 w) zero_octal d) ∙ ap (read_int 8 (48 ∷ w)) (let e : 0 + length (48 ∷ w) ≡ length (48 ∷ w) = omega arith in e)
int_exact v n (s.hex x w h d) =
    let t = some_are 16 w d in
    let is : is_hex (48 ∷ x ∷ w) ≡ true = ap (λ u. is_hex (48 ∷ x ∷ u)) (sym (append-nil w)) ∙ hex_at x w [] h d in
    whole_int (48 ∷ x ∷ w) 16 2 w (hex_base (x ∷ w) is) refl t.4 ∙ ap (read_int 16 w) (let e : 2 + length w ≡ length (48 ∷ x ∷ w) = omega arith in e)

hex_no_frac : (x : ℕ) (y : Bytes) → is_hex_mark x ≡ true → frac_len (48 ∷ x ∷ y) ≡ 0
unfolding exponent_len
hex_no_frac x y h =
    digits_then (48 ∷ []) (x ∷ y) (and_from (is_digit_of 10 48) true (octal_decimal 48 zero_octal) refl) (hex_no_digit x h)
    ∙ cond-false (x == 46) _ _ (hex_no_point x h) ∙ ap (λ m. joined_len 1 (joined_len m (digits_len 10 (drop m (x ∷ y))))) (cond-false (is_exponent_mark x) _ 0 (hex_no_exponent x h))

digits_past : (v more : Bytes) → are_digits 10 v ≡ true → (frac_len (v ++ more) ≡ 0) ⊎ (length v < frac_len (v ++ more))
digits_past v more d = go (frac_past (v ++ more))
  where
    go : (frac_len (v ++ more) ≡ 0) ⊎ (digits_len 10 (v ++ more) < frac_len (v ++ more)) → (frac_len (v ++ more) ≡ 0) ⊎ (length v < frac_len (v ++ more))
    go (inl none) = inl none
    go (inr past) = inr (omega (arith, past, front_more (is_digit_of 10) v more d))

digits_only : (v : Bytes) → are_digits 10 v ≡ true → frac_len v ≡ 0
digits_only v d = ap frac_len (sym (append-nil v)) ∙ digits_then v [] d tt

-- where a longer number has a point or an exponent
pub int_or_frac : (v more : Bytes) (n : ℕ) → IsInt v n → (frac_len (v ++ more) ≡ 0) ⊎ (length v < frac_len (v ++ more))
int_or_frac v more n (s.decimal b w h d) = digits_past (b ∷ w) more d
int_or_frac v more n (s.octal w d) = digits_past (48 ∷ w) more (and_from (is_digit_of 10 48) (are_digits 10 w) (octal_decimal 48 zero_octal) (octals_decimals w d))
int_or_frac v more n (s.hex x w h d) = inl (hex_no_frac x (w ++ more) h)

pub int_no_frac : (v : Bytes) (n : ℕ) → IsInt v n → frac_len v ≡ 0
int_no_frac v n (s.decimal b w h d) = digits_only (b ∷ w) d
int_no_frac v n (s.octal w d) = digits_only (48 ∷ w) (and_from (is_digit_of 10 48) (are_digits 10 w) (octal_decimal 48 zero_octal) (octals_decimals w d))
int_no_frac v n (s.hex x w h d) = hex_no_frac x w h

abbrev pub HasInt : Bytes → Type 0
HasInt z = (v : Bytes) × (rest : Bytes) × (n : ℕ) × (z ≡ v ++ rest) × (int_at z ≡ (kind.Int (pos n), length v)) × IsInt v n

pub int_cases : (b : ℕ) (y : Bytes) → is_digit_of 10 b ≡ true → HasInt (b ∷ y)
int_cases b y d = is_zero (b == 48) refl
  where
    decimal : (b == 48) ≡ false → Measures (b ∷ y) 10 0 → HasInt (b ∷ y)
    decimal h ([], rest, e, i, ds, n) = let q : digits_len 10 (b ∷ y) ≡ 1 + digits_len 10 y = cond-true (is_digit_of 10 b) _ _ d in absurd (omega (arith, n, q))
    decimal h (c ∷ w, rest, e, i, ds, n) =
        let q = same_head b c y (w ++ rest) e in
        (c ∷ w, rest, digits_value 10 (c ∷ w), e, i ∙ ap (read_int 10 (c ∷ w)) (let e : 0 + length (c ∷ w) ≡ length (c ∷ w) = omega arith in e), s.decimal c w (ap (λ x. x == 48) (sym q.0) ∙ h) ds)

    octal : (z : Bytes) → Measures (48 ∷ z) 8 0 → HasInt (48 ∷ z)
    octal z ([], rest, e, i, ds, n) = let q : digits_len 8 (48 ∷ z) ≡ 1 + digits_len 8 z = cond-true (is_digit_of 8 48) _ _ zero_octal in absurd (omega (arith, n, q))
    octal z (c ∷ w, rest, e, i, ds, n) =
        let q = same_head 48 c z (w ++ rest) e in
        let all : are_digits 8 w ≡ true = (and_parts (is_digit_of 8 c) (are_digits 8 w) ds).1 in
        (48 ∷ w, rest, digits_value 8 (48 ∷ w), e ∙ ap (λ x. x ∷ (w ++ rest)) (sym q.0), i ∙ ap (λ x. read_int 8 (x ∷ w) (0 + length (c ∷ w))) (sym q.0) ∙ ap (read_int 8 (48 ∷ w)) (let e : 0 + length (c ∷ w) ≡ length (48 ∷ w) = omega arith in e), s.octal w all)

    hex : (z : Bytes) → is_hex (48 ∷ z) ≡ true → HasInt (48 ∷ z)
    hex [] h = cc
    hex (x ∷ z) h = go (measures (48 ∷ x ∷ z) 16 2 (hex_base (x ∷ z) h)) z refl
      where
        p : (is_hex_mark x ≡ true) × (is_digit_of 16 (first z) ≡ true)
        p = and_parts (is_hex_mark x) (is_digit_of 16 (first z)) h

        go : Measures (48 ∷ x ∷ z) 16 2 → (u : Bytes) → z ≡ u → HasInt (48 ∷ x ∷ z)
        go (c ∷ w, rest, e, i, ds, n) u q =
            (48 ∷ x ∷ c ∷ w, rest, digits_value 16 (c ∷ w), ap (λ y. 48 ∷ x ∷ y) e, i ∙ ap (read_int 16 (c ∷ w)) (let e : 2 + length (c ∷ w) ≡ length (48 ∷ x ∷ c ∷ w) = omega arith in e), s.hex x (c ∷ w) p.0 ds)
        go ([], rest, e, i, ds, n) [] q = clash (is_digit_of 16 0) (ap (λ u. is_digit_of 16 (first u)) (sym q) ∙ p.1) nul_no_digit
        go ([], rest, e, i, ds, n) (c ∷ u) q =
            let r : digits_len 16 z ≡ 1 + digits_len 16 u = ap (digits_len 16) q ∙ cond-true (is_digit_of 16 c) _ _ (ap (λ u. is_digit_of 16 (first u)) (sym q) ∙ p.1) in absurd (omega (arith, n, r))

    zero_first : (z : Bytes) (t : Bool) → is_hex (48 ∷ z) ≡ t → HasInt (48 ∷ z)
    zero_first z true h = hex z h
    zero_first z false h = octal z (measures (48 ∷ z) 8 0 (octal_base z h))

    is_zero : (t : Bool) → (b == 48) ≡ t → HasInt (b ∷ y)
    is_zero true h = subst (λ x. HasInt (x ∷ y)) (sym (eqb-true b 48 h)) (zero_first y (is_hex (48 ∷ y)) refl)
    is_zero false h = decimal h (measures (b ∷ y) 10 0 (decimal_base b y h))

some_len : (base : ℕ) (z : Bytes) → is_digit_of base 0 ≡ false → is_digit_of base (first z) ≡ true → 0 < digits_len base z
some_len base [] n d = clash (is_digit_of base 0) d n
some_len base (b ∷ z) n d = let q : digits_len base (b ∷ z) ≡ 1 + digits_len base z = cond-true (is_digit_of base b) _ _ d in omega (arith, q)

nul_is_no_digit : (is_digit_of 8 0 ≡ false) × (is_digit_of 10 0 ≡ false) × (is_digit_of 16 0 ≡ false)
unfolding is_digit_of
nul_is_no_digit = (refl, refl, refl)

pub some_int_digits : (z : Bytes) → is_digit_of 10 (first z) ≡ true → 0 < digits_len (base_of z).0 (drop (base_of z).1 z)
some_int_digits z d = hex (cases_Bool (is_hex z))
  where
    measured : (b : ℕ × ℕ) → base_of z ≡ b → 0 < digits_len b.0 (drop b.1 z) → 0 < digits_len (base_of z).0 (drop (base_of z).1 z)
    measured b e h = subst (λ (x : ℕ × ℕ). 0 < digits_len x.0 (drop x.1 z)) (sym e) h

    hex_some : (z : Bytes) → is_hex z ≡ true → 0 < digits_len 16 (drop 2 z)
    hex_some [] h = cc
    hex_some (b ∷ []) h = cc
    hex_some (b ∷ x ∷ z) h =
        let p = and_parts (b == 48) (is_hex_mark x && is_digit_of 16 (first z)) h in
        some_len 16 z nul_is_no_digit.2 (and_parts (is_hex_mark x) (is_digit_of 16 (first z)) p.1).1

    zero_ : is_hex z ≡ false → ((first z == 48) ≡ true) ⊎ ((first z == 48) ≡ false) → 0 < digits_len (base_of z).0 (drop (base_of z).1 z)
    zero_ h (inl q) = measured (8, 0) (cond-false (is_hex z) _ _ h ∙ cond-true (first z == 48) _ _ q) (some_len 8 z nul_is_no_digit.0 (ap (is_digit_of 8) (eqb-true (first z) 48 q) ∙ zero_octal))
    zero_ h (inr q) = measured (10, 0) (cond-false (is_hex z) _ _ h ∙ cond-false (first z == 48) _ _ q) (some_len 10 z nul_is_no_digit.1 d)

    hex : (is_hex z ≡ true) ⊎ (is_hex z ≡ false) → 0 < digits_len (base_of z).0 (drop (base_of z).1 z)
    hex (inl h) = measured (16, 2) (cond-true (is_hex z) _ _ h) (hex_some z h)
    hex (inr h) = zero_ h (cases_Bool (first z == 48))
