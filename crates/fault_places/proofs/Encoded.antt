-- In a text of UTF-8 each character has one byte with which it begins.
use Rattle.std.proofs.Common.{◌≡◌, ℕ, ◌+◌, ◌/◌, ◌%◌, ◌<◌, ◌≤◌, Bool, true, false, not, cond, ◌&&◌, List, [], ◌∷◌, length, nat_le, nat_lt, ap, ◌∙◌, refl, arith, zero-add}
use Rattle.std.specs.Str.{encode_utf8_all}
use Rattle.std.proofs.Math.Nat.{mod-lt}
use Rattle.std.proofs.lemmas.Bool.{lt-leb, le-leb, lt-ltb, le-ltb, ltb-true}
use Rattle.std.proofs.lemmas.List.Sums.{sum_by-append, sum_by-cons}
use lib.Utf8.{encode, next}
use Rattle.fault_places.specs.Positions.{continues, characters}

and_true : (a b : Bool) → a ≡ true → b ≡ true → (a && b) ≡ true
and_true true b e f = f
and_true false b e f = e

and_false : (a b : Bool) → b ≡ false → (a && b) ≡ false
and_false true b f = f
and_false false b f = refl

-- a byte below 128 begins a character, and so does one from 192 on
begins-low : (b : ℕ) → b < 128 → continues b ≡ false
begins-low b h = ap (λ x. x && nat_lt b 192) (lt-leb 128 b h)

begins-high : (b : ℕ) → 192 ≤ b → continues b ≡ false
begins-high b h = and_false (nat_le 128 b) (nat_lt b 192) (le-ltb b 192 h)

goes_on : (bits : ℕ) → continues (next bits) ≡ true
goes_on bits =
    let small : bits % 64 < 64 = mod-lt bits (omega arith) in
    and_true (nat_le 128 (128 + bits % 64)) (nat_lt (128 + bits % 64) 192)
    (le-leb 128 (128 + bits % 64) (omega arith)) (lt-ltb (128 + bits % 64) 192 (omega (arith, small)))

characters-first : (b : ℕ) (bytes : List ℕ) → continues b ≡ false → characters (b ∷ bytes) ≡ 1 + characters bytes
characters-first b bytes e =
    sum_by-cons (λ x. cond (not (continues x)) 1 0) b bytes ∙ ap (λ x. cond (not x) 1 0 + characters bytes) e

characters-next : (bits : ℕ) (bytes : List ℕ) → characters (next bits ∷ bytes) ≡ characters bytes
characters-next bits bytes =
    sum_by-cons (λ x. cond (not (continues x)) 1 0) (next bits) bytes
    ∙ ap (λ x. cond (not x) 1 0 + characters bytes) (goes_on bits) ∙ zero-add (characters bytes)

either : (b : Bool) (xs ys : List ℕ) → (b ≡ true → characters xs ≡ 1) → (b ≡ false → characters ys ≡ 1) → characters (cond b xs ys) ≡ 1
either true xs ys f g = f refl
either false xs ys f g = g refl

characters-encode : (c : ℕ) → characters (encode c) ≡ 1
unfolding encode
characters-encode c =
    let one : List ℕ = next c ∷ [] in
    let two : List ℕ = next (c / 64) ∷ one in
    let three : List ℕ = next (c / 4096) ∷ two in
    let none : characters one ≡ 0 = characters-next c [] in
    let none_of_two : characters two ≡ 0 = characters-next (c / 64) one ∙ none in
    let none_of_three : characters three ≡ 0 = characters-next (c / 4096) two ∙ none_of_two in
    let second : 192 ≤ 192 + c / 64 = omega arith in
    let third : 192 ≤ 224 + c / 4096 = omega arith in
    let fourth : 192 ≤ 240 + c / 262144 = omega arith in
    either (nat_lt c 128) _ _ (λ small. characters-first c [] (begins-low c (ltb-true c 128 small)))
    (λ _. either (nat_lt c 2048) _ _
    (λ _. characters-first (192 + c / 64) one (begins-high (192 + c / 64) second) ∙ ap (λ n. 1 + n) none)
    (λ _. either (nat_lt c 65536) _ _
    (λ _. characters-first (224 + c / 4096) two (begins-high (224 + c / 4096) third) ∙ ap (λ n. 1 + n) none_of_two)
    (λ _. characters-first (240 + c / 262144) three (begins-high (240 + c / 262144) fourth) ∙ ap (λ n. 1 + n) none_of_three)))

pub characters-encodes : (cs : List ℕ) → characters (encode_utf8_all cs) ≡ length cs
characters-encodes [] = refl
characters-encodes (c ∷ cs) =
    let longer : 1 + length cs ≡ length (c ∷ cs) = omega arith in
    sum_by-append (λ x. cond (not (continues x)) 1 0) (encode c) (encode_utf8_all cs)
    ∙ ap (λ n. n + characters (encode_utf8_all cs)) (characters-encode c)
    ∙ ap (λ n. 1 + n) (characters-encodes cs)
    ∙ longer
