-- The new names of tasks are names.
use Rattle.std.proofs.Common.{◌≡◌, ℕ, ◌^◌, ◌<◌, ◌≤◌, Bool, true, false, ◌&&◌, ◌||◌, ◌==◌, List, [], ◌∷◌, ◌++◌, length, codes, refl, arith, length-append}
use Rattle.std.proofs.lemmas.Bool.Decides.{nat_tests}
use Rattle.std.proofs.lemmas.Fmt.{decimal_is_IsNumeral, length-decimal-le}
use Rattle.std.proofs.lemmas.Str.Parse.{digit_from_value}
use Rattle.std.specs.Char.{is_ascii_alphanumeric}
use Rattle.std.specs.Fmt.{decimal}
use Rattle.std.specs.Str.Parse.{AllDigits}
use Rattle.wdl_base.specs.Names.{is_among, is_name, is_word_from, reserved_words}

digits : (ds : List ℕ) → AllDigits 10 ds → is_word_from ds ≡ true
digits [] h = refl
digits (d ∷ ds) h = let k = digit_from_value d h.0 in grind (arith, nat_tests, digits ds h.1)

number : (n : ℕ) → n < 2 ^ 64 → is_word_from (decimal n) ≡ true
number n h = digits (decimal n) (decimal_is_IsNumeral n h).0.1

short : (n : ℕ) → n < 2 ^ 64 → length (decimal n) ≤ 20
short n h = length-decimal-le 20 n (omega arith) (omega arith) h

under : (first more both : Bool) → first && more ≡ true → (more ≡ true → both ≡ true) → first && both ≡ true
under true more both h f = f h
under false more both h f = h

joined : (xs ys : List ℕ) → is_word_from xs ≡ true → is_word_from ys ≡ true → is_word_from (xs ++ ys) ≡ true
joined [] ys h k = k
joined (x ∷ xs) ys h k =
    under (is_ascii_alphanumeric x || x == 95) (is_word_from xs) (is_word_from (xs ++ ys)) h (λ more. joined xs ys more k)

-- no reserved word begins so
not_reserved : (tail : List ℕ) → is_among (codes "task_" ++ tail) reserved_words ≡ false
unfolding reserved_words
not_reserved tail = refl

named : (tail : List ℕ) → length tail ≤ 123 → is_word_from tail ≡ true → is_name (codes "task_" ++ tail) ≡ true
named tail few word = let free = not_reserved tail in grind (arith, nat_tests)

pub pair_is_name : (doc task : ℕ) → doc < 2 ^ 64 → task < 2 ^ 64 → is_name (codes "task_" ++ (decimal doc ++ (codes "_" ++ decimal task))) ≡ true
pair_is_name doc task d k =
    let a = short doc d in
    let b = short task k in
    named (decimal doc ++ (codes "_" ++ decimal task))
    (simp length-append (omega arith))
    (joined (decimal doc) (codes "_" ++ decimal task) (number doc d) (joined (codes "_") (decimal task) refl (number task k)))

pub triple_is_name : (doc task n : ℕ) → doc < 2 ^ 64 → task < 2 ^ 64 → n < 2 ^ 64
    → is_name (codes "task_" ++ (decimal doc ++ (codes "_" ++ (decimal task ++ (codes "_" ++ decimal n))))) ≡ true
triple_is_name doc task n d k m =
    let a = short doc d in
    let b = short task k in
    let e = short n m in
    named (decimal doc ++ (codes "_" ++ (decimal task ++ (codes "_" ++ decimal n))))
    (simp length-append (omega arith))
    (joined (decimal doc) (codes "_" ++ (decimal task ++ (codes "_" ++ decimal n))) (number doc d)
    (joined (codes "_") (decimal task ++ (codes "_" ++ decimal n)) refl
    (joined (decimal task) (codes "_" ++ decimal n) (number task k) (joined (codes "_") (decimal n) refl (number n m)))))
