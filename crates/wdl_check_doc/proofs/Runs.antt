-- Runs of lists.
use Rattle.std.proofs.Common.{◌≡◌, ℕ, zero, suc, ◌-◌, min, List, [], ◌∷◌, drop, length, length-drop, map, take, refl, sym, ap, ◌∙◌, arith}

take_none : {A : Type 0} (n : ℕ) → take {A = A} n [] ≡ []
take_none zero = refl
take_none (suc n) = refl

take_min : {A : Type 0} (ys : List A) (count m : ℕ) → m ≡ min count (length ys) → take m ys ≡ take count ys
take_min [] count m h = take_none m ∙ sym (take_none count)
take_min (y ∷ ys) zero zero h = refl
take_min (y ∷ ys) zero (suc m) h = absurd (omega (arith, h))
take_min (y ∷ ys) (suc count) zero h = absurd (omega (arith, h))
take_min {A} (y ∷ ys) (suc count) (suc m) h = ap (λ (zs : List A). y ∷ zs) (take_min ys count m (omega (arith, h)))

map_take : {A B : Type 0} (f : A → B) (n : ℕ) (xs : List A) → map f (take n xs) ≡ take n (map f xs)
map_take f zero [] = refl
map_take f (suc n) [] = refl
map_take f zero (x ∷ xs) = refl
map_take {A} {B} f (suc n) (x ∷ xs) = ap (λ (zs : List B). f x ∷ zs) (map_take f n xs)

map_drop : {A B : Type 0} (f : A → B) (n : ℕ) (xs : List A) → map f (drop n xs) ≡ drop n (map f xs)
map_drop f zero [] = refl
map_drop f (suc n) [] = refl
map_drop f zero (x ∷ xs) = refl
map_drop f (suc n) (x ∷ xs) = map_drop f n xs

take_all : {A : Type 0} (n : ℕ) (ys : List A) → n ≡ length ys → take n ys ≡ ys
take_all zero [] h = refl
take_all (suc n) [] h = refl
take_all zero (y ∷ ys) h = absurd (omega (arith, h))
take_all {A} (suc n) (y ∷ ys) h = ap (λ (zs : List A). y ∷ zs) (take_all n ys (omega (arith, h)))

pub run_is : {A B : Type 0} (f : A → B) (xs : List A) (from count m : ℕ) → m ≡ min count (length xs - from)
    → map f (take m (take (length xs - from) (drop from xs))) ≡ take count (drop from (map f xs))
run_is {A} {B} f xs from count m h =
    let long : length xs - from ≡ length (drop from xs) = omega (arith, length-drop from xs) in
    ap (λ (zs : List A). map f (take m zs)) (take_all (length xs - from) (drop from xs) long)
    ∙ ap (map f) (take_min (drop from xs) count m (h ∙ ap (min count) long))
    ∙ map_take f count (drop from xs)
    ∙ ap (take count) (map_drop f from xs)
