-- What is past a limit stays past it where more is added.
use Rattle.std.proofs.Common.{◌≡◌, ◌<◌, ◌≤◌, nat_lt, Bool, true, false, ◌||◌, List, ◌++◌, length, length-append, ap, ◌∙◌, refl, arith}
use Rattle.std.proofs.lemmas.Bool.{lt-ltb, ltb-true}
use Rattle.std.proofs.Math.Bool.{or-true}
use Rattle.wdl_typed.specs.Flow.{Flowing, together, too_many}

pub bigger : (f g : Flowing) → length f.jobs ≤ length g.jobs → f.count ≤ g.count → too_many f ≡ true → too_many g ≡ true
bigger f g jobs count h = by_jobs (nat_lt 20000 (length f.jobs)) refl h
  where
    by_jobs : (b : Bool) → nat_lt 20000 (length f.jobs) ≡ b → (b || nat_lt 1000000 f.count) ≡ true → too_many g ≡ true
    by_jobs true e k =
        let past : 20000 < length f.jobs = ltb-true 20000 (length f.jobs) e in
        ap (λ b. b || nat_lt 1000000 g.count) (lt-ltb 20000 (length g.jobs) (omega (arith, past, jobs)))
    by_jobs false e k =
        let past : 1000000 < f.count = ltb-true 1000000 f.count k in
        ap (λ b. nat_lt 20000 (length g.jobs) || b) (lt-ltb 1000000 g.count (omega (arith, past, count)))
        ∙ or-true (nat_lt 20000 (length g.jobs))

left_le : {A : Type 0} (xs ys : List A) → length xs ≤ length (xs ++ ys)
left_le xs ys = let e = length-append xs ys in omega (arith, e)

right_le : {A : Type 0} (xs ys : List A) → length ys ≤ length (xs ++ ys)
right_le xs ys = let e = length-append xs ys in omega (arith, e)

pub many_left : (f g : Flowing) → too_many f ≡ true → too_many (together f g) ≡ true
many_left f g = bigger f (together f g) (left_le f.jobs g.jobs) (omega arith)

pub many_right : (f g : Flowing) → too_many g ≡ true → too_many (together f g) ≡ true
many_right f g = bigger g (together f g) (right_le f.jobs g.jobs) (omega arith)
