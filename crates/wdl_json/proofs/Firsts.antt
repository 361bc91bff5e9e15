-- The first input in the text.
use Rattle.std.proofs.Common.{◌≡◌, ℕ, suc, ◌+◌, ◌<◌, ◌≤◌, nat_lt, Bool, true, false, cond, List, [], ◌∷◌, length, drop, get_or, drop-cons, Option, Some, None, refl, sym, ap, ◌∙◌, arith}
use Rattle.std.proofs.lemmas.Bool.{false≢true}
use Rattle.std.proofs.lemmas.Bool.Decides.{nat_tests}
use Rattle.std.proofs.lemmas.Option.{same_Some}
use Rattle.wdl_typed.specs.declared.task.TInput.{TInput}
use Rattle.wdl_json.specs.Inputs.{sooner, first_of}
use Rattle.wdl_json.specs.Sooner.{joined}
use Rattle.wdl_json.specs.Laws.{NoneBefore}

-- the first of three, from the left and from the right
picked : (i j : TInput) (b : Bool) → nat_lt j.span.start i.span.start ≡ b → sooner i (Some j) ≡ cond b j i
picked i j b h = ap (λ (c : Bool). cond c j i) h

three : (i j k : TInput) → sooner (sooner i (Some j)) (Some k) ≡ sooner i (Some (sooner j (Some k)))
three i j k = by_tests (nat_lt j.span.start i.span.start) refl (nat_lt k.span.start j.span.start) refl
  where
    left : (a : Bool) → nat_lt j.span.start i.span.start ≡ a → sooner (sooner i (Some j)) (Some k) ≡ sooner (cond a j i) (Some k)
    left a e = ap (λ (x : TInput). sooner x (Some k)) (picked i j a e)

    right : (b : Bool) → nat_lt k.span.start j.span.start ≡ b → sooner i (Some (sooner j (Some k))) ≡ sooner i (Some (cond b k j))
    right b f = ap (λ (x : TInput). sooner i (Some x)) (picked j k b f)

    by_tests : (a : Bool) → nat_lt j.span.start i.span.start ≡ a → (b : Bool) → nat_lt k.span.start j.span.start ≡ b → sooner (sooner i (Some j)) (Some k) ≡ sooner i (Some (sooner j (Some k)))
    by_tests true e true f =
        let g : nat_lt k.span.start i.span.start ≡ true = grind (arith, nat_tests) in
        left true e ∙ picked j k true f ∙ sym (right true f ∙ picked i k true g)
    by_tests true e false f = left true e ∙ picked j k false f ∙ sym (right false f ∙ picked i j true e)
    by_tests false e true f = left false e ∙ sym (right true f)
    by_tests false e false f =
        let g : nat_lt k.span.start i.span.start ≡ false = grind (arith, nat_tests) in
        left false e ∙ picked i k false g ∙ sym (right false f ∙ picked i j false e)

joined_more : (a b c : Option TInput) → joined (joined a b) c ≡ joined a (joined b c)
joined_more None b c = refl
joined_more (Some i) None c = refl
joined_more (Some i) (Some j) None = refl
joined_more (Some i) (Some j) (Some k) = ap Some (three i j k)

first_next : (test : TInput → Bool) (i : TInput) (is : List TInput) → first_of test (i ∷ is) ≡ joined (cond (test i) (Some i) None) (first_of test is)
first_next test i is = by_test (test i)
  where
    by_test : (b : Bool) → cond b (Some (sooner i (first_of test is))) (first_of test is) ≡ joined (cond b (Some i) None) (first_of test is)
    by_test true = refl
    by_test false = refl

-- a step of a loop over inputs
pub first_step : (test : TInput → Bool) (is : List TInput) (k : ℕ) (i : TInput) (b : Bool) (old new : Option TInput) → k < length is → i ≡ get_or is k i → b ≡ test i
    → new ≡ joined old (cond b (Some i) None) → joined new (first_of test (drop (k + 1) is)) ≡ joined old (first_of test (drop k is))
first_step test is k i b old new within at tested grown =
    let one : suc k ≡ k + 1 = omega arith in
    let next : drop k is ≡ i ∷ drop (k + 1) is = drop-cons is k i within ∙ ap (λ x. x ∷ drop (suc k) is) (sym at) ∙ ap (λ j. i ∷ drop j is) one in
    let rest = first_of test (drop (k + 1) is) in
    ap (λ o. joined o rest) grown
    ∙ joined_more old (cond b (Some i) None) rest
    ∙ ap (λ t. joined old (joined (cond t (Some i) None) rest)) tested
    ∙ ap (joined old) (sym (first_next test i (drop (k + 1) is)))
    ∙ sym (ap (λ xs. joined old (first_of test xs)) next)

-- ---- the first begins before the others

abbrev Firstly : (TInput → Bool) → List TInput → TInput → Type 0
Firstly test is i = (test i ≡ true) × NoneBefore test i is

no_first : (test : TInput → Bool) (i : TInput) (is : List TInput) → first_of test is ≡ None → NoneBefore test i is
no_first test i [] h = tt
no_first test i (j ∷ js) h = by_test (test j) refl h (no_first test i js)
  where
    by_test : (b : Bool) → test j ≡ b → cond b (Some (sooner j (first_of test js))) (first_of test js) ≡ None → (first_of test js ≡ None → NoneBefore test i js)
        → (test j ≡ true → i.span.start ≤ j.span.start) × NoneBefore test i js
    by_test true e h more = cc
    by_test false e h more = (λ t. absurd (false≢true (sym e ∙ t)), more h)

earlier : (test : TInput → Bool) (i j : TInput) (is : List TInput) → i.span.start ≤ j.span.start → NoneBefore test j is → NoneBefore test i is
earlier test i j [] h n = tt
earlier test i j (k ∷ ks) h n = (λ t. let m = n.0 t in omega (arith, m), earlier test i j ks h n.1)

pub is_first : (test : TInput → Bool) (is : List TInput) (i : TInput) → first_of test is ≡ Some i → Firstly test is i
is_first test [] i h = cc
is_first test (j ∷ js) i h = by_test (test j) refl h (first_of test js) refl (λ k. is_first test js k)
  where
    by_test : (b : Bool) → test j ≡ b → cond b (Some (sooner j (first_of test js))) (first_of test js) ≡ Some i → (o : Option TInput) → first_of test js ≡ o
        → ((k : TInput) → first_of test js ≡ Some k → Firstly test js k) → Firstly test (j ∷ js) i
    by_test false e h o is more = let p = more i h in (p.0, (λ t. absurd (false≢true (sym e ∙ t)), p.1))
    by_test true e h None is more =
        let same : j ≡ i = cc in
        (ap test (sym same) ∙ e, (λ t. let s : j.span.start ≡ i.span.start = ap (λ (x : TInput). x.span.start) same in omega (arith, s), no_first test i js is))
    by_test true e h (Some k) is more =
        let p = more k is in
        let chosen : sooner j (Some k) ≡ i = same_Some (sooner j (Some k)) i (ap (λ o. Some (sooner j o)) (sym is) ∙ h) in
        by_start (nat_lt k.span.start j.span.start) refl chosen p.0 p.1
      where
        starts : (x : TInput) → x ≡ i → x.span.start ≡ i.span.start
        starts x s = ap (λ (y : TInput). y.span.start) s

        by_start : (b : Bool) → nat_lt k.span.start j.span.start ≡ b → cond b k j ≡ i → test k ≡ true → NoneBefore test k js → Firstly test (j ∷ js) i
        by_start true f same passes rest =
            let s = starts k same in
            let below : k.span.start < j.span.start = grind (arith, nat_tests) in
            (ap test (sym same) ∙ passes, (λ t. omega (arith, s, below), earlier test i k js (omega (arith, s)) rest))
        by_start false f same passes rest =
            let s = starts j same in
            let above : j.span.start ≤ k.span.start = grind (arith, nat_tests) in
            (ap test (sym same) ∙ e, (λ t. omega (arith, s), earlier test i k js (omega (arith, s, above)) rest))
