-- What an index of first places finds, and how it grows and shrinks.
use Rattle.std.proofs.Common.{◌≡◌, ℕ, zero, suc, ◌+◌, ◌-◌, ◌<◌, ◌≤◌, Bool, true, false, cond, List, [], ◌∷◌, ◌++◌, Option, Some, None, IfSome, MatchOption, OnOk, OnErr, Result, Ok, Err, length, drop, get_or, drop-cons, sym, ap, subst, ◌∙◌, refl, arith, rules}
use Rattle.std.specs.List.{find, position_from, slice_get}
use Rattle.std.specs.Option.{is_some, option_and_then}
use Rattle.wdl_names.specs.Firsts.{Finds, first_place_of, item_at, passes, passing}

none_more : (i : ℕ) → i ≡ i + 0
none_more i = omega arith

module _ {X : Type 0} (test : X → Bool) where
  -- ---- places in a list with more items behind

  pub first_longer : (i : ℕ) (xs ys : List X) (p : ℕ) → position_from test i xs ≡ Some p → position_from test i (xs ++ ys) ≡ Some p
  first_longer i [] ys p h = absurd (cc)
  first_longer i (x ∷ xs) ys p h = by_test (test x) h (first_longer (i + 1) xs ys p)
    where
      by_test : (b : Bool) → cond b (Some i) (position_from test (i + 1) xs) ≡ Some p
          → (position_from test (i + 1) xs ≡ Some p → position_from test (i + 1) (xs ++ ys) ≡ Some p)
          → cond b (Some i) (position_from test (i + 1) (xs ++ ys)) ≡ Some p
      by_test true h more = h
      by_test false h more = more h

  pub first_last : (i : ℕ) (xs : List X) (x : X) → position_from test i xs ≡ None → position_from test i (xs ++ x ∷ []) ≡ cond (test x) (Some (i + length xs)) None
  first_last i [] x h = ap (λ n. cond (test x) (Some n) None) (none_more i)
  first_last i (y ∷ ys) x h = by_test (test y) h (first_last (i + 1) ys x)
    where
      one : i + 1 + length ys ≡ i + length (y ∷ ys)
      one = omega arith

      by_test : (b : Bool) → cond b (Some i) (position_from test (i + 1) ys) ≡ None
          → (position_from test (i + 1) ys ≡ None → position_from test (i + 1) (ys ++ x ∷ []) ≡ cond (test x) (Some (i + 1 + length ys)) None)
          → cond b (Some i) (position_from test (i + 1) (ys ++ x ∷ [])) ≡ cond (test x) (Some (i + length (y ∷ ys))) None
      by_test true h more = absurd (cc)
      by_test false h more = more h ∙ ap (λ n. cond (test x) (Some n) None) one

  -- ---- the item that stands there

  first_missing : (i : ℕ) (xs : List X) → position_from test i xs ≡ None → find test xs ≡ None
  first_missing i [] h = refl
  first_missing i (x ∷ xs) h = by_test (test x) h (first_missing (i + 1) xs)
    where
      by_test : (b : Bool) → cond b (Some i) (position_from test (i + 1) xs) ≡ None → (position_from test (i + 1) xs ≡ None → find test xs ≡ None)
          → cond b (Some x) (find test xs) ≡ None
      by_test true h more = absurd (cc)
      by_test false h more = more h

  missing_first : (i : ℕ) (xs : List X) → is_some (find test xs) ≡ false → position_from test i xs ≡ None
  missing_first i [] h = refl
  missing_first i (x ∷ xs) h = by_test (test x) h (missing_first (i + 1) xs)
    where
      by_test : (b : Bool) → is_some (cond b (Some x) (find test xs)) ≡ false → (is_some (find test xs) ≡ false → position_from test (i + 1) xs ≡ None)
          → cond b (Some i) (position_from test (i + 1) xs) ≡ None
      by_test true h more = absurd (cc)
      by_test false h more = more h

  first_item : (i : ℕ) (xs : List X) (p : ℕ) → position_from test i xs ≡ Some p → (r : ℕ) × (p ≡ i + r) × (slice_get xs r ≡ find test xs)
  first_item i [] p h = absurd (cc)
  first_item i (x ∷ xs) p h = by_test (test x) h (first_item (i + 1) xs p)
    where
      by_test : (b : Bool) → cond b (Some i) (position_from test (i + 1) xs) ≡ Some p
          → (position_from test (i + 1) xs ≡ Some p → (r : ℕ) × (p ≡ i + 1 + r) × (slice_get xs r ≡ find test xs))
          → (r : ℕ) × (p ≡ i + r) × (slice_get (x ∷ xs) r ≡ cond b (Some x) (find test xs))
      by_test true h more = let here : i ≡ p = cc in let none : p ≡ i + 0 = omega (arith, here) in (0, none, refl)
      by_test false h more = let m = more h in let next : p ≡ i + suc m.0 = omega (arith, m.1) in (suc m.0, next, m.2)

  pub first_get : (xs : List X) (p : ℕ) → first_place_of test xs ≡ Some p → slice_get xs p ≡ find test xs
  first_get xs p h = let m = first_item 0 xs p h in let at : p ≡ m.0 = omega (arith, m.1) in ap (slice_get xs) at ∙ m.2

  pub first_place-get : (xs : List X) → option_and_then (slice_get xs) (first_place_of test xs) ≡ find test xs
  first_place-get xs = by_place (first_place_of test xs) refl
    where
      by_place : (o : Option ℕ) → first_place_of test xs ≡ o → option_and_then (slice_get xs) o ≡ find test xs
      by_place None h = sym (first_missing 0 xs h)
      by_place (Some p) h = first_get xs p h

  first_below : (i : ℕ) (xs : List X) (p : ℕ) → position_from test i xs ≡ Some p → p < i + length xs
  first_below i [] p h = absurd (cc)
  first_below i (x ∷ xs) p h = by_test (test x) h (first_below (i + 1) xs p)
    where
      by_test : (b : Bool) → cond b (Some i) (position_from test (i + 1) xs) ≡ Some p → (position_from test (i + 1) xs ≡ Some p → p < i + 1 + length xs) → p < i + length (x ∷ xs)
      by_test true h more = let here : i ≡ p = cc in omega (arith, here)
      by_test false h more = omega (arith, more h)

  first_within : (xs : List X) → IfSome (first_place_of test xs) (λ p. p < length xs)
  first_within xs = by_place (first_place_of test xs) refl
    where
      by_place : (o : Option ℕ) → first_place_of test xs ≡ o → IfSome o (λ p. p < length xs)
      by_place None h = search rules
      by_place (Some p) h = omega (arith, first_below 0 xs p h)

  -- ---- an index that has exactly the first places

  pub placed : (xs all : List X) (r o : Option ℕ) → r ≡ o → o ≡ first_place_of test xs → xs ≡ all → option_and_then (slice_get all) r ≡ find test all
  placed xs all r o is told view = ap (option_and_then (slice_get all)) (is ∙ told ∙ ap (first_place_of test) view) ∙ first_place-get all

  pub placed_within : (xs all : List X) (r o : Option ℕ) → r ≡ o → o ≡ first_place_of test xs → xs ≡ all → IfSome r (λ p. p < length all)
  placed_within xs all r o is told view =
      subst (λ (p : Option ℕ). IfSome p (λ m. m < length all)) (sym (is ∙ told ∙ ap (first_place_of test) view)) (first_within all)

  -- one item more at the front
  pub earlier : (xs : List X) (i : ℕ) (x : X) (new old : Option ℕ) → 0 < i → i ≤ length xs → x ≡ get_or xs (i - 1) x
      → old ≡ position_from test i (drop i xs) → new ≡ cond (test x) (Some (i - 1)) old
      → new ≡ position_from test (i - 1) (drop (i - 1) xs)
  earlier xs i x new old some within is was now =
      let back : suc (i - 1) ≡ i = omega arith in
      let up : i ≡ i - 1 + 1 = omega arith in
      let front : drop (i - 1) xs ≡ x ∷ drop i xs = drop-cons xs (i - 1) x (omega arith) ∙ ap (λ y. y ∷ drop (suc (i - 1)) xs) (sym is) ∙ ap (λ m. x ∷ drop m xs) back in
      now ∙ ap (λ o. cond (test x) (Some (i - 1)) o) (was ∙ ap (λ m. position_from test m (drop i xs)) up) ∙ sym (ap (position_from test (i - 1)) front)

  found_passes : (xs : List X) → passing test (find test xs) ≡ find test xs
  found_passes [] = refl
  found_passes (x ∷ xs) = by_test (test x) refl (found_passes xs)
    where
      by_test : (b : Bool) → test x ≡ b → passing test (find test xs) ≡ find test xs → passing test (cond b (Some x) (find test xs)) ≡ cond b (Some x) (find test xs)
      by_test true e rest = ap (λ b. cond b (Some x) None) e
      by_test false e rest = rest

  none_passes : (xs : List X) (p : ℕ) → find test xs ≡ None → passing test (slice_get xs p) ≡ None
  none_passes [] p h = refl
  none_passes (x ∷ xs) p h = by_test (test x) refl h (λ q. none_passes xs q)
    where
      at_place : (q : ℕ) → test x ≡ false → ((q : ℕ) → passing test (slice_get xs q) ≡ None) → passing test (slice_get (x ∷ xs) q) ≡ None
      at_place zero e rest = ap (λ b. cond b (Some x) None) e
      at_place (suc q) e rest = rest q

      by_test : (b : Bool) → test x ≡ b → cond b (Some x) (find test xs) ≡ None → ((q : ℕ) → find test xs ≡ None → passing test (slice_get xs q) ≡ None)
          → passing test (slice_get (x ∷ xs) p) ≡ None
      by_test true e h rest = absurd (cc)
      by_test false e h rest = at_place p e (λ q. rest q h)

  -- ---- an index that may hold more than the places of what is there

  pub found_at : (xs : List X) (place : Option ℕ) → ((p : ℕ) → first_place_of test xs ≡ Some p → place ≡ Some p) → item_at test xs place ≡ find test xs
  found_at xs place index = by_first (first_place_of test xs) refl
    where
      missing : (o : Option ℕ) → find test xs ≡ None → item_at test xs o ≡ None
      missing None h = refl
      missing (Some p) h = none_passes xs p h

      by_first : (o : Option ℕ) → first_place_of test xs ≡ o → item_at test xs place ≡ find test xs
      by_first None h = let none = first_missing 0 xs h in missing place none ∙ sym none
      by_first (Some p) h = ap (item_at test xs) (index p h) ∙ ap (passing test) (first_get xs p h) ∙ found_passes xs

  pub passes-is_some : (o : Option X) → passes test o ≡ is_some (passing test o)
  passes-is_some None = refl
  passes-is_some (Some x) = by_test (test x)
    where
      by_test : (b : Bool) → b ≡ is_some (cond b (Some x) None)
      by_test true = refl
      by_test false = refl

module _ {Q X : Type 0} (test : Q → X → Bool) where
  finds_front : (at : Q → Option ℕ) (xs ys : List X) → Finds test at (xs ++ ys) → Finds test at xs
  finds_front at xs ys finds = λ q p h. finds q p (first_longer (test q) 0 xs ys p h)

  -- one item fewer
  pub finds_pop : (at : Q → Option ℕ) (last : Option X) (xs ys : List X) → Finds test at xs → MatchOption last ((xs ≡ []) × (ys ≡ [])) (λ x. xs ≡ ys ++ x ∷ []) → Finds test at ys
  finds_pop at None xs ys finds popped = subst (Finds test at) (popped.0 ∙ sym popped.1) finds
  finds_pop at (Some x) xs ys finds popped = finds_front at ys (x ∷ []) (subst (Finds test at) popped finds)

  -- what was to be added is there, or nothing is
  pub finds_grown : {A E : Type 0} (at : Q → Option ℕ) (r : Result A E) (xs ys : List X) (x : X) → Finds test at (xs ++ x ∷ []) → OnOk r (ys ≡ xs ++ x ∷ []) → OnErr r (ys ≡ xs)
      → Finds test at ys
  finds_grown at (Ok a) xs ys x finds ok err = subst (Finds test at) (sym ok) finds
  finds_grown at (Err e) xs ys x finds ok err = subst (Finds test at) (sym err) (finds_front at xs (x ∷ []) finds)

  -- one more item, whose place was put there unless an item of its query is there
  pub finds_more : (at more : Q → Option ℕ) (xs : List X) (x : X) (n : ℕ) (known : Bool) → Finds test at xs → n ≡ length xs
      → ((q : Q) → test q x ≡ true → known ≡ is_some (find (test q) xs))
      → ((q : Q) → more q ≡ cond known (at q) (cond (test q x) (Some n) (at q)))
      → Finds test more (xs ++ x ∷ [])
  finds_more at more xs x n known finds count knows put = λ q p h. by_first q p h (position_from (test q) 0 xs) refl
    where
      by_known : (q : Q) (p : ℕ) (b : Bool) → at q ≡ Some p → (test q x ≡ true → b ≡ true) → (c : Bool) → test q x ≡ c → cond b (at q) (cond c (Some n) (at q)) ≡ Some p
      by_known q p true h k c e = h
      by_known q p false h k true e = let no = k e in absurd (cc)
      by_known q p false h k false e = h

      there : (q : Q) (r : ℕ) → position_from (test q) 0 xs ≡ Some r → (b : Bool) → is_some (find (test q) xs) ≡ b → b ≡ true
      there q r h true e = refl
      there q r h false e = let none = missing_first (test q) 0 xs e in absurd (cc)

      at_end : (q : Q) (p : ℕ) (c : Bool) → test q x ≡ c → cond c (Some (0 + length xs)) None ≡ Some p → is_some (find (test q) xs) ≡ false
          → cond known (at q) (cond c (Some n) (at q)) ≡ Some p
      at_end q p true e h none =
          let last : n ≡ 0 + length xs = omega (arith, count) in
          ap (λ b. cond b (at q) (Some n)) (knows q e ∙ none) ∙ ap (λ m. Some m) last ∙ h
      at_end q p false e h none = absurd (cc)

      by_first : (q : Q) (p : ℕ) → position_from (test q) 0 (xs ++ x ∷ []) ≡ Some p → (o : Option ℕ) → position_from (test q) 0 xs ≡ o → more q ≡ Some p
      by_first q p h None e =
          let missing = first_missing (test q) 0 xs e in
          put q ∙ at_end q p (test q x) refl (sym (first_last (test q) 0 xs x e) ∙ h) (ap is_some missing)
      by_first q p h (Some r) e =
          let longer = first_longer (test q) 0 xs (x ∷ []) r e in
          let same : r ≡ p = cc in
          put q ∙ by_known q p known (finds q r e ∙ ap (λ m. Some m) same) (λ t. knows q t ∙ there q r e (is_some (find (test q) xs)) refl) (test q x) refl

  -- what a look-up found
  pub looked_up : (at : Q → Option ℕ) (q : Q) (r : Option X) (slice xs all : List X) (place : Option ℕ)
      → r ≡ item_at (test q) slice place → slice ≡ xs → xs ≡ all → place ≡ at q → Finds test at xs → r ≡ find (test q) all
  looked_up at q r slice xs all place is within view told finds =
      is ∙ ap (λ ys. item_at (test q) ys place) within ∙ found_at (test q) xs place (λ p h. told ∙ finds q p h) ∙ ap (find (test q)) view

  pub looked_for : (at : Q → Option ℕ) (q : Q) (r : Bool) (slice xs all : List X) (place : Option ℕ)
      → r ≡ passes (test q) (option_and_then (slice_get slice) place) → slice ≡ xs → xs ≡ all → place ≡ at q → Finds test at xs → r ≡ is_some (find (test q) all)
  looked_for at q r slice xs all place is within view told finds =
      is ∙ passes-is_some (test q) (option_and_then (slice_get slice) place) ∙ ap is_some (looked_up at q (item_at (test q) slice place) slice xs all place refl within view told finds)
