-- Taking the first member that is ready again and again gives the least dependency order, or finds that there is none.
use Rattle.std.proofs.Common.{◌≡◌, ℕ, zero, suc, ◌+◌, ◌<◌, ◌≤◌, Bool, true, false, not, ◌||◌, ◌&&◌, cond, List, [], ◌∷◌, Option, Some, None, option_map, option_and_then, length, refl, ap, sym, ◌∙◌, subst, inl, inr, arith}
use Rattle.std.proofs.lemmas.Bool.{false≢true, and_parts, and_from, not-true, not_from_false, cases_eq, cases_order, both_ways}
use Rattle.std.proofs.lemmas.Bool.Decides.{nat_tests}
use Rattle.std.specs.Cmp.Lexicographic.{slice_cmp}
use Rattle.std.specs.declared.cmp.Ordering.TheVariants.{Less, Equal}
use Rattle.std.specs.List.{find, list_all, range_with_len}
use Rattle.std.specs.Ordering.{is_lt, nat_cmp, ordering_then}
use Rattle.wdl_order.proofs.Greedy.{Greedy, IsNext, IsStuck, follows_from, follows_to, greedy_least, stuck_none}
use Rattle.wdl_order.proofs.Numbered.{least_from, none_from}
use Rattle.wdl_order.specs.Names.{needs_at}
use Rattle.wdl_order.specs.Positions.{Need, follows}
use Rattle.wdl_typed.specs.Lists.{has_number}
use Rattle.wdl_typed.specs.Order.{Needing, IsLeastOrder, is_order}
use Rattle.wdl_order.specs.Laws.{CircularIsNothing, LeastOrders, NothingIsCircular, OneOrder}
use Rattle.wdl_order.specs.Least.{is_ready, least_order, next, order_behind}

-- ---- the first number of a range that passes a test

pub record IsFirst (f : ℕ → Bool) (a n p : ℕ) : Type 0 where
  pub passes : f p ≡ true
  pub from : a ≤ p
  pub below : p < a + n
  pub first : (r : ℕ) → a ≤ r → r < p → f r ≡ false

found : (f : ℕ → Bool) (a n p : ℕ) → find f (range_with_len a n) ≡ Some p → IsFirst f a n p
found f a zero p h = absurd cc
found f a (suc n) p h = at (f a) refl h (λ k. found f (a + 1) n p k)
  where
    at : (b : Bool) → f a ≡ b → cond b (Some a) (find f (range_with_len (a + 1) n)) ≡ Some p
        → (find f (range_with_len (a + 1) n) ≡ Some p → IsFirst f (a + 1) n p) → IsFirst f a (suc n) p
    at true e k later =
        let same : a ≡ p = cc in
        record { passes = subst (λ x. f x ≡ true) same e; from = omega arith; below = omega arith; first = λ r l u. absurd (omega arith) }
    at false e k later =
        let w = later k in
        let low = w.from in
        let high = w.below in
        record {
          passes = w.passes;
          from = omega arith;
          below = omega arith;
          first = λ r l u. elim (cases_eq a r) [ inl q ↦ subst (λ x. f x ≡ false) q e | inr q ↦ w.first r (omega arith) u ];
        }

none_found : (f : ℕ → Bool) (a n : ℕ) → find f (range_with_len a n) ≡ None → (r : ℕ) → a ≤ r → r < a + n → f r ≡ false
none_found f a zero h r l u = absurd (omega arith)
none_found f a (suc n) h r l u = at (f a) refl h (λ k v w. none_found f (a + 1) n k r v w)
  where
    at : (b : Bool) → f a ≡ b → cond b (Some a) (find f (range_with_len (a + 1) n)) ≡ None
        → (find f (range_with_len (a + 1) n) ≡ None → a + 1 ≤ r → r < (a + 1) + n → f r ≡ false) → f r ≡ false
    at true e k later = absurd cc
    at false e k later = elim (cases_eq a r) [ inl q ↦ subst (λ x. f x ≡ false) q e | inr q ↦ later k (omega arith) (omega arith) ]

-- a number of the range that does not pass
failing : (f : ℕ → Bool) (a n : ℕ) → list_all f (range_with_len a n) ≡ false → (q : ℕ) × (q < a + n) × (f q ≡ false)
failing f a zero h = absurd (false≢true (sym h))
failing f a (suc n) h = at (f a) refl h (λ k. failing f (a + 1) n k)
  where
    at : (b : Bool) → f a ≡ b → (b && list_all f (range_with_len (a + 1) n)) ≡ false
        → (list_all f (range_with_len (a + 1) n) ≡ false → (q : ℕ) × (q < (a + 1) + n) × (f q ≡ false)) → (q : ℕ) × (q < a + suc n) × (f q ≡ false)
    at false e k later = (a, omega arith, e)
    at true e k later = let w = later k in let u = w.1 in (w.0, omega arith, w.2)

module _ (count : ℕ) (need : Need) where
  next_is : (before : List ℕ) (p : ℕ) → next count need before ≡ Some p → IsNext count need before p
  next_is before p h =
      let w = found (is_ready count need before) 0 count p h in
      let parts = and_parts (not (has_number p before)) (follows count need before p) w.passes in
      let high = w.below in
      record {
        within = omega arith;
        fresh = not-true (has_number p before) parts.0;
        met = follows_to count need before p parts.1;
        least = λ r u fresh met. not_below p r (λ l.
            both_ways (is_ready count need before r)
            (w.first r (omega arith) l)
            (and_from (not (has_number r before)) (follows count need before r) (not_from_false (has_number r before) fresh) (follows_from count need before r met)));
      }
    where
      not_below : (m r : ℕ) → (r < m → ⊥) → m ≤ r
      not_below m r never = omega arith

  greedy_of : (before : List ℕ) (n : ℕ) (qs : List ℕ) → order_behind count need before n ≡ Some qs → Greedy count need before qs × (length qs ≡ n)
  unfolding order_behind
  greedy_of before zero qs h = subst (λ xs. Greedy count need before xs × (length xs ≡ zero)) (nil_is qs h) (tt, refl)
    where
      nil_is : (xs : List ℕ) → Some [] ≡ Some xs → [] ≡ xs
      nil_is xs e = cc
  greedy_of before (suc n) qs h = at (next count need before) refl h (λ p ps e. greedy_of (p ∷ before) n ps e)
    where
      rest : (p : ℕ) → IsNext count need before p → ((ps : List ℕ) → order_behind count need (p ∷ before) n ≡ Some ps → Greedy count need (p ∷ before) ps × (length ps ≡ n))
          → (o : Option (List ℕ)) → order_behind count need (p ∷ before) n ≡ o → option_map (λ ps. p ∷ ps) o ≡ Some qs
          → Greedy count need before qs × (length qs ≡ suc n)
      rest p first later None f j = absurd cc
      rest p first later (Some ps) f j =
          let w = later ps f in
          let long : length ps ≡ n = w.1 in
          let same : p ∷ ps ≡ qs = cc in
          subst (λ xs. Greedy count need before xs × (length xs ≡ suc n)) same ((first, w.0), omega arith)

      at : (o : Option ℕ) → next count need before ≡ o
          → option_and_then (λ p. option_map (λ ps. p ∷ ps) (order_behind count need (p ∷ before) n)) o ≡ Some qs
          → ((p : ℕ) (ps : List ℕ) → order_behind count need (p ∷ before) n ≡ Some ps → Greedy count need (p ∷ before) ps × (length ps ≡ n))
          → Greedy count need before qs × (length qs ≡ suc n)
      at None e k later = absurd cc
      at (Some p) e k later = rest p (next_is before p e) (later p) (order_behind count need (p ∷ before) n) refl k

  stuck_at : (before : List ℕ) (n : ℕ) → order_behind count need before n ≡ None → length before + n ≡ count → (ps : List ℕ) × IsStuck count need ps
  unfolding order_behind
  stuck_at before zero h e = absurd cc
  stuck_at before (suc n) h e = at (next count need before) refl h (λ p k j. stuck_at (p ∷ before) n k j)
    where
      lacking : next count need before ≡ None → (r : ℕ) → r < count → has_number r before ≡ false
          → (q : ℕ) × (q < count) × (need r q ≡ true) × (has_number q before ≡ false)
      lacking o r u fresh =
          let off : follows count need before r ≡ false = off_of (none_found (is_ready count need before) 0 count o r (omega arith) (omega arith)) in
          let w = failing (λ q. not (need r q) || has_number q before) 0 count off in
          let high = w.1 in
          (w.0, omega arith, (or_false (need r w.0) (has_number w.0 before) w.2).0, (or_false (need r w.0) (has_number w.0 before) w.2).1)
        where
          off_of : (not (has_number r before) && follows count need before r) ≡ false → follows count need before r ≡ false
          off_of k = sym (ap (λ b. not b && follows count need before r) fresh) ∙ k

          or_false : (b c : Bool) → (not b || c) ≡ false → (b ≡ true) × (c ≡ false)
          or_false true c k = (refl, k)
          or_false false c k = absurd (false≢true (sym k))

      none_of : (p : ℕ) (o : Option (List ℕ)) → option_map (λ ps. p ∷ ps) o ≡ None → o ≡ None
      none_of p None j = refl
      none_of p (Some ps) j = absurd cc

      at : (o : Option ℕ) → next count need before ≡ o
          → option_and_then (λ p. option_map (λ ps. p ∷ ps) (order_behind count need (p ∷ before) n)) o ≡ None
          → ((p : ℕ) → order_behind count need (p ∷ before) n ≡ None → length (p ∷ before) + n ≡ count → (ps : List ℕ) × IsStuck count need ps)
          → (ps : List ℕ) × IsStuck count need ps
      at None f k later = (before, record { short = omega arith; lacks = lacking f })
      at (Some p) f k later = later p (none_of p (order_behind count need (p ∷ before) n) k) (omega arith)

-- ---- there is one least order

less : (x y : ℕ) → x < y → nat_cmp x y ≡ Less
less x y h = grind (arith, nat_tests)

level : (x y : ℕ) → x ≡ y → nat_cmp x y ≡ Equal
level x y h = grind (arith, nat_tests)

same_lists : (xs ys : List ℕ) → is_lt (slice_cmp nat_cmp xs ys) ≡ false → is_lt (slice_cmp nat_cmp ys xs) ≡ false → xs ≡ ys
same_lists [] [] h k = refl
same_lists [] (y ∷ ys) h k = absurd (false≢true (sym h))
same_lists (x ∷ xs) [] h k = absurd (false≢true (sym k))
same_lists (x ∷ xs) (y ∷ ys) h k =
    let later = same_lists xs ys in
    elim (cases_order x y) [
      | inl e ↦
          ap (λ n. n ∷ xs) e
          ∙ ap (λ ns. y ∷ ns) (later
          (sym (ap (λ o. is_lt (ordering_then o (slice_cmp nat_cmp xs ys))) (level x y e)) ∙ h)
          (sym (ap (λ o. is_lt (ordering_then o (slice_cmp nat_cmp ys xs))) (level y x (sym e))) ∙ k))
      | inr e ↦ elim e [
        | inl l ↦ absurd (false≢true (sym h ∙ ap (λ o. is_lt (ordering_then o (slice_cmp nat_cmp xs ys))) (less x y l)))
        | inr l ↦ absurd (false≢true (sym k ∙ ap (λ o. is_lt (ordering_then o (slice_cmp nat_cmp ys xs))) (less y x l)))
      ]
    ]

module _ (all : List Needing) where
  least_is : (qs : List ℕ) → least_order all ≡ Some qs → IsLeastOrder all qs
  least_is qs h =
      let w = greedy_of (length all) (needs_at all) [] (length all) qs h in
      least_from all (length all) (needs_at all) refl (λ p q. refl) qs (greedy_least (length all) (needs_at all) qs w.0 w.1)

  none_is : least_order all ≡ None → (qs : List ℕ) → is_order all qs ≡ false
  none_is h =
      let w = stuck_at (length all) (needs_at all) [] (length all) h (omega arith) in
      none_from all (length all) (needs_at all) refl (λ p q. refl) (stuck_none (length all) (needs_at all) w.0 w.1)

pub least : LeastOrders
least all ps h = least_is all ps h

pub one : OneOrder
one all ps l = at (least_order all) refl
  where
    at : (o : Option (List ℕ)) → least_order all ≡ o → o ≡ Some ps
    at None e = absurd (both_ways (is_order all ps) (none_is all e ps) l.order)
    at (Some qs) e =
        let k = least_is all qs e in
        ap Some (same_lists qs ps (l.least qs k.order) (k.least ps l.order))

pub nothing : NothingIsCircular
nothing all h = none_is all h

pub none : CircularIsNothing
none all h = at (least_order all) refl
  where
    at : (o : Option (List ℕ)) → least_order all ≡ o → o ≡ None
    at None e = refl
    at (Some qs) e = absurd (both_ways (is_order all qs) (h qs) (least_is all qs e).order)
