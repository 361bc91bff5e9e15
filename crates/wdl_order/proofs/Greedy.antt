-- Taking the least member that is ready again and again gives the least order; where no member is ready, there is none.
use Rattle.std.proofs.Common.{◌≡◌, ℕ, ◌+◌, ◌<◌, ◌≤◌, Bool, true, false, not, ◌==◌, ◌||◌, ◌&&◌, inl, inr, List, [], ◌∷◌, ◌++◌, length, refl, sym, ap, ◌∙◌, subst, arith}
use Rattle.std.proofs.lemmas.Bool.{false≢true, and_parts, and_from, or_cases, or_from, not-true, not_from_false, ne_eqb, eq-eqb, eqb-true, cases_eq, cases_Bool, ltb-true, lt-ltb, both_ways, false_from_ne_true}
use Rattle.std.proofs.lemmas.Bool.Decides.{nat_tests}
use Rattle.std.proofs.lemmas.Cmp.{nat_eq_equiv}
use Rattle.std.proofs.lemmas.Map.Made.{length-le_from_is_member}
use Rattle.std.specs.Cmp.Lexicographic.{slice_cmp}
use Rattle.std.specs.declared.cmp.Ordering.TheVariants.{Equal, Greater}
use Rattle.std.specs.Ordering.{is_lt, nat_cmp, ordering_then}
use Rattle.wdl_order.proofs.Numbers.{has_first, has_later, has_cases, has-any, or_swap, distinct, range_to, range_from}
use Rattle.wdl_order.specs.Positions.{Need, follows, all_follow, is_order_of, IsLeastOf, HasNone}
use Rattle.wdl_typed.specs.Lists.{are_below, are_counted, has_number, numbers_differ}

module _ (count : ℕ) (need : Need) where
  abbrev pub Follows : List ℕ → ℕ → Type 0
  Follows before p = (q : ℕ) → q < count → need p q ≡ true → has_number q before ≡ true

  pub follows_from : (before : List ℕ) (p : ℕ) → Follows before p → follows count need before p ≡ true
  follows_from before p f = range_from (λ q. not (need p q) || has_number q before) 0 count (λ q l u. at q u (need p q) refl)
    where
      at : (q : ℕ) → q < 0 + count → (b : Bool) → need p q ≡ b → (not b || has_number q before) ≡ true
      at q u true e = f q (omega arith) e
      at q u false e = refl

  pub follows_to : (before : List ℕ) (p : ℕ) → follows count need before p ≡ true → Follows before p
  follows_to before p h q u e =
      let k = range_to (λ r. not (need p r) || has_number r before) 0 count h q (omega arith) (omega arith) in
      elim (or_cases (not (need p q)) (has_number q before) k) [ inl n ↦ absurd (both_ways (need p q) (not-true _ n) e) | inr n ↦ n ]

  -- the least member that is ready after these
  pub record IsNext (before : List ℕ) (p : ℕ) : Type 0 where
    pub within : p < count
    pub fresh : has_number p before ≡ false
    pub met : Follows before p
    pub least : (r : ℕ) → r < count → has_number r before ≡ false → Follows before r → p ≤ r

  abbrev pub Greedy : List ℕ → List ℕ → Type 0
  Greedy before [] = Unit {0}
  Greedy before (p ∷ ps) = IsNext before p × Greedy (p ∷ before) ps

  next_alike : (xs ys : List ℕ) (p : ℕ) → ((r : ℕ) → has_number r xs ≡ has_number r ys) → IsNext xs p → IsNext ys p
  next_alike xs ys p same n = record {
    within = n.within;
    fresh = sym (same p) ∙ n.fresh;
    met = λ q u e. sym (same q) ∙ n.met q u e;
    least = λ r u f g. n.least r u (same r ∙ f) (λ q v e. same q ∙ g q v e);
  }

  pub greedy_more : (before ps all : List ℕ) (p : ℕ) → Greedy before ps
      → ((r : ℕ) → has_number r all ≡ (has_number r ps || has_number r before)) → IsNext all p → Greedy before (ps ++ p ∷ [])
  greedy_more before [] all p g same n = (next_alike all before p same n, tt)
  greedy_more before (x ∷ xs) all p g same n =
      (g.0, greedy_more (x ∷ before) xs all p g.1 (λ r. same r ∙ or_swap (x == r) (has_number r xs) (has_number r before)) n)

  -- ---- what the greedy list is

  greedy_below : (before ps : List ℕ) → Greedy before ps → are_below count ps ≡ true
  greedy_below before [] g = refl
  greedy_below before (p ∷ ps) g = and_from _ (are_below count ps) (lt-ltb p count g.0.within) (greedy_below (p ∷ before) ps g.1)

  greedy_apart : (before ps : List ℕ) (r : ℕ) → Greedy before ps → has_number r before ≡ true → has_number r ps ≡ false
  greedy_apart before [] r g h = refl
  greedy_apart before (p ∷ ps) r g h =
      or_from (p == r) (has_number r ps)
      (ne_eqb p r (λ e. both_ways (has_number r before) (subst (λ x. has_number x before ≡ false) e g.0.fresh) h))
      (greedy_apart (p ∷ before) ps r g.1 (has_later r p before h))

  greedy_differ : (before ps : List ℕ) → Greedy before ps → numbers_differ ps ≡ true
  greedy_differ before [] g = refl
  greedy_differ before (p ∷ ps) g =
      and_from (not (has_number p ps)) (numbers_differ ps)
      (not_from_false _ (greedy_apart (p ∷ before) ps p g.1 (has_first p before)))
      (greedy_differ (p ∷ before) ps g.1)

  greedy_follows : (before ps : List ℕ) → Greedy before ps → all_follow count need before ps ≡ true
  greedy_follows before [] g = refl
  greedy_follows before (p ∷ ps) g =
      and_from (follows count need before p) (all_follow count need (p ∷ before) ps) (follows_from before p g.0.met)
      (greedy_follows (p ∷ before) ps g.1)

  greedy_order : (ps : List ℕ) → Greedy [] ps → length ps ≡ count → is_order_of count need ps ≡ true
  greedy_order ps g e =
      and_from (are_counted ps && (length ps == count)) (all_follow count need [] ps)
      (and_from (are_counted ps) (length ps == count)
      (and_from (are_below (length ps) ps) (numbers_differ ps)
      (subst (λ n. are_below n ps ≡ true) (sym e) (greedy_below [] ps g)) (greedy_differ [] ps g))
      (eq-eqb _ _ e))
      (greedy_follows [] ps g)

  -- ---- no order is below it

  above : (q p : ℕ) → p < q → nat_cmp q p ≡ Greater
  above q p h = grind (arith, nat_tests)

  level : (q p : ℕ) → q ≡ p → nat_cmp q p ≡ Equal
  level q p h = grind (arith, nat_tests)

  -- what stands of an order behind those that are before
  record Rest (before qs : List ℕ) : Type 0 where
    below : are_below count qs ≡ true
    differ : numbers_differ qs ≡ true
    ready : all_follow count need before qs ≡ true
    fresh : (r : ℕ) → has_number r qs ≡ true → has_number r before ≡ false

  rest_of : (before : List ℕ) (q : ℕ) (qs : List ℕ) → Rest before (q ∷ qs) → Rest (q ∷ before) qs
  rest_of before q qs s = record {
    below = (and_parts _ (are_below count qs) s.below).1;
    differ = (and_parts (not (has_number q qs)) (numbers_differ qs) s.differ).1;
    ready = (and_parts (follows count need before q) (all_follow count need (q ∷ before) qs) s.ready).1;
    fresh = λ r h. or_from (q == r) (has_number r before)
        (ne_eqb q r (λ e. both_ways (has_number r qs)
        (subst (λ x. has_number x qs ≡ false) e
        (not-true _ (and_parts (not (has_number q qs)) (numbers_differ qs) s.differ).0)) h))
        (s.fresh r (has_later r q qs h));
  }

  least_of : (before ps qs : List ℕ) → Greedy before ps → Rest before qs → length qs ≡ length ps
      → is_lt (slice_cmp nat_cmp qs ps) ≡ false
  least_of before [] [] g s e = refl
  least_of before [] (q ∷ qs) g s e = refl
  least_of before (p ∷ ps) [] g s e = absurd (omega arith)
  least_of before (p ∷ ps) (q ∷ qs) g s e =
      let le : p ≤ q = g.0.least q
      (ltb-true q count (and_parts _ (are_below count qs) s.below).0)
      (s.fresh q (has_first q qs))
      (follows_to before q (and_parts (follows count need before q) (all_follow count need (q ∷ before) qs) s.ready).0) in
      elim (cases_eq q p) [
        | inl same ↦
            ap (λ o. is_lt (ordering_then o (slice_cmp nat_cmp qs ps))) (level q p same)
            ∙ least_of (q ∷ before) ps qs (subst (λ x. Greedy (x ∷ before) ps) (sym same) g.1) (rest_of before q qs s) (omega arith)
        | inr other ↦ ap (λ o. is_lt (ordering_then o (slice_cmp nat_cmp qs ps))) (above q p (omega arith))
      ]

  -- the parts of an order
  pub record Parts (qs : List ℕ) : Type 0 where
    pub below : are_below count qs ≡ true
    pub differ : numbers_differ qs ≡ true
    pub long : length qs ≡ count
    pub ready : all_follow count need [] qs ≡ true

  pub parts_of : (qs : List ℕ) → is_order_of count need qs ≡ true → Parts qs
  parts_of qs h =
      let p = and_parts (are_counted qs && (length qs == count)) (all_follow count need [] qs) h in
      let c = and_parts (are_counted qs) (length qs == count) p.0 in
      let d = and_parts (are_below (length qs) qs) (numbers_differ qs) c.0 in
      let e : length qs ≡ count = eqb-true _ _ c.1 in
      record { below = subst (λ n. are_below n qs ≡ true) e d.0; differ = d.1; long = e; ready = p.1 }

  pub greedy_least : (ps : List ℕ) → Greedy [] ps → length ps ≡ count → IsLeastOf count need ps
  greedy_least ps g e = record {
    order = greedy_order ps g e;
    least = λ qs h.
        let p = parts_of qs h in
        least_of [] ps qs g (record { below = p.below; differ = p.differ; ready = p.ready; fresh = λ r k. refl }) (p.long ∙ sym e);
  }

  -- ---- where no member is ready

  -- Each other member needs one that is not among these either.
  pub record IsStuck (ps : List ℕ) : Type 0 where
    pub short : length ps < count
    pub lacks : (r : ℕ) → r < count → has_number r ps ≡ false
        → (q : ℕ) × (q < count) × (need r q ≡ true) × (has_number q ps ≡ false)

  within : (ps : List ℕ) → IsStuck ps → (before qs : List ℕ) → ((r : ℕ) → has_number r before ≡ true → has_number r ps ≡ true)
      → are_below count qs ≡ true → all_follow count need before qs ≡ true → (r : ℕ) → has_number r qs ≡ true → has_number r ps ≡ true
  within ps s before [] b u f r h = absurd (false≢true h)
  within ps s before (q ∷ qs) b u f r h =
      let v = and_parts _ (are_below count qs) u in
      let g = and_parts (follows count need before q) (all_follow count need (q ∷ before) qs) f in
      let here : has_number q ps ≡ true = elim (cases_Bool (has_number q ps)) [
        | inl y ↦ y
        | inr n ↦
            let w = s.lacks q (ltb-true q count v.0) n in
            absurd (both_ways (has_number w.0 ps) w.3 (b w.0 (follows_to before q g.0 w.0 w.1 w.2)))
      ] in
      elim (has_cases r q qs h) [
        | inl e ↦ subst (λ x. has_number x ps ≡ true) e here
        | inr k ↦ within ps s (q ∷ before) qs
            (λ x j. elim (has_cases x q before j) [ inl e ↦ subst (λ y. has_number y ps ≡ true) e here | inr i ↦ b x i ]) v.1 g.1 r k
      ]

  pub stuck_none : (ps : List ℕ) → IsStuck ps → HasNone count need
  stuck_none ps s qs = false_from_ne_true (is_order_of count need qs) (λ h.
      let p = parts_of qs h in
      let le : length qs ≤ length ps = length-le_from_is_member nat_eq_equiv qs ps (distinct qs p.differ)
      (λ r m. sym (has-any r ps) ∙ within ps s [] qs (λ x j. absurd (false≢true j)) p.below p.ready r (has-any r qs ∙ m)) in
      let long = p.long in
      let short = s.short in
      omega arith)
