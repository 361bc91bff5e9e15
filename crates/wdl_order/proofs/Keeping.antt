-- Members that wait for one another: each step keeps what the record says.
use Rattle.std.proofs.Common.{◌≡◌, ◌≢◌, ℕ, ◌<◌, Bool, true, false, ◌||◌, ◌⊎◌, inl, inr, List, [], ◌∷◌, ◌++◌, length, refl, sym, ap, ◌∙◌, subst, arith}
use Rattle.std.proofs.lemmas.Bool.{false≢true, or_cases, or_left, or_right, cases_eq, ne_eqb, both_ways, false_from_ne_true}
use Rattle.std.proofs.lemmas.Bool.Decides.{nat_tests}
use Rattle.std.proofs.lemmas.List.{length-set, nil_from_length, get_or-set_same, get_or-set_other}
use Rattle.std.proofs.lemmas.Map.Keys.{le_from_not_gt}
use Rattle.std.specs.BTreeMap.{is_at}
use Rattle.std.specs.BTreeSet.{BTreeSet, contains, Updates, IsLowerBound}
use Rattle.std.specs.List.{list_any, slice_set}
use Rattle.std.specs.Ordering.{nat_cmp}
use Rattle.wdl_order.proofs.Greedy.{IsNext, IsStuck}
use Rattle.wdl_order.proofs.Numbers.{has_first, has_last, has_later, has_cases, has-append}
use Rattle.wdl_order.specs.Positions.{Need}
use Rattle.wdl_order.specs.Rows.{has, is_set, row}
use Rattle.wdl_order.specs.Working.{Trims, AreKept, IsFree, IsMet}
use Rattle.wdl_typed.specs.Lists.{has_number}

-- ---- one row, one flag, one key

pub row_same : (rows : List (List ℕ)) (i : ℕ) (r : List ℕ) → i < length rows → row (slice_set rows i r) i ≡ r
row_same rows i r h = get_or-set_same rows i r [] h

pub row_other : (rows : List (List ℕ)) (i j : ℕ) (r : List ℕ) → j ≢ i → row (slice_set rows i r) j ≡ row rows j
row_other rows i j r n = get_or-set_other rows i j r [] n

set_same : (flags : List Bool) (i : ℕ) → i < length flags → is_set (slice_set flags i true) i ≡ true
set_same flags i h = get_or-set_same flags i true false h

set_other : (flags : List Bool) (i j : ℕ) → j ≢ i → is_set (slice_set flags i true) j ≡ is_set flags j
set_other flags i j n = get_or-set_other flags i j true false n

-- a set flag stays
set_stays : (flags : List Bool) (i j : ℕ) → i < length flags → is_set flags j ≡ true → is_set (slice_set flags i true) j ≡ true
set_stays flags i j l h =
    elim (cases_eq j i) [
      | inl e ↦ subst (λ x. is_set (slice_set flags i true) x ≡ true) (sym e) (set_same flags i l)
      | inr n ↦ set_other flags i j n ∙ h
    ]

-- A flag that is not set after this was not set, and is another.
set_before : (flags : List Bool) (i j : ℕ) → i < length flags → is_set (slice_set flags i true) j ≡ false → (j ≢ i) × (is_set flags j ≡ false)
set_before flags i j l h =
    let n : j ≢ i = λ e. both_ways _ h (subst (λ x. is_set (slice_set flags i true) x ≡ true) (sym e) (set_same flags i l)) in
    (n, sym (set_other flags i j n) ∙ h)

pub none_contained : (s : BTreeSet ℕ) (p : ℕ) → length s.keys ≡ 0 → contains nat_cmp s p ≡ false
none_contained s p h = ap (list_any (is_at (nat_cmp p))) (nil_from_length s.keys h)

pub set_pushed : (flags : List Bool) (order : List ℕ) (m : ℕ) → m < length flags → ((p : ℕ) → is_set flags p ≡ has_number p order)
    → (p : ℕ) → is_set (slice_set flags m true) p ≡ has_number p (order ++ m ∷ [])
set_pushed flags order m l is p =
    elim (cases_eq p m) [
      | inl e ↦ subst (λ x. is_set (slice_set flags m true) x ≡ has_number x (order ++ m ∷ [])) (sym e) (set_same flags m l ∙ sym (has_last m order))
      | inr n ↦
          set_other flags m p n ∙ is p
          ∙ sym (has-append p order (m ∷ []) ∙ ap (λ x. has_number p order || (x || false)) (ne_eqb m p (λ e. n (sym e))) ∙ or_false (has_number p order))
    ]
  where
    or_false : (b : Bool) → (b || (false || false)) ≡ b
    or_false true = refl
    or_false false = refl

other_key : (m q : ℕ) → q ≢ m → is_at (nat_cmp m) q ≡ false
other_key m q n = grind (arith, nat_tests)

-- ---- the steps

module _ (need : Need) where
  pub kept_trimmed : (xs ys waiting : List (List ℕ)) (placed : List Bool) (ready : BTreeSet ℕ) (rest : List ℕ) (m : ℕ)
      → AreKept need xs waiting placed ready rest → Trims xs ys placed m → AreKept need ys waiting placed ready rest
  kept_trimmed xs ys waiting placed ready rest m k t =
      let within : (p q : ℕ) → has ys p q ≡ true → has xs p q ≡ true = λ p q h.
      elim (cases_eq p m) [
        | inl e ↦ subst (λ x. has xs x q ≡ true) (sym e) (t.less q (subst (λ x. has ys x q ≡ true) e h))
        | inr n ↦ ap (has_number q) (sym (t.others p n)) ∙ h
      ] in
      let long = t.long in
      record {
        sized = record {
          rows = k.sized.rows ∙ sym t.long;
          flags = k.sized.flags ∙ sym t.long;
          in_left = λ p q h. subst (λ n. q < n) (sym t.long) (k.sized.in_left p q (within p q h));
          in_waiting = λ p q h. subst (λ n. q < n) (sym t.long) (k.sized.in_waiting p q h);
        };
        small = λ p q h. let s = k.small p q h in (subst (λ n. p < n) (sym t.long) s.0, subst (λ n. q < n) (sym t.long) s.1);
        accounted = λ p q h. elim (k.accounted p q h) [
          | inl y ↦ inl y
          | inr y ↦ elim (cases_eq p m) [
            | inl e ↦ elim (t.lost q (subst (λ x. has xs x q ≡ true) e y)) [ inl z ↦ inl z | inr z ↦ inr (subst (λ x. has ys x q ≡ true) (sym e) z) ]
            | inr n ↦ inr (ap (has_number q) (t.others p n) ∙ y)
          ]
        ];
        awaited = k.awaited;
        needed = λ p q h. k.needed p q (within p q h);
        free = λ p h. let f = k.free p h in (subst (λ n. p < n) (sym t.long) f.0, f.1, f.2);
        closed = k.closed;
        pending = λ p h. let f = k.pending p h in (subst (λ n. p < n) (sym t.long) f.0, f.1);
        held = λ p l h. k.held p (subst (λ n. p < n) t.long l) h;
      }

  pub kept_waiting : (left waiting : List (List ℕ)) (placed : List Bool) (ready : BTreeSet ℕ) (rest : List ℕ) (m q : ℕ)
      → AreKept need left waiting placed ready (m ∷ rest) → has left m q ≡ true → is_set placed q ≡ false
      → AreKept need left (slice_set waiting q (row waiting q ++ m ∷ [])) placed ready rest
  kept_waiting left waiting placed ready rest m q k h u =
      let inside : q < length waiting = subst (λ n. q < n) (sym k.sized.rows) (k.sized.in_left m q h) in
      let more : List (List ℕ) = slice_set waiting q (row waiting q ++ m ∷ []) in
      let same : row more q ≡ row waiting q ++ m ∷ [] = row_same waiting q _ inside in
      let back : (p r : ℕ) → has more r p ≡ true → (has waiting r p ≡ true) ⊎ ((p ≡ m) × (r ≡ q)) = λ p r j.
      elim (cases_eq r q) [
        | inl e ↦
            let i : (has_number p (row waiting q) || has_number p (m ∷ [])) ≡ true =
            sym (has-append p (row waiting q) (m ∷ [])) ∙ ap (has_number p) (sym same) ∙ subst (λ x. has more x p ≡ true) e j in
            elim (or_cases _ _ i) [
              | inl y ↦ inl (subst (λ x. has waiting x p ≡ true) (sym e) y)
              | inr y ↦ elim (has_cases p m [] y) [ inl z ↦ inr (sym z, e) | inr z ↦ absurd (false≢true z) ]
            ]
        | inr n ↦ inl (ap (has_number p) (sym (row_other waiting q r _ n)) ∙ j)
      ] in
      let on : (p r : ℕ) → has waiting r p ≡ true → has more r p ≡ true = λ p r j.
      elim (cases_eq r q) [
        | inl e ↦ subst (λ x. has more x p ≡ true) (sym e)
            (ap (has_number p) same ∙ has-append p (row waiting q) (m ∷ []) ∙ or_left _ _ (subst (λ x. has waiting x p ≡ true) e j))
        | inr n ↦ ap (has_number p) (row_other waiting q r _ n) ∙ j
      ] in
      let mine = k.pending m (has_first m rest) in
      record {
        sized = record {
          rows = length-set waiting q _ ∙ k.sized.rows;
          flags = k.sized.flags;
          in_left = k.sized.in_left;
          in_waiting = λ r p j. elim (back p r j) [ inl y ↦ k.sized.in_waiting r p y | inr y ↦ subst (λ x. x < length left) (sym y.0) mine.0 ];
        };
        small = k.small;
        accounted = k.accounted;
        awaited = λ p r j. elim (back p r j) [
          | inl y ↦ k.awaited p r y
          | inr y ↦ (
            subst (λ x. need x r ≡ true) (sym y.0) (subst (λ x. need m x ≡ true) (sym y.1) (k.needed m q h)),
            subst (λ x. is_set placed x ≡ false) (sym y.1) u,
          )
        ];
        needed = k.needed;
        free = k.free;
        closed = k.closed;
        pending = λ p j. k.pending p (has_later p m rest j);
        held = λ p l j. elim (k.held p l j) [
          | inl y ↦ inl y
          | inr y ↦ elim y [
            | inl z ↦ elim (has_cases p m rest z) [
              | inl e ↦ inr (inr (
                q,
                subst (λ x. has more q x ≡ true) e
                    (ap (has_number m) same ∙ has-append m (row waiting q) (m ∷ []) ∙ or_right _ _ (has_first m [])),
              ))
              | inr i ↦ inr (inl i)
            ]
            | inr z ↦ inr (inr (z.0, on p z.0 z.1))
          ]
        ];
      }

  pub kept_ready : (left waiting : List (List ℕ)) (placed : List Bool) (ready more : BTreeSet ℕ) (rest : List ℕ) (m : ℕ)
      → AreKept need left waiting placed ready (m ∷ rest) → row left m ≡ [] → Updates nat_cmp ready more m true
      → AreKept need left waiting placed more rest
  kept_ready left waiting placed ready more rest m k h u =
      let mine = k.pending m (has_first m rest) in
      record {
        sized = k.sized;
        small = k.small;
        accounted = k.accounted;
        awaited = k.awaited;
        needed = k.needed;
        free = λ p j. elim (cases_eq p m) [
          | inl e ↦ (
            subst (λ x. x < length left) (sym e) mine.0,
            subst (λ x. is_set placed x ≡ false) (sym e) mine.1,
            λ q i. elim (k.accounted m q (subst (λ x. need x q ≡ true) e i)) [ inl y ↦ y | inr y ↦ absurd (false≢true (ap (has_number q) (sym h) ∙ y)) ],
          )
          | inr n ↦ k.free p (sym (u.2 p (other_key m p n)) ∙ j)
        ];
        closed = k.closed;
        pending = λ p j. k.pending p (has_later p m rest j);
        held = λ p l j. elim (cases_eq p m) [
          | inl e ↦ inl (subst (λ x. contains nat_cmp more x ≡ true) (sym e) u.1)
          | inr n ↦ elim (k.held p l j) [
            | inl y ↦ inl (u.2 p (other_key m p n) ∙ y)
            | inr y ↦ elim y [
              | inl z ↦ elim (has_cases p m rest z) [ inl e ↦ absurd (n (sym e)) | inr i ↦ inr (inl i) ]
              | inr z ↦ inr (inr z)
            ]
          ]
        ];
      }

  pub kept_marked : (left waiting : List (List ℕ)) (placed : List Bool) (ready : BTreeSet ℕ) (m : ℕ)
      → AreKept need left waiting placed ready (m ∷ []) → IsFree need placed ready m
      → AreKept need left (slice_set waiting m []) (slice_set placed m true) ready (row waiting m)
  kept_marked left waiting placed ready m k f =
      let mine = k.pending m (has_first m []) in
      let inside : m < length waiting = subst (λ n. m < n) (sym k.sized.rows) mine.0 in
      let flagged : m < length placed = subst (λ n. m < n) (sym k.sized.flags) mine.0 in
      let back : (p q : ℕ) → has (slice_set waiting m []) q p ≡ true → (q ≢ m) × (has waiting q p ≡ true) = λ p q j.
      elim (cases_eq q m) [
        | inl e ↦ absurd (false≢true (ap (has_number p) (sym (row_same waiting m [] inside)) ∙ subst (λ x. has (slice_set waiting m []) x p ≡ true) e j))
        | inr n ↦ (n, ap (has_number p) (sym (row_other waiting m q [] n)) ∙ j)
      ] in
      let met : (p : ℕ) → IsMet need placed p → IsMet need (slice_set placed m true) p = λ p g q i. set_stays placed m q flagged (g q i) in
      let unplaced : (p : ℕ) → need p m ≡ true → is_set placed p ≡ false = λ p i.
      false_from_ne_true _ (λ e. both_ways _ mine.1 (k.closed p e m i)) in
      record {
        sized = record {
          rows = length-set waiting m [] ∙ k.sized.rows;
          flags = length-set placed m true ∙ k.sized.flags;
          in_left = k.sized.in_left;
          in_waiting = λ q p j. k.sized.in_waiting q p (back p q j).1;
        };
        small = k.small;
        accounted = λ p q i. elim (k.accounted p q i) [ inl y ↦ inl (set_stays placed m q flagged y) | inr y ↦ inr y ];
        awaited = λ p q j. let b = back p q j in let a = k.awaited p q b.1 in (a.0, set_other placed m q b.0 ∙ a.1);
        needed = k.needed;
        free = λ p j.
            let g = k.free p j in
            let n : p ≢ m = λ e. both_ways _ f.taken (subst (λ x. contains nat_cmp ready x ≡ true) e j) in
            (g.0, set_other placed m p n ∙ g.1, met p g.2);
        closed = λ p j. elim (cases_eq p m) [
          | inl e ↦ met p (subst (λ x. IsMet need placed x) (sym e) f.met)
          | inr n ↦ met p (k.closed p (sym (set_other placed m p n) ∙ j))
        ];
        pending = λ p j.
            let a = k.awaited p m j in
            let n : p ≢ m = λ e. both_ways _ mine.1 (f.met m (subst (λ x. need x m ≡ true) e a.0)) in
            ((k.small p m a.0).0, set_other placed m p n ∙ unplaced p a.0);
        held = λ p l j.
            let b = set_before placed m p flagged j in
            elim (k.held p l b.1) [
              | inl y ↦ inl y
              | inr y ↦ elim y [
                | inl z ↦ elim (has_cases p m [] z) [ inl e ↦ absurd (b.0 (sym e)) | inr i ↦ absurd (false≢true i) ]
                | inr z ↦ elim (cases_eq z.0 m) [
                  | inl e ↦ inr (inl (subst (λ x. has waiting x p ≡ true) e z.1))
                  | inr n ↦ inr (inr (z.0, ap (has_number p) (row_other waiting m z.0 [] n) ∙ z.1))
                ]
              ]
            ];
      }

  -- ---- the first of those that are ready

  pub kept_popped : (left waiting : List (List ℕ)) (placed : List Bool) (ready fewer : BTreeSet ℕ) (m : ℕ)
      → AreKept need left waiting placed ready [] → contains nat_cmp ready m ≡ true → Updates nat_cmp ready fewer m false
      → AreKept need left waiting placed fewer (m ∷ []) × IsFree need placed fewer m
  kept_popped left waiting placed ready fewer m k h u =
      let mine = k.free m h in
      let before : (p : ℕ) → contains nat_cmp fewer p ≡ true → contains nat_cmp ready p ≡ true = λ p j.
      elim (cases_eq p m) [
        | inl e ↦ subst (λ x. contains nat_cmp ready x ≡ true) (sym e) h
        | inr n ↦ sym (u.2 p (other_key m p n)) ∙ j
      ] in (
        record {
          sized = k.sized;
          small = k.small;
          accounted = k.accounted;
          awaited = k.awaited;
          needed = k.needed;
          free = λ p j. k.free p (before p j);
          closed = k.closed;
          pending = λ p j. elim (has_cases p m [] j) [
            | inl e ↦ subst (λ x. (x < length left) × (is_set placed x ≡ false)) e (mine.0, mine.1)
            | inr i ↦ absurd (false≢true i)
          ];
          held = λ p l j. elim (k.held p l j) [
            | inl y ↦ elim (cases_eq p m) [
              | inl e ↦ inr (inl (subst (λ x. has_number x (m ∷ []) ≡ true) (sym e) (has_first m [])))
              | inr n ↦ inl (u.2 p (other_key m p n) ∙ y)
            ]
            | inr y ↦ elim y [ inl z ↦ absurd (false≢true z) | inr z ↦ inr (inr z) ]
          ];
        },
        record { taken = u.1; met = mine.2 },
      )

  -- A member that is ready and unplaced follows its needs; the others are not ready.
  pub next_popped : (left waiting : List (List ℕ)) (placed : List Bool) (ready : BTreeSet ℕ) (order : List ℕ) (m : ℕ)
      → AreKept need left waiting placed ready [] → ((p : ℕ) → is_set placed p ≡ has_number p order)
      → contains nat_cmp ready m ≡ true → IsLowerBound nat_cmp ready m
      → IsNext (length left) need order m
  next_popped left waiting placed ready order m k is h low =
      let mine = k.free m h in
      record {
        within = mine.0;
        fresh = sym (is m) ∙ mine.1;
        met = λ q l i. sym (is q) ∙ mine.2 q i;
        least = λ r l u g. elim (k.held r l (is r ∙ u)) [
          | inl y ↦ le_from_not_gt m r (low r y)
          | inr y ↦ elim y [
            | inl z ↦ absurd (false≢true z)
            | inr z ↦
                let a = k.awaited r z.0 z.1 in
                absurd (both_ways _ a.1 (is z.0 ∙ g z.0 (k.small r z.0 a.0).1 a.0))
          ]
        ];
      }

  pub stuck_empty : (left waiting : List (List ℕ)) (placed : List Bool) (ready : BTreeSet ℕ) (order : List ℕ)
      → AreKept need left waiting placed ready [] → ((p : ℕ) → is_set placed p ≡ has_number p order)
      → ((p : ℕ) → contains nat_cmp ready p ≡ false) → length order < length left
      → IsStuck (length left) need order
  stuck_empty left waiting placed ready order k is none short = record {
    short = short;
    lacks = λ r l u. elim (k.held r l (is r ∙ u)) [
      | inl y ↦ absurd (both_ways _ (none r) y)
      | inr y ↦ elim y [
        | inl z ↦ absurd (false≢true z)
        | inr z ↦ let a = k.awaited r z.0 z.1 in (z.0, (k.small r z.0 a.0).1, a.0, sym (is z.0) ∙ a.1)
      ]
    ];
  }
