-- What each move keeps of the calls that were asked.
use Rattle.std.proofs.Common.{◌≡◌, ◌≢◌, ◌<◌, ◌≤◌, ◌⊎◌, inl, inr, ℕ, zero, suc, ◌+◌, ◌-◌, ◌==◌, true, false, List, [], ◌∷◌, ◌++◌, Option, Some, length, map, get_or, slice_get, arith, ap, refl, sym, subst, ◌∙◌}
use Rattle.std.specs.List.{slice_set, swap_remove, position_or_len}
use Rattle.std.proofs.lemmas.Bool.{cases_eq, cases_lt, eq-eqb, false≢true}
use Rattle.std.proofs.lemmas.List.{length-append, length-map, length-set, map-append}
use Rattle.std.proofs.lemmas.List.Sums.{fails_before_first}
use Rattle.std.proofs.lemmas.Option.{same_Some}
use Rattle.wdl_base.specs.declared.place.Segment.{Segment}
use Rattle.wdl_base.specs.Same.{same_place}
use Rattle.wdl_names.specs.Marks.{first_place}
use Rattle.wdl_task.specs.declared.request.Prepared.{Prepared}
use Rattle.wdl_flow.specs.Marks.{place_mark}
use Rattle.flow_laws.proofs.SameRequests.{place_itself, place_same}
use Rattle.step_net.proofs.Gets.{get_map, get_other, get_same}
use Rattle.plan_steps.specs.declared.asking.Asked.{Asked}
use Rattle.plan_steps.specs.declared.asking.Asking.{Asking}
use Rattle.plan_steps.specs.Askings.{AreAsking, Call, IsAnswered, IsAsking, IsFoundAt, IsNew, IsOwned, call_of, calls, mark_of, place_in}
use Rattle.plan_steps.proofs.Lists.{get_last, get_left, get_push, get_swapped, put_last, put_other, read_at, swapped_length, within}
use Rattle.wdl_base.proofs.Options.{item_there}

-- ---- search

-- No call below that number has the place.
abbrev pub IsNewBelow : List Call → List Segment → ℕ → Type 0
IsNewBelow cs place at = (i : ℕ) (c : Call) → i < at → slice_get cs i ≡ Some c → c.place ≡ place → ⊥

mark_at : (asked : List Asked) (i : ℕ) (c : Call) → slice_get (map call_of asked) i ≡ Some c → get_or (map mark_of asked) i 0 ≡ place_mark 0 c.place
mark_at [] i c e = cc
mark_at (a ∷ as_) zero c e = ap (λ (x : Call). place_mark 0 x.place) (same_Some _ _ e)
mark_at (a ∷ as_) (suc i) c e = mark_at as_ i c e

pub none_before : (asked : List Asked) (marks : List ℕ) (place : List Segment) (from : ℕ) → marks ≡ map mark_of asked → from ≡ first_place (place_mark 0 place) marks → IsNewBelow (map call_of asked) place from
none_before asked marks place from e f i c less there same =
    let below : i < position_or_len (λ n. n == place_mark 0 place) (map mark_of asked) = subst (λ (k : ℕ). i < k) (f ∙ ap (first_place (place_mark 0 place)) e) less in
    let differ : (get_or (map mark_of asked) i 0 == place_mark 0 place) ≡ false = fails_before_first (λ n. n == place_mark 0 place) (map mark_of asked) i 0 below in
    false≢true (sym differ ∙ eq-eqb (get_or (map mark_of asked) i 0) (place_mark 0 place) (mark_at asked i c there ∙ ap (place_mark 0) same))

pub call_there : (asked : List Asked) (at : ℕ) (a : Asked) → at < length asked → a ≡ get_or asked at a → slice_get (map call_of asked) at ≡ Some (call_of a)
call_there asked at a inside e = get_map call_of asked at a (read_at asked at a a inside e)

pub found_here : (asked : List Asked) (at : ℕ) (a : Asked) (place : List Segment) → at < length asked → a ≡ get_or asked at a → same_place a.place place ≡ true → IsFoundAt (map call_of asked) place (Some at)
found_here asked at a place inside e same = (call_of a, call_there asked at a inside e, place_same a.place place same)

pub none_below_more : (asked : List Asked) (at : ℕ) (a : Asked) (place : List Segment) → at < length asked → a ≡ get_or asked at a → same_place a.place place ≡ false → IsNewBelow (map call_of asked) place at
    → IsNewBelow (map call_of asked) place (at + 1)
none_below_more asked at a place inside e differ h i c less there same = by_case (cases_lt i at)
  where
    by_case : (i < at) ⊎ (at ≤ i) → ⊥
    by_case (inl l) = h i c l there same
    by_case (inr l) =
        let here : i ≡ at = omega (arith, less, l) in
        let is : call_of a ≡ c = same_Some _ _ (sym (call_there asked at a inside e) ∙ ap (slice_get (map call_of asked)) (sym here) ∙ there) in
        let own : a.place ≡ place = ap (λ (x : Call). x.place) is ∙ same in
        false≢true (sym differ ∙ ap (λ (p : List Segment). same_place p place) own ∙ place_itself place)

pub none_at_all : (asked : List Asked) (at : ℕ) (place : List Segment) → length asked ≤ at → IsNewBelow (map call_of asked) place at → IsNew (map call_of asked) place
none_at_all asked at place all h i c there same =
    let inside : i < length (map call_of asked) = within (map call_of asked) i c there in
    h i c (omega (arith, inside, all, length-map asked call_of)) there same

-- ---- a call that is asked

pub asked_more : (ready : List Prepared) (owners : List ℕ) (asked : List Asked) (marks : List ℕ) → AreAsking ready owners asked marks → (p : Prepared) (a : Asked) → IsNew (map call_of asked) p.request.place
    → a.place ≡ p.request.place → a.waits_at ≡ length ready → AreAsking (ready ++ p ∷ []) (owners ++ length asked ∷ []) (asked ++ a ∷ []) (marks ++ place_mark 0 a.place ∷ [])
asked_more ready owners asked marks h p a new place waits =
    record {
      marks_are = ap (λ (ms : List ℕ). ms ++ place_mark 0 a.place ∷ []) h.marks_are ∙ sym (map-append mark_of asked (a ∷ []));
      pairs = omega (arith, length-append owners (length asked ∷ []), length-append ready (p ∷ []), h.pairs);
      owned = λ k at e. owns k at (get_push owners (length asked) at k e);
      distinct = λ i j x y e f same. differ i j x y (get_push asked a x i e) (get_push asked a y j f) same;
    }
  where
    owns : (k at : ℕ) → (slice_get owners k ≡ Some at) ⊎ ((k ≡ length owners) × (at ≡ length asked)) → IsOwned (ready ++ p ∷ []) (asked ++ a ∷ []) k at
    owns k at (inl e) =
        let o : IsOwned ready asked k at = h.owned k at e in
        record { call = o.call; there = get_left asked (a ∷ []) at o.call o.there; waits = o.waits; prepared = o.prepared; is_ready = get_left ready (p ∷ []) k o.prepared o.is_ready; place = o.place }
    owns k at (inr e) =
        record {
          call = a;
          there = subst (λ (n : ℕ). slice_get (asked ++ a ∷ []) n ≡ Some a) (sym e.1) (get_last asked a);
          waits = waits ∙ sym h.pairs ∙ sym e.0;
          prepared = p;
          is_ready = subst (λ (n : ℕ). slice_get (ready ++ p ∷ []) n ≡ Some p) (sym (e.0 ∙ h.pairs)) (get_last ready p);
          place = sym place;
        }

    old_differs : (i : ℕ) (x : Asked) → slice_get asked i ≡ Some x → x.place ≡ a.place → ⊥
    old_differs i x e same = new i (call_of x) (get_map call_of asked i x e) (same ∙ place)

    differ : (i j : ℕ) (x y : Asked) → (slice_get asked i ≡ Some x) ⊎ ((i ≡ length asked) × (x ≡ a)) → (slice_get asked j ≡ Some y) ⊎ ((j ≡ length asked) × (y ≡ a)) → x.place ≡ y.place → i ≡ j
    differ i j x y (inl e) (inl f) same = h.distinct i j x y e f same
    differ i j x y (inl e) (inr f) same = absurd (old_differs i x e (same ∙ ap (λ (z : Asked). z.place) f.1))
    differ i j x y (inr e) (inl f) same = absurd (old_differs j y f (sym same ∙ ap (λ (z : Asked). z.place) e.1))
    differ i j x y (inr e) (inr f) same = e.0 ∙ sym f.0

-- ---- a change of one call that keeps its place

pub map_set_same : {A B : Type 0} (f : A → B) (xs : List A) (i : ℕ) (a b : A) → slice_get xs i ≡ Some a → f b ≡ f a → map f (slice_set xs i b) ≡ map f xs
map_set_same f [] i a b e same = refl
map_set_same f (x ∷ xs) zero a b e same = ap (λ y. y ∷ map f xs) (same ∙ ap f (sym (same_Some _ _ e)))
map_set_same f (x ∷ xs) (suc i) a b e same = ap (λ ys. f x ∷ ys) (map_set_same f xs i a b e same)

-- what stood there before has the same place
old_of : (asked : List Asked) (at : ℕ) (a b : Asked) → slice_get asked at ≡ Some a → b.place ≡ a.place → (i : ℕ) (x : Asked) → slice_get (slice_set asked at b) i ≡ Some x → (y : Asked) × (slice_get asked i ≡ Some y) × (x.place ≡ y.place)
old_of asked at a b there place i x e = by_case (cases_eq i at)
  where
    by_case : (i ≡ at) ⊎ (i ≡ at → ⊥) → (y : Asked) × (slice_get asked i ≡ Some y) × (x.place ≡ y.place)
    by_case (inl same) =
        let own : b ≡ x = same_Some _ _ (sym (get_same asked at b (within asked at a there)) ∙ ap (slice_get (slice_set asked at b)) (sym same) ∙ e) in
        (a, ap (slice_get asked) same ∙ there, ap (λ (z : Asked). z.place) (sym own) ∙ place)
    by_case (inr other) = (x, sym (get_other asked at i b other) ∙ e, refl)

still_distinct : (asked : List Asked) (at : ℕ) (a b : Asked) → slice_get asked at ≡ Some a → b.place ≡ a.place → ((i j : ℕ) (x y : Asked) → slice_get asked i ≡ Some x → slice_get asked j ≡ Some y → x.place ≡ y.place → i ≡ j)
    → (i j : ℕ) (x y : Asked) → slice_get (slice_set asked at b) i ≡ Some x → slice_get (slice_set asked at b) j ≡ Some y → x.place ≡ y.place → i ≡ j
still_distinct asked at a b there place h i j x y e f same =
    let u : (z : Asked) × (slice_get asked i ≡ Some z) × (x.place ≡ z.place) = old_of asked at a b there place i x e in
    let w : (z : Asked) × (slice_get asked j ≡ Some z) × (y.place ≡ z.place) = old_of asked at a b there place j y f in
    h i j u.0 w.0 u.1 w.1 (sym u.2 ∙ same ∙ w.2)

marks_still : (asked : List Asked) (marks : List ℕ) (at : ℕ) (a b : Asked) → slice_get asked at ≡ Some a → b.place ≡ a.place → marks ≡ map mark_of asked → marks ≡ map mark_of (slice_set asked at b)
marks_still asked marks at a b there place e = e ∙ sym (map_set_same mark_of asked at a b there (ap (place_mark 0) place))

-- the last answered attempt is another
pub told_more : (ready : List Prepared) (owners : List ℕ) (asked : List Asked) (marks : List ℕ) → AreAsking ready owners asked marks → (at : ℕ) (a b : Asked) → slice_get asked at ≡ Some a → b.place ≡ a.place → b.waits_at ≡ a.waits_at
    → AreAsking ready owners (slice_set asked at b) marks
told_more ready owners asked marks h at a b there place waits =
    record {
      marks_are = marks_still asked marks at a b there place h.marks_are;
      pairs = h.pairs;
      owned = λ k i e. owns k i (h.owned k i e) (cases_eq i at);
      distinct = still_distinct asked at a b there place h.distinct;
    }
  where
    owns : (k i : ℕ) → IsOwned ready asked k i → (i ≡ at) ⊎ (i ≡ at → ⊥) → IsOwned ready (slice_set asked at b) k i
    owns k i o (inl same) =
        let own : a ≡ o.call = same_Some _ _ (sym there ∙ ap (slice_get asked) (sym same) ∙ o.there) in
        record {
          call = b;
          there = ap (slice_get (slice_set asked at b)) same ∙ get_same asked at b (within asked at a there);
          waits = waits ∙ ap (λ (z : Asked). z.waits_at) own ∙ o.waits;
          prepared = o.prepared;
          is_ready = o.is_ready;
          place = o.place ∙ ap (λ (z : Asked). z.place) (sym own) ∙ sym place;
        }
    owns k i o (inr other) = record { call = o.call; there = get_other asked at i b other ∙ o.there; waits = o.waits; prepared = o.prepared; is_ready = o.is_ready; place = o.place }

-- the next attempt waits
pub asked_again : (ready : List Prepared) (owners : List ℕ) (asked : List Asked) (marks : List ℕ) → AreAsking ready owners asked marks → (p : Prepared) (at : ℕ) (a b : Asked) → slice_get asked at ≡ Some a → b.place ≡ a.place
    → p.request.place ≡ a.place → b.waits_at ≡ length ready → ((k : ℕ) → slice_get owners k ≡ Some at → ⊥) → AreAsking (ready ++ p ∷ []) (owners ++ at ∷ []) (slice_set asked at b) marks
asked_again ready owners asked marks h p at a b there place own waits idle =
    record {
      marks_are = marks_still asked marks at a b there place h.marks_are;
      pairs = omega (arith, length-append owners (at ∷ []), length-append ready (p ∷ []), h.pairs);
      owned = λ k i e. owns k i (get_push owners at i k e);
      distinct = still_distinct asked at a b there place h.distinct;
    }
  where
    owns : (k i : ℕ) → (slice_get owners k ≡ Some i) ⊎ ((k ≡ length owners) × (i ≡ at)) → IsOwned (ready ++ p ∷ []) (slice_set asked at b) k i
    owns k i (inl e) =
        let o : IsOwned ready asked k i = h.owned k i e in
        let other : i ≡ at → ⊥ = λ same. idle k (e ∙ ap Some same) in
        record { call = o.call; there = get_other asked at i b other ∙ o.there; waits = o.waits; prepared = o.prepared; is_ready = get_left ready (p ∷ []) k o.prepared o.is_ready; place = o.place }
    owns k i (inr e) =
        record {
          call = b;
          there = ap (slice_get (slice_set asked at b)) e.1 ∙ get_same asked at b (within asked at a there);
          waits = waits ∙ sym h.pairs ∙ sym e.0;
          prepared = p;
          is_ready = subst (λ (n : ℕ). slice_get (ready ++ p ∷ []) n ≡ Some p) (sym (e.0 ∙ h.pairs)) (get_last ready p);
          place = own ∙ sym place;
        }

-- ---- an attempt that is taken out

-- one owner waits at one place
pub one_wait : (ready : List Prepared) (owners : List ℕ) (asked : List Asked) (marks : List ℕ) → AreAsking ready owners asked marks → (j k at : ℕ) → slice_get owners j ≡ Some at → slice_get owners k ≡ Some at → j ≡ k
one_wait ready owners asked marks h j k at e f =
    let o : IsOwned ready asked j at = h.owned j at e in
    let u : IsOwned ready asked k at = h.owned k at f in
    sym o.waits ∙ ap (λ (z : Asked). z.waits_at) (same_Some _ _ (sym o.there ∙ u.there)) ∙ u.waits

pub idle_now : (ready : List Prepared) (owners : List ℕ) (asked : List Asked) (marks : List ℕ) → AreAsking ready owners asked marks → (k at d : ℕ) → slice_get owners k ≡ Some at → (i : ℕ) → slice_get (swap_remove owners k d) i ≡ Some at → ⊥
idle_now ready owners asked marks h k at d e i f = by_case (get_swapped owners k d i at (within owners k at e) f)
  where
    by_case : (i + 1 < length owners) × (((i ≡ k) × (slice_get owners (length owners - 1) ≡ Some at)) ⊎ ((i ≢ k) × (slice_get owners i ≡ Some at))) → ⊥
    by_case (less, inl s) = let same : length owners - 1 ≡ k = one_wait ready owners asked marks h (length owners - 1) k at s.1 e in omega (arith, same, s.0, less)
    by_case (less, inr s) = s.0 (one_wait ready owners asked marks h i k at s.1 e)

-- the last one takes the place, and its call waits there
pub closed : (ready : List Prepared) (owners : List ℕ) (asked : List Asked) (marks : List ℕ) → AreAsking ready owners asked marks → (k d moved : ℕ) (q : Prepared) (a b : Asked) → k < length owners
    → slice_get (swap_remove owners k d) k ≡ Some moved → slice_get asked moved ≡ Some a → b.place ≡ a.place → b.waits_at ≡ k
    → AreAsking (swap_remove ready k q) (swap_remove owners k d) (slice_set asked moved b) marks
closed ready owners asked marks h k d moved q a b inside last there place waits =
    record {
      marks_are = marks_still asked marks moved a b there place h.marks_are;
      pairs = swapped_length owners ready k d q h.pairs;
      owned = λ i j e. owns i j e (get_swapped owners k d i j inside e);
      distinct = still_distinct asked moved a b there place h.distinct;
    }
  where
    from_end : slice_get owners (length owners - 1) ≡ Some moved
    from_end = at_end (get_swapped owners k d k moved inside last)
      where
        at_end : (k + 1 < length owners) × (((k ≡ k) × (slice_get owners (length owners - 1) ≡ Some moved)) ⊎ ((k ≢ k) × (slice_get owners k ≡ Some moved))) → slice_get owners (length owners - 1) ≡ Some moved
        at_end (less, inl s) = s.1
        at_end (less, inr s) = absurd (s.0 refl)

    owns : (i j : ℕ) → slice_get (swap_remove owners k d) i ≡ Some j → (i + 1 < length owners) × (((i ≡ k) × (slice_get owners (length owners - 1) ≡ Some j)) ⊎ ((i ≢ k) × (slice_get owners i ≡ Some j)))
        → IsOwned (swap_remove ready k q) (slice_set asked moved b) i j
    owns i j e (less, inl s) =
        let own : j ≡ moved = same_Some _ _ (sym s.1 ∙ from_end) in
        let o : IsOwned ready asked (length owners - 1) j = h.owned (length owners - 1) j s.1 in
        let same : a ≡ o.call = same_Some _ _ (sym there ∙ ap (slice_get asked) (sym own) ∙ o.there) in
        record {
          call = b;
          there = ap (slice_get (slice_set asked moved b)) own ∙ get_same asked moved b (within asked moved a there);
          waits = waits ∙ sym s.0;
          prepared = o.prepared;
          is_ready = put_last ready k q i o.prepared (subst (λ (n : ℕ). i + 1 < n) h.pairs less) s.0 (subst (λ (n : ℕ). slice_get ready (n - 1) ≡ Some o.prepared) h.pairs o.is_ready);
          place = o.place ∙ ap (λ (z : Asked). z.place) (sym same) ∙ sym place;
        }
    owns i j e (less, inr s) =
        let o : IsOwned ready asked i j = h.owned i j s.1 in
        let other : j ≡ moved → ⊥ = λ same. omega (arith, less, one_wait ready owners asked marks h i (length owners - 1) moved (s.1 ∙ ap Some same) from_end) in
        record {
          call = o.call;
          there = get_other asked moved j b other ∙ o.there;
          waits = o.waits;
          prepared = o.prepared;
          is_ready = put_other ready k q i o.prepared (subst (λ (n : ℕ). i + 1 < n) h.pairs less) s.0 o.is_ready;
          place = o.place;
        }

-- the last one was taken out itself
pub closed_last : (ready : List Prepared) (owners : List ℕ) (asked : List Asked) (marks : List ℕ) → AreAsking ready owners asked marks → (k d : ℕ) (q : Prepared) → k < length owners → length owners ≤ k + 1
    → AreAsking (swap_remove ready k q) (swap_remove owners k d) asked marks
closed_last ready owners asked marks h k d q inside last =
    record {
      marks_are = h.marks_are;
      pairs = swapped_length owners ready k d q h.pairs;
      owned = λ i j e. owns i j (get_swapped owners k d i j inside e);
      distinct = h.distinct;
    }
  where
    owns : (i j : ℕ) → (i + 1 < length owners) × (((i ≡ k) × (slice_get owners (length owners - 1) ≡ Some j)) ⊎ ((i ≢ k) × (slice_get owners i ≡ Some j))) → IsOwned (swap_remove ready k q) asked i j
    owns i j (less, inl s) = absurd (omega (arith, less, s.0, last))
    owns i j (less, inr s) =
        let o : IsOwned ready asked i j = h.owned i j s.1 in
        record {
          call = o.call;
          there = o.there;
          waits = o.waits;
          prepared = o.prepared;
          is_ready = put_other ready k q i o.prepared (subst (λ (n : ℕ). i + 1 < n) h.pairs less) s.0 o.is_ready;
          place = o.place;
        }

-- ---- as the code has it

pub none_asked : (ready : List Prepared) (owners : List ℕ) (asked : List Asked) (marks : List ℕ) → ready ≡ [] → owners ≡ [] → asked ≡ [] → marks ≡ [] → AreAsking ready owners asked marks
none_asked ready owners asked marks e f g m =
    record {
      marks_are = m ∙ sym (ap (map mark_of) g);
      pairs = ap (λ (xs : List ℕ). length xs) f ∙ sym (ap (λ (xs : List Prepared). length xs) e);
      owned = λ k at there. absurd (nothing owners f k at there);
      distinct = λ i j a b there here same. absurd (nothing asked g i a there);
    }
  where
    nothing : {A : Type 0} (xs : List A) → xs ≡ [] → (i : ℕ) (x : A) → slice_get xs i ≡ Some x → ⊥
    nothing xs none i x there = let inside : i < length xs = within xs i x there in omega (arith, inside, ap (λ ys. length ys) none)

-- the call of an owner
pub owner_there : (ready : List Prepared) (owners : List ℕ) (asked : List Asked) (marks : List ℕ) → AreAsking ready owners asked marks → (k at : ℕ) → slice_get owners k ≡ Some at → at < length asked
owner_there ready owners asked marks h k at e = let o : IsOwned ready asked k at = h.owned k at e in within asked at o.call o.there

-- where its attempt waits
pub waits_there : (ready : List Prepared) (owners : List ℕ) (asked : List Asked) (marks : List ℕ) → AreAsking ready owners asked marks → (k at : ℕ) → slice_get owners k ≡ Some at → (a : Asked) → a ≡ get_or asked at a → slice_get owners a.waits_at ≡ Some at
waits_there ready owners asked marks h k at e a is =
    let o : IsOwned ready asked k at = h.owned k at e in
    let own : o.call ≡ a = same_Some _ _ (sym o.there ∙ read_at asked at a a (within asked at o.call o.there) is) in
    subst (λ (n : ℕ). slice_get owners n ≡ Some at) (sym o.waits ∙ ap (λ (z : Asked). z.waits_at) own) e

module _ (ready later : List Prepared) (owners after : List ℕ) (asked : List Asked) (marks : List ℕ) (h : AreAsking ready owners asked marks) (k d : ℕ) (q : Prepared) (e : later ≡ swap_remove ready k q)
    (f : after ≡ swap_remove owners k d) (inside : k < length owners) where
  moved_from : (moved : ℕ) → k < length after → moved ≡ get_or after k moved → slice_get (swap_remove owners k d) k ≡ Some moved
  moved_from moved less is = subst (λ (os : List ℕ). slice_get os k ≡ Some moved) f (read_at after k moved moved less is)

  pub moved_there : (moved : ℕ) → k < length after → moved ≡ get_or after k moved → moved < length asked
  moved_there moved less is = from (get_swapped owners k d k moved inside (moved_from moved less is))
    where
      from : (k + 1 < length owners) × (((k ≡ k) × (slice_get owners (length owners - 1) ≡ Some moved)) ⊎ ((k ≢ k) × (slice_get owners k ≡ Some moved))) → moved < length asked
      from (less2, inl s) = owner_there ready owners asked marks h (length owners - 1) moved s.1
      from (less2, inr s) = absurd (s.0 refl)

  pub removed_then : (moved : ℕ) (a b : Asked) → k < length after → moved ≡ get_or after k moved → a ≡ get_or asked moved a → b.place ≡ a.place → b.waits_at ≡ k → AreAsking later after (slice_set asked moved b) marks
  removed_then moved a b less is there place waits =
      subst (λ (rs : List Prepared). AreAsking rs after (slice_set asked moved b) marks) (sym e)
      (subst (λ (os : List ℕ). AreAsking (swap_remove ready k q) os (slice_set asked moved b) marks) (sym f)
      (closed ready owners asked marks h k d moved q a b inside (moved_from moved less is) (read_at asked moved a a (moved_there moved less is) there) place waits))

  pub removed_else : length owners ≤ k + 1 → AreAsking later after asked marks
  removed_else last =
      subst (λ (rs : List Prepared). AreAsking rs after asked marks) (sym e)
      (subst (λ (os : List ℕ). AreAsking (swap_remove ready k q) os asked marks) (sym f) (closed_last ready owners asked marks h k d q inside last))

-- the calls, but for the last attempt that was answered, are the same
pub calls_kept : (asked : List Asked) (at : ℕ) (a b : Asked) → at < length asked → a ≡ get_or asked at a → call_of b ≡ call_of a → map call_of (slice_set asked at b) ≡ map call_of asked
calls_kept asked at a b inside is same = map_set_same call_of asked at a b (read_at asked at a a inside is) same

map_other : {A B : Type 0} (f : A → B) (xs : List A) (i j : ℕ) (b : A) → (j ≡ i → ⊥) → slice_get (map f (slice_set xs i b)) j ≡ slice_get (map f xs) j
map_other f [] i j b h = refl
map_other f (x ∷ xs) zero zero b h = absurd (h refl)
map_other f (x ∷ xs) zero (suc j) b h = refl
map_other f (x ∷ xs) (suc i) zero b h = refl
map_other f (x ∷ xs) (suc i) (suc j) b h = map_other f xs i j b (λ e. h (ap (λ n. suc n) e))

pub answered_calls : (asked : List Asked) (old : List Call) → map call_of asked ≡ old → (at n : ℕ) (a : Asked) → at < length asked → a ≡ get_or asked at a
    → IsAnswered old at n (map call_of (slice_set asked at (record { place = a.place; step = a.step; last = Some n; waits_at = a.waits_at })))
answered_calls asked old e at n a inside is =
    let b : Asked = record { place = a.place; step = a.step; last = Some n; waits_at = a.waits_at } in
    record {
      count = length-map (slice_set asked at b) call_of ∙ length-set asked at b ∙ sym (length-map asked call_of) ∙ ap (λ (cs : List Call). length cs) e;
      here = λ c there. get_map call_of (slice_set asked at b) at b (get_same asked at b inside) ∙ ap (λ (x : Call). told x) (same_Some _ _ (sym (call_there asked at a inside is) ∙ ap (λ (cs : List Call). slice_get cs at) e ∙ there));
      others = λ i other. map_other call_of asked at i b other ∙ ap (λ (cs : List Call). slice_get cs i) e;
    }
  where
    told : Call → Option Call
    told x = Some (record { place = x.place; step = x.step; last = Some n })

-- the call at a number has that place
pub place_there : (asked : List Asked) (at : ℕ) (a : Asked) (place : List Segment) → slice_get (map place_in (map call_of asked)) at ≡ Some place → a ≡ get_or asked at a → (slice_get asked at ≡ Some a) × (place ≡ a.place)
place_there [] at a place e is = cc
place_there (x ∷ xs) zero a place e is = (ap Some (sym is), same_Some _ _ (sym e) ∙ ap (λ (z : Asked). z.place) (sym is))
place_there (x ∷ xs) (suc at) a place e is = place_there xs at a place e is

pub all_same : (ready : List Prepared) (owners : List ℕ) (asked : List Asked) (marks : List ℕ) (ready2 : List Prepared) (owners2 : List ℕ) (asked2 : List Asked) (marks2 : List ℕ) → ready2 ≡ ready → owners2 ≡ owners → asked2 ≡ asked → marks2 ≡ marks
    → AreAsking ready owners asked marks → AreAsking ready2 owners2 asked2 marks2
all_same ready owners asked marks ready2 owners2 asked2 marks2 e f g m h =
    subst (λ (xs : List Prepared). AreAsking xs owners2 asked2 marks2) (sym e)
    (subst (λ (xs : List ℕ). AreAsking ready xs asked2 marks2) (sym f)
    (subst (λ (xs : List Asked). AreAsking ready owners xs marks2) (sym g) (subst (λ (xs : List ℕ). AreAsking ready owners asked xs) (sym m) h)))

-- the call that stands there
asked_at : (asked : List Asked) (i : ℕ) (c : Call) → slice_get (map call_of asked) i ≡ Some c → (x : Asked) × (slice_get asked i ≡ Some x) × (call_of x ≡ c)
asked_at [] i c e = absurd (let f : ⊥ = cc in f)
asked_at (x ∷ xs) zero c e = (x, refl, same_Some _ _ e)
asked_at (x ∷ xs) (suc i) c e = asked_at xs i c e

-- ---- attempts by their places

module _ (ready : List Prepared) (owners : List ℕ) (asked : List Asked) (marks : List ℕ) (h : AreAsking ready owners asked marks) where
  pub place_taken : (k at : ℕ) → slice_get owners k ≡ Some at → (p : Prepared) → slice_get ready k ≡ Some p → slice_get (map place_in (map call_of asked)) at ≡ Some p.request.place
  place_taken k at e p there =
      let o : IsOwned ready asked k at = h.owned k at e in
      get_map place_in (map call_of asked) at (call_of o.call) (get_map call_of asked at o.call o.there)
      ∙ ap Some (sym o.place ∙ ap (λ (x : Prepared). x.request.place) (same_Some _ _ (sym o.is_ready ∙ there)))

  -- each attempt that waits has a call
  pub owner_of : (k : ℕ) (p : Prepared) → slice_get ready k ≡ Some p → (at : ℕ) × (slice_get owners k ≡ Some at)
  owner_of k p there = item_there owners k (subst (λ (n : ℕ). k < n) (sym h.pairs) (within ready k p there))

  pub place_of_ready : (k : ℕ) (p : Prepared) → slice_get ready k ≡ Some p → (at : ℕ) × (slice_get owners k ≡ Some at) × (c : Call) × (slice_get (map call_of asked) at ≡ Some c) × (c.place ≡ p.request.place)
  place_of_ready k p there =
      let w : (at : ℕ) × (slice_get owners k ≡ Some at) = owner_of k p there in
      let o : IsOwned ready asked k w.0 = h.owned k w.0 w.1 in
      (w.0, w.1, call_of o.call, get_map call_of asked w.0 o.call o.there, sym o.place ∙ ap (λ (x : Prepared). x.request.place) (same_Some _ _ (sym o.is_ready ∙ there)))

  -- calls of one place are one
  pub one_at : (i j : ℕ) (c d : Call) → slice_get (map call_of asked) i ≡ Some c → slice_get (map call_of asked) j ≡ Some d → c.place ≡ d.place → i ≡ j
  one_at i j c d e f same =
      let x : (x : Asked) × (slice_get asked i ≡ Some x) × (call_of x ≡ c) = asked_at asked i c e in
      let y : (x : Asked) × (slice_get asked j ≡ Some x) × (call_of x ≡ d) = asked_at asked j d f in
      h.distinct i j x.0 y.0 x.1 y.1 (ap (λ (z : Call). z.place) x.2 ∙ same ∙ ap (λ (z : Call). z.place) (sym y.2))

  -- attempts of one place are one
  pub one_ready_at : (j k : ℕ) (p r : Prepared) → slice_get ready j ≡ Some p → slice_get ready k ≡ Some r → p.request.place ≡ r.request.place → j ≡ k
  one_ready_at j k p r e f same =
      let x = place_of_ready j p e in
      let y = place_of_ready k r f in
      let calls : x.0 ≡ y.0 = one_at x.0 y.0 x.2 y.2 x.3 y.3 (x.4 ∙ same ∙ sym y.4) in
      one_wait ready owners asked marks h j k y.0 (x.1 ∙ ap Some calls) y.1

  pub one_ready : (j k : ℕ) (p r : Prepared) → slice_get ready j ≡ Some p → slice_get ready k ≡ Some r → p.request.place ≡ r.request.place → p ≡ r
  one_ready j k p r e f same = same_Some _ _ (sym e ∙ ap (slice_get ready) (one_ready_at j k p r e f same) ∙ f)

  -- the call of a place that an attempt waits at is found, and waits
  pub found_waits : (place : List Segment) (at : ℕ) → IsFoundAt (map call_of asked) place (Some at) → (k : ℕ) (p : Prepared) → slice_get ready k ≡ Some p → p.request.place ≡ place → (j : ℕ) × (slice_get owners j ≡ Some at)
  found_waits place at found k p there same =
      let x = place_of_ready k p there in
      let one : x.0 ≡ at = one_at x.0 at x.2 found.0 x.3 found.1 (x.4 ∙ same ∙ sym found.2) in
      (k, x.1 ∙ ap Some one)

  pub never_lost : (place : List Segment) → IsNew (map call_of asked) place → (k : ℕ) (p : Prepared) → slice_get ready k ≡ Some p → p.request.place ≡ place → ⊥
  never_lost place new k p there same = let x = place_of_ready k p there in new x.0 x.2 x.3 (x.4 ∙ same)

-- ---- the same of all that was asked

module _ (asking : Asking) (sound : IsAsking asking) where
  pub calls_one : (i j : ℕ) (a b : Call) → slice_get (calls asking) i ≡ Some a → slice_get (calls asking) j ≡ Some b → a.place ≡ b.place → i ≡ j
  calls_one = one_at asking.ready.items asking.owners.items asking.asked.items asking.marks sound

  pub ready_one : (i j : ℕ) (a b : Prepared) → slice_get asking.ready.items i ≡ Some a → slice_get asking.ready.items j ≡ Some b → a.request.place ≡ b.request.place → i ≡ j
  ready_one = one_ready_at asking.ready.items asking.owners.items asking.asked.items asking.marks sound
