-- What is needed is seen, each name once, and is all that is referred to.
use Rattle.std.proofs.Common.{◌≡◌, ℕ, Bool, true, false, cond, ◌||◌, List, [], ◌∷◌, ◌++◌, append_assoc, append-nil, Option, Some, None, sym, ap, ◌∙◌, subst, refl}
use Rattle.std.specs.List.{list_all}
use Rattle.std.proofs.lemmas.Bool.{false≢true, and_from, and_parts, or_left, or_right}
use Rattle.wdl_base.specs.declared.name.Key.{Key}
use Rattle.wdl_typed.specs.KnownTypes.{is_some}
use Rattle.wdl_typed.specs.Order.{option_list}
use Rattle.wdl_typed.specs.Scope.{is_among, same_key}
use Rattle.flow_laws.proofs.Keys.{key_itself, key_same}
use Rattle.net_laws.specs.Net.{Resolved, find, slot_keys}
use Rattle.net_laws.specs.Growing.{AreUsed}
use Rattle.plan_layout.specs.declared.layout.Need.{Need}
use Rattle.plan_layout.specs.Cells.{cell_at, slots_at}
use Rattle.plan_layout.specs.Sees.{AllSeen, spot_keys}
use Rattle.plan_layout.specs.Spots.{find_spot, needs_of, pick, picks}

-- ---- names that are found

pub found_key : (ss : List Need) (key : Key) (s : Need) → find_spot ss key ≡ Some s → s.key ≡ key
found_key [] key s h = cc
found_key (t ∷ ss) key s h = by_key (same_key t.key key) refl (found_key ss key s) h
  where
    by_key : (b : Bool) → same_key t.key key ≡ b → (find_spot ss key ≡ Some s → s.key ≡ key) → cond b (Some t) (find_spot ss key) ≡ Some s → s.key ≡ key
    by_key true e rest h = let same : t ≡ s = cc in ap (λ (n : Need). n.key) (sym same) ∙ key_same t.key key e
    by_key false e rest h = rest h

among_found : (ss : List Need) (key : Key) → is_some (find_spot ss key) ≡ true → is_among key (spot_keys ss) ≡ true
among_found [] key h = absurd (false≢true h)
among_found (t ∷ ss) key h = by_key (same_key t.key key) (among_found ss key) h
  where
    by_key : (b : Bool) → (is_some (find_spot ss key) ≡ true → is_among key (spot_keys ss) ≡ true) → is_some (cond b (Some t) (find_spot ss key)) ≡ true → (b || is_among key (spot_keys ss)) ≡ true
    by_key true rest h = refl
    by_key false rest h = rest h

-- each is the first name of its key
abbrev pub AreSeen : List Need → List Need → Type 0
AreSeen seen [] = Unit {0}
AreSeen seen (n ∷ ns) = (find_spot seen n.key ≡ Some n) × AreSeen seen ns

seen_more : (seen xs ys : List Need) → AreSeen seen xs → AreSeen seen ys → AreSeen seen (xs ++ ys)
seen_more seen [] ys h j = j
seen_more seen (x ∷ xs) ys h j = (h.0, seen_more seen xs ys h.1 j)

module _ (seen : List Need) where
  one_seen : (key : Key) (o : Option Need) → find_spot seen key ≡ o → AreSeen seen (option_list o)
  one_seen key None e = tt
  one_seen key (Some s) e = (ap (find_spot seen) (found_key seen key s e) ∙ e, tt)

  picked_seen : (needs : List Need) (key : Key) (b : Bool) → AreSeen seen needs → AreSeen seen (cond b needs (needs ++ option_list (find_spot seen key)))
  picked_seen needs key true h = h
  picked_seen needs key false h = seen_more seen needs (option_list (find_spot seen key)) h (one_seen key (find_spot seen key) refl)

  pub picks_seen : (needs : List Need) (keys : List Key) → AreSeen seen needs → AreSeen seen (picks seen needs keys)
  picks_seen needs [] h = h
  picks_seen needs (key ∷ keys) h = picks_seen (pick seen needs key) keys (picked_seen needs key (is_some (find_spot needs key)) h)

  -- ---- nothing else is needed

  abbrev AreAmong : List Key → List Need → Type 0
  AreAmong all [] = Unit {0}
  AreAmong all (n ∷ ns) = (is_among n.key all ≡ true) × AreAmong all ns

  among_more : (all : List Key) (xs ys : List Need) → AreAmong all xs → AreAmong all ys → AreAmong all (xs ++ ys)
  among_more all [] ys h j = j
  among_more all (x ∷ xs) ys h j = (h.0, among_more all xs ys h.1 j)

  one_among : (all : List Key) (key : Key) (o : Option Need) → is_among key all ≡ true → find_spot seen key ≡ o → AreAmong all (option_list o)
  one_among all key None i e = tt
  one_among all key (Some s) i e = (ap (λ k. is_among k all) (found_key seen key s e) ∙ i, tt)

  picked_among : (all : List Key) (needs : List Need) (key : Key) (b : Bool) → is_among key all ≡ true → AreAmong all needs → AreAmong all (cond b needs (needs ++ option_list (find_spot seen key)))
  picked_among all needs key true i h = h
  picked_among all needs key false i h = among_more all needs (option_list (find_spot seen key)) h (one_among all key (find_spot seen key) i refl)

  picks_among : (all : List Key) (needs : List Need) (keys : List Key) → ((k : Key) → is_among k keys ≡ true → is_among k all ≡ true) → AreAmong all needs → AreAmong all (picks seen needs keys)
  picks_among all needs [] i h = h
  picks_among all needs (key ∷ keys) i h =
      picks_among all (pick seen needs key) keys (λ k e. i k (or_right (same_key key k) (is_among k keys) e))
      (picked_among all needs key (is_some (find_spot needs key)) (i key (or_left (same_key key key) (is_among key keys) (key_itself key))) h)

  -- ---- all that is seen is there

  found_more : (xs ys : List Need) (key : Key) → is_some (find_spot xs key) ≡ true → is_some (find_spot (xs ++ ys) key) ≡ true
  found_more [] ys key h = absurd (false≢true h)
  found_more (x ∷ xs) ys key h = by_key (same_key x.key key) (found_more xs ys key) h
    where
      by_key : (b : Bool) → (is_some (find_spot xs key) ≡ true → is_some (find_spot (xs ++ ys) key) ≡ true) → is_some (cond b (Some x) (find_spot xs key)) ≡ true → is_some (cond b (Some x) (find_spot (xs ++ ys) key)) ≡ true
      by_key true rest h = refl
      by_key false rest h = rest h

  found_last : (xs : List Need) (s : Need) (key : Key) → same_key s.key key ≡ true → is_some (find_spot (xs ++ s ∷ []) key) ≡ true
  found_last [] s key e = ap (λ b. is_some (cond b (Some s) None)) e
  found_last (x ∷ xs) s key e = by_key (same_key x.key key) (found_last xs s key e)
    where
      by_key : (b : Bool) → is_some (find_spot (xs ++ s ∷ []) key) ≡ true → is_some (cond b (Some x) (find_spot (xs ++ s ∷ []) key)) ≡ true
      by_key true h = refl
      by_key false h = h

  picks_more : (needs : List Need) (keys : List Key) → (more : List Need) × (picks seen needs keys ≡ needs ++ more)
  picks_more needs [] = ([], sym (append-nil needs))
  picks_more needs (key ∷ keys) = by_test (is_some (find_spot needs key)) (picks_more (pick seen needs key) keys)
    where
      by_test : (b : Bool) → (let next : List Need = cond b needs (needs ++ option_list (find_spot seen key)) in (more : List Need) × (picks seen next keys ≡ next ++ more))
          → (more : List Need) × (picks seen (cond b needs (needs ++ option_list (find_spot seen key))) keys ≡ needs ++ more)
      by_test true p = p
      by_test false p = (option_list (find_spot seen key) ++ p.0, p.1 ∙ append_assoc needs (option_list (find_spot seen key)) p.0)

  there_now : (needs : List Need) (key : Key) (o : Option Need) → find_spot seen key ≡ o → is_some o ≡ true → (b : Bool) → is_some (find_spot needs key) ≡ b
      → is_some (find_spot (cond b needs (needs ++ option_list o)) key) ≡ true
  there_now needs key None e i b h = absurd (false≢true i)
  there_now needs key (Some s) e i true h = h
  there_now needs key (Some s) e i false h = found_last needs s key (ap (λ k. same_key k key) (found_key seen key s e) ∙ key_itself key)

  pub picks_all : (needs : List Need) (keys : List Key) → AllSeen seen keys
      → list_all (λ (k : Key). is_among k (spot_keys (picks seen needs keys))) keys ≡ true
  picks_all needs [] h = refl
  picks_all needs (key ∷ keys) h =
      let p = and_parts (is_some (find_spot seen key)) (list_all (λ (k : Key). is_some (find_spot seen k)) keys) h in
      let m = picks_more (pick seen needs key) keys in
      and_from _ _
      (ap (λ (ns : List Need). is_among key (spot_keys ns)) m.1
      ∙ among_found (pick seen needs key ++ m.0) key (found_more (pick seen needs key) m.0 key (there_now needs key (find_spot seen key) refl p.0 (is_some (find_spot needs key)) refl)))
      (picks_all (pick seen needs key) keys p.1)

-- ---- by cells

pub slots_keys : (bases : List ℕ) (ns : List Need) → slot_keys (slots_at bases ns) ≡ spot_keys ns
slots_keys bases [] = refl
slots_keys bases (n ∷ ns) = ap (λ ks. n.key ∷ ks) (slots_keys bases ns)

pub find_at : (bases : List ℕ) (ss : List Need) (key : Key) (n : Need) → find_spot ss key ≡ Some n → find (slots_at bases ss) key ≡ Some (cell_at bases n)
find_at bases [] key n h = cc
find_at bases (s ∷ ss) key n h = by_key (same_key s.key key) (find_at bases ss key n) h
  where
    by_key : (b : Bool) → (find_spot ss key ≡ Some n → find (slots_at bases ss) key ≡ Some (cell_at bases n)) → cond b (Some s) (find_spot ss key) ≡ Some n
        → cond b (Some (cell_at bases s)) (find (slots_at bases ss) key) ≡ Some (cell_at bases n)
    by_key true rest h = let same : s ≡ n = cc in ap (λ (x : Need). Some (cell_at bases x)) same
    by_key false rest h = rest h

resolved_at : (bases : List ℕ) (seen ns : List Need) → AreSeen seen ns → Resolved (slots_at bases seen) (slots_at bases ns)
resolved_at bases seen [] h = tt
resolved_at bases seen (n ∷ ns) h = (find_at bases seen n.key n h.0, resolved_at bases seen ns h.1)

used_at : (bases : List ℕ) (seen : List Need) (all : List Key) (ns : List Need) → AreAmong seen all ns → AreUsed all (slots_at bases ns)
used_at bases seen all [] h = tt
used_at bases seen all (n ∷ ns) h = (h.0, used_at bases seen all ns h.1)

-- What is needed of these names is what the scope has of them, with whatever bases of cells.
pub needs_resolved : (bases : List ℕ) (seen : List Need) (keys : List Key) → Resolved (slots_at bases seen) (slots_at bases (needs_of seen keys))
needs_resolved bases seen keys = resolved_at bases seen (needs_of seen keys) (picks_seen seen [] keys tt)

pub needs_used : (bases : List ℕ) (seen : List Need) (keys : List Key) → AreUsed keys (slots_at bases (needs_of seen keys))
needs_used bases seen keys = used_at bases seen keys (needs_of seen keys) (picks_among seen keys [] keys (λ k i. i) tt)

pub needs_all : (bases : List ℕ) (seen : List Need) (keys : List Key) → AllSeen seen keys
    → list_all (λ (k : Key). is_among k (slot_keys (slots_at bases (needs_of seen keys)))) keys ≡ true
needs_all bases seen keys h =
    subst (λ (ks : List Key). list_all (λ (k : Key). is_among k ks) keys ≡ true) (sym (slots_keys bases (needs_of seen keys))) (picks_all seen [] keys h)
