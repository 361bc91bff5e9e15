-- What a scope by cells has of the names and calls that are seen.
use Rattle.std.proofs.Common.{◌≡◌, ℕ, ◌+◌, Bool, true, false, cond, ◌&&◌, ◌||◌, ◌⊎◌, inl, inr, List, [], ◌∷◌, ◌++◌, map, length, Option, Some, None, sym, ap, ◌∙◌, refl}
use Rattle.std.specs.List.{list_all}
use Rattle.std.specs.Str.{bytes_eq}
use Rattle.std.proofs.lemmas.Bool.{and_from, and_parts, false≢true, or_cases, or_left, or_right}
use Rattle.std.proofs.lemmas.List.{map-append}
use Rattle.wdl_base.specs.declared.name.Key.{Key}
use Rattle.wdl_base.specs.declared.place.Segment.{Segment}
use Rattle.wdl_typed.specs.declared.flow.Statement.{Statement, out-Statement}
use Rattle.wdl_typed.specs.Bodies.{Library}
use Rattle.wdl_typed.specs.Declarations.{plain_key}
use Rattle.wdl_typed.specs.Flow.{Names}
use Rattle.wdl_typed.specs.Journal.{keys_distinct}
use Rattle.wdl_typed.specs.Lists.{has_name}
use Rattle.wdl_typed.specs.Scope.{is_among, same_key, same_second}
use Rattle.flow_laws.proofs.Keys.{distinct_left, distinct_right}
use Rattle.net_laws.specs.Growing.{AreAfter, AreUsed, IsNamed, mark_cell, slot_cell}
use Rattle.net_laws.specs.Net.{MarksResolved, find_call, mark_calls, slot_keys}
use Rattle.net_laws.specs.Rules.{Needs}
use Rattle.plan_layout.specs.declared.layout.Need.{Need}
use Rattle.plan_layout.specs.Cells.{cell_at, marks_at, slots_at}
use Rattle.plan_layout.specs.Laid.{Stand, given_at}
use Rattle.plan_layout.specs.Sees.{AllSeen, Sees, spot_keys}
use Rattle.plan_layout.specs.Spots.{find_spot, needs_of, plain_keys, spots_from}
use Rattle.plan_layout.proofs.Needed.{AreSeen, needs_all, needs_resolved, needs_used, picks_all, picks_seen, slots_keys}
use Rattle.plan_growth.specs.Begun.{given_by, scope_at}
use Rattle.plan_layout.proofs.Typed.{spots_keys}

-- ---- names by cells

marks_calls : (bases : List ℕ) (level first : ℕ) (cs : List (List ℕ)) → mark_calls (marks_at bases (spots_from level first (plain_keys cs))) ≡ cs
marks_calls bases level first [] = refl
marks_calls bases level first (c ∷ cs) = ap (λ (xs : List (List ℕ)). c ∷ xs) (marks_calls bases level (first + 1) cs)

pub named_by : (bases : List ℕ) (a : Stand) (n : Names) → IsNamed n (given_by bases a n)
named_by bases a n =
    record {
      keys = slots_keys bases (spots_from (length a.path) a.next_name n.keys) ∙ spots_keys (length a.path) a.next_name n.keys;
      calls = marks_calls bases (length a.path) a.next_call n.calls;
    }

pub slots_cells : (bases : List ℕ) (ns : List Need) → map slot_cell (slots_at bases ns) ≡ map (cell_at bases) ns
slots_cells bases [] = refl
slots_cells bases (n ∷ ns) = ap (λ (cs : List ℕ). cell_at bases n ∷ cs) (slots_cells bases ns)

pub marks_cells : (bases : List ℕ) (ns : List Need) → map mark_cell (marks_at bases ns) ≡ map (cell_at bases) ns
marks_cells bases [] = refl
marks_cells bases (n ∷ ns) = ap (λ (cs : List ℕ). cell_at bases n ∷ cs) (marks_cells bases ns)

-- ---- names that differ

module _ (lib : Library) (x : Statement) (a : Stand) (h : Sees lib x a) where
  abbrev own : List Key
  own = (given_at lib (out-Statement x)).keys

  both : keys_distinct (spot_keys a.names ++ own) ≡ true
  both =
      ap keys_distinct
      (ap (λ (ks : List Key). spot_keys a.names ++ ks) (sym (spots_keys (length a.path) a.next_name own))
      ∙ sym (map-append (λ (n : Need). n.key) a.names (spots_from (length a.path) a.next_name own)))
      ∙ h.distinct

  pub distinct_seen : (bases : List ℕ) → keys_distinct (slot_keys (slots_at bases a.names)) ≡ true
  distinct_seen bases = ap keys_distinct (slots_keys bases a.names) ∙ distinct_left (spot_keys a.names) own both

  pub distinct_own : keys_distinct own ≡ true
  distinct_own = distinct_right (spot_keys a.names) own both

  pub distinct_calls : keys_distinct (plain_keys (given_at lib (out-Statement x)).calls) ≡ true
  distinct_calls =
      distinct_right (spot_keys a.calls) (plain_keys (given_at lib (out-Statement x)).calls)
      (ap keys_distinct
      (ap (λ (ks : List Key). spot_keys a.calls ++ ks) (sym (spots_keys (length a.path) a.next_call (plain_keys (given_at lib (out-Statement x)).calls)))
      ∙ sym (map-append (λ (n : Need). n.key) a.calls (spots_from (length a.path) a.next_call (plain_keys (given_at lib (out-Statement x)).calls))))
      ∙ h.calls_distinct)

pub needs_here : (bases : List ℕ) (a : Stand) (place : List Segment) (keys : List Key) → AllSeen a.names keys → Needs (scope_at bases a place) keys (slots_at bases (needs_of a.names keys))
needs_here bases a place keys h = record { resolved = needs_resolved bases a.names keys; all = needs_all bases a.names keys h }

-- ---- calls

plain_found : (seen : List Need) (calls : List (List ℕ)) → spot_keys seen ≡ plain_keys calls → (key : Key) (n : Need) → find_spot seen key ≡ Some n → n.key.second ≡ None
plain_found [] calls e key n h = cc
plain_found (s ∷ ss) [] e key n h = cc
plain_found (s ∷ ss) (c ∷ cs) e key n h =
    let first : s.key ≡ plain_key c = cc in
    let rest : spot_keys ss ≡ plain_keys cs = cc in
    by_key (same_key s.key key) first (plain_found ss cs rest key n) h
  where
    by_key : (b : Bool) → s.key ≡ plain_key c → (find_spot ss key ≡ Some n → n.key.second ≡ None) → cond b (Some s) (find_spot ss key) ≡ Some n → n.key.second ≡ None
    by_key true first rest h = let same : s ≡ n = cc in ap (λ (z : Need). z.key.second) (sym same) ∙ ap (λ (k : Key). k.second) first
    by_key false first rest h = rest h

-- Of plain names the first words tell them apart.
same_plain : (s k : Option (List ℕ)) (b : Bool) → s ≡ None → k ≡ None → b && same_second s k ≡ b
same_plain s k b e f = ap (λ (z : Option (List ℕ)). b && same_second z k) e ∙ ap (λ (z : Option (List ℕ)). b && same_second None z) f ∙ with_true b
  where
    with_true : (c : Bool) → c && true ≡ c
    with_true true = refl
    with_true false = refl

find_mark : (bases : List ℕ) (seen : List Need) (calls : List (List ℕ)) → spot_keys seen ≡ plain_keys calls → (key : Key) (n : Need) → key.second ≡ None → find_spot seen key ≡ Some n
    → find_call (marks_at bases seen) key.first ≡ Some (cell_at bases n)
find_mark bases [] calls e key n p h = cc
find_mark bases (s ∷ ss) [] e key n p h = cc
find_mark bases (s ∷ ss) (c ∷ cs) e key n p h =
    let first : s.key ≡ plain_key c = cc in
    let rest : spot_keys ss ≡ plain_keys cs = cc in
    let same = same_plain s.key.second key.second (bytes_eq s.key.first key.first) (ap (λ (k : Key). k.second) first) p in
    by_key (bytes_eq s.key.first key.first) (find_mark bases ss cs rest key n p) (ap (λ (b : Bool). cond b (Some s) (find_spot ss key)) (sym same) ∙ h)
  where
    by_key : (b : Bool) → (find_spot ss key ≡ Some n → find_call (marks_at bases ss) key.first ≡ Some (cell_at bases n)) → cond b (Some s) (find_spot ss key) ≡ Some n
        → cond b (Some (cell_at bases s)) (find_call (marks_at bases ss) key.first) ≡ Some (cell_at bases n)
    by_key true rest h = let same : s ≡ n = cc in ap (λ (z : Need). Some (cell_at bases z)) same
    by_key false rest h = rest h

module _ (bases : List ℕ) (seen : List Need) (calls : List (List ℕ)) (plain : spot_keys seen ≡ plain_keys calls) where
  marks_found : (ns : List Need) → AreSeen seen ns → MarksResolved (marks_at bases seen) (marks_at bases ns)
  marks_found [] h = tt
  marks_found (n ∷ ns) h = (find_mark bases seen calls plain n.key n (plain_found seen calls plain n.key n h.0) h.0, marks_found ns h.1)

  pub marks_resolved : (after : List (List ℕ)) → MarksResolved (marks_at bases seen) (marks_at bases (needs_of seen (plain_keys after)))
  marks_resolved after = marks_found (needs_of seen (plain_keys after)) (picks_seen seen [] (plain_keys after) tt)

named_first : (name : List ℕ) (bases : List ℕ) (ns : List Need) → is_among (plain_key name) (spot_keys ns) ≡ true → has_name name (mark_calls (marks_at bases ns)) ≡ true
named_first name bases [] h = absurd (false≢true h)
named_first name bases (n ∷ ns) h = by_case (or_cases (same_key n.key (plain_key name)) (is_among (plain_key name) (spot_keys ns)) h) (named_first name bases ns)
  where
    by_case : (same_key n.key (plain_key name) ≡ true) ⊎ (is_among (plain_key name) (spot_keys ns) ≡ true) → (is_among (plain_key name) (spot_keys ns) ≡ true → has_name name (mark_calls (marks_at bases ns)) ≡ true)
        → (bytes_eq n.key.first name || has_name name (mark_calls (marks_at bases ns))) ≡ true
    by_case (inl e) rest = or_left (bytes_eq n.key.first name) (has_name name (mark_calls (marks_at bases ns))) (and_parts (bytes_eq n.key.first name) (same_second n.key.second None) e).0
    by_case (inr e) rest = or_right (bytes_eq n.key.first name) (has_name name (mark_calls (marks_at bases ns))) (rest e)

all_named : (bases : List ℕ) (ns : List Need) (after : List (List ℕ)) → list_all (λ (k : Key). is_among k (spot_keys ns)) (plain_keys after) ≡ true
    → list_all (λ (c : List ℕ). has_name c (mark_calls (marks_at bases ns))) after ≡ true
all_named bases ns [] h = refl
all_named bases ns (c ∷ cs) h =
    let p = and_parts (is_among (plain_key c) (spot_keys ns)) (list_all (λ (k : Key). is_among k (spot_keys ns)) (plain_keys cs)) h in
    and_from (has_name c (mark_calls (marks_at bases ns))) (list_all (λ (d : List ℕ). has_name d (mark_calls (marks_at bases ns))) cs) (named_first c bases ns p.0) (all_named bases ns cs p.1)

pub marks_all : (bases : List ℕ) (seen : List Need) (after : List (List ℕ)) → AllSeen seen (plain_keys after)
    → list_all (λ (c : List ℕ). has_name c (mark_calls (marks_at bases (needs_of seen (plain_keys after))))) after ≡ true
marks_all bases seen after h = all_named bases (needs_of seen (plain_keys after)) after (picks_all seen [] (plain_keys after) h)

among_plain : (key : Key) (after : List (List ℕ)) → is_among key (plain_keys after) ≡ true → has_name key.first after ≡ true
among_plain key [] h = absurd (false≢true h)
among_plain key (c ∷ cs) h = by_case (or_cases (same_key (plain_key c) key) (is_among key (plain_keys cs)) h) (among_plain key cs)
  where
    by_case : (same_key (plain_key c) key ≡ true) ⊎ (is_among key (plain_keys cs) ≡ true) → (is_among key (plain_keys cs) ≡ true → has_name key.first cs ≡ true) → (bytes_eq c key.first || has_name key.first cs) ≡ true
    by_case (inl e) rest = or_left (bytes_eq c key.first) (has_name key.first cs) (and_parts (bytes_eq c key.first) (same_second None key.second) e).0
    by_case (inr e) rest = or_right (bytes_eq c key.first) (has_name key.first cs) (rest e)

after_used : (bases : List ℕ) (after : List (List ℕ)) (ns : List Need) → AreUsed (plain_keys after) (slots_at bases ns) → AreAfter after (marks_at bases ns)
after_used bases after [] h = tt
after_used bases after (n ∷ ns) h = (among_plain n.key after h.0, after_used bases after ns h.1)

pub marks_after : (bases : List ℕ) (seen : List Need) (after : List (List ℕ)) → AreAfter after (marks_at bases (needs_of seen (plain_keys after)))
marks_after bases seen after = after_used bases after (needs_of seen (plain_keys after)) (needs_used bases seen (plain_keys after))
