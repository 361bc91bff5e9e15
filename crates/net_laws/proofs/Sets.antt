-- Cells that are set: of needs, of scopes, and of what is given out.
use Rattle.std.proofs.Common.{◌≡◌, ℕ, suc, Bool, true, false, cond, ◌&&◌, ◌||◌, ◌⊎◌, inl, inr, List, [], ◌∷◌, ◌++◌, All, map, Option, Some, None, arith, sym, ap, ◌∙◌, subst, refl}
use Rattle.std.specs.List.{list_all}
use Rattle.std.specs.Str.{bytes_eq}
use Rattle.std.proofs.lemmas.Bool.{and_from, and_left, and_parts, and_right, cases_Bool, false≢true, or_cases, true≢false, or_right}
use Rattle.std.proofs.lemmas.List.Folds.{list_all-append}
use Rattle.std.proofs.lemmas.Slice.Eq.{bytes_eq-Decides}
use Rattle.std.proofs.lemmas.Option.{same_Some}
use Rattle.wdl_base.specs.declared.name.Key.{Key}
use Rattle.wdl_value.specs.declared.value.Value.{Value}
use Rattle.wdl_typed.specs.declared.expr.TExpr.{TExpr}
use Rattle.wdl_typed.specs.declared.expr.TField.{TField}
use Rattle.wdl_typed.specs.Flow.{Ended, Flowing, Known, Names, all_known, args_known, bound_by, each_call, each_key, env_of, has_ended, is_known, missing}
use Rattle.wdl_typed.specs.KnownTypes.{is_some}
use Rattle.wdl_typed.specs.Lists.{has_name}
use Rattle.wdl_typed.specs.Scope.{is_among, lookup, names_of, same_key}
use Rattle.flow_laws.proofs.Keys.{key_itself}
use Rattle.net_laws.specs.Net.{Cells, Given, Mark, MarksResolved, Resolved, Scope, Slot, beyond, ended_in, find, find_call, flowing_of, known_in, mark_calls, no_work, slot_keys}
use Rattle.net_laws.specs.Rules.{arg_keys}
use Rattle.net_laws.specs.Growing.{AreAfter, AreUsed, IsNamed, mark_cell, slot_cell}
use Rattle.net_laws.proofs.Lookups.{ended_at, ended_needed, value_at}

pub none_of : (o : Option Value) → is_some o ≡ false → o ≡ None
none_of None h = refl
none_of (Some x) h = absurd (true≢false h)

pub and_true : (b : Bool) → b && true ≡ b
and_true true = refl
and_true false = refl

picked : (x : Value) (o : Option Value) (b c : Bool) → b || c ≡ true → (c ≡ true → is_some o ≡ true) → is_some (cond b (Some x) o) ≡ true
picked x o true c j rest = refl
picked x o false c j rest = rest j

module _ (cells : Cells) where
  abbrev pub is_set : ℕ → Bool
  is_set c = is_some (cells c)

  abbrev pub slots_set : List Slot → Bool
  slots_set = list_all (λ (s : Slot). is_set s.cell)

  abbrev pub marks_set : List Mark → Bool
  marks_set = list_all (λ (m : Mark). is_set m.cell)

  -- all that is seen has a value, and has ended
  pub record AllKnown (s : Scope) : Type 0 where
    pub names : slots_set s.names ≡ true
    pub calls : marks_set s.calls ≡ true

  pub record AllGiven (g : Given) : Type 0 where
    pub names : slots_set g.names ≡ true
    pub calls : marks_set g.calls ≡ true

  pub slots_both : (a b : List Slot) → slots_set a ≡ true → slots_set b ≡ true → slots_set (a ++ b) ≡ true
  slots_both a b h j = list_all-append (λ (s : Slot). is_set s.cell) a b ∙ and_from (slots_set a) (slots_set b) h j

  pub marks_both : (a b : List Mark) → marks_set a ≡ true → marks_set b ≡ true → marks_set (a ++ b) ≡ true
  marks_both a b h j = list_all-append (λ (m : Mark). is_set m.cell) a b ∙ and_from (marks_set a) (marks_set b) h j

  pub known_beyond : (s : Scope) (g : Given) → AllKnown s → AllGiven g → AllKnown (beyond s g)
  known_beyond s g h j = record { names = slots_both s.names g.names h.names j.names; calls = marks_both s.calls g.calls h.calls j.calls }

  pub find_set : (ss : List Slot) → slots_set ss ≡ true → (key : Key) (c : ℕ) → find ss key ≡ Some c → is_set c ≡ true
  find_set [] h key c e = cc
  find_set (s ∷ ss) h key c e =
      let p = and_parts (is_set s.cell) (slots_set ss) h in
      go (same_key s.key key) e p.0 (find_set ss p.1 key c)
    where
      go : (b : Bool) → cond b (Some s.cell) (find ss key) ≡ Some c → is_set s.cell ≡ true → (find ss key ≡ Some c → is_set c ≡ true) → is_set c ≡ true
      go true i q rest = subst (λ n. is_set n ≡ true) (same_Some _ _ i) q
      go false i q rest = rest i

  pub find_call_set : (ms : List Mark) → marks_set ms ≡ true → (call : List ℕ) (c : ℕ) → find_call ms call ≡ Some c → is_set c ≡ true
  find_call_set [] h call c e = cc
  find_call_set (m ∷ ms) h call c e =
      let p = and_parts (is_set m.cell) (marks_set ms) h in
      go (bytes_eq m.call call) e p.0 (find_call_set ms p.1 call c)
    where
      go : (b : Bool) → cond b (Some m.cell) (find_call ms call) ≡ Some c → is_set m.cell ≡ true → (find_call ms call ≡ Some c → is_set c ≡ true) → is_set c ≡ true
      go true i q rest = subst (λ n. is_set n ≡ true) (same_Some _ _ i) q
      go false i q rest = rest i

  pub resolved_set : (all ns : List Slot) → slots_set all ≡ true → Resolved all ns → slots_set ns ≡ true
  resolved_set all [] h r = refl
  resolved_set all (n ∷ ns) h r = and_from (is_set n.cell) (slots_set ns) (find_set all h n.key n.cell r.0) (resolved_set all ns h r.1)

  pub marks_resolved_set : (all ms : List Mark) → marks_set all ≡ true → MarksResolved all ms → marks_set ms ≡ true
  marks_resolved_set all [] h r = refl
  marks_resolved_set all (m ∷ ms) h r = and_from (is_set m.cell) (marks_set ms) (find_call_set all h m.call m.cell r.0) (marks_resolved_set all ms h r.1)

  -- ---- needs that are all set are known

  known_at : (ns : List Slot) → slots_set ns ≡ true → (key : Key) → is_among key (slot_keys ns) ≡ true → is_known (map (known_in cells) ns) key ≡ true
  known_at [] h key i = absurd (false≢true i)
  known_at (n ∷ ns) h key i =
      let p = and_parts (is_set n.cell) (slots_set ns) h in
      go (cells n.cell) p.0 (known_at ns p.1 key)
    where
      go : (o : Option Value) → is_some o ≡ true → (is_among key (slot_keys ns) ≡ true → is_known (map (known_in cells) ns) key ≡ true) → is_some (lookup (bound_by n.key o ++ env_of (map (known_in cells) ns)) key) ≡ true
      go None e rest = absurd (false≢true e)
      go (Some x) e rest = picked x (lookup (env_of (map (known_in cells) ns)) key) (same_key n.key key) (is_among key (slot_keys ns)) i rest

  pub all_known_set : (ns : List Slot) → slots_set ns ≡ true → (keys : List Key) → list_all (λ (k : Key). is_among k (slot_keys ns)) keys ≡ true → list_all (is_known (map (known_in cells) ns)) keys ≡ true
  all_known_set ns h [] i = refl
  all_known_set ns h (k ∷ keys) i =
      let p = and_parts (is_among k (slot_keys ns)) (list_all (λ (j : Key). is_among j (slot_keys ns)) keys) i in
      and_from (is_known (map (known_in cells) ns) k) (list_all (is_known (map (known_in cells) ns)) keys) (known_at ns h k p.0) (all_known_set ns h keys p.1)

  pub args_known_set : (ns : List Slot) → slots_set ns ≡ true → (as_ : List (TField TExpr)) → list_all (λ (k : Key). is_among k (slot_keys ns)) (arg_keys as_) ≡ true → args_known (map (known_in cells) ns) as_ ≡ true
  args_known_set ns h [] i = refl
  args_known_set ns h (a ∷ as_) i =
      let p = and_parts (list_all (λ (k : Key). is_among k (slot_keys ns)) (names_of a.value)) (list_all (λ (k : Key). is_among k (slot_keys ns)) (arg_keys as_))
      (sym (list_all-append (λ (k : Key). is_among k (slot_keys ns)) (names_of a.value) (arg_keys as_)) ∙ i) in
      and_from (all_known (map (known_in cells) ns) a.value) (args_known (map (known_in cells) ns) as_) (all_known_set ns h (names_of a.value) p.0) (args_known_set ns h as_ p.1)

  ended_among : (ms : List Mark) → marks_set ms ≡ true → (call : List ℕ) → has_name call (mark_calls ms) ≡ true → has_ended (map (ended_in cells) ms) call ≡ true
  ended_among [] h call i = absurd (false≢true i)
  ended_among (m ∷ ms) h call i =
      let p = and_parts (is_set m.cell) (marks_set ms) h in
      go (bytes_eq m.call call) i p.0 (ended_among ms p.1 call)
    where
      go : (b : Bool) → b || has_name call (mark_calls ms) ≡ true → is_set m.cell ≡ true → (has_name call (mark_calls ms) ≡ true → has_ended (map (ended_in cells) ms) call ≡ true)
          → cond b (is_set m.cell) (has_ended (map (ended_in cells) ms) call) ≡ true
      go true j q rest = q
      go false j q rest = rest j

  pub all_ended_set : (ms : List Mark) → marks_set ms ≡ true → (calls : List (List ℕ)) → list_all (λ (x : List ℕ). has_name x (mark_calls ms)) calls ≡ true → list_all (has_ended (map (ended_in cells) ms)) calls ≡ true
  all_ended_set ms h [] i = refl
  all_ended_set ms h (c ∷ cs) i =
      let p = and_parts (has_name c (mark_calls ms)) (list_all (λ (x : List ℕ). has_name x (mark_calls ms)) cs) i in
      and_from (has_ended (map (ended_in cells) ms) c) (list_all (has_ended (map (ended_in cells) ms)) cs) (ended_among ms h c p.0) (all_ended_set ms h cs p.1)

  -- ---- a need that is not set

  pub record Lacks (all ns : List Slot) (keys : List Key) : Type 0 where
    pub slot : Slot
    pub seen : find all slot.key ≡ Some slot.cell
    pub among : is_among slot.key (slot_keys ns) ≡ true
    pub used : is_among slot.key keys ≡ true
    pub unset : cells slot.cell ≡ None

  pub lacks : (all ns : List Slot) (keys : List Key) → Resolved all ns → AreUsed keys ns → slots_set ns ≡ false → Lacks all ns keys
  lacks all [] keys r u h = absurd (true≢false h)
  lacks all (n ∷ ns) keys r u h = go (cases_Bool (is_set n.cell)) (lacks all ns keys r.1 u.1)
    where
      later : Lacks all ns keys → Lacks all (n ∷ ns) keys
      later l = record { slot = l.slot; seen = l.seen; among = or_right (same_key n.key l.slot.key) (is_among l.slot.key (slot_keys ns)) l.among; used = l.used; unset = l.unset }

      go : (is_set n.cell ≡ true) ⊎ (is_set n.cell ≡ false) → (slots_set ns ≡ false → Lacks all ns keys) → Lacks all (n ∷ ns) keys
      go (inl e) rest = later (rest (ap (λ b. b && slots_set ns) (sym e) ∙ h))
      go (inr e) rest = record { slot = n; seen = r.0; among = ap (λ b. b || is_among n.key (slot_keys ns)) (key_itself n.key); used = u.0; unset = none_of (cells n.cell) e }

  pub record LacksMark (all ms : List Mark) (calls : List (List ℕ)) : Type 0 where
    pub mark : Mark
    pub seen : find_call all mark.call ≡ Some mark.cell
    pub among : has_name mark.call (mark_calls ms) ≡ true
    pub used : has_name mark.call calls ≡ true
    pub unset : cells mark.cell ≡ None

  pub lacks_mark : (all ms : List Mark) (calls : List (List ℕ)) → MarksResolved all ms → AreAfter calls ms → marks_set ms ≡ false → LacksMark all ms calls
  lacks_mark all [] calls r u h = absurd (true≢false h)
  lacks_mark all (m ∷ ms) calls r u h = go (cases_Bool (is_set m.cell)) (lacks_mark all ms calls r.1 u.1)
    where
      later : LacksMark all ms calls → LacksMark all (m ∷ ms) calls
      later l = record { mark = l.mark; seen = l.seen; among = or_right (bytes_eq m.call l.mark.call) (has_name l.mark.call (mark_calls ms)) l.among; used = l.used; unset = l.unset }

      go : (is_set m.cell ≡ true) ⊎ (is_set m.cell ≡ false) → (marks_set ms ≡ false → LacksMark all ms calls) → LacksMark all (m ∷ ms) calls
      go (inl e) rest = later (rest (ap (λ b. b && marks_set ms) (sym e) ∙ h))
      go (inr e) rest = record { mark = m; seen = r.0; among = ap (λ b. b || has_name m.call (mark_calls ms)) ((bytes_eq-Decides m.call m.call).1 refl); used = u.0; unset = none_of (cells m.cell) e }

  -- A call that has not ended is among those that another one comes after.
  pub not_all_ended : (all ms : List Mark) → MarksResolved all ms → (calls : List (List ℕ)) → LacksMark all ms calls → list_all (has_ended (map (ended_in cells) ms)) calls ≡ false
  not_all_ended all ms r calls l = go calls l.used
    where
      call : List ℕ
      call = l.mark.call

      out : has_ended (map (ended_in cells) ms) call ≡ false
      out = ended_needed cells all ms r call l.among ∙ ended_at cells all call ∙ ap (λ (o : Option ℕ). is_some (value_at cells o)) l.seen ∙ ap is_some l.unset

      go : (cs : List (List ℕ)) → has_name call cs ≡ true → list_all (has_ended (map (ended_in cells) ms)) cs ≡ false
      go [] i = absurd (false≢true i)
      go (c ∷ cs) i = by_name (or_cases (bytes_eq c call) (has_name call cs) i) (go cs)
        where
          by_name : (bytes_eq c call ≡ true) ⊎ (has_name call cs ≡ true) → (has_name call cs ≡ true → list_all (has_ended (map (ended_in cells) ms)) cs ≡ false) → has_ended (map (ended_in cells) ms) c && list_all (has_ended (map (ended_in cells) ms)) cs ≡ false
          by_name (inl e) rest = and_left (has_ended (map (ended_in cells) ms) c) (list_all (has_ended (map (ended_in cells) ms)) cs) (ap (has_ended (map (ended_in cells) ms)) ((bytes_eq-Decides c call).0 e) ∙ out)
          by_name (inr e) rest = and_right (has_ended (map (ended_in cells) ms) c) (list_all (has_ended (map (ended_in cells) ms)) cs) (rest e)

  -- ---- names and calls without a value

  abbrev gone : List Known → List Ended → Flowing
  gone ks es = record { names = ks; calls = es; jobs = []; codes = []; faults = []; waits = []; count = 0 }

  names_missing : (ss : List Slot) → All (λ c. cells c ≡ None) (map slot_cell ss) → each_key None (slot_keys ss) ≡ map (known_in cells) ss
  names_missing [] h = refl
  names_missing (s ∷ ss) h =
      ap (λ (o : Option Value). (let k : Known = record { key = s.key; value = o } in k) ∷ each_key None (slot_keys ss)) (sym (h 0 0 (omega arith)))
      ∙ ap (λ (ks : List Known). known_in cells s ∷ ks) (names_missing ss (λ k d i. h (suc k) d (omega (arith, i))))

  calls_missing : (ms : List Mark) → All (λ c. cells c ≡ None) (map mark_cell ms) → each_call false (mark_calls ms) ≡ map (ended_in cells) ms
  calls_missing [] h = refl
  calls_missing (m ∷ ms) h =
      ap (λ (o : Option Value). (let e : Ended = record { call = m.call; ended = is_some o } in e) ∷ each_call false (mark_calls ms)) (sym (h 0 0 (omega arith)))
      ∙ ap (λ (es : List Ended). ended_in cells m ∷ es) (calls_missing ms (λ k d i. h (suc k) d (omega (arith, i))))

  pub missing_is : (n : Names) (g : Given) → IsNamed n g → All (λ c. cells c ≡ None) (map slot_cell g.names) → All (λ c. cells c ≡ None) (map mark_cell g.calls) → missing n ≡ flowing_of cells g no_work
  missing_is n g named ks es =
      ap (λ (xs : List Known). gone xs (each_call false n.calls)) (ap (each_key None) (sym named.keys) ∙ names_missing g.names ks)
      ∙ ap (gone (map (known_in cells) g.names)) (ap (each_call false) (sym named.calls) ∙ calls_missing g.calls es)
