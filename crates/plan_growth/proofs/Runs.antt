-- The names and calls that bodies give out, as runs of cells, and where they are found.
use Rattle.std.proofs.Common.{◌≡◌, ℕ, suc, ◌+◌, ◌<◌, Bool, true, false, cond, not, List, [], ◌∷◌, ◌++◌, map, length, get_or, Option, Some, arith, sym, ap, ◌∙◌, subst, refl}
use Rattle.std.specs.Str.{bytes_eq}
use Rattle.std.proofs.lemmas.Bool.{and_parts, false≢true, not-true, or_parts}
use Rattle.std.proofs.lemmas.List.{length-map, map-append}
use Rattle.std.proofs.lemmas.Slice.Eq.{bytes_eq-Decides}
use Rattle.wdl_base.specs.declared.name.Key.{Key}
use Rattle.wdl_value.specs.Tables.{Row}
use Rattle.wdl_typed.specs.declared.flow.Statement.{Statement, out-Statement}
use Rattle.wdl_typed.specs.Bodies.{Library}
use Rattle.wdl_typed.specs.Declarations.{plain_key}
use Rattle.wdl_typed.specs.Flow.{Names}
use Rattle.wdl_typed.specs.Journal.{keys_distinct}
use Rattle.wdl_typed.specs.Scope.{is_among, same_key}
use Rattle.flow_laws.proofs.Keys.{key_itself, key_same}
use Rattle.net_laws.specs.Growing.{AllEnding, AllGathered, Copied, Ending, Gathered, Item, MarksCopied, Rule, SlotsCopied, State, body_given}
use Rattle.net_laws.specs.Net.{Mark, MarksResolved, Resolved, Slot, find, find_call, mark_calls, slot_keys}
use Rattle.plan_layout.specs.declared.layout.Need.{Need}
use Rattle.plan_layout.specs.Cells.{mark_at, marks_at, slot_at, slots_at}
use Rattle.plan_layout.specs.Laid.{Stand, behind_one, given_at}
use Rattle.plan_layout.specs.Spots.{plain_keys, spots_from}
use Rattle.plan_layout.proofs.Given.{name_is}
use Rattle.plan_growth.specs.Begun.{all_given, given_of}
use Rattle.plan_growth.specs.Entering.{beyond_each}

-- ---- runs of cells

abbrev pub run_slots : ℕ → List Key → List Slot
run_slots c [] = []
run_slots c (k ∷ ks) = record { key = k; cell = c } ∷ run_slots (c + 1) ks

abbrev pub run_marks : ℕ → List (List ℕ) → List Mark
run_marks c [] = []
run_marks c (x ∷ xs) = record { call = x; cell = c } ∷ run_marks (c + 1) xs

pub slots_run : (bases : List ℕ) (level first c : ℕ) (ks : List Key) → c ≡ get_or bases level 0 + first → slots_at bases (spots_from level first ks) ≡ run_slots c ks
slots_run bases level first c [] e = refl
slots_run bases level first c (k ∷ ks) e =
    ap (λ (n : ℕ). record { key = k; cell = n } ∷ slots_at bases (spots_from level (first + 1) ks)) (sym e)
    ∙ ap (λ (ss : List Slot). record { key = k; cell = c } ∷ ss) (slots_run bases level (first + 1) (c + 1) ks (omega (arith, e)))

pub marks_run : (bases : List ℕ) (level first c : ℕ) (xs : List (List ℕ)) → c ≡ get_or bases level 0 + first → marks_at bases (spots_from level first (plain_keys xs)) ≡ run_marks c xs
marks_run bases level first c [] e = refl
marks_run bases level first c (x ∷ xs) e =
    ap (λ (n : ℕ). record { call = x; cell = n } ∷ marks_at bases (spots_from level (first + 1) (plain_keys xs))) (sym e)
    ∙ ap (λ (ms : List Mark). record { call = x; cell = c } ∷ ms) (marks_run bases level (first + 1) (c + 1) xs (omega (arith, e)))

spots_append : (level first : ℕ) (ks ls : List Key) → spots_from level first (ks ++ ls) ≡ spots_from level first ks ++ spots_from level (first + length ks) ls
spots_append level first [] ls = let same : first ≡ first + 0 = omega arith in ap (λ (n : ℕ). spots_from level n ls) same
spots_append level first (k ∷ ks) ls =
    let same : first + 1 + length ks ≡ first + suc (length ks) = omega arith in
    ap (λ (ns : List Need). record { key = k; level = level; slot = first } ∷ ns)
    (spots_append level (first + 1) ks ls ∙ ap (λ (n : ℕ). spots_from level (first + 1) ks ++ spots_from level n ls) same)

-- What the statements of a body give out is one run of names and one of calls.
module _ (lib : Library) (bases : List ℕ) where
  pub given_names : (ss : List Statement) (a : Stand) → (all_given lib bases a ss).names ≡ slots_at bases (spots_from (length a.path) a.next_name (body_given lib ss).keys)
  given_names [] a = refl
  given_names (x ∷ xs) a =
      let own = (given_at lib (out-Statement x)).keys in
      let rest = (body_given lib xs).keys in
      ap (λ (ss : List Slot). (given_of lib bases a x).names ++ ss) (given_names xs (behind_one lib x a))
      ∙ sym (map-append (slot_at bases) (spots_from (length a.path) a.next_name own) (spots_from (length a.path) (a.next_name + length own) rest))
      ∙ ap (slots_at bases) (sym (spots_append (length a.path) a.next_name own rest))
      ∙ ap (λ (n : Names). slots_at bases (spots_from (length a.path) a.next_name (n.keys ++ rest))) (sym (name_is lib x))

  pub given_marks : (ss : List Statement) (a : Stand) → (all_given lib bases a ss).calls ≡ marks_at bases (spots_from (length a.path) a.next_call (plain_keys (body_given lib ss).calls))
  given_marks [] a = refl
  given_marks (x ∷ xs) a =
      let own = (given_at lib (out-Statement x)).calls in
      let rest = (body_given lib xs).calls in
      let many = length-map own plain_key in
      let same : a.next_call + length own ≡ a.next_call + length (plain_keys own) = omega (arith, many) in
      ap (λ (ms : List Mark). (given_of lib bases a x).calls ++ ms) (given_marks xs (behind_one lib x a))
      ∙ ap (λ (n : ℕ). (given_of lib bases a x).calls ++ marks_at bases (spots_from (length a.path) n (plain_keys rest))) same
      ∙ sym (map-append (mark_at bases) (spots_from (length a.path) a.next_call (plain_keys own)) (spots_from (length a.path) (a.next_call + length (plain_keys own)) (plain_keys rest)))
      ∙ ap (marks_at bases) (sym (spots_append (length a.path) a.next_call (plain_keys own) (plain_keys rest)))
      ∙ ap (λ (ks : List Key). marks_at bases (spots_from (length a.path) a.next_call ks)) (sym (map-append plain_key own rest))
      ∙ ap (λ (n : Names). marks_at bases (spots_from (length a.path) a.next_call (plain_keys (n.calls ++ rest)))) (sym (name_is lib x))

-- ---- where names differ, each is found where it stands

key_apart : (j k : Key) → same_key k j ≡ false → same_key j k ≡ false
key_apart j k h = by_test (same_key j k) refl
  where
    by_test : (b : Bool) → same_key j k ≡ b → b ≡ false
    by_test false e = refl
    by_test true e = absurd (false≢true (sym h ∙ ap (λ (x : Key). same_key x j) (sym (key_same j k e)) ∙ key_itself j))

found_more : (s : Slot) (ss ns : List Slot) → is_among s.key (slot_keys ns) ≡ false → Resolved ss ns → Resolved (s ∷ ss) ns
found_more s ss [] h r = tt
found_more s ss (n ∷ ns) h r =
    let p = or_parts (same_key n.key s.key) (is_among s.key (slot_keys ns)) h in
    (ap (λ (b : Bool). cond b (Some s.cell) (find ss n.key)) (key_apart s.key n.key p.0) ∙ r.0, found_more s ss ns p.1 r.1)

pub self_found : (ss : List Slot) → keys_distinct (slot_keys ss) ≡ true → Resolved ss ss
self_found [] h = tt
self_found (s ∷ ss) h =
    let p = and_parts (not (is_among s.key (slot_keys ss))) (keys_distinct (slot_keys ss)) h in
    (ap (λ (b : Bool). cond b (Some s.cell) (find ss s.key)) (key_itself s.key), found_more s ss ss (not-true (is_among s.key (slot_keys ss)) p.0) (self_found ss p.1))

name_apart : (x y : List ℕ) → same_key (plain_key y) (plain_key x) ≡ false → bytes_eq x y ≡ false
name_apart x y h = by_test (bytes_eq x y) refl
  where
    by_test : (b : Bool) → bytes_eq x y ≡ b → b ≡ false
    by_test false e = refl
    by_test true e = absurd (false≢true (sym h ∙ ap (λ (z : List ℕ). same_key (plain_key z) (plain_key x)) (sym ((bytes_eq-Decides x y).0 e)) ∙ key_itself (plain_key x)))

ended_more : (m : Mark) (ms ns : List Mark) → is_among (plain_key m.call) (plain_keys (mark_calls ns)) ≡ false → MarksResolved ms ns → MarksResolved (m ∷ ms) ns
ended_more m ms [] h r = tt
ended_more m ms (n ∷ ns) h r =
    let p = or_parts (same_key (plain_key n.call) (plain_key m.call)) (is_among (plain_key m.call) (plain_keys (mark_calls ns))) h in
    (ap (λ (b : Bool). cond b (Some m.cell) (find_call ms n.call)) (name_apart m.call n.call p.0) ∙ r.0, ended_more m ms ns p.1 r.1)

pub self_ended : (ms : List Mark) → keys_distinct (plain_keys (mark_calls ms)) ≡ true → MarksResolved ms ms
self_ended [] h = tt
self_ended (m ∷ ms) h =
    let p = and_parts (not (is_among (plain_key m.call) (plain_keys (mark_calls ms)))) (keys_distinct (plain_keys (mark_calls ms))) h in (
      ap (λ (b : Bool). cond b (Some m.cell) (find_call ms m.call)) ((bytes_eq-Decides m.call m.call).1 refl),
      ended_more m ms ms (not-true (is_among (plain_key m.call) (plain_keys (mark_calls ms))) p.0) (self_ended ms p.1),
    )

pub run_keys : (c : ℕ) (ks : List Key) → slot_keys (run_slots c ks) ≡ ks
run_keys c [] = refl
run_keys c (k ∷ ks) = ap (λ (ls : List Key). k ∷ ls) (run_keys (c + 1) ks)

pub run_calls : (c : ℕ) (xs : List (List ℕ)) → mark_calls (run_marks c xs) ≡ xs
run_calls c [] = refl
run_calls c (x ∷ xs) = ap (λ (ls : List (List ℕ)). x ∷ ls) (run_calls (c + 1) xs)

-- ---- the joints of runs

module _ (lib : Library) (site : List ℕ) (rows : List Row) (desc : ℕ → Rule → Type 0) (st : State) where
  -- Each item has these names at so many cells behind its first.
  abbrev pub NamesAt : List Item → List ℕ → ℕ → List Key → Type 0
  NamesAt [] [] m ks = Unit {0}
  NamesAt [] (f ∷ fs) m ks = ⊥
  NamesAt (q ∷ qs) [] m ks = ⊥
  NamesAt (q ∷ qs) (f ∷ fs) m ks = Resolved q.given.names (run_slots (f + m) ks) × NamesAt qs fs m ks

  abbrev pub CallsAt : List Item → List ℕ → ℕ → List (List ℕ) → Type 0
  CallsAt [] [] m xs = Unit {0}
  CallsAt [] (f ∷ fs) m xs = ⊥
  CallsAt (q ∷ qs) [] m xs = ⊥
  CallsAt (q ∷ qs) (f ∷ fs) m xs = MarksResolved q.given.calls (run_marks (f + m) xs) × CallsAt qs fs m xs

  names_first : (qs : List Item) (fs : List ℕ) (m : ℕ) (k : Key) (ks : List Key) → NamesAt qs fs m (k ∷ ks) → map (λ (q : Item). find q.given.names k) qs ≡ map (λ (c : ℕ). Some c) (beyond_each fs m)
  names_first [] [] m k ks h = refl
  names_first [] (f ∷ fs) m k ks h = absurd h
  names_first (q ∷ qs) [] m k ks h = absurd h
  names_first (q ∷ qs) (f ∷ fs) m k ks h =
      ap (λ (o : Option ℕ). o ∷ map (λ (i : Item). find i.given.names k) qs) h.0.0 ∙ ap (λ (os : List (Option ℕ)). Some (f + m) ∷ os) (names_first qs fs m k ks h.1)

  names_rest : (qs : List Item) (fs : List ℕ) (m n : ℕ) (k : Key) (ks : List Key) → n ≡ m + 1 → NamesAt qs fs m (k ∷ ks) → NamesAt qs fs n ks
  names_rest [] [] m n k ks e h = tt
  names_rest [] (f ∷ fs) m n k ks e h = absurd h
  names_rest (q ∷ qs) [] m n k ks e h = absurd h
  names_rest (q ∷ qs) (f ∷ fs) m n k ks e h =
      let same : f + m + 1 ≡ f + n = omega (arith, e) in
      (subst (λ (c : ℕ). Resolved q.given.names (run_slots c ks)) same h.0.1, names_rest qs fs m n k ks e h.1)

  calls_first : (qs : List Item) (fs : List ℕ) (m : ℕ) (x : List ℕ) (xs : List (List ℕ)) → CallsAt qs fs m (x ∷ xs) → map (λ (q : Item). find_call q.given.calls x) qs ≡ map (λ (c : ℕ). Some c) (beyond_each fs m)
  calls_first [] [] m x xs h = refl
  calls_first [] (f ∷ fs) m x xs h = absurd h
  calls_first (q ∷ qs) [] m x xs h = absurd h
  calls_first (q ∷ qs) (f ∷ fs) m x xs h =
      ap (λ (o : Option ℕ). o ∷ map (λ (i : Item). find_call i.given.calls x) qs) h.0.0 ∙ ap (λ (os : List (Option ℕ)). Some (f + m) ∷ os) (calls_first qs fs m x xs h.1)

  calls_rest : (qs : List Item) (fs : List ℕ) (m n : ℕ) (x : List ℕ) (xs : List (List ℕ)) → n ≡ m + 1 → CallsAt qs fs m (x ∷ xs) → CallsAt qs fs n xs
  calls_rest [] [] m n x xs e h = tt
  calls_rest [] (f ∷ fs) m n x xs e h = absurd h
  calls_rest (q ∷ qs) [] m n x xs e h = absurd h
  calls_rest (q ∷ qs) (f ∷ fs) m n x xs e h =
      let same : f + m + 1 ≡ f + n = omega (arith, e) in
      (subst (λ (c : ℕ). MarksResolved q.given.calls (run_marks c xs)) same h.0.1, calls_rest qs fs m n x xs e h.1)

  pub gathered_all : (qs : List Item) (fs : List ℕ) (m c : ℕ) (ks : List Key) → NamesAt qs fs m ks
      → ((i n d : ℕ) → n ≡ m + i → d ≡ c + i → i < length ks → Gathered lib site rows desc st (beyond_each fs n) d) → AllGathered lib site rows desc st qs ks (run_slots c ks)
  gathered_all qs fs m c [] h joint = tt
  gathered_all qs fs m c (k ∷ ks) h joint = (
    refl,
    (beyond_each fs m, names_first qs fs m k ks h, joint 0 m c (omega arith) (omega arith) (omega arith)),
    gathered_all qs fs (m + 1) (c + 1) ks (names_rest qs fs m (m + 1) k ks refl h) (λ i n d e f lt. joint (suc i) n d (omega (arith, e)) (omega (arith, f)) (omega (arith, lt))),
  )

  pub ending_all : (qs : List Item) (fs : List ℕ) (m c : ℕ) (xs : List (List ℕ)) → CallsAt qs fs m xs
      → ((i n d : ℕ) → n ≡ m + i → d ≡ c + i → i < length xs → Ending lib site rows desc st (beyond_each fs n) d) → AllEnding lib site rows desc st qs xs (run_marks c xs)
  ending_all qs fs m c [] h joint = tt
  ending_all qs fs m c (x ∷ xs) h joint = (
    refl,
    (beyond_each fs m, calls_first qs fs m x xs h, joint 0 m c (omega arith) (omega arith) (omega arith)),
    ending_all qs fs (m + 1) (c + 1) xs (calls_rest qs fs m (m + 1) x xs refl h) (λ i n d e f lt. joint (suc i) n d (omega (arith, e)) (omega (arith, f)) (omega (arith, lt))),
  )

  pub slots_copied : (m c : ℕ) (ks : List Key) → ((i n d : ℕ) → n ≡ m + i → d ≡ c + i → i < length ks → Copied lib site rows desc st n d) → SlotsCopied lib site rows desc st (run_slots m ks) (run_slots c ks)
  slots_copied m c [] joint = tt
  slots_copied m c (k ∷ ks) joint =
      (refl, joint 0 m c (omega arith) (omega arith) (omega arith), slots_copied (m + 1) (c + 1) ks (λ i n d e f lt. joint (suc i) n d (omega (arith, e)) (omega (arith, f)) (omega (arith, lt))))

  pub marks_copied : (m c : ℕ) (xs : List (List ℕ)) → ((i n d : ℕ) → n ≡ m + i → d ≡ c + i → i < length xs → Copied lib site rows desc st n d) → MarksCopied lib site rows desc st (run_marks m xs) (run_marks c xs)
  marks_copied m c [] joint = tt
  marks_copied m c (x ∷ xs) joint =
      (refl, joint 0 m c (omega arith) (omega arith) (omega arith), marks_copied (m + 1) (c + 1) xs (λ i n d e f lt. joint (suc i) n d (omega (arith, e)) (omega (arith, f)) (omega (arith, lt))))
