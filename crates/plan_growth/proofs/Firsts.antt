-- The first cells of a scatter's items, and what the items give out.
use Rattle.std.proofs.Common.{◌≡◌, ℕ, ◌+◌, ◌<◌, ◌≤◌, true, List, [], ◌∷◌, ◌++◌, All, length, get_or, None, arith, sym, ap, ◌∙◌, subst, refl}
use Rattle.std.proofs.lemmas.List.{get_or_push}
use Rattle.std.proofs.lemmas.List.Elements.{All-append, All-cons, All-nil}
use Rattle.std.proofs.lemmas.Option.{slice_get_within}
use Rattle.wdl_base.specs.declared.place.Segment.{Segment}
use Rattle.wdl_base.specs.declared.place.Segment.TheVariants as segment
use Rattle.wdl_value.specs.declared.value.Value.{Value}
use Rattle.wdl_value.specs.Tables.{Row}
use Rattle.wdl_typed.specs.declared.flow.FlowDef.{FlowDef}
use Rattle.wdl_typed.specs.declared.flow.Statement.{Statement}
use Rattle.wdl_typed.specs.Bodies.{Library}
use Rattle.wdl_typed.specs.Journal.{keys_distinct}
use Rattle.net_laws.specs.Growing as net
use Rattle.net_laws.specs.Growing.{Item, body_given}
use Rattle.net_laws.specs.Net.{Mark, MarksResolved, Resolved, Slot}
use Rattle.plan_moves.specs.Sheets.{Sheet}
use Rattle.plan_layout.specs.declared.layout.BodyLayout.{BodyLayout}
use Rattle.plan_layout.specs.declared.layout.Layout.{Layout}
use Rattle.plan_layout.specs.declared.layout.StatementLayout.{StatementLayout}
use Rattle.plan_layout.specs.Laid as laid
use Rattle.plan_layout.specs.Laid.{Laid, Stand, behind_one}
use Rattle.plan_layout.specs.Sees.{Sees}
use Rattle.plan_layout.specs.Spots.{plain_keys}
use Rattle.plan_growth.specs.declared.instance.Instance.{Instance}
use Rattle.plan_growth.specs.Begun.{AllSit, base_at}
use Rattle.plan_growth.specs.Entering as entering
use Rattle.plan_growth.specs.Entering.{Plot, beyond_each, dones_at, firsts_of}
use Rattle.plan_growth.specs.Meaning.{AreThere}
use Rattle.plan_growth.proofs.Instances.{instance_owners}
use Rattle.plan_growth.proofs.Items.{AllItems, inner, items_of, one_entered, sits_at}
use Rattle.plan_growth.proofs.Standing.{lines_length}
use Rattle.plan_growth.proofs.Runs.{CallsAt, NamesAt, given_marks, given_names, marks_run, run_calls, run_keys, run_marks, run_slots, self_ended, self_found, slots_run}

-- The cells that say that statements are done are those of an instance that was entered.
pub dones_within : (lib : Library) (b : Sheet) (owners bases : List ℕ) (place : List Segment) (t : ℕ) (ss : List Statement) (a : Stand) (ls : List StatementLayout) → AllSit b owners lib bases place t ss a ls
    → length ls ≡ length ss → (base : ℕ) → base_at bases a ≡ base → All (λ (c : ℕ). c < length b.values) (dones_at base ls)
dones_within lib b owners bases place t [] a [] h e base same = All-nil (λ (c : ℕ). c < length b.values)
dones_within lib b owners bases place t [] a (l ∷ ls) h e base same = absurd (omega (arith, e))
dones_within lib b owners bases place t (x ∷ xs) a [] h e base same = absurd h
dones_within lib b owners bases place t (x ∷ xs) a (l ∷ ls) h e base same =
    let inside = slice_get_within b.values (base_at bases a + l.done) None h.0.done.1 in
    All-cons (λ (c : ℕ). c < length b.values) (base + l.done) (dones_at base ls) (omega (arith, inside, same))
    (dones_within lib b owners bases place (t + 1) xs (behind_one lib x a) ls h.1 (omega (arith, e)) base same)

module _ (lib : Library) (layout : Layout) (number : ℕ) (bl : BodyLayout) (flow : FlowDef) (ss : List Statement) (outer path : List ℕ) (splace : List Segment) (k : ℕ) (item : List ℕ) (a : Stand) where
  abbrev all_items : Sheet → List ℕ → List Instance → ℕ → List Value → Plot → Type 0
  all_items b owners is i xs p = AllItems lib layout number bl flow ss outer path splace k item a b owners is i xs p

  abbrev firsts : ℕ → List Value → Plot → List ℕ
  firsts i xs p = firsts_of number outer (splace ++ segment.Scatter k ∷ []) bl i xs p

  abbrev items : ℕ → List Value → Plot → List Item
  items i xs p = items_of lib layout number bl flow ss outer path splace k item a i xs p

  abbrev after : ℕ → Value → Plot → Plot
  after i x p = one_entered lib layout number bl flow ss outer path splace k item a i x p

  abbrev stand : Stand
  stand = inner lib layout number bl flow ss outer path splace k item a

  -- A slot of each item is one of its cells.
  pub beyond_within : (b : Sheet) (owners : List ℕ) (is : List Instance) (i : ℕ) (xs : List Value) (p : Plot) → all_items b owners is i xs p → (slot : ℕ) → 1 ≤ slot
      → ((t : ℕ) → slot < length (instance_owners lib (0 ∷ []) [] t ss)) → All (λ (c : ℕ). c < length b.values) (beyond_each (firsts i xs p) slot)
  beyond_within b owners is i [] p h slot le lt = All-nil (λ (c : ℕ). c < length b.values)
  beyond_within b owners is i (x ∷ xs) p h slot le lt =
      let unset = h.0.entered_there.unset slot le (lt (length p.net.steps)) in
      All-cons (λ (c : ℕ). c < length b.values) (length p.net.values + slot) (beyond_each (firsts (i + 1) xs (after i x p)) slot) (slice_get_within b.values (length p.net.values + slot) None unset)
      (beyond_within b owners is (i + 1) xs (after i x p) h.1 slot le lt)

  -- What is done at the items is what says so of each.
  pub dones_same : (site : List ℕ) (rows : List Row) (desc : ℕ → net.Rule → Type 0) (st : net.State) (i : ℕ) (xs : List Value) (p : Plot)
      → net.all_dones lib site rows desc st (items i xs p) ≡ entering.all_dones bl.statements (firsts i xs p)
  dones_same site rows desc st i [] p = refl
  dones_same site rows desc st i (x ∷ xs) p =
      ap (λ (cs : List ℕ). dones_at (length p.net.values) bl.statements ++ cs) (dones_same site rows desc st (i + 1) xs (after i x p))

  module _ (deep : length path ≡ length outer) (site : List ℕ) (rows : List Row) (desc : ℕ → net.Rule → Type 0) (st : net.State) where
    base_is : (q : Plot) → get_or (outer ++ length q.net.values ∷ []) (length path) 0 ≡ length q.net.values
    base_is q = get_or_push outer (length q.net.values) 0 (length path) (sym deep)

    pub items_named : keys_distinct (body_given lib ss).keys ≡ true → (i : ℕ) (xs : List Value) (p : Plot) → NamesAt lib site rows desc st (items i xs p) (firsts i xs p) 1 (body_given lib ss).keys
    items_named distinct i [] p = tt
    items_named distinct i (x ∷ xs) p =
        let keys = (body_given lib ss).keys in
        let at = base_is p in
        let same = given_names lib (outer ++ length p.net.values ∷ []) ss stand ∙ slots_run (outer ++ length p.net.values ∷ []) (length path) 1 (length p.net.values + 1) keys (omega (arith, at)) in (
          subst (λ (ns : List Slot). Resolved ns (run_slots (length p.net.values + 1) keys)) (sym same)
              (self_found (run_slots (length p.net.values + 1) keys) (ap keys_distinct (run_keys (length p.net.values + 1) keys) ∙ distinct)),
          items_named distinct (i + 1) xs (after i x p),
        )

    pub items_called : keys_distinct (plain_keys (body_given lib ss).calls) ≡ true → (slot : ℕ) → slot ≡ stand.next_call → (i : ℕ) (xs : List Value) (p : Plot)
        → CallsAt lib site rows desc st (items i xs p) (firsts i xs p) slot (body_given lib ss).calls
    items_called distinct slot is i [] p = tt
    items_called distinct slot is i (x ∷ xs) p =
        let calls = (body_given lib ss).calls in
        let at = base_is p in
        let same =
        given_marks lib (outer ++ length p.net.values ∷ []) ss stand ∙ marks_run (outer ++ length p.net.values ∷ []) (length path) stand.next_call (length p.net.values + slot) calls (omega (arith, at, is)) in (
          subst (λ (ms : List Mark). MarksResolved ms (run_marks (length p.net.values + slot) calls)) (sym same)
              (self_ended (run_marks (length p.net.values + slot) calls) (ap (λ (cs : List (List ℕ)). keys_distinct (plain_keys cs)) (run_calls (length p.net.values + slot) calls) ∙ distinct)),
          items_called distinct slot is (i + 1) xs (after i x p),
        )

  -- What says that statements of items are done is cells.
  module _ (deep : length path ≡ length outer) (laid_in : Laid (Sees lib) lib bl.flow flow.body layout.bodies (laid.all ss stand bl.statements)) (site : List ℕ) (rows : List Row) (b : Sheet) (owners : List ℕ)
      (is : List Instance) (size : ℕ) (within : size ≤ length b.values) (names_there : AreThere outer size a.names) (calls_there : AreThere outer size a.calls) where
    pub all_within : (i : ℕ) (xs : List Value) (p : Plot) → all_items b owners is i xs p → All (λ (c : ℕ). c < length b.values) (entering.all_dones bl.statements (firsts i xs p))
    all_within i [] p h = All-nil (λ (c : ℕ). c < length b.values)
    all_within i (x ∷ xs) p h =
        All-append (λ (c : ℕ). c < length b.values) (dones_at (length p.net.values) bl.statements) (entering.all_dones bl.statements (firsts (i + 1) xs (after i x p)))
        (dones_within lib b owners (outer ++ length p.net.values ∷ []) ((splace ++ segment.Scatter k ∷ []) ++ segment.Index i ∷ []) (length p.net.steps) ss stand bl.statements
        (sits_at lib layout number bl flow ss outer path splace k item a deep laid_in site rows b owners is size within names_there calls_there i x p h.0)
        (lines_length lib 0 [] [] bl.flow flow.body layout.bodies laid_in) (length p.net.values) (get_or_push outer (length p.net.values) 0 (length path) (sym deep)))
        (all_within (i + 1) xs (after i x p) h.1)
