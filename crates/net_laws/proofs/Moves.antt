-- One step at a time: what grows goes on growing when one step is taken, or when an answer arrives, and only that step's own leaf changes.
use Rattle.std.proofs.Common.{◌≡◌, ◌<◌, ℕ, zero, suc, ◌+◌, Bool, true, cond, ◌&&◌, ◌⊎◌, inl, inr, List, [], ◌∷◌, ◌++◌, All, length, map, Option, Some, Ok, Err, get_or, arith, sym, ap, ◌∙◌, subst, refl}
use Rattle.std.specs.List.{list_all}
use Rattle.std.proofs.lemmas.Bool.{and_from, and_parts, cases_eq, eq-eqb, ne_eqb}
use Rattle.std.proofs.lemmas.List.Elements.{Contains-append_left, Contains-append_right}
use Rattle.wdl_base.specs.declared.name.Key.{Key}
use Rattle.wdl_base.specs.declared.place.Segment.{Segment}
use Rattle.wdl_base.specs.declared.place.Segment.TheVariants as segment
use Rattle.wdl_value.specs.declared.value.Value.{Value}
use Rattle.wdl_value.specs.Outcome.{Outcome}
use Rattle.wdl_value.specs.Tables.{Row, answer_at}
use Rattle.wdl_typed.specs.declared.expr.TExpr.{TExpr}
use Rattle.wdl_typed.specs.declared.flow.Statement.{Statement}
use Rattle.wdl_typed.specs.declared.flow.Statement.TheVariants as stmt
use Rattle.wdl_typed.specs.declared.flow.TCall.{TCall}
use Rattle.wdl_typed.specs.declared.flow.TIf.{TIf}
use Rattle.wdl_typed.specs.declared.flow.TScatter.{TScatter}
use Rattle.wdl_typed.specs.declared.task.TDecl.{TDecl}
use Rattle.wdl_typed.specs.Bodies.{Library}
use Rattle.wdl_typed.specs.Flow.{Ended, Flowing, Known, Sight, all_values, args_known, args_met, call_of, declaration, env_of, flow, has_ended}
use Rattle.wdl_typed.specs.KnownTypes.{is_some}
use Rattle.flow_laws.specs.Laws.{run_with}
use Rattle.net_laws.specs.Net.{Given, Mark, Scope, Slot, Work, both_works, ended_in, known_in, no_work}
use Rattle.net_laws.specs.Planned.{call_names, counted}
use Rattle.net_laws.specs.Rules.{Follows, head, own_sight}
use Rattle.net_laws.specs.Growing.{AllEnding, AllGathered, CallNeeded, Copied, Declared, Ending, EndsAt, Form, Gathered, Growing, HasCells, IsDone, IsLeft, IsNamed, IsOutside, IsPlain, IsWaiting, Item, Keeps, KeepsCells, MarksCopied, NamesNeeded, OutputsCopied, Owns, Rule, SlotsCopied, State, absent_input, are_set, copies, declares, default_input, does, each_scatter, ends, failed_if, failed_scatter, false_if, flow_whole, gathers, given_input, is_set, item_next, left_call, left_decl, left_if, left_scatter, mark_cell, next, no_input, no_item, no_output, none_left, one, only, output_next, run_call, slot_cell, told_call, told_decl, true_if}
use Rattle.net_laws.specs.Askers.{Asker, askers}
use Rattle.net_laws.specs.Cost.{TaskCost, called_cost, flow_cost, met_cost}
use Rattle.net_laws.specs.Moving.{AskedAt, Grows, IsWeight, OthersAnswered, Turn, TurnLeaves, TurnSpends, TurnWeighs, Untouched, at_step, declared_at, hit}
use Rattle.net_laws.specs.Roots.{IsCallable}
use Rattle.net_laws.specs.Works.{asked_count, evaluated, told_count, told_work, work_of}
use Rattle.net_laws.proofs.Even.{told_even, work_even}
use Rattle.net_laws.proofs.Callable.{callable_body, callable_called, callable_first, callable_inputs, callable_item, callable_items, callable_later, callable_outputs, callable_rest, callable_whole}
use Rattle.net_laws.proofs.Calls.{call_layer, listed, no_call, plain_same, price_same}
use Rattle.net_laws.proofs.Grown.{call_rows_same}
use Rattle.net_laws.proofs.Kept.{calls_kept, follows_kept, head_kept, names_kept}
use Rattle.net_laws.proofs.Leaves.{call_slots, needs_slots}
use Rattle.net_laws.proofs.Sets.{slots_set}

module _ (lib : Library) (site : List ℕ) (rows later : List Row) (desc more : ℕ → Rule → Type 0) (a b : State) where
  abbrev Old : ℕ → Form → Type 0
  Old depth f = Growing lib site rows desc a depth f

  abbrev New : ℕ → Form → Type 0
  New depth f = Growing lib site later more b depth f

  abbrev OldLeft : ℕ → Rule → Type 0
  OldLeft u r = IsLeft lib site rows desc a u r

  abbrev OldDone : ℕ → Rule → Type 0
  OldDone u r = IsDone lib site rows desc a u r

  abbrev Rests : ℕ → Type 0
  Rests u = Untouched lib site rows later desc more a b u

  abbrev asking : {depth : ℕ} {f : Form} → Old depth f → List Asker
  asking p = askers lib site rows desc a p

  -- At the call's place the rows answer what they did.
  abbrev RowsSame : Scope → TCall → Type 0
  RowsSame s x = (attempt : ℕ) → answer_at rows (s.place ++ segment.Call x.name ∷ []) attempt ≡ answer_at later (s.place ++ segment.Call x.name ∷ []) attempt

  module _ (t : ℕ) (grows : Grows lib site rows later desc more a b) (others : (u : ℕ) → (u ≡ t → ⊥) → Rests u) (turn : Turn lib site rows later desc more a b t) where
    -- ---- calls

    abbrev Answered : List Asker → Type 0
    Answered qs = OthersAnswered lib site rows later desc more a b t qs

    answered_left : (qs rs : List Asker) → Answered (qs ++ rs) → Answered qs
    answered_left qs rs h q c = h q (Contains-append_left qs rs q c)

    answered_right : (qs rs : List Asker) → Answered (qs ++ rs) → Answered rs
    answered_right qs rs h q c = h q (Contains-append_right qs rs q c)

    answered_last : (ps qs rs : List Asker) → Answered (ps ++ qs ++ rs) → Answered rs
    answered_last ps qs rs h = answered_right (ps ++ qs) rs h

    answered_middle : (ps qs rs : List Asker) → Answered (ps ++ qs ++ rs) → Answered qs
    answered_middle ps qs rs h = answered_right ps qs (answered_left (ps ++ qs) rs h)

    answered_first : (ps qs rs : List Asker) → Answered (ps ++ qs ++ rs) → Answered ps
    answered_first ps qs rs h = answered_left ps qs (answered_left (ps ++ qs) rs h)

    answered_itself : (u : ℕ) (s : Scope) (x : TCall) → Answered (record { step = u; place = s.place ++ segment.Call x.name ∷ [] } ∷ []) → (u ≡ t → ⊥) → RowsSame s x
    answered_itself u s x h = h (record { step = u; place = s.place ++ segment.Call x.name ∷ [] }) (0, omega arith, refl)

    -- ---- cells and needs

    set_kept : (cs : List ℕ) → are_set a cs ≡ true → are_set b cs ≡ true
    set_kept [] h = refl
    set_kept (c ∷ cs) h =
        let p = and_parts (is_set a c) (are_set a cs) h in
        and_from (is_set b c) (are_set b cs) (ap is_some (grows.cells c p.0) ∙ p.0) (set_kept cs p.1)

    needs_set : (u : ℕ) → b.needs u ≡ a.needs u → are_set a (a.needs u) ≡ true → are_set b (b.needs u) ≡ true
    needs_set u e h = ap (are_set b) e ∙ set_kept (a.needs u) h

    abbrev names_needed : (u : ℕ) (s : Scope) (e : TExpr) → b.needs u ≡ a.needs u → NamesNeeded a u s e → NamesNeeded b u s e
    names_needed u s e same n = record { slots = n.slots; distinct = n.distinct; needs = n.needs; uses = n.uses; cells = same ∙ n.cells }

    abbrev call_needed : (u : ℕ) (s : Scope) (x : TCall) → b.needs u ≡ a.needs u → CallNeeded a u s x → CallNeeded b u s x
    call_needed u s x same n = record { slots = n.slots; marks = n.marks; distinct = n.distinct; needs = n.needs; uses = n.uses; comes_after = n.comes_after; cells = same ∙ n.cells }

    keeps : (u c : ℕ) → Rests u → Keeps a u c → Keeps b u c
    keeps u c o k = (o.owner c k.0, o.cells c k.0 ∙ k.1)

    keeps_cells : (u : ℕ) (g : Given) (d : ℕ) → Rests u → KeepsCells lib site rows desc a u g d → KeepsCells lib site later more b u g d
    keeps_cells u g d o h = record { names = λ k e i. keeps u _ o (h.names k e i); calls = λ k e i. keeps u _ o (h.calls k e i); done = keeps u d o h.done }

    has_cells : (u : ℕ) (g : Given) (d : ℕ) → Rests u → HasCells lib site rows desc a u g d → HasCells lib site later more b u g d
    has_cells u g d o h = record { names = λ k e i. o.owner _ (h.names k e i); calls = λ k e i. o.owner _ (h.calls k e i); done = o.owner d h.done }

    outside : (xs : List Statement) (g : Given) → IsOutside lib site rows desc a xs g → IsOutside lib site later more b xs g
    outside xs g h = record { keys = h.keys; named = h.named }

    -- The cells that a step owns have what they had.
    slots_same : (u : ℕ) → Rests u → (ss : List Slot) → All (Owns a u) (map slot_cell ss) → map (known_in b.cells) ss ≡ map (known_in a.cells) ss
    slots_same u o [] h = refl
    slots_same u o (s ∷ ss) h =
        ap (λ (x : Option Value). (let k : Known = record { key = s.key; value = x } in k) ∷ map (known_in b.cells) ss) (o.cells s.cell (h 0 0 (omega arith)))
        ∙ ap (λ (ks : List Known). known_in a.cells s ∷ ks) (slots_same u o ss (λ k e i. h (suc k) e (omega (arith, i))))

    marks_same : (u : ℕ) → Rests u → (ms : List Mark) → All (Owns a u) (map mark_cell ms) → map (ended_in b.cells) ms ≡ map (ended_in a.cells) ms
    marks_same u o [] h = refl
    marks_same u o (m ∷ ms) h =
        ap (λ (x : Option Value). (let e : Ended = record { call = m.call; ended = is_some x } in e) ∷ map (ended_in b.cells) ms) (o.cells m.cell (h 0 0 (omega arith)))
        ∙ ap (λ (es : List Ended). ended_in a.cells m ∷ es) (marks_same u o ms (λ k e i. h (suc k) e (omega (arith, i))))

    head_same : (u : ℕ) (s : Scope) (e : TExpr) (n : NamesNeeded a u s e) → are_set a (a.needs u) ≡ true → (o : Option (Outcome Value)) → head a.cells n.slots e ≡ o → head b.cells n.slots e ≡ o
    head_same u s e n h o is = head_kept a.cells b.cells grows.cells n.slots e (needs_slots a u s e n h) ∙ is

    -- ---- joints

    gathered_moved : (parts : List ℕ) (c : ℕ) → Gathered lib site rows desc a parts c → Gathered lib site later more b parts c
    gathered_moved parts c (u, inl w) = go (cases_eq u t)
      where
        go : (u ≡ t) ⊎ (u ≡ t → ⊥) → Gathered lib site later more b parts c
        go (inl e) = turn.gathered parts c (subst (IsWaiting lib site rows desc a (gathers parts c) parts c) e w)
        go (inr n) = let o = others u n in (u, inl (record { left = o.left (gathers parts c) w.left; keeps = keeps u c o w.keeps; needs = o.needs (gathers parts c) w.left ∙ w.needs }))
    gathered_moved parts c (u, inr w) =
        let at : b.cells c ≡ a.cells c = grows.cells c (ap is_some w.value) in (
          u,
          inr (record { values = w.values; set = ap all_values (listed a.cells b.cells grows.cells parts w.values w.set) ∙ w.set; value = at ∙ w.value }),
        )

    ending_moved : (parts : List ℕ) (c : ℕ) → Ending lib site rows desc a parts c → Ending lib site later more b parts c
    ending_moved parts c (u, inl w) = go (cases_eq u t)
      where
        go : (u ≡ t) ⊎ (u ≡ t → ⊥) → Ending lib site later more b parts c
        go (inl e) = turn.ending parts c (subst (IsWaiting lib site rows desc a (ends parts c) parts c) e w)
        go (inr n) = let o = others u n in (u, inl (record { left = o.left (ends parts c) w.left; keeps = keeps u c o w.keeps; needs = o.needs (ends parts c) w.left ∙ w.needs }))
    ending_moved parts c (u, inr w) = (u, inr (record { set = set_kept parts w.set; ended = ap is_some (grows.cells c w.ended) ∙ w.ended }))

    copied_moved : (from c : ℕ) → Copied lib site rows desc a from c → Copied lib site later more b from c
    copied_moved from c (u, inl w) = go (cases_eq u t)
      where
        go : (u ≡ t) ⊎ (u ≡ t → ⊥) → Copied lib site later more b from c
        go (inl e) = turn.copied from c (subst (IsWaiting lib site rows desc a (copies from c) (from ∷ []) c) e w)
        go (inr n) = let o = others u n in (u, inl (record { left = o.left (copies from c) w.left; keeps = keeps u c o w.keeps; needs = o.needs (copies from c) w.left ∙ w.needs }))
    copied_moved from c (u, inr w) =
        let one_ = grows.cells from w.set in (u, inr (record { set = ap is_some one_ ∙ w.set; same = grows.cells c (ap is_some w.same ∙ w.set) ∙ w.same ∙ sym one_ }))

    all_gathered : (qs : List Item) (ks : List Key) (ss : List Slot) → AllGathered lib site rows desc a qs ks ss → AllGathered lib site later more b qs ks ss
    all_gathered qs [] [] h = tt
    all_gathered qs [] (s ∷ ss) h = h
    all_gathered qs (k ∷ ks) [] h = h
    all_gathered qs (k ∷ ks) (s ∷ ss) h = (h.0, (h.1.0, h.1.1, gathered_moved h.1.0 s.cell h.1.2), all_gathered qs ks ss h.2)

    all_ending : (qs : List Item) (cs : List (List ℕ)) (ms : List Mark) → AllEnding lib site rows desc a qs cs ms → AllEnding lib site later more b qs cs ms
    all_ending qs [] [] h = tt
    all_ending qs [] (m ∷ ms) h = h
    all_ending qs (c ∷ cs) [] h = h
    all_ending qs (c ∷ cs) (m ∷ ms) h = (h.0, (h.1.0, h.1.1, ending_moved h.1.0 m.cell h.1.2), all_ending qs cs ms h.2)

    slots_moved : (is ss : List Slot) → SlotsCopied lib site rows desc a is ss → SlotsCopied lib site later more b is ss
    slots_moved [] [] h = tt
    slots_moved [] (s ∷ ss) h = h
    slots_moved (i ∷ is) [] h = h
    slots_moved (i ∷ is) (s ∷ ss) h = (h.0, copied_moved i.cell s.cell h.1, slots_moved is ss h.2)

    marks_moved : (is ms : List Mark) → MarksCopied lib site rows desc a is ms → MarksCopied lib site later more b is ms
    marks_moved [] [] h = tt
    marks_moved [] (m ∷ ms) h = h
    marks_moved (i ∷ is) [] h = h
    marks_moved (i ∷ is) (m ∷ ms) h = (h.0, copied_moved i.cell m.cell h.1, marks_moved is ms h.2)

    outputs_moved : (call : List ℕ) (ds : List TDecl) (names ss : List Slot) → OutputsCopied lib site rows desc a call ds names ss → OutputsCopied lib site later more b call ds names ss
    outputs_moved call [] names [] h = tt
    outputs_moved call [] names (s ∷ ss) h = h
    outputs_moved call (d ∷ ds) names [] h = h
    outputs_moved call (d ∷ ds) names (s ∷ ss) h = (h.0, (h.1.0, h.1.1, copied_moved h.1.0 s.cell h.1.2), outputs_moved call ds names ss h.2)

    -- ---- leaves

    -- A taken step that is no call is another one.
    other_step : (u : ℕ) (r : Rule) → OldDone u r → ((x : TCall) (s : Scope) (g : Given) (d : ℕ) → r ≡ does (stmt.Call x) s g d → ⊥) → u ≡ t → ⊥
    other_step u r h no_call e = let c = turn.only_call r (subst (λ (n : ℕ). OldDone n r) e h) in no_call c.0 c.1 c.2 c.3 c.4

    declared_turned : (name : List ℕ) (e : TExpr) (s : Scope) (c u : ℕ) (n : NamesNeeded a u s e) (left : OldLeft u (declares name e s c)) (k : Keeps a u c) → (u ≡ t) ⊎ (u ≡ t → ⊥) → Declared lib site later more b name e s c
    declared_turned name e s c u n left k (inl i) =
        turn.declared name e s c (subst (λ (m : ℕ). OldLeft m (declares name e s c)) i left) (subst (λ (m : ℕ). NamesNeeded a m s e) i n) (subst (λ (m : ℕ). Keeps a m c) i k)
    declared_turned name e s c u n left k (inr i) = let o = others u i in (u, names_needed u s e (o.needs (declares name e s c) left) n, inl (o.left (declares name e s c) left, keeps u c o k))

    declared_moved : (name : List ℕ) (e : TExpr) (s : Scope) (c : ℕ) → Declared lib site rows desc a name e s c → Declared lib site later more b name e s c
    declared_moved name e s c (u, n, inl p) = declared_turned name e s c u n p.0 p.1 (cases_eq u t)
    declared_moved name e s c (u, n, inr p) =
        let same = grows.needs u (declares name e s c) p.taken in
        let o = others u (other_step u (declares name e s c) p.taken (no_call (declares name e s c) refl)) in (
          u,
          names_needed u s e same n,
          inr (record {
            taken = grows.done u (declares name e s c) p.taken;
            set = needs_set u same p.set;
            own = o.owner c p.own;
            work = p.work;
            follows = follows_kept a.cells b.cells grows.cells s.place n.slots [] (λ (y : Sight). declaration y name e) (only name c) p.work (needs_slots a u s e n p.set) refl
                (slots_same u o (only name c).names (λ k m i. own_only k m i p.own)) refl p.follows;
          }),
        )
      where
        own_only : (k m : ℕ) → k < 1 → Owns a u c → Owns a u (get_or (c ∷ []) k m)
        own_only zero m i h = h
        own_only (suc k) m i h = absurd (omega (arith, i))

    -- A call that was asked, of which this move knows nothing.
    call_kept : (depth : ℕ) (x : TCall) (s : Scope) (g : Given) (d u : ℕ) (w : Work) → Rests u → RowsSame s x → (q : OldDone u (does (stmt.Call x) s g d)) → (n : CallNeeded a u s x) → are_set a (a.needs u) ≡ true → IsNamed (call_names lib x) g → EndsAt x g d
        → HasCells lib site rows desc a u g d → IsPlain lib site rows desc a x n.slots → Follows a.cells s.place n.slots n.marks (call_of (run_with lib site rows) (flow (run_with lib site rows) depth) (call_names lib x) x) g w
        → New depth (one (stmt.Call x) s g d)
    call_kept depth x s g d u w o same_rows q n set is ends_ own plain follows =
        let same = grows.needs u (does (stmt.Call x) s g d) q in
        let ready = call_slots a u s x n set in
        told_call depth x s g d u w (grows.done u (does (stmt.Call x) s g d) q) (call_needed u s x same n) (needs_set u same set) is ends_ (has_cells u g d o own) (plain_now ready.0)
        (follows_kept a.cells b.cells grows.cells s.place n.slots n.marks (call_of (run_with lib site later) (flow (run_with lib site later) depth) (call_names lib x) x) g w ready.0 ready.1 (slots_same u o g.names own.names)
        (marks_same u o g.calls own.calls)
        (sym (plain_same (run_with lib site later) (flow (run_with lib site rows) depth) (flow (run_with lib site later) depth) x (own_sight a.cells s.place n.slots n.marks) plain)
        ∙ sym (call_rows_same lib site rows later (flow (run_with lib site rows) depth) (call_names lib x) x (own_sight a.cells s.place n.slots n.marks) same_rows) ∙ follows))
      where
        plain_now : slots_set a.cells n.slots ≡ true → IsPlain lib site later more b x n.slots
        plain_now h = go plain
          where
            go : IsPlain lib site rows desc a x n.slots → IsPlain lib site later more b x n.slots
            go (inl p) = inl p
            go (inr p) = inr (p.0, ap (λ (ks : List Known). args_met (env_of ks) x.args) (names_kept a.cells b.cells grows.cells n.slots h) ∙ p.1)

    decl_turned : (depth : ℕ) (x : TDecl) (s : Scope) (c u : ℕ) (left : OldLeft u (does (stmt.Decl x) s (only x.name c) c)) (n : NamesNeeded a u s x.value) (k : Keeps a u c) → (u ≡ t) ⊎ (u ≡ t → ⊥) → New depth (one (stmt.Decl x) s (only x.name c) c)
    decl_turned depth x s c u left n k (inl e) =
        turn.decl depth x s c (subst (λ (m : ℕ). OldLeft m (does (stmt.Decl x) s (only x.name c) c)) e left) (subst (λ (m : ℕ). NamesNeeded a m s x.value) e n) (subst (λ (m : ℕ). Keeps a m c) e k)
    decl_turned depth x s c u left n k (inr e) = let o = others u e in left_decl depth x s c u (o.left _ left) (names_needed u s x.value (o.needs _ left) n) (keeps u c o k)

    call_turned : (depth : ℕ) (x : TCall) (s : Scope) (g : Given) (d u : ℕ) (left : OldLeft u (does (stmt.Call x) s g d)) (n : CallNeeded a u s x) (is : IsNamed (call_names lib x) g) (ends_ : EndsAt x g d) (k : KeepsCells lib site rows desc a u g d) → IsCallable lib depth (one (stmt.Call x) s g d) → (u ≡ t) ⊎ (u ≡ t → ⊥)
        → New depth (one (stmt.Call x) s g d)
    call_turned depth x s g d u left n is ends_ k r (inl e) =
        turn.call depth x s g d (subst (λ (m : ℕ). OldLeft m (does (stmt.Call x) s g d)) e left) (subst (λ (m : ℕ). CallNeeded a m s x) e n) is ends_
        (subst (λ (m : ℕ). KeepsCells lib site rows desc a m g d) e k) r
    call_turned depth x s g d u left n is ends_ k r (inr e) = let o = others u e in left_call depth x s g d u (o.left _ left) (call_needed u s x (o.needs _ left) n) is ends_ (keeps_cells u g d o k)

    scatter_turned : (depth : ℕ) (x : TScatter Statement) (s : Scope) (g : Given) (d u : ℕ) (left : OldLeft u (does (stmt.Scatter x) s g d)) (n : NamesNeeded a u s x.over) (out : IsOutside lib site rows desc a x.body g) (k : KeepsCells lib site rows desc a u g d) → (u ≡ t) ⊎ (u ≡ t → ⊥) → New depth (one (stmt.Scatter x) s g d)
    scatter_turned depth x s g d u left n out k (inl e) =
        turn.scatter depth x s g d (subst (λ (m : ℕ). OldLeft m (does (stmt.Scatter x) s g d)) e left) (subst (λ (m : ℕ). NamesNeeded a m s x.over) e n) out
        (subst (λ (m : ℕ). KeepsCells lib site rows desc a m g d) e k)
    scatter_turned depth x s g d u left n out k (inr e) = let o = others u e in left_scatter depth x s g d u (o.left _ left) (names_needed u s x.over (o.needs _ left) n) (outside x.body g out) (keeps_cells u g d o k)

    if_turned : (depth : ℕ) (x : TIf Statement) (s : Scope) (g : Given) (d u : ℕ) (left : OldLeft u (does (stmt.If x) s g d)) (n : NamesNeeded a u s x.cond) (out : IsOutside lib site rows desc a x.body g) (k : KeepsCells lib site rows desc a u g d) → (u ≡ t) ⊎ (u ≡ t → ⊥) → New depth (one (stmt.If x) s g d)
    if_turned depth x s g d u left n out k (inl e) =
        turn.condition depth x s g d (subst (λ (m : ℕ). OldLeft m (does (stmt.If x) s g d)) e left) (subst (λ (m : ℕ). NamesNeeded a m s x.cond) e n) out
        (subst (λ (m : ℕ). KeepsCells lib site rows desc a m g d) e k)
    if_turned depth x s g d u left n out k (inr e) = let o = others u e in left_if depth x s g d u (o.left _ left) (names_needed u s x.cond (o.needs _ left) n) (outside x.body g out) (keeps_cells u g d o k)

    told_turned : (depth : ℕ) (x : TCall) (s : Scope) (g : Given) (d : ℕ) (w : Work) (u : ℕ) (q : AskedAt lib site rows later desc more a b depth x s g d w u) → ((u ≡ t → ⊥) → RowsSame s x) → (u ≡ t) ⊎ (u ≡ t → ⊥) → New depth (one (stmt.Call x) s g d)
    told_turned depth x s g d w u q rows_same (inl e) = turn.told u e depth x s g d w q
    told_turned depth x s g d w u q rows_same (inr e) = call_kept depth x s g d u w (others u e) (rows_same e) q.done q.needed q.set q.named q.ends_at q.own q.plain q.follows

    -- ---- the whole

    pub moved : {depth : ℕ} {f : Form} (p : Old depth f) → IsCallable lib depth f → Answered (asking p) → New depth f
    moved (none_left depth s) runs same_rows = none_left depth s
    moved (next depth x xs s g h d ds p q) runs same_rows = next depth x xs s g h d ds (moved p (callable_first lib runs) (answered_left (asking p) (asking q) same_rows)) (moved q (callable_rest lib runs) (answered_right (asking p) (asking q) same_rows))
    moved (left_decl depth x s c u left n k) runs same_rows = decl_turned depth x s c u left n k (cases_eq u t)
    moved (left_call depth x s g d u left n is ends_ k) runs same_rows = call_turned depth x s g d u left n is ends_ k runs (cases_eq u t)
    moved (left_scatter depth x s g d u left n out k) runs same_rows = scatter_turned depth x s g d u left n out k (cases_eq u t)
    moved (left_if depth x s g d u left n out k) runs same_rows = if_turned depth x s g d u left n out k (cases_eq u t)
    moved (told_decl depth x s c u w q n set own follows) runs same_rows =
        let same = grows.needs u _ q in
        let o = others u (other_step u (does (stmt.Decl x) s (only x.name c) c) q (no_call (does (stmt.Decl x) s (only x.name c) c) (ap call_layer (stmt.outs-Decl x)))) in
        told_decl depth x s c u w (grows.done u _ q) (names_needed u s x.value same n) (needs_set u same set) (o.owner c own)
        (follows_kept a.cells b.cells grows.cells s.place n.slots [] (λ (y : Sight). declaration y x.name x.value) (only x.name c) w (needs_slots a u s x.value n set) refl
        (slots_same u o (only x.name c).names (λ k m i. own_only k m i)) refl follows)
      where
        own_only : (k m : ℕ) → k < 1 → Owns a u (get_or (c ∷ []) k m)
        own_only zero m i = own
        own_only (suc k) m i = absurd (omega (arith, i))
    moved (told_call depth x s g d u w q n set is ends_ own plain follows) runs same_rows =
        told_turned depth x s g d w u (record { done = q; needed = n; set = set; named = is; ends_at = ends_; own = own; plain = plain; follows = follows }) (answered_itself u s x same_rows) (cases_eq u t)
    moved (run_call depth x s g h d u ds q n set k is f found args met names ends_ distinct p copied ended) runs same_rows =
        let same = grows.needs u _ q in
        let ready = call_slots a u s x n set in
        run_call depth x s g h d u ds (grows.done u _ q) (call_needed u s x same n) (needs_set u same set) k is f found args
        (record {
          known = ap (λ (ks : List Known). args_known ks x.args) (names_kept a.cells b.cells grows.cells n.slots ready.0) ∙ met.known;
          ended = ap (λ (es : List Ended). list_all (has_ended es) x.after) (calls_kept a.cells b.cells grows.cells n.marks ready.1) ∙ met.ended;
          met = ap (λ (ks : List Known). args_met (env_of ks) x.args) (names_kept a.cells b.cells grows.cells n.slots ready.0) ∙ met.met;
        })
        names ends_ distinct (moved p (callable_called lib is found runs) same_rows) (outputs_moved x.name f.outputs h.names g.names copied) (ending_moved ds d ended)
    moved (failed_scatter depth x s g d u c q n set e out k) runs same_rows =
        let same = grows.needs u _ q in
        let o = others u (other_step u (does (stmt.Scatter x) s g d) q (no_call (does (stmt.Scatter x) s g d) (ap call_layer (stmt.outs-Scatter x)))) in
        failed_scatter depth x s g d u c (grows.done u _ q) (names_needed u s x.over same n) (needs_set u same set) (head_same u s x.over n set (Some (Err c)) e) (outside x.body g out) (keeps_cells u g d o k)
    moved (each_scatter depth x s g d u y qs q n set e out p names calls ended) runs same_rows =
        let same = grows.needs u _ q in
        each_scatter depth x s g d u y qs (grows.done u _ q) (names_needed u s x.over same n) (needs_set u same set) (head_same u s x.over n set (Some (Ok y)) e) (outside x.body g out) (moved p (callable_items lib runs) same_rows)
        (all_gathered qs _ g.names names) (all_ending qs _ g.calls calls) (ending_moved _ d ended)
    moved (failed_if depth x s g d u c q n set e out k) runs same_rows =
        let same = grows.needs u _ q in
        let o = others u (other_step u (does (stmt.If x) s g d) q (no_call (does (stmt.If x) s g d) (ap call_layer (stmt.outs-If x)))) in
        failed_if depth x s g d u c (grows.done u _ q) (names_needed u s x.cond same n) (needs_set u same set) (head_same u s x.cond n set (Some (Err c)) e) (outside x.body g out) (keeps_cells u g d o k)
    moved (false_if depth x s g d u y q n set e off out own same_ done) runs same_rows =
        let same = grows.needs u _ q in
        let o = others u (other_step u (does (stmt.If x) s g d) q (no_call (does (stmt.If x) s g d) (ap call_layer (stmt.outs-If x)))) in
        false_if depth x s g d u y (grows.done u _ q) (names_needed u s x.cond same n) (needs_set u same set) (head_same u s x.cond n set (Some (Ok y)) e) off (outside x.body g out) (has_cells u g d o own)
        (same_
        ∙ ap (λ (ks : List Known). make ks (map (ended_in a.cells) g.calls)) (sym (slots_same u o g.names own.names))
        ∙ ap (make (map (known_in b.cells) g.names)) (sym (marks_same u o g.calls own.calls)))
        (ap is_some (grows.cells d done) ∙ done)
      where
        make : List Known → List Ended → Flowing
        make ks es = record { names = ks; calls = es; jobs = []; codes = []; faults = []; waits = []; count = 0 }
    moved (true_if depth x s g h d u ds y q n set e on out p names calls ended) runs same_rows =
        let same = grows.needs u _ q in
        true_if depth x s g h d u ds y (grows.done u _ q) (names_needed u s x.cond same n) (needs_set u same set) (head_same u s x.cond n set (Some (Ok y)) e) on (outside x.body g out) (moved p (callable_body lib runs) same_rows)
        (slots_moved h.names g.names names) (marks_moved h.calls g.calls calls) (ending_moved ds d ended)
    moved (no_item depth xs s k item i) runs same_rows = no_item depth xs s k item i
    moved (item_next depth xs s k item i cell y ys g ds qs is p q) runs same_rows = item_next depth xs s k item i cell y ys g ds qs (grows.cells cell (ap is_some is) ∙ is) (moved p (callable_item lib runs) (answered_left (asking p) (asking q) same_rows)) (moved q (callable_later lib runs) (answered_right (asking p) (asking q) same_rows))
    moved (no_input depth given s) runs same_rows = no_input depth given s
    moved (given_input depth given i is s h c y e found p) runs same_rows = given_input depth given i is s h c y e (grows.cells c (ap is_some found) ∙ found) (moved p (callable_inputs lib) same_rows)
    moved (absent_input depth given i is s h c e lacking found p) runs same_rows = absent_input depth given i is s h c e lacking (grows.cells c (ap is_some found) ∙ found) (moved p (callable_inputs lib) same_rows)
    moved (default_input depth given i is s h c e lacking some d p) runs same_rows = default_input depth given i is s h c e lacking some (declared_moved i.name e s c d) (moved p (callable_inputs lib) same_rows)
    moved (no_output depth s) runs same_rows = no_output depth s
    moved (output_next depth x xs s h c d p) runs same_rows = output_next depth x xs s h c (declared_moved x.name x.value s c d) (moved p (callable_outputs lib) same_rows)
    moved (flow_whole depth f given place i b_ o ds p q r) runs same_rows = flow_whole depth f given place i b_ o ds (moved p (callable_inputs lib) (answered_first (asking p) (asking q) (asking r) same_rows)) (moved q (callable_whole lib runs) (answered_middle (asking p) (asking q) (asking r) same_rows)) (moved r (callable_outputs lib) (answered_last (asking p) (asking q) (asking r) same_rows))

    -- ---- a leaf of the step, and one of another

    struck : (old new u n w : ℕ) → u ≡ t → n + old ≡ w + new → n + hit t old u ≡ w + hit t new u
    struck old new u n w e h =
        let i : hit t old u ≡ old = ap (λ (b_ : Bool). cond b_ old 0) (eq-eqb u t e) in
        let j : hit t new u ≡ new = ap (λ (b_ : Bool). cond b_ new 0) (eq-eqb u t e) in
        omega (arith, h, i, j)

    spared : (old new u n w : ℕ) → (u ≡ t → ⊥) → n ≡ w → n + hit t old u ≡ w + hit t new u
    spared old new u n w e h =
        let i : hit t old u ≡ 0 = ap (λ (b_ : Bool). cond b_ old 0) (ne_eqb u t e) in
        let j : hit t new u ≡ 0 = ap (λ (b_ : Bool). cond b_ new 0) (ne_eqb u t e) in
        omega (arith, h, i, j)

    -- ---- what a move adds to the work

    module _ (weight : Work → ℕ) (is_weight : IsWeight weight) (old new : ℕ) (adds : TurnWeighs lib site rows later desc more a b t turn weight old new) where
      abbrev was : {depth : ℕ} {f : Form} → Old depth f → ℕ
      was p = weight (work_of lib site rows desc a p)

      abbrev now : {depth : ℕ} {f : Form} → New depth f → ℕ
      now p = weight (work_of lib site later more b p)

      abbrev before : {depth : ℕ} {f : Form} → Old depth f → ℕ
      before p = at_step lib site rows desc a t old p

      abbrev beyond_ : {depth : ℕ} {f : Form} → Old depth f → ℕ
      beyond_ p = at_step lib site rows desc a t new p

      from_none : (n w m : ℕ) → w ≡ 0 → n + old ≡ m → n + old ≡ w + m
      from_none n w m e h = omega (arith, e, h)

      decl_weighs : (depth : ℕ) (x : TDecl) (s : Scope) (c u : ℕ) (left : OldLeft u (does (stmt.Decl x) s (only x.name c) c)) (n : NamesNeeded a u s x.value) (k : Keeps a u c) (at : (u ≡ t) ⊎ (u ≡ t → ⊥))
          → now (decl_turned depth x s c u left n k at) + hit t old u ≡ weight no_work + hit t new u
      unfolding decl_turned
      decl_weighs depth x s c u left n k (inl e) =
          struck old new u _ _ e (from_none _ _ _ is_weight.nothing (adds.decl depth x s c (subst (λ (m : ℕ). OldLeft m (does (stmt.Decl x) s (only x.name c) c)) e left) (subst (λ (m : ℕ). NamesNeeded a m s x.value) e n) (subst (λ (m : ℕ). Keeps a m c) e k)))
      decl_weighs depth x s c u left n k (inr e) = spared old new u _ _ e refl

      call_weighs : (depth : ℕ) (x : TCall) (s : Scope) (g : Given) (d u : ℕ) (left : OldLeft u (does (stmt.Call x) s g d)) (n : CallNeeded a u s x) (is : IsNamed (call_names lib x) g) (ends_ : EndsAt x g d)
          (k : KeepsCells lib site rows desc a u g d) (runs : IsCallable lib depth (one (stmt.Call x) s g d)) (at : (u ≡ t) ⊎ (u ≡ t → ⊥)) → now (call_turned depth x s g d u left n is ends_ k runs at) + hit t old u ≡ weight no_work + hit t new u
      unfolding call_turned
      call_weighs depth x s g d u left n is ends_ k runs (inl e) =
          struck old new u _ _ e (from_none _ _ _ is_weight.nothing (adds.call depth x s g d (subst (λ (m : ℕ). OldLeft m (does (stmt.Call x) s g d)) e left) (subst (λ (m : ℕ). CallNeeded a m s x) e n) is ends_
          (subst (λ (m : ℕ). KeepsCells lib site rows desc a m g d) e k) runs))
      call_weighs depth x s g d u left n is ends_ k runs (inr e) = spared old new u _ _ e refl

      scatter_weighs : (depth : ℕ) (x : TScatter Statement) (s : Scope) (g : Given) (d u : ℕ) (left : OldLeft u (does (stmt.Scatter x) s g d)) (n : NamesNeeded a u s x.over) (out : IsOutside lib site rows desc a x.body g)
          (k : KeepsCells lib site rows desc a u g d) (at : (u ≡ t) ⊎ (u ≡ t → ⊥)) → now (scatter_turned depth x s g d u left n out k at) + hit t old u ≡ weight no_work + hit t new u
      unfolding scatter_turned
      scatter_weighs depth x s g d u left n out k (inl e) =
          struck old new u _ _ e (from_none _ _ _ is_weight.nothing (adds.scatter depth x s g d (subst (λ (m : ℕ). OldLeft m (does (stmt.Scatter x) s g d)) e left) (subst (λ (m : ℕ). NamesNeeded a m s x.over) e n) out
          (subst (λ (m : ℕ). KeepsCells lib site rows desc a m g d) e k)))
      scatter_weighs depth x s g d u left n out k (inr e) = spared old new u _ _ e refl

      if_weighs : (depth : ℕ) (x : TIf Statement) (s : Scope) (g : Given) (d u : ℕ) (left : OldLeft u (does (stmt.If x) s g d)) (n : NamesNeeded a u s x.cond) (out : IsOutside lib site rows desc a x.body g)
          (k : KeepsCells lib site rows desc a u g d) (at : (u ≡ t) ⊎ (u ≡ t → ⊥)) → now (if_turned depth x s g d u left n out k at) + hit t old u ≡ weight no_work + hit t new u
      unfolding if_turned
      if_weighs depth x s g d u left n out k (inl e) =
          struck old new u _ _ e (from_none _ _ _ is_weight.nothing (adds.condition depth x s g d (subst (λ (m : ℕ). OldLeft m (does (stmt.If x) s g d)) e left) (subst (λ (m : ℕ). NamesNeeded a m s x.cond) e n) out
          (subst (λ (m : ℕ). KeepsCells lib site rows desc a m g d) e k)))
      if_weighs depth x s g d u left n out k (inr e) = spared old new u _ _ e refl

      told_weighs : (depth : ℕ) (x : TCall) (s : Scope) (g : Given) (d : ℕ) (w : Work) (u : ℕ) (q : AskedAt lib site rows later desc more a b depth x s g d w u) (same_rows : (u ≡ t → ⊥) → RowsSame s x) (at : (u ≡ t) ⊎ (u ≡ t → ⊥))
          → now (told_turned depth x s g d w u q same_rows at) + hit t old u ≡ weight w + hit t new u
      unfolding told_turned call_kept
      told_weighs depth x s g d w u q same_rows (inl e) = struck old new u _ _ e (adds.told u e depth x s g d w q)
      told_weighs depth x s g d w u q same_rows (inr e) = spared old new u _ _ e refl

      declared_weighs : (name : List ℕ) (e : TExpr) (s : Scope) (c : ℕ) (d : Declared lib site rows desc a name e s c)
          → weight (told_work lib site later more b name e s c (declared_moved name e s c d)) + declared_at lib site rows desc a t old name e s c d
          ≡ weight (told_work lib site rows desc a name e s c d) + declared_at lib site rows desc a t new name e s c d
      unfolding declared_moved declared_turned
      declared_weighs name e s c (u, n, inl p) = go (cases_eq u t)
        where
          go : (at : (u ≡ t) ⊎ (u ≡ t → ⊥)) → weight (told_work lib site later more b name e s c (declared_turned name e s c u n p.0 p.1 at)) + hit t old u ≡ weight no_work + hit t new u
          go (inl i) =
              struck old new u _ _ i (from_none _ _ _ is_weight.nothing (adds.declared name e s c (subst (λ (m : ℕ). OldLeft m (declares name e s c)) i p.0) (subst (λ (m : ℕ). NamesNeeded a m s e) i n) (subst (λ (m : ℕ). Keeps a m c) i p.1)))
          go (inr i) = spared old new u _ _ i refl
      declared_weighs name e s c (u, n, inr p) = refl

      pub weighed : {depth : ℕ} {f : Form} (p : Old depth f) (runs : IsCallable lib depth f) (same_rows : Answered (asking p)) → now (moved p runs same_rows) + before p ≡ was p + beyond_ p
      unfolding moved
      weighed (none_left depth s) runs same_rows = refl
      weighed (next depth x xs s g h d ds p q) runs same_rows =
          let i = weighed p (callable_first lib runs) (answered_left (asking p) (asking q) same_rows) in
          let j = weighed q (callable_rest lib runs) (answered_right (asking p) (asking q) same_rows) in
          let v = is_weight.both (work_of lib site later more b (moved p (callable_first lib runs) (answered_left (asking p) (asking q) same_rows))) (work_of lib site later more b (moved q (callable_rest lib runs) (answered_right (asking p) (asking q) same_rows))) (work_even lib site later more b (moved p (callable_first lib runs) (answered_left (asking p) (asking q) same_rows))) in
          let w = is_weight.both (work_of lib site rows desc a p) (work_of lib site rows desc a q) (work_even lib site rows desc a p) in
          omega (arith, i, j, v, w)
      weighed (left_decl depth x s c u left n k) runs same_rows = decl_weighs depth x s c u left n k (cases_eq u t)
      weighed (left_call depth x s g d u left n is ends_ k) runs same_rows = call_weighs depth x s g d u left n is ends_ k runs (cases_eq u t)
      weighed (left_scatter depth x s g d u left n out k) runs same_rows = scatter_weighs depth x s g d u left n out k (cases_eq u t)
      weighed (left_if depth x s g d u left n out k) runs same_rows = if_weighs depth x s g d u left n out k (cases_eq u t)
      weighed (told_decl depth x s c u w q n set own follows) runs same_rows = refl
      weighed (told_call depth x s g d u w q n set is ends_ own plain follows) runs same_rows =
          told_weighs depth x s g d w u (record { done = q; needed = n; set = set; named = is; ends_at = ends_; own = own; plain = plain; follows = follows }) (answered_itself u s x same_rows) (cases_eq u t)
      weighed (run_call depth x s g h d u ds q n set k is f found args met names ends_ distinct p copied ended) runs same_rows = weighed p (callable_called lib is found runs) same_rows
      weighed (failed_scatter depth x s g d u c q n set e out k) runs same_rows = refl
      weighed (each_scatter depth x s g d u y qs q n set e out p names calls ended) runs same_rows = weighed p (callable_items lib runs) same_rows
      weighed (failed_if depth x s g d u c q n set e out k) runs same_rows = refl
      weighed (false_if depth x s g d u y q n set e off out own same done) runs same_rows = refl
      weighed (true_if depth x s g h d u ds y q n set e on out p names calls ended) runs same_rows =
          let i = weighed p (callable_body lib runs) same_rows in
          let v = is_weight.more (length x.body) (work_of lib site later more b (moved p (callable_body lib runs) same_rows)) in
          let w = is_weight.more (length x.body) (work_of lib site rows desc a p) in
          omega (arith, i, v, w)
      weighed (no_item depth xs s k item i) runs same_rows = refl
      weighed (item_next depth xs s k item m cell y ys g ds qs is p q) runs same_rows =
          let i = weighed p (callable_item lib runs) (answered_left (asking p) (asking q) same_rows) in
          let j = weighed q (callable_later lib runs) (answered_right (asking p) (asking q) same_rows) in
          let c = is_weight.both (counted (length xs) (work_of lib site later more b (moved p (callable_item lib runs) (answered_left (asking p) (asking q) same_rows)))) (work_of lib site later more b (moved q (callable_later lib runs) (answered_right (asking p) (asking q) same_rows))) (work_even lib site later more b (moved p (callable_item lib runs) (answered_left (asking p) (asking q) same_rows))) in
          let e = is_weight.both (counted (length xs) (work_of lib site rows desc a p)) (work_of lib site rows desc a q) (work_even lib site rows desc a p) in
          let v = is_weight.more (length xs) (work_of lib site later more b (moved p (callable_item lib runs) (answered_left (asking p) (asking q) same_rows))) in
          let w = is_weight.more (length xs) (work_of lib site rows desc a p) in
          omega (arith, i, j, c, e, v, w)
      weighed (no_input depth given s) runs same_rows = refl
      weighed (given_input depth given m is s h c y e found p) runs same_rows =
          let i = weighed p (callable_inputs lib) same_rows in
          let v = is_weight.both no_work (work_of lib site later more b (moved p (callable_inputs lib) same_rows)) refl in
          let w = is_weight.both no_work (work_of lib site rows desc a p) refl in
          omega (arith, i, v, w)
      weighed (absent_input depth given m is s h c e lacking found p) runs same_rows =
          let i = weighed p (callable_inputs lib) same_rows in
          let v = is_weight.both no_work (work_of lib site later more b (moved p (callable_inputs lib) same_rows)) refl in
          let w = is_weight.both no_work (work_of lib site rows desc a p) refl in
          omega (arith, i, v, w)
      weighed (default_input depth given m is s h c e lacking some d p) runs same_rows =
          let i = weighed p (callable_inputs lib) same_rows in
          let j = declared_weighs m.name e s c d in
          let v = is_weight.both (told_work lib site later more b m.name e s c (declared_moved m.name e s c d)) (work_of lib site later more b (moved p (callable_inputs lib) same_rows)) (told_even lib site later more b m.name e s c (declared_moved m.name e s c d)) in
          let w = is_weight.both (told_work lib site rows desc a m.name e s c d) (work_of lib site rows desc a p) (told_even lib site rows desc a m.name e s c d) in
          omega (arith, i, j, v, w)
      weighed (no_output depth s) runs same_rows = refl
      weighed (output_next depth x xs s h c d p) runs same_rows =
          let i = weighed p (callable_outputs lib) same_rows in
          let j = declared_weighs x.name x.value s c d in
          let v = is_weight.both (told_work lib site later more b x.name x.value s c (declared_moved x.name x.value s c d)) (work_of lib site later more b (moved p (callable_outputs lib) same_rows)) (told_even lib site later more b x.name x.value s c (declared_moved x.name x.value s c d)) in
          let w = is_weight.both (told_work lib site rows desc a x.name x.value s c d) (work_of lib site rows desc a p) (told_even lib site rows desc a x.name x.value s c d) in
          omega (arith, i, j, v, w)
      weighed (flow_whole depth f given place m b_ o ds p q r) runs same_rows =
          let i = weighed p (callable_inputs lib) (answered_first (asking p) (asking q) (asking r) same_rows) in
          let j = weighed q (callable_whole lib runs) (answered_middle (asking p) (asking q) (asking r) same_rows) in
          let k = weighed r (callable_outputs lib) (answered_last (asking p) (asking q) (asking r) same_rows) in
          let now_p = work_of lib site later more b (moved p (callable_inputs lib) (answered_first (asking p) (asking q) (asking r) same_rows)) in
          let even_now_p = work_even lib site later more b (moved p (callable_inputs lib) (answered_first (asking p) (asking q) (asking r) same_rows)) in
          let now_q = work_of lib site later more b (moved q (callable_whole lib runs) (answered_middle (asking p) (asking q) (asking r) same_rows)) in
          let even_now_q = work_even lib site later more b (moved q (callable_whole lib runs) (answered_middle (asking p) (asking q) (asking r) same_rows)) in
          let now_r = work_of lib site later more b (moved r (callable_outputs lib) (answered_last (asking p) (asking q) (asking r) same_rows)) in
          let even_now_r = work_even lib site later more b (moved r (callable_outputs lib) (answered_last (asking p) (asking q) (asking r) same_rows)) in
          let was_p = work_of lib site rows desc a p in
          let even_was_p = work_even lib site rows desc a p in
          let was_q = work_of lib site rows desc a q in
          let even_was_q = work_even lib site rows desc a q in
          let was_r = work_of lib site rows desc a r in
          let even_was_r = work_even lib site rows desc a r in
          let v1 = is_weight.both now_p (both_works (counted (length f.body) now_q) (both_works now_r no_work)) even_now_p in
          let v2 = is_weight.both (counted (length f.body) now_q) (both_works now_r no_work) even_now_q in
          let v3 = is_weight.both now_r no_work even_now_r in
          let v4 = is_weight.more (length f.body) now_q in
          let w1 = is_weight.both was_p (both_works (counted (length f.body) was_q) (both_works was_r no_work)) even_was_p in
          let w2 = is_weight.both (counted (length f.body) was_q) (both_works was_r no_work) even_was_q in
          let w3 = is_weight.both was_r no_work even_was_r in
          let w4 = is_weight.more (length f.body) was_q in
          omega (arith, i, j, k, v1, v2, v3, v4, w1, w2, w3, w4)

    -- ---- what a move adds to the leaves of a step

    module _ (v k old new : ℕ) (adds : TurnLeaves lib site rows later desc more a b t turn v k old new) where
      abbrev has : {depth : ℕ} {f : Form} → New depth f → ℕ
      has p = at_step lib site later more b v k p

      abbrev had : {depth : ℕ} {f : Form} → Old depth f → ℕ
      had p = at_step lib site rows desc a v k p

      abbrev less : {depth : ℕ} {f : Form} → Old depth f → ℕ
      less p = at_step lib site rows desc a t old p

      abbrev added : {depth : ℕ} {f : Form} → Old depth f → ℕ
      added p = at_step lib site rows desc a t new p

      at_leaf : (u n : ℕ) → u ≡ t → n + old ≡ hit v k t + new → n + hit t old u ≡ hit v k u + hit t new u
      at_leaf u n e h = struck old new u n (hit v k u) e (h ∙ ap (λ (m : ℕ). hit v k m + new) (sym e))

      decl_leaves : (depth : ℕ) (x : TDecl) (s : Scope) (c u : ℕ) (left : OldLeft u (does (stmt.Decl x) s (only x.name c) c)) (n : NamesNeeded a u s x.value) (q : Keeps a u c) (at : (u ≡ t) ⊎ (u ≡ t → ⊥))
          → has (decl_turned depth x s c u left n q at) + hit t old u ≡ hit v k u + hit t new u
      unfolding decl_turned
      decl_leaves depth x s c u left n q (inl e) =
          at_leaf u _ e (adds.decl depth x s c (subst (λ (m : ℕ). OldLeft m (does (stmt.Decl x) s (only x.name c) c)) e left) (subst (λ (m : ℕ). NamesNeeded a m s x.value) e n) (subst (λ (m : ℕ). Keeps a m c) e q))
      decl_leaves depth x s c u left n q (inr e) = spared old new u _ _ e refl

      call_leaves : (depth : ℕ) (x : TCall) (s : Scope) (g : Given) (d u : ℕ) (left : OldLeft u (does (stmt.Call x) s g d)) (n : CallNeeded a u s x) (is : IsNamed (call_names lib x) g) (ends_ : EndsAt x g d)
          (q : KeepsCells lib site rows desc a u g d) (runs : IsCallable lib depth (one (stmt.Call x) s g d)) (at : (u ≡ t) ⊎ (u ≡ t → ⊥)) → has (call_turned depth x s g d u left n is ends_ q runs at) + hit t old u ≡ hit v k u + hit t new u
      unfolding call_turned
      call_leaves depth x s g d u left n is ends_ q runs (inl e) =
          at_leaf u _ e (adds.call depth x s g d (subst (λ (m : ℕ). OldLeft m (does (stmt.Call x) s g d)) e left) (subst (λ (m : ℕ). CallNeeded a m s x) e n) is ends_
          (subst (λ (m : ℕ). KeepsCells lib site rows desc a m g d) e q) runs)
      call_leaves depth x s g d u left n is ends_ q runs (inr e) = spared old new u _ _ e refl

      scatter_leaves : (depth : ℕ) (x : TScatter Statement) (s : Scope) (g : Given) (d u : ℕ) (left : OldLeft u (does (stmt.Scatter x) s g d)) (n : NamesNeeded a u s x.over) (out : IsOutside lib site rows desc a x.body g)
          (q : KeepsCells lib site rows desc a u g d) (at : (u ≡ t) ⊎ (u ≡ t → ⊥)) → has (scatter_turned depth x s g d u left n out q at) + hit t old u ≡ hit v k u + hit t new u
      unfolding scatter_turned
      scatter_leaves depth x s g d u left n out q (inl e) =
          at_leaf u _ e (adds.scatter depth x s g d (subst (λ (m : ℕ). OldLeft m (does (stmt.Scatter x) s g d)) e left) (subst (λ (m : ℕ). NamesNeeded a m s x.over) e n) out
          (subst (λ (m : ℕ). KeepsCells lib site rows desc a m g d) e q))
      scatter_leaves depth x s g d u left n out q (inr e) = spared old new u _ _ e refl

      if_leaves : (depth : ℕ) (x : TIf Statement) (s : Scope) (g : Given) (d u : ℕ) (left : OldLeft u (does (stmt.If x) s g d)) (n : NamesNeeded a u s x.cond) (out : IsOutside lib site rows desc a x.body g)
          (q : KeepsCells lib site rows desc a u g d) (at : (u ≡ t) ⊎ (u ≡ t → ⊥)) → has (if_turned depth x s g d u left n out q at) + hit t old u ≡ hit v k u + hit t new u
      unfolding if_turned
      if_leaves depth x s g d u left n out q (inl e) =
          at_leaf u _ e (adds.condition depth x s g d (subst (λ (m : ℕ). OldLeft m (does (stmt.If x) s g d)) e left) (subst (λ (m : ℕ). NamesNeeded a m s x.cond) e n) out
          (subst (λ (m : ℕ). KeepsCells lib site rows desc a m g d) e q))
      if_leaves depth x s g d u left n out q (inr e) = spared old new u _ _ e refl

      told_leaves : (depth : ℕ) (x : TCall) (s : Scope) (g : Given) (d : ℕ) (w : Work) (u : ℕ) (q : AskedAt lib site rows later desc more a b depth x s g d w u) (same_rows : (u ≡ t → ⊥) → RowsSame s x) (at : (u ≡ t) ⊎ (u ≡ t → ⊥))
          → has (told_turned depth x s g d w u q same_rows at) + hit t old u ≡ hit v k u + hit t new u
      unfolding told_turned call_kept
      told_leaves depth x s g d w u q same_rows (inl e) = struck old new u _ _ e (adds.told u e depth x s g d w q)
      told_leaves depth x s g d w u q same_rows (inr e) = spared old new u _ _ e refl

      declared_leaves : (name : List ℕ) (e : TExpr) (s : Scope) (c : ℕ) (d : Declared lib site rows desc a name e s c)
          → declared_at lib site later more b v k name e s c (declared_moved name e s c d) + declared_at lib site rows desc a t old name e s c d
          ≡ declared_at lib site rows desc a v k name e s c d + declared_at lib site rows desc a t new name e s c d
      unfolding declared_moved declared_turned
      declared_leaves name e s c (u, n, inl p) = go (cases_eq u t)
        where
          go : (at : (u ≡ t) ⊎ (u ≡ t → ⊥)) → declared_at lib site later more b v k name e s c (declared_turned name e s c u n p.0 p.1 at) + hit t old u ≡ hit v k u + hit t new u
          go (inl i) =
              at_leaf u _ i (adds.declared name e s c (subst (λ (m : ℕ). OldLeft m (declares name e s c)) i p.0) (subst (λ (m : ℕ). NamesNeeded a m s e) i n) (subst (λ (m : ℕ). Keeps a m c) i p.1))
          go (inr i) = spared old new u _ _ i refl
      declared_leaves name e s c (u, n, inr p) = refl

      pub leaves : {depth : ℕ} {f : Form} (p : Old depth f) (runs : IsCallable lib depth f) (same_rows : Answered (asking p)) → has (moved p runs same_rows) + less p ≡ had p + added p
      unfolding moved
      leaves (none_left depth s) runs same_rows = refl
      leaves (next depth x xs s g h d ds p q) runs same_rows = let i = leaves p (callable_first lib runs) (answered_left (asking p) (asking q) same_rows) in let j = leaves q (callable_rest lib runs) (answered_right (asking p) (asking q) same_rows) in omega (arith, i, j)
      leaves (left_decl depth x s c u left n q) runs same_rows = decl_leaves depth x s c u left n q (cases_eq u t)
      leaves (left_call depth x s g d u left n is ends_ q) runs same_rows = call_leaves depth x s g d u left n is ends_ q runs (cases_eq u t)
      leaves (left_scatter depth x s g d u left n out q) runs same_rows = scatter_leaves depth x s g d u left n out q (cases_eq u t)
      leaves (left_if depth x s g d u left n out q) runs same_rows = if_leaves depth x s g d u left n out q (cases_eq u t)
      leaves (told_decl depth x s c u w q n set own follows) runs same_rows = refl
      leaves (told_call depth x s g d u w q n set is ends_ own plain follows) runs same_rows =
          told_leaves depth x s g d w u (record { done = q; needed = n; set = set; named = is; ends_at = ends_; own = own; plain = plain; follows = follows }) (answered_itself u s x same_rows) (cases_eq u t)
      leaves (run_call depth x s g h d u ds q n set j is f found args met names ends_ distinct p copied ended) runs same_rows = leaves p (callable_called lib is found runs) same_rows
      leaves (failed_scatter depth x s g d u c q n set e out j) runs same_rows = refl
      leaves (each_scatter depth x s g d u y qs q n set e out p names calls ended) runs same_rows = leaves p (callable_items lib runs) same_rows
      leaves (failed_if depth x s g d u c q n set e out j) runs same_rows = refl
      leaves (false_if depth x s g d u y q n set e off out own same done) runs same_rows = refl
      leaves (true_if depth x s g h d u ds y q n set e on out p names calls ended) runs same_rows = leaves p (callable_body lib runs) same_rows
      leaves (no_item depth xs s j item i) runs same_rows = refl
      leaves (item_next depth xs s j item m cell y ys g ds qs is p q) runs same_rows = let i = leaves p (callable_item lib runs) (answered_left (asking p) (asking q) same_rows) in let l = leaves q (callable_later lib runs) (answered_right (asking p) (asking q) same_rows) in omega (arith, i, l)
      leaves (no_input depth given s) runs same_rows = refl
      leaves (given_input depth given m is s h c y e found p) runs same_rows = leaves p (callable_inputs lib) same_rows
      leaves (absent_input depth given m is s h c e lacking found p) runs same_rows = leaves p (callable_inputs lib) same_rows
      leaves (default_input depth given m is s h c e lacking some d p) runs same_rows = let i = leaves p (callable_inputs lib) same_rows in let j = declared_leaves m.name e s c d in omega (arith, i, j)
      leaves (no_output depth s) runs same_rows = refl
      leaves (output_next depth x xs s h c d p) runs same_rows = let i = leaves p (callable_outputs lib) same_rows in let j = declared_leaves x.name x.value s c d in omega (arith, i, j)
      leaves (flow_whole depth f given place m b_ o ds p q r) runs same_rows = let i = leaves p (callable_inputs lib) (answered_first (asking p) (asking q) (asking r) same_rows) in let j = leaves q (callable_whole lib runs) (answered_middle (asking p) (asking q) (asking r) same_rows) in let l = leaves r (callable_outputs lib) (answered_last (asking p) (asking q) (asking r) same_rows) in omega (arith, i, j, l)

    -- ---- what a move adds to the expressions that were evaluated

    module _ (task : TaskCost) where
      pub asked_kept : (depth u : ℕ) (s : Scope) (x : TCall) (n : CallNeeded a u s x) → are_set a (a.needs u) ≡ true → IsPlain lib site rows desc a x n.slots
          → asked_count lib site later more b task depth s x n.slots n.marks ≡ asked_count lib site rows desc a task depth s x n.slots n.marks
      asked_kept depth u s x n set plain =
          let ready = call_slots a u s x n set in
          ap (λ (ks : List Known). cond (args_known ks x.args && list_all (has_ended (map (ended_in b.cells) n.marks)) x.after) (length x.args + met_cost (called_cost lib task (flow_cost (run_with lib site later) task depth) place x.target) (args_met (env_of ks) x.args)) 0)
          (names_kept a.cells b.cells grows.cells n.slots ready.0)
          ∙ ap (λ (es : List Ended). cond (args_known seen x.args && list_all (has_ended es) x.after) (length x.args + met_cost (called_cost lib task (flow_cost (run_with lib site later) task depth) place x.target) (args_met (env_of seen) x.args)) 0)
          (calls_kept a.cells b.cells grows.cells n.marks ready.1)
          ∙ ap (λ (c : ℕ). cond (args_known seen x.args && list_all (has_ended (map (ended_in a.cells) n.marks)) x.after) (length x.args + c) 0)
          (price_same lib task (flow_cost (run_with lib site later) task depth) (flow_cost (run_with lib site rows) task depth) place x (args_met (env_of seen) x.args) plain)
        where
          place : List Segment
          place = s.place ++ segment.Call x.name ∷ []

          seen : List Known
          seen = map (known_in a.cells) n.slots

    module _ (task : TaskCost) (old new : ℕ) (adds : TurnSpends lib site rows later desc more a b t turn task old new) where
      abbrev now_spends : {depth : ℕ} {f : Form} → New depth f → ℕ
      now_spends p = evaluated lib site later more b task p

      abbrev spent : {depth : ℕ} {f : Form} → Old depth f → ℕ
      spent p = evaluated lib site rows desc a task p

      abbrev before_ : {depth : ℕ} {f : Form} → Old depth f → ℕ
      before_ p = at_step lib site rows desc a t old p

      abbrev further : {depth : ℕ} {f : Form} → Old depth f → ℕ
      further p = at_step lib site rows desc a t new p

      at_first : (u n : ℕ) → u ≡ t → n + old ≡ new → n + hit t old u ≡ 0 + hit t new u
      at_first u n e h = struck old new u n 0 e (omega (arith, h))

      decl_spends : (depth : ℕ) (x : TDecl) (s : Scope) (c u : ℕ) (left : OldLeft u (does (stmt.Decl x) s (only x.name c) c)) (n : NamesNeeded a u s x.value) (q : Keeps a u c) (at : (u ≡ t) ⊎ (u ≡ t → ⊥))
          → now_spends (decl_turned depth x s c u left n q at) + hit t old u ≡ 0 + hit t new u
      unfolding decl_turned
      decl_spends depth x s c u left n q (inl e) =
          at_first u _ e (adds.decl depth x s c (subst (λ (m : ℕ). OldLeft m (does (stmt.Decl x) s (only x.name c) c)) e left) (subst (λ (m : ℕ). NamesNeeded a m s x.value) e n) (subst (λ (m : ℕ). Keeps a m c) e q))
      decl_spends depth x s c u left n q (inr e) = spared old new u _ _ e refl

      call_spends : (depth : ℕ) (x : TCall) (s : Scope) (g : Given) (d u : ℕ) (left : OldLeft u (does (stmt.Call x) s g d)) (n : CallNeeded a u s x) (is : IsNamed (call_names lib x) g) (ends_ : EndsAt x g d)
          (q : KeepsCells lib site rows desc a u g d) (runs : IsCallable lib depth (one (stmt.Call x) s g d)) (at : (u ≡ t) ⊎ (u ≡ t → ⊥)) → now_spends (call_turned depth x s g d u left n is ends_ q runs at) + hit t old u ≡ 0 + hit t new u
      unfolding call_turned
      call_spends depth x s g d u left n is ends_ q runs (inl e) =
          at_first u _ e (adds.call depth x s g d (subst (λ (m : ℕ). OldLeft m (does (stmt.Call x) s g d)) e left) (subst (λ (m : ℕ). CallNeeded a m s x) e n) is ends_
          (subst (λ (m : ℕ). KeepsCells lib site rows desc a m g d) e q) runs)
      call_spends depth x s g d u left n is ends_ q runs (inr e) = spared old new u _ _ e refl

      scatter_spends : (depth : ℕ) (x : TScatter Statement) (s : Scope) (g : Given) (d u : ℕ) (left : OldLeft u (does (stmt.Scatter x) s g d)) (n : NamesNeeded a u s x.over) (out : IsOutside lib site rows desc a x.body g)
          (q : KeepsCells lib site rows desc a u g d) (at : (u ≡ t) ⊎ (u ≡ t → ⊥)) → now_spends (scatter_turned depth x s g d u left n out q at) + hit t old u ≡ 0 + hit t new u
      unfolding scatter_turned
      scatter_spends depth x s g d u left n out q (inl e) =
          at_first u _ e (adds.scatter depth x s g d (subst (λ (m : ℕ). OldLeft m (does (stmt.Scatter x) s g d)) e left) (subst (λ (m : ℕ). NamesNeeded a m s x.over) e n) out
          (subst (λ (m : ℕ). KeepsCells lib site rows desc a m g d) e q))
      scatter_spends depth x s g d u left n out q (inr e) = spared old new u _ _ e refl

      if_spends : (depth : ℕ) (x : TIf Statement) (s : Scope) (g : Given) (d u : ℕ) (left : OldLeft u (does (stmt.If x) s g d)) (n : NamesNeeded a u s x.cond) (out : IsOutside lib site rows desc a x.body g)
          (q : KeepsCells lib site rows desc a u g d) (at : (u ≡ t) ⊎ (u ≡ t → ⊥)) → now_spends (if_turned depth x s g d u left n out q at) + hit t old u ≡ 0 + hit t new u
      unfolding if_turned
      if_spends depth x s g d u left n out q (inl e) =
          at_first u _ e (adds.condition depth x s g d (subst (λ (m : ℕ). OldLeft m (does (stmt.If x) s g d)) e left) (subst (λ (m : ℕ). NamesNeeded a m s x.cond) e n) out
          (subst (λ (m : ℕ). KeepsCells lib site rows desc a m g d) e q))
      if_spends depth x s g d u left n out q (inr e) = spared old new u _ _ e refl

      told_spends : (depth : ℕ) (x : TCall) (s : Scope) (g : Given) (d : ℕ) (w : Work) (u : ℕ) (q : AskedAt lib site rows later desc more a b depth x s g d w u) (same_rows : (u ≡ t → ⊥) → RowsSame s x) (at : (u ≡ t) ⊎ (u ≡ t → ⊥))
          → now_spends (told_turned depth x s g d w u q same_rows at) + hit t old u ≡ asked_count lib site rows desc a task depth s x q.needed.slots q.needed.marks + hit t new u
      unfolding told_turned call_kept
      told_spends depth x s g d w u q same_rows (inl e) = struck old new u _ _ e (adds.told u e depth x s g d w q)
      told_spends depth x s g d w u q same_rows (inr e) = spared old new u _ _ e (asked_kept task depth u s x q.needed q.set q.plain)

      declared_spends : (name : List ℕ) (e : TExpr) (s : Scope) (c : ℕ) (d : Declared lib site rows desc a name e s c)
          → told_count lib site later more b name e s c (declared_moved name e s c d) + declared_at lib site rows desc a t old name e s c d
          ≡ told_count lib site rows desc a name e s c d + declared_at lib site rows desc a t new name e s c d
      unfolding declared_moved declared_turned
      declared_spends name e s c (u, n, inl p) = go (cases_eq u t)
        where
          go : (at : (u ≡ t) ⊎ (u ≡ t → ⊥)) → told_count lib site later more b name e s c (declared_turned name e s c u n p.0 p.1 at) + hit t old u ≡ 0 + hit t new u
          go (inl i) =
              at_first u _ i (adds.declared name e s c (subst (λ (m : ℕ). OldLeft m (declares name e s c)) i p.0) (subst (λ (m : ℕ). NamesNeeded a m s e) i n) (subst (λ (m : ℕ). Keeps a m c) i p.1))
          go (inr i) = spared old new u _ _ i refl
      declared_spends name e s c (u, n, inr p) = refl

      pub spends : {depth : ℕ} {f : Form} (p : Old depth f) (runs : IsCallable lib depth f) (same_rows : Answered (asking p)) → now_spends (moved p runs same_rows) + before_ p ≡ spent p + further p
      unfolding moved
      spends (none_left depth s) runs same_rows = refl
      spends (next depth x xs s g h d ds p q) runs same_rows = let i = spends p (callable_first lib runs) (answered_left (asking p) (asking q) same_rows) in let j = spends q (callable_rest lib runs) (answered_right (asking p) (asking q) same_rows) in omega (arith, i, j)
      spends (left_decl depth x s c u left n q) runs same_rows = decl_spends depth x s c u left n q (cases_eq u t)
      spends (left_call depth x s g d u left n is ends_ q) runs same_rows = call_spends depth x s g d u left n is ends_ q runs (cases_eq u t)
      spends (left_scatter depth x s g d u left n out q) runs same_rows = scatter_spends depth x s g d u left n out q (cases_eq u t)
      spends (left_if depth x s g d u left n out q) runs same_rows = if_spends depth x s g d u left n out q (cases_eq u t)
      spends (told_decl depth x s c u w q n set own follows) runs same_rows = refl
      spends (told_call depth x s g d u w q n set is ends_ own plain follows) runs same_rows =
          told_spends depth x s g d w u (record { done = q; needed = n; set = set; named = is; ends_at = ends_; own = own; plain = plain; follows = follows }) (answered_itself u s x same_rows) (cases_eq u t)
      spends (run_call depth x s g h d u ds q n set j is f found args met names ends_ distinct p copied ended) runs same_rows = let i = spends p (callable_called lib is found runs) same_rows in omega (arith, i)
      spends (failed_scatter depth x s g d u c q n set e out j) runs same_rows = refl
      spends (each_scatter depth x s g d u y qs q n set e out p names calls ended) runs same_rows = let i = spends p (callable_items lib runs) same_rows in omega (arith, i)
      spends (failed_if depth x s g d u c q n set e out j) runs same_rows = refl
      spends (false_if depth x s g d u y q n set e off out own same done) runs same_rows = refl
      spends (true_if depth x s g h d u ds y q n set e on out p names calls ended) runs same_rows = let i = spends p (callable_body lib runs) same_rows in omega (arith, i)
      spends (no_item depth xs s j item i) runs same_rows = refl
      spends (item_next depth xs s j item m cell y ys g ds qs is p q) runs same_rows = let i = spends p (callable_item lib runs) (answered_left (asking p) (asking q) same_rows) in let l = spends q (callable_later lib runs) (answered_right (asking p) (asking q) same_rows) in omega (arith, i, l)
      spends (no_input depth given s) runs same_rows = refl
      spends (given_input depth given m is s h c y e found p) runs same_rows = spends p (callable_inputs lib) same_rows
      spends (absent_input depth given m is s h c e lacking found p) runs same_rows = spends p (callable_inputs lib) same_rows
      spends (default_input depth given m is s h c e lacking some d p) runs same_rows = let i = spends p (callable_inputs lib) same_rows in let j = declared_spends m.name e s c d in omega (arith, i, j)
      spends (no_output depth s) runs same_rows = refl
      spends (output_next depth x xs s h c d p) runs same_rows = let i = spends p (callable_outputs lib) same_rows in let j = declared_spends x.name x.value s c d in omega (arith, i, j)
      spends (flow_whole depth f given place m b_ o ds p q r) runs same_rows = let i = spends p (callable_inputs lib) (answered_first (asking p) (asking q) (asking r) same_rows) in let j = spends q (callable_whole lib runs) (answered_middle (asking p) (asking q) (asking r) same_rows) in let l = spends r (callable_outputs lib) (answered_last (asking p) (asking q) (asking r) same_rows) in omega (arith, i, j, l)
