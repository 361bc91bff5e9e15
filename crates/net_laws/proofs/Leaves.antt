-- What is left or evaluated, as the definitions have it: a step that is left misses a need.
use Rattle.std.proofs.Common.{◌≡◌, ℕ, Bool, true, false, ◌&&◌, ◌⊎◌, inl, inr, List, [], ◌∷◌, ◌++◌, All, map, Option, None, sym, ap, ◌∙◌, refl}
use Rattle.std.specs.List.{list_all}
use Rattle.std.proofs.lemmas.Bool.{and_cases, and_from, and_left, and_parts, and_right, both_ways, false≢true}
use Rattle.std.proofs.lemmas.List.Folds.{list_all-append, list_all-map}
use Rattle.wdl_value.specs.declared.value.Value.{Value}
use Rattle.wdl_value.specs.Tables.{Row}
use Rattle.wdl_typed.specs.declared.expr.TExpr.{TExpr}
use Rattle.wdl_typed.specs.declared.flow.TCall.{TCall}
use Rattle.wdl_typed.specs.Bodies.{Library}
use Rattle.wdl_typed.specs.Flow.{Sight, all_known, args_known, declaration, has_ended, is_empty}
use Rattle.wdl_typed.specs.KnownTypes.{is_some}
use Rattle.wdl_typed.specs.Scope.{names_of}
use Rattle.net_laws.specs.Net.{Mark, Scope, Slot, Work, both_works, ended_in, known_in}
use Rattle.net_laws.specs.Rules.{Follows, arg_keys}
use Rattle.net_laws.specs.Growing.{AllStuck, CallNeeded, Declared, Keeps, NamesNeeded, Rule, State, are_set, is_set, mark_cell, only, slot_cell}
use Rattle.net_laws.specs.Works.{told_work}
use Rattle.net_laws.proofs.Kept.{stuck_args, stuck_declaration}
use Rattle.net_laws.proofs.Sets.{AllKnown, Lacks, all_ended_set, all_known_set, args_known_set, lacks, lacks_mark, marks_resolved_set, marks_set, not_all_ended, resolved_set, slots_set}
use Rattle.net_laws.proofs.Settles.{clean, declaration_settles}

-- ---- bools

-- Where the first holds exactly as it should, and then the second, both do.
pub both_settle : (p q a b : Bool) → p ≡ a → (p ≡ true → q ≡ b) → p && q ≡ a && b
both_settle true q a b e f = f refl ∙ ap (λ x. x && b) e
both_settle false q a b e f = ap (λ x. x && b) e

four : (a b c d : Bool) → (a && b) && (c && d) ≡ (a && c) && (b && d)
four false b c d = refl
four true true true d = refl
four true true false d = refl
four true false true d = refl
four true false false d = refl

empty_append : {A : Type 0} (xs ys : List A) → is_empty (xs ++ ys) ≡ is_empty xs && is_empty ys
empty_append [] ys = refl
empty_append (x ∷ xs) ys = refl

pub clean_both : (a b : Work) → clean (both_works a b) ≡ clean a && clean b
clean_both a b =
    ap (λ x. x && is_empty (a.waits ++ b.waits)) (empty_append a.faults b.faults)
    ∙ ap (λ x. (is_empty a.faults && is_empty b.faults) && x) (empty_append a.waits b.waits)
    ∙ four (is_empty a.faults) (is_empty b.faults) (is_empty a.waits) (is_empty b.waits)

-- ---- cells

pub unset_not : (o : Option Value) → o ≡ None → is_some o ≡ true → ⊥
unset_not o e h = false≢true (sym (ap is_some e) ∙ h)

module _ (st : State) where
  pub kept_unset : (t : ℕ) (cs : List ℕ) → All (Keeps st t) cs → All (λ c. st.cells c ≡ None) cs
  kept_unset t cs h k d i = (h k d i).1

  -- ---- needs

  slots_are : (ss : List Slot) (b : Bool) → are_set st (map slot_cell ss) ≡ b → slots_set st.cells ss ≡ b
  slots_are ss b h = sym (list_all-map (is_set st) slot_cell ss) ∙ h

  marks_are : (ms : List Mark) (b : Bool) → are_set st (map mark_cell ms) ≡ b → marks_set st.cells ms ≡ b
  marks_are ms b h = sym (list_all-map (is_set st) mark_cell ms) ∙ h

  module _ (t : ℕ) (s : Scope) (e : TExpr) (n : NamesNeeded st t s e) where
    pub needs_lack : are_set st (st.needs t) ≡ false → Lacks st.cells s.names n.slots (names_of e)
    needs_lack h = lacks st.cells s.names n.slots (names_of e) n.needs.resolved n.uses (slots_are n.slots false (ap (are_set st) (sym n.cells) ∙ h))

    pub needs_slots : are_set st (st.needs t) ≡ true → slots_set st.cells n.slots ≡ true
    needs_slots h = slots_are n.slots true (ap (are_set st) (sym n.cells) ∙ h)

    pub needs_known : are_set st (st.needs t) ≡ true → all_known (map (known_in st.cells) n.slots) e ≡ true
    needs_known h = all_known_set st.cells n.slots (needs_slots h) (names_of e) n.needs.all

    -- Where all that is seen is known, no step misses a need.
    pub needs_absurd : are_set st (st.needs t) ≡ false → AllKnown st.cells s → ⊥
    needs_absurd h k =
        both_ways (slots_set st.cells n.slots) (slots_are n.slots false (ap (are_set st) (sym n.cells) ∙ h)) (resolved_set st.cells s.names n.slots k.names n.needs.resolved)

  module _ (t : ℕ) (s : Scope) (x : TCall) (n : CallNeeded st t s x) where
    abbrev ks : List ℕ
    ks = map slot_cell n.slots

    abbrev ms : List ℕ
    ms = map mark_cell n.marks

    split : (b : Bool) → are_set st (st.needs t) ≡ b → are_set st ks && are_set st ms ≡ b
    split b h = sym (list_all-append (is_set st) ks ms) ∙ ap (are_set st) (sym n.cells) ∙ h

    pub call_slots : are_set st (st.needs t) ≡ true → (slots_set st.cells n.slots ≡ true) × (marks_set st.cells n.marks ≡ true)
    call_slots h = let p = and_parts (are_set st ks) (are_set st ms) (split true h) in (slots_are n.slots true p.0, marks_are n.marks true p.1)

    abbrev pub test : Bool
    test = args_known (map (known_in st.cells) n.slots) x.args && list_all (has_ended (map (ended_in st.cells) n.marks)) x.after

    pub call_ready : are_set st (st.needs t) ≡ true → test ≡ true
    call_ready h =
        let p = and_parts (are_set st ks) (are_set st ms) (split true h) in
        and_from (args_known (map (known_in st.cells) n.slots) x.args) (list_all (has_ended (map (ended_in st.cells) n.marks)) x.after)
        (args_known_set st.cells n.slots (slots_are n.slots true p.0) x.args n.needs.names.all) (all_ended_set st.cells n.marks (marks_are n.marks true p.1) x.after n.needs.after)

    pub call_not_ready : are_set st (st.needs t) ≡ false → test ≡ false
    call_not_ready h = by_case (and_cases (are_set st ks) (are_set st ms) (split false h))
      where
        by_case : (are_set st ks ≡ false) ⊎ (are_set st ms ≡ false) → test ≡ false
        by_case (inl e) =
            let l = lacks st.cells s.names n.slots (arg_keys x.args) n.needs.names.resolved n.uses (slots_are n.slots false e) in
            and_left (args_known (map (known_in st.cells) n.slots) x.args) (list_all (has_ended (map (ended_in st.cells) n.marks)) x.after)
            (stuck_args st.cells s.names n.slots n.needs.names.resolved l.slot l.seen l.among l.unset x.args l.used)
        by_case (inr e) =
            let l = lacks_mark st.cells s.calls n.marks x.after n.needs.calls n.comes_after (marks_are n.marks false e) in
            and_right (args_known (map (known_in st.cells) n.slots) x.args) (list_all (has_ended (map (ended_in st.cells) n.marks)) x.after)
            (not_all_ended st.cells s.calls n.marks n.needs.calls x.after l)

    pub call_absurd : are_set st (st.needs t) ≡ false → AllKnown st.cells s → ⊥
    call_absurd h k =
        both_ways (are_set st ks && are_set st ms) (split false h)
        (and_from (are_set st ks) (are_set st ms) (list_all-map (is_set st) slot_cell n.slots ∙ resolved_set st.cells s.names n.slots k.names n.needs.names.resolved)
        (list_all-map (is_set st) mark_cell n.marks ∙ marks_resolved_set st.cells s.calls n.marks k.calls n.needs.calls))

-- ---- inputs' defaults and outputs

module _ (lib : Library) (site : List ℕ) (table : List Row) (desc : ℕ → Rule → Type 0) (st : State) (stuck : AllStuck lib site table desc st) where
  -- what a declaration came to: nothing yet, a value or a fault
  pub record Told (name : List ℕ) (e : TExpr) (s : Scope) (c : ℕ) (work : Work) : Type 0 where
    pub step : ℕ
    pub needed : NamesNeeded st step s e
    pub follows : Follows st.cells s.place needed.slots [] (λ (y : Sight). declaration y name e) (only name c) work
    pub settles : AllKnown st.cells s → is_set st c ≡ clean work

  pub declared : (name : List ℕ) (e : TExpr) (s : Scope) (c : ℕ) (d : Declared lib site table desc st name e s c) → Told name e s c (told_work lib site table desc st name e s c d)
  declared name e s c (t, n, inl p) =
      let h = stuck t _ p.0 in
      let l = needs_lack st t s e n h in
      record {
        step = t;
        needed = n;
        follows = stuck_declaration st.cells s.names n.slots n.needs.resolved l.slot l.seen l.among l.unset s.place name e c l.used p.1.1;
        settles = λ k. absurd (needs_absurd st t s e n h k);
      }
  declared name e s c (t, n, inr p) =
      record {
        step = t;
        needed = n;
        follows = p.follows;
        settles = λ k. declaration_settles st.cells s.place name e n.slots c p.work (needs_known st t s e n p.set) p.follows;
      }
