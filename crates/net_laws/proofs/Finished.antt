-- Where no step that is left is ready, what grows is planned: it shows the flow from scratch, and what it says is done is what has
-- no fault and waits for nothing.
use Rattle.std.proofs.Common.{◌≡◌, ℕ, Bool, true, false, ◌&&◌, List, [], ◌∷◌, ◌++◌, map, length, Option, Some, None, option_and_then, codes, sym, ap, ◌∙◌, subst, refl}
use Rattle.std.specs.List.{list_all}
use Rattle.std.proofs.lemmas.Bool.{and_from, and_parts}
use Rattle.std.proofs.lemmas.List.Folds.{list_all-append, list_all-map}
use Rattle.wdl_base.specs.declared.name.Key.{Key}
use Rattle.wdl_base.specs.declared.place.Segment.{Segment}
use Rattle.wdl_base.specs.declared.place.Segment.TheVariants as segment
use Rattle.wdl_value.specs.declared.env.Bind.{Bind}
use Rattle.wdl_value.specs.declared.value.Value.{Value}
use Rattle.wdl_value.specs.declared.value.Value.TheVariants as v
use Rattle.wdl_value.specs.Tables.{Row}
use Rattle.wdl_typed.specs.declared.flow.FlowDef.{FlowDef}
use Rattle.wdl_typed.specs.declared.flow.Statement.{Statement}
use Rattle.wdl_typed.specs.declared.flow.Statement.TheVariants as stmt
use Rattle.wdl_typed.specs.declared.flow.TCall.{TCall}
use Rattle.wdl_typed.specs.declared.task.TDecl.{TDecl}
use Rattle.wdl_typed.specs.declared.task.TInput.{TInput}
use Rattle.wdl_typed.specs.Bodies.{Library}
use Rattle.wdl_typed.specs.Declarations.{plain_key}
use Rattle.wdl_typed.specs.Flow.{Callee, Ended, Flowing, Known, Names, Run, Runner, all_values, beginning, declaration, each_call, each_key, fault_at, flow, flow_at, flow_ended, flow_run, giving, input_of, inputs, missing, output_of, outputs, with_fault}
use Rattle.wdl_typed.specs.Journal.{keys_distinct}
use Rattle.wdl_typed.specs.KnownTypes.{is_some}
use Rattle.wdl_typed.specs.Scope.{lookup}
use Rattle.flow_laws.specs.Laws.{run_with}
use Rattle.net_laws.specs.Net.{Cells, Given, Mark, Scope, Shows, Slot, Work, all_works, beyond, both_given, both_works, ended_in, find, find_call, flowing_of, item_scope, known_in, no_work, slot_keys}
use Rattle.net_laws.specs.Planned.{Planned, all as planned_all, call_names, counted, each as planned_each, names_in, one as planned_one, planned_call, planned_decl, planned_end, planned_failed, planned_false, planned_fault, planned_flow, planned_idle, planned_item, planned_items, planned_next, planned_none, planned_true, planned_untold}
use Rattle.net_laws.specs.Rules.{AllEnded, AllGathered as RuleGathered, Instance, KeysAre, call_in, cell_in, work_in}
use Rattle.net_laws.specs.Growing.{AllEnding, AllStuck, AllGathered, Ending, EndsAt, Form, Growing, IsOutside, Item, KeepsCells, MarksCopied, OutputsCopied, Rule, SlotsCopied, State, absent_input, all, all_dones, are_set, body_given, default_input, each, each_scatter, failed_if, failed_scatter, false_if, flow_whole, given_input, is_set, item_next, left_call, left_decl, left_if, left_scatter, mark_cell, next, no_input, no_item, no_output, none_left, nothing_given, one, only, output_next, run_call, slot_cell, start, takes, tells, told_call, told_decl, true_if, whole}
use Rattle.net_laws.specs.Works.{faulty, told_work, work_of}
use Rattle.net_laws.proofs.Flows.{FlowNet, flow_shows, shows_absent, shows_default, shows_given}
use Rattle.net_laws.proofs.Joints.{copied_is, ending_is, gathered_is, gathered_set}
use Rattle.net_laws.proofs.Kept.{stuck_call, stuck_declaration, stuck_head}
use Rattle.net_laws.proofs.Leaves.{both_settle, call_absurd, call_not_ready, call_ready, clean_both, declared, kept_unset, needs_absurd, needs_known, needs_lack, unset_not}
use Rattle.net_laws.proofs.Lookups.{looked_up, value_at}
use Rattle.net_laws.proofs.Naming.{given_same, named}
use Rattle.net_laws.proofs.Sets.{AllGiven, AllKnown, and_true, find_call_set, find_set, known_beyond, marks_both, marks_set, missing_is, slots_both, slots_set}
use Rattle.net_laws.proofs.Settles.{all_ended, all_valued, call_gives, call_settles, clean, declaration_settles, valued_is}
use Rattle.net_laws.proofs.Shown.{shows_declaration, shows_next, shows_none}

pub cons_parts : {A : Type 0} {x y : A} {xs ys : List A} → x ∷ xs ≡ y ∷ ys → (x ≡ y) × (xs ≡ ys)
cons_parts e = ((cc), (cc))

module _ (lib : Library) (site : List ℕ) (table : List Row) (desc : ℕ → Rule → Type 0) (st : State) where
  abbrev run : Run
  run = run_with lib site table

  abbrev pub callee : ℕ → Callee
  callee depth = flow run depth

  abbrev cells : Cells
  cells = st.cells

  abbrev Plans : ℕ → Form → Type 0
  Plans depth f = Growing lib site table desc st depth f

  -- ---- what each form comes to

  pub record OneEnds (depth : ℕ) (x : Statement) (s : Scope) (g : Given) (d : ℕ) (work : Work) : Type 0 where
    pub planned : Planned st.cells lib site table (callee depth) (planned_one x s g work)
    pub settles : AllKnown st.cells s → is_set st d ≡ clean work
    pub gives : is_set st d ≡ true → AllGiven st.cells g

  pub record AllEnds (depth : ℕ) (xs : List Statement) (s : Scope) (g : Given) (ds : List ℕ) (work : Work) : Type 0 where
    pub planned : Planned st.cells lib site table (callee depth) (planned_all xs s g work)
    pub settles : AllKnown st.cells s → are_set st ds ≡ clean work
    pub gives : are_set st ds ≡ true → AllGiven st.cells g

  -- The instances give out what the items do.
  abbrev pub Match : List Item → List Instance → Type 0
  Match [] [] = Unit {0}
  Match [] (i ∷ is) = ⊥
  Match (q ∷ qs) [] = ⊥
  Match (q ∷ qs) (i ∷ is) = (i.given ≡ q.given) × Match qs is

  abbrev pub ItemsGiven : List Item → Type 0
  ItemsGiven [] = Unit {0}
  ItemsGiven (q ∷ qs) = AllGiven st.cells q.given × ItemsGiven qs

  pub record EachEnds (depth : ℕ) (xs : List Statement) (s : Scope) (k : ℕ) (item : List ℕ) (i : ℕ) (ys : List Value) (qs : List Item) (work : Work) : Type 0 where
    pub instances : List Instance
    pub works : all_works (map work_in instances) ≡ work
    pub planned : Planned st.cells lib site table (callee depth) (planned_each xs s k item i ys instances)
    pub keys : KeysAre (body_given lib xs).keys instances
    pub match_ : Match qs instances
    pub settles : AllKnown st.cells s → are_set st (all_dones lib site table desc st qs) ≡ clean work
    pub gives : are_set st (all_dones lib site table desc st qs) ≡ true → ItemsGiven qs

  pub record RunEnds (f : Runner) (s : Scope) (g : Given) (work : Work) : Type 0 where
    pub shows : Shows st.cells s f g work
    pub settles : AllKnown st.cells s → slots_set st.cells g.names ≡ clean work
    pub calls : g.calls ≡ []

  pub record WholeEnds (depth : ℕ) (f : FlowDef) (given : List Bind) (place : List Segment) (g : Given) (ds : List ℕ) (work : Work) : Type 0 where
    pub shows : flow_run run (callee depth) f given (beginning place) ≡ flowing_of st.cells g work
    pub settles : are_set st ds ≡ clean work
    pub gives : are_set st ds ≡ true → slots_set st.cells g.names ≡ true

  abbrev pub Ends : ℕ → Form → Work → Type 0
  Ends depth (one x s g d) w = OneEnds depth x s g d w
  Ends depth (all xs s g ds) w = AllEnds depth xs s g ds w
  Ends depth (each xs s k item i ys qs) w = EachEnds depth xs s k item i ys qs w
  Ends depth (takes given is s g) w = RunEnds (inputs given is) s g w
  Ends depth (tells ds s g) w = RunEnds (outputs ds) s g w
  Ends depth (whole f given place g ds) w = WholeEnds depth f given place g ds w

  abbrev pub work : {depth : ℕ} {f : Form} → Growing lib site table desc st depth f → Work
  work p = work_of lib site table desc st p

  -- ---- names of bodies

  outside_keys : (depth : ℕ) (xs : List Statement) (g : Given) → IsOutside lib site table desc st xs g → keys_distinct (names_in run (callee depth) xs).keys ≡ true
  outside_keys depth xs g o = ap (λ (n : Names). keys_distinct n.keys) (given_same lib site table (callee depth) xs) ∙ o.keys

  pub outside_missing : (depth t : ℕ) (xs : List Statement) (g : Given) (d : ℕ) → IsOutside lib site table desc st xs g → KeepsCells lib site table desc st t g d → missing (names_in run (callee depth) xs) ≡ flowing_of cells g no_work
  outside_missing depth t xs g d o k =
      ap missing (given_same lib site table (callee depth) xs) ∙ missing_is cells (body_given lib xs) g o.named (kept_unset st t (map slot_cell g.names) k.names) (kept_unset st t (map mark_cell g.calls) k.calls)

  module _ (stuck : AllStuck lib site table desc st) where
    -- ---- a statement that is left

    idle : (depth : ℕ) (x : Statement) (s : Scope) (g : Given) (d : ℕ) → Planned cells lib site table (callee depth) (planned_one x s g no_work) → (AllKnown cells s → ⊥) → cells d ≡ None → OneEnds depth x s g d no_work
    idle depth x s g d p unknown unset = record { planned = p; settles = λ k. absurd (unknown k); gives = λ h. absurd (unset_not (cells d) unset h) }

    -- ---- gathered names

    cells_match : (key : Key) (qs : List Item) (is : List Instance) → Match qs is → map (cell_in key) is ≡ map (λ (q : Item). find q.given.names key) qs
    cells_match key [] [] m = refl
    cells_match key [] (i ∷ is) m = absurd m
    cells_match key (q ∷ qs) [] m = absurd m
    cells_match key (q ∷ qs) (i ∷ is) m =
        ap (λ (g : Given). find g.names key ∷ map (cell_in key) is) m.0 ∙ ap (λ (os : List (Option ℕ)). find q.given.names key ∷ os) (cells_match key qs is m.1)

    calls_match : (call : List ℕ) (qs : List Item) (is : List Instance) → Match qs is → map (call_in call) is ≡ map (λ (q : Item). find_call q.given.calls call) qs
    calls_match call [] [] m = refl
    calls_match call [] (i ∷ is) m = absurd m
    calls_match call (q ∷ qs) [] m = absurd m
    calls_match call (q ∷ qs) (i ∷ is) m =
        ap (λ (g : Given). find_call g.calls call ∷ map (call_in call) is) m.0 ∙ ap (λ (os : List (Option ℕ)). find_call q.given.calls call ∷ os) (calls_match call qs is m.1)

    found_values : (cs : List ℕ) → map (option_and_then cells) (map (λ (c : ℕ). Some c) cs) ≡ map cells cs
    found_values [] = refl
    found_values (c ∷ cs) = ap (λ (os : List (Option Value)). cells c ∷ os) (found_values cs)

    gathers_are : (qs : List Item) (is : List Instance) → Match qs is → (ks : List Key) (ss : List Slot) → AllGathered lib site table desc st qs ks ss → RuleGathered cells is ks ss
    gathers_are qs is m [] [] h = tt
    gathers_are qs is m [] (s ∷ ss) h = absurd h
    gathers_are qs is m (k ∷ ks) [] h = absurd h
    gathers_are qs is m (k ∷ ks) (s ∷ ss) h = (
      h.0,
      gathered_is lib site table desc st stuck h.1.0 s.cell h.1.2
          ∙ ap (λ (os : List (Option Value)). option_and_then (λ (xs : List Value). Some (v.List xs)) (all_values os))
          (sym (ap (map (option_and_then cells)) (cells_match k qs is m ∙ h.1.1) ∙ found_values h.1.0)),
      gathers_are qs is m ks ss h.2,
    )

    ends_are : (qs : List Item) (is : List Instance) → Match qs is → (cs : List (List ℕ)) (ms : List Mark) → AllEnding lib site table desc st qs cs ms → AllEnded cells is cs ms
    ends_are qs is m [] [] h = tt
    ends_are qs is m [] (e ∷ es) h = absurd h
    ends_are qs is m (c ∷ cs) [] h = absurd h
    ends_are qs is m (c ∷ cs) (e ∷ es) h = (
      h.0,
      ending_is lib site table desc st stuck h.1.0 e.cell h.1.2
          ∙ sym (ap (list_all (λ (o : Option ℕ). is_some (option_and_then cells o))) (calls_match c qs is m ∙ h.1.1)
          ∙ list_all-map (λ (o : Option ℕ). is_some (option_and_then cells o)) (λ (n : ℕ). Some n) h.1.0),
      ends_are qs is m cs es h.2,
    )

    parts_set : (key : Key) (qs : List Item) → ItemsGiven qs → (cs : List ℕ) → map (λ (q : Item). find q.given.names key) qs ≡ map (λ (c : ℕ). Some c) cs → are_set st cs ≡ true
    parts_set key [] g [] e = refl
    parts_set key [] g (c ∷ cs) e = cc
    parts_set key (q ∷ qs) g [] e = cc
    parts_set key (q ∷ qs) g (c ∷ cs) e =
        let p = cons_parts e in and_from (is_set st c) (are_set st cs) (find_set cells q.given.names g.0.names key c p.0) (parts_set key qs g.1 cs p.1)

    parts_ended : (call : List ℕ) (qs : List Item) → ItemsGiven qs → (cs : List ℕ) → map (λ (q : Item). find_call q.given.calls call) qs ≡ map (λ (c : ℕ). Some c) cs → are_set st cs ≡ true
    parts_ended call [] g [] e = refl
    parts_ended call [] g (c ∷ cs) e = cc
    parts_ended call (q ∷ qs) g [] e = cc
    parts_ended call (q ∷ qs) g (c ∷ cs) e =
        let p = cons_parts e in and_from (is_set st c) (are_set st cs) (find_call_set cells q.given.calls g.0.calls call c p.0) (parts_ended call qs g.1 cs p.1)

    gathered_given : (qs : List Item) → ItemsGiven qs → (ks : List Key) (ss : List Slot) → AllGathered lib site table desc st qs ks ss → slots_set cells ss ≡ true
    gathered_given qs g [] [] h = refl
    gathered_given qs g [] (s ∷ ss) h = absurd h
    gathered_given qs g (k ∷ ks) [] h = absurd h
    gathered_given qs g (k ∷ ks) (s ∷ ss) h =
        and_from (is_set st s.cell) (slots_set cells ss) (gathered_set lib site table desc st stuck h.1.0 s.cell h.1.2 (parts_set k qs g h.1.0 h.1.1)) (gathered_given qs g ks ss h.2)

    ending_given : (qs : List Item) → ItemsGiven qs → (cs : List (List ℕ)) (ms : List Mark) → AllEnding lib site table desc st qs cs ms → marks_set cells ms ≡ true
    ending_given qs g [] [] h = refl
    ending_given qs g [] (m ∷ ms) h = absurd h
    ending_given qs g (c ∷ cs) [] h = absurd h
    ending_given qs g (c ∷ cs) (m ∷ ms) h =
        and_from (is_set st m.cell) (marks_set cells ms) (ending_is lib site table desc st stuck h.1.0 m.cell h.1.2 ∙ parts_ended c qs g h.1.0 h.1.1) (ending_given qs g cs ms h.2)

    -- ---- copied names

    slots_copied : (is ss : List Slot) → SlotsCopied lib site table desc st is ss → map (known_in cells) is ≡ map (known_in cells) ss
    slots_copied [] [] h = refl
    slots_copied [] (s ∷ ss) h = absurd h
    slots_copied (i ∷ is) [] h = absurd h
    slots_copied (i ∷ is) (s ∷ ss) h =
        ap (λ (k : Key). (let n : Known = record { key = k; value = cells i.cell } in n) ∷ map (known_in cells) is) (sym h.0)
        ∙ ap (λ (o : Option Value). (let n : Known = record { key = s.key; value = o } in n) ∷ map (known_in cells) is) (sym (copied_is lib site table desc st stuck i.cell s.cell h.1))
        ∙ ap (λ (ks : List Known). known_in cells s ∷ ks) (slots_copied is ss h.2)

    marks_copied : (is ms : List Mark) → MarksCopied lib site table desc st is ms → map (ended_in cells) is ≡ map (ended_in cells) ms
    marks_copied [] [] h = refl
    marks_copied [] (m ∷ ms) h = absurd h
    marks_copied (i ∷ is) [] h = absurd h
    marks_copied (i ∷ is) (m ∷ ms) h =
        ap (λ (c : List ℕ). (let e : Ended = record { call = c; ended = is_some (cells i.cell) } in e) ∷ map (ended_in cells) is) (sym h.0)
        ∙ ap (λ (o : Option Value). (let e : Ended = record { call = m.call; ended = is_some o } in e) ∷ map (ended_in cells) is) (sym (copied_is lib site table desc st stuck i.cell m.cell h.1))
        ∙ ap (λ (es : List Ended). ended_in cells m ∷ es) (marks_copied is ms h.2)

    copied_given : (h g : Given) → AllGiven cells h → map (known_in cells) h.names ≡ map (known_in cells) g.names → map (ended_in cells) h.calls ≡ map (ended_in cells) g.calls → AllGiven cells g
    copied_given h g a names calls =
        record {
          names = sym (valued_is cells g.names) ∙ sym (ap all_valued names) ∙ valued_is cells h.names ∙ a.names;
          calls =
              sym (list_all-map (λ (e : Ended). e.ended) (ended_in cells) g.calls)
              ∙ sym (ap all_ended calls)
              ∙ list_all-map (λ (e : Ended). e.ended) (ended_in cells) h.calls
              ∙ a.calls;
        }

    -- ---- a call of a workflow

    outputs_are : (call : List ℕ) (names : List Slot) → keys_distinct (slot_keys names) ≡ true → (ds : List TDecl) (ss : List Slot) → OutputsCopied lib site table desc st call ds names ss
        → map (output_of (map (known_in cells) names) call) ds ≡ map (known_in cells) ss
    outputs_are call names d [] [] h = refl
    outputs_are call names d [] (s ∷ ss) h = absurd h
    outputs_are call names d (x ∷ xs) [] h = absurd h
    outputs_are call names d (x ∷ xs) (s ∷ ss) h =
        ap (λ (o : Option Value). (let k : Known = record { key = record { first = call; second = Some x.name }; value = o } in k) ∷ map (output_of (map (known_in cells) names) call) xs)
        (looked_up cells names d (plain_key x.name) ∙ ap (value_at cells) h.1.1 ∙ sym (copied_is lib site table desc st stuck h.1.0 s.cell h.1.2))
        ∙ ap (λ (j : Key). (let k : Known = record { key = j; value = cells s.cell } in k) ∷ map (output_of (map (known_in cells) names) call) xs) (sym h.0)
        ∙ ap (λ (ks : List Known). known_in cells s ∷ ks) (outputs_are call names d xs ss h.2)

    outputs_given : (call : List ℕ) (names : List Slot) → slots_set cells names ≡ true → (ds : List TDecl) (ss : List Slot) → OutputsCopied lib site table desc st call ds names ss → slots_set cells ss ≡ true
    outputs_given call names a [] [] h = refl
    outputs_given call names a [] (s ∷ ss) h = absurd h
    outputs_given call names a (x ∷ xs) [] h = absurd h
    outputs_given call names a (x ∷ xs) (s ∷ ss) h =
        and_from (is_set st s.cell) (slots_set cells ss) (ap is_some (copied_is lib site table desc st stuck h.1.0 s.cell h.1.2) ∙ find_set cells names a (plain_key x.name) h.1.0 h.1.1)
        (outputs_given call names a xs ss h.2)

    called : (depth : ℕ) (x : TCall) (g h : Given) (d : ℕ) (ds : List ℕ) (f : FlowDef) (args : List Bind) (place : List Segment) (w : Work) → EndsAt x g d → keys_distinct (slot_keys h.names) ≡ true
        → OutputsCopied lib site table desc st x.name f.outputs h.names g.names → Ending lib site table desc st ds d → WholeEnds depth f args place h ds w
        → flow_ended x.name f.outputs (flowing_of cells h w) ≡ flowing_of cells g w
    called depth x g h d ds f args place w ends distinct copied ended a =
        ap (λ (ks : List Known). make ks ((let e : Ended = record { call = x.name; ended = clean w } in e) ∷ [])) (outputs_are x.name h.names distinct f.outputs g.names copied)
        ∙ ap (λ (b : Bool). make (map (known_in cells) g.names) ((let e : Ended = record { call = x.name; ended = b } in e) ∷ [])) (sym (ending_is lib site table desc st stuck ds d ended ∙ a.settles))
        ∙ ap (λ (ms : List Mark). make (map (known_in cells) g.names) (map (ended_in cells) ms)) (sym ends)
      where
        make : List Known → List Ended → Flowing
        make ks es = record { names = ks; calls = es; jobs = w.jobs; codes = w.codes; faults = w.faults; waits = w.waits; count = w.count }

    -- ---- what is passed over, items, inputs and outputs

    each_valued : (keys : List Key) → all_valued (each_key (Some v.Absent) keys) ≡ true
    each_valued [] = refl
    each_valued (k ∷ ks) = each_valued ks

    each_ended : (calls : List (List ℕ)) → all_ended (each_call true calls) ≡ true
    each_ended [] = refl
    each_ended (c ∷ cs) = each_ended cs

    item_known : (s : Scope) (k : ℕ) (item : List ℕ) (i cell : ℕ) (y : Value) → cells cell ≡ Some y → AllKnown cells s → AllKnown cells (item_scope s k item i cell)
    item_known s k item i cell y is j = record { names = slots_both cells s.names (record { key = plain_key item; cell = cell } ∷ []) j.names (and_true (is_set st cell) ∙ ap is_some is); calls = j.calls }

    abbrev pub taking : List Bind → TInput → Runner
    taking given i t = input_of t i (lookup given (plain_key i.name))

    abbrev pub telling : TDecl → Runner
    telling x t = declaration t x.name x.value

    -- a name, and those behind it
    one_more : (c : ℕ) (name : List ℕ) (s : Scope) (h : Given) (w rest : Work) → AllKnown cells s → is_set st c ≡ clean w → (AllKnown cells (beyond s (only name c)) → slots_set cells h.names ≡ clean rest)
        → is_set st c && slots_set cells h.names ≡ clean (both_works w rest)
    one_more c name s h w rest k e more =
        both_settle (is_set st c) (slots_set cells h.names) (clean w) (clean rest) e (λ t. more (known_beyond cells s (only name c) k (record { names = and_true (is_set st c) ∙ t; calls = refl })))
        ∙ sym (clean_both w rest)

    both_assoc : (a b c : Bool) → (a && b) && c ≡ a && (b && c)
    both_assoc true b c = refl
    both_assoc false b c = refl

    whole_ends : (depth : ℕ) (f : FlowDef) (given : List Bind) (place : List Segment) (i b o : Given) (ds : List ℕ) (u v w : Work) → RunEnds (inputs given f.inputs) (start place) i u → AllEnds depth f.body (beyond (start place) i) b ds v
        → RunEnds (outputs f.outputs) (beyond (beyond (start place) i) b) o w → WholeEnds depth f given place (both_given i (both_given b (both_given o nothing_given))) (map slot_cell i.names ++ ds ++ map slot_cell o.names)
        (both_works u (both_works (counted (length f.body) v) (both_works w no_work)))
    whole_ends depth f given place i b o ds u v w p q r =
        record {
          shows = flow_shows cells lib site table (callee depth) f given place net;
          settles = parts ∙ both_settle (slots_set cells i.names) (are_set st ds && slots_set cells o.names) (clean u) (clean v && clean w) (p.settles start_known)
              (λ e. both_settle (are_set st ds) (slots_set cells o.names) (clean v) (clean w) (q.settles (body_known e)) (λ d. r.settles (known_beyond cells (beyond (start place) i) b (body_known e) (q.gives d)))) ∙ works;
          gives = λ e.
              let t = and_parts (slots_set cells i.names) (are_set st ds && slots_set cells o.names) (sym parts ∙ e) in
              let rest = and_parts (are_set st ds) (slots_set cells o.names) t.1 in
              slots_both cells i.names (b.names ++ (o.names ++ [])) t.0 (slots_both cells b.names (o.names ++ []) (q.gives rest.0).names (slots_both cells o.names [] rest.1 refl));
        }
      where
        net : FlowNet cells lib site table (callee depth) f given place
        net = record { taken = i; taking_ = u; inputs_show = p.shows; made = b; making = v; body = q.planned; told = o; telling = w; outputs_show = r.shows }

        start_known : AllKnown cells (start place)
        start_known = record { names = refl; calls = refl }

        body_known : slots_set cells i.names ≡ true → AllKnown cells (beyond (start place) i)
        body_known e = record { names = e; calls = ap (marks_set cells) p.calls }

        parts : are_set st (map slot_cell i.names ++ ds ++ map slot_cell o.names) ≡ slots_set cells i.names && (are_set st ds && slots_set cells o.names)
        parts =
            list_all-append (is_set st) (map slot_cell i.names ++ ds) (map slot_cell o.names)
            ∙ ap (λ (t : Bool). t && are_set st (map slot_cell o.names)) (list_all-append (is_set st) (map slot_cell i.names) ds)
            ∙ both_assoc (are_set st (map slot_cell i.names)) (are_set st ds) (are_set st (map slot_cell o.names))
            ∙ ap (λ (t : Bool). t && (are_set st ds && are_set st (map slot_cell o.names))) (list_all-map (is_set st) slot_cell i.names)
            ∙ ap (λ (t : Bool). slots_set cells i.names && (are_set st ds && t)) (list_all-map (is_set st) slot_cell o.names)

        works : clean u && (clean v && clean w) ≡ clean (both_works u (both_works (counted (length f.body) v) (both_works w no_work)))
        works =
            sym (clean_both u (both_works (counted (length f.body) v) (both_works w no_work))
            ∙ ap (λ (t : Bool). clean u && t) (clean_both (counted (length f.body) v) (both_works w no_work))
            ∙ ap (λ (t : Bool). clean u && (clean v && t)) (clean_both w no_work ∙ and_true (clean w)))

    -- ---- what grows, form by form

    pub finished : {depth : ℕ} {f : Form} (p : Growing lib site table desc st depth f) → Ends depth f (work p)
    finished (none_left depth s) = record { planned = planned_none s; settles = λ k. refl; gives = λ h. record { names = refl; calls = refl } }
    finished (next depth x xs s g h d ds p q) =
        let a = finished p in
        let b = finished q in
        record {
          planned = planned_next x xs s g h (work p) (work q) a.planned b.planned;
          settles = λ k. both_settle (is_set st d) (are_set st ds) (clean (work p)) (clean (work q)) (a.settles k) (λ e. b.settles (known_beyond cells s g k (a.gives e))) ∙ sym (clean_both (work p) (work q));
          gives = λ e.
              let t = and_parts (is_set st d) (are_set st ds) e in
              let i = a.gives t.0 in
              let j = b.gives t.1 in
              record { names = slots_both cells g.names h.names i.names j.names; calls = marks_both cells g.calls h.calls i.calls j.calls };
        }
    finished (left_decl depth x s c t left n k) =
        let e = stuck t _ left in
        let l = needs_lack st t s x.value n e in
        idle depth (stmt.Decl x) s (only x.name c) c
        (planned_decl x s n.slots (only x.name c) no_work n.distinct n.needs (stuck_declaration cells s.names n.slots n.needs.resolved l.slot l.seen l.among l.unset s.place x.name x.value c l.used k.1))
        (needs_absurd st t s x.value n e) k.1
    finished (left_call depth x s g d t left n is ends k) =
        let e = stuck t _ left in
        idle depth (stmt.Call x) s g d
        (planned_call x s n.slots n.marks g no_work n.distinct n.needs
        (stuck_call cells lib site table (callee depth) (call_names lib x) x s.place n.slots n.marks g (call_not_ready st t s x n e)
        (missing_is cells (call_names lib x) g is (kept_unset st t (map slot_cell g.names) k.names) (kept_unset st t (map mark_cell g.calls) k.calls))))
        (call_absurd st t s x n e) k.done.1
    finished (left_scatter depth x s g d t left n outside k) =
        let e = stuck t _ left in
        let l = needs_lack st t s x.over n e in
        idle depth (stmt.Scatter x) s g d
        (planned_idle x s n.slots g n.distinct (outside_keys depth x.body g outside) n.needs (stuck_head cells s.names n.slots n.needs.resolved l.slot l.seen l.among l.unset x.over l.used) (outside_missing depth t x.body g d outside k))
        (needs_absurd st t s x.over n e) k.done.1
    finished (left_if depth x s g d t left n outside k) =
        let e = stuck t _ left in
        let l = needs_lack st t s x.cond n e in
        idle depth (stmt.If x) s g d
        (planned_untold x s n.slots g n.distinct n.needs (stuck_head cells s.names n.slots n.needs.resolved l.slot l.seen l.among l.unset x.cond l.used) (outside_missing depth t x.body g d outside k)) (needs_absurd st t s x.cond n e)
        k.done.1
    finished (told_decl depth x s c t w taken n set own follows) =
        record {
          planned = planned_decl x s n.slots (only x.name c) w n.distinct n.needs follows;
          settles = λ k. declaration_settles cells s.place x.name x.value n.slots c w (needs_known st t s x.value n set) follows;
          gives = λ h. record { names = and_true (is_set st c) ∙ h; calls = refl };
        }
    finished (told_call depth x s g d t w taken n set is ends own plain follows) =
        record {
          planned = planned_call x s n.slots n.marks g w n.distinct n.needs follows;
          settles = λ k. call_settles cells lib site table (callee depth) x s.place n.slots n.marks g d w (call_ready st t s x n set) plain follows ends;
          gives = call_gives cells lib site table (callee depth) x s.place n.slots n.marks g d w (call_ready st t s x n set) plain follows ends;
        }
    finished (run_call depth x s g h d t ds taken n set k is f found args met names ends distinct p copied ended) =
        let w = finished p in
        let done : is_set st d ≡ are_set st ds = ending_is lib site table desc st stuck ds d ended in
        record {
          planned = planned_flow x s n.slots n.marks g h (work p) n.distinct n.needs k is f found args met (ap (λ (o : Option FlowDef). flow_at run (callee depth) o args (s.place ++ segment.Call x.name ∷ [])) found ∙ w.shows)
              (called depth x g h d ds f args (s.place ++ segment.Call x.name ∷ []) (work p) ends distinct copied ended w);
          settles = λ j. done ∙ w.settles;
          gives = λ e. record {
            names = outputs_given x.name h.names (w.gives (sym done ∙ e)) f.outputs g.names copied;
            calls = ap (λ (ms : List Mark). list_all (λ (m : Mark). is_set st m.cell) ms) ends ∙ and_true (is_set st d) ∙ e;
          };
        }
    finished (failed_scatter depth x s g d t c taken n set e outside k) =
        record {
          planned = planned_fault x s n.slots g (faulty (fault_at (s.place ++ segment.Scatter x.number ∷ []) x.item c)) c n.distinct (outside_keys depth x.body g outside) n.needs e
              (ap (with_fault (fault_at (s.place ++ segment.Scatter x.number ∷ []) x.item c)) (outside_missing depth t x.body g d outside k));
          settles = λ j. ap is_some k.done.1;
          gives = λ h. absurd (unset_not (cells d) k.done.1 h);
        }
    finished (each_scatter depth x s g d t y qs taken n set e outside p names calls ended) =
        let a = finished p in
        let same = given_same lib site table (callee depth) x.body in
        let done : is_set st d ≡ are_set st (all_dones lib site table desc st qs) = ending_is lib site table desc st stuck (all_dones lib site table desc st qs) d ended in
        record {
          planned = subst (λ (w : Work). Planned cells lib site table (callee depth) (planned_one (stmt.Scatter x) s g w)) a.works (planned_items x s n.slots g y a.instances n.distinct (outside_keys depth x.body g outside) n.needs e a.planned (subst (λ (m : Names). KeysAre m.keys a.instances) (sym same) a.keys)
              (subst (λ (m : Names). RuleGathered cells a.instances m.keys g.names) (sym same) (gathers_are qs a.instances a.match_ (body_given lib x.body).keys g.names names))
              (subst (λ (m : Names). AllEnded cells a.instances m.calls g.calls) (sym same) (ends_are qs a.instances a.match_ (body_given lib x.body).calls g.calls calls)));
          settles = λ k. done ∙ a.settles k;
          gives = λ h.
              let i = a.gives (sym done ∙ h) in
              record { names = gathered_given qs i (body_given lib x.body).keys g.names names; calls = ending_given qs i (body_given lib x.body).calls g.calls calls };
        }
    finished (failed_if depth x s g d t c taken n set e outside k) =
        record {
          planned = planned_failed x s n.slots g (faulty (fault_at (s.place ++ segment.If x.number ∷ []) (codes "if") c)) c n.distinct n.needs e
              (ap (with_fault (fault_at (s.place ++ segment.If x.number ∷ []) (codes "if") c)) (outside_missing depth t x.body g d outside k));
          settles = λ j. ap is_some k.done.1;
          gives = λ h. absurd (unset_not (cells d) k.done.1 h);
        }
    finished (false_if depth x s g d t y taken n set e off outside own same done) =
        record {
          planned = planned_false x s n.slots g y n.distinct n.needs e off (ap (giving (Some v.Absent) true) (given_same lib site table (callee depth) x.body) ∙ same);
          settles = λ j. done;
          gives = λ h. record {
            names = sym (valued_is cells g.names) ∙ sym (ap (λ (f : Flowing). all_valued f.names) same) ∙ each_valued (body_given lib x.body).keys;
            calls = sym (list_all-map (λ (a : Ended). a.ended) (ended_in cells) g.calls) ∙ sym (ap (λ (f : Flowing). all_ended f.calls) same) ∙ each_ended (body_given lib x.body).calls;
          };
        }
    finished (true_if depth x s g h d t ds y taken n set e on outside p names calls ended) =
        let a = finished p in
        let done : is_set st d ≡ are_set st ds = ending_is lib site table desc st stuck ds d ended in
        let ks = slots_copied h.names g.names names in
        let es = marks_copied h.calls g.calls calls in
        record {
          planned = planned_true x s n.slots g h y (work p) n.distinct n.needs e on a.planned (ks, es);
          settles = λ k. done ∙ a.settles (record { names = k.names; calls = k.calls });
          gives = λ j. copied_given h g (a.gives (sym done ∙ j)) ks es;
        }
    finished (no_item depth xs s k item i) = record { instances = []; works = refl; planned = planned_end xs s k item i; keys = tt; match_ = tt; settles = λ j. refl; gives = λ h. tt }
    finished (item_next depth xs s k item i cell y ys g ds qs is p q) =
        let a = finished p in
        let b = finished q in
        let rest = all_dones lib site table desc st qs in
        let splits : are_set st (ds ++ rest) ≡ are_set st ds && are_set st rest = list_all-append (is_set st) ds rest in
        record {
          instances = record { item = cell; given = g; work = counted (length xs) (work p) } ∷ b.instances;
          works = ap (both_works (counted (length xs) (work p))) b.works;
          planned = planned_item xs s k item i cell y ys g (work p) b.instances is a.planned b.planned;
          keys = ((named lib site table (callee depth) desc st p).keys, b.keys);
          match_ = (refl, b.match_);
          settles = λ j.
              splits
              ∙ ap (λ (t : Bool). t && are_set st rest) (a.settles (item_known s k item i cell y is j))
              ∙ ap (λ (t : Bool). clean (work p) && t) (b.settles j)
              ∙ sym (clean_both (counted (length xs) (work p)) (work q));
          gives = λ h. let t = and_parts (are_set st ds) (are_set st rest) (sym splits ∙ h) in (a.gives t.0, b.gives t.1);
        }
    finished (no_input depth given s) = record { shows = shows_none cells s; settles = λ k. refl; calls = refl }
    finished (given_input depth given i is s h c y e found p) =
        let a = finished p in
        record {
          shows = shows_next cells s (taking given i) (map (taking given) is) (only i.name c) h no_work (work p) (shows_given cells s given i y c e found) a.shows;
          settles = λ k. one_more c i.name s h no_work (work p) k (ap is_some found) a.settles;
          calls = a.calls;
        }
    finished (absent_input depth given i is s h c e lacking found p) =
        let a = finished p in
        record {
          shows = shows_next cells s (taking given i) (map (taking given) is) (only i.name c) h no_work (work p) (shows_absent cells s given i c e lacking found) a.shows;
          settles = λ k. one_more c i.name s h no_work (work p) k (ap is_some found) a.settles;
          calls = a.calls;
        }
    finished (default_input depth given i is s h c e lacking some d p) =
        let a = finished p in
        let t = declared lib site table desc st stuck i.name e s c d in
        record {
          shows = shows_next cells s (taking given i) (map (taking given) is) (only i.name c) h (told_work lib site table desc st i.name e s c d) (work p)
              (shows_default cells s given i e t.needed.slots (only i.name c) (told_work lib site table desc st i.name e s c d) lacking some t.needed.distinct t.needed.needs t.follows) a.shows;
          settles = λ k. one_more c i.name s h (told_work lib site table desc st i.name e s c d) (work p) k (t.settles k) a.settles;
          calls = a.calls;
        }
    finished (no_output depth s) = record { shows = shows_none cells s; settles = λ k. refl; calls = refl }
    finished (output_next depth x xs s h c d p) =
        let a = finished p in
        let t = declared lib site table desc st stuck x.name x.value s c d in
        record {
          shows = shows_next cells s (telling x) (map telling xs) (only x.name c) h (told_work lib site table desc st x.name x.value s c d) (work p)
              (shows_declaration cells s t.needed.distinct x.name x.value t.needed.slots t.needed.needs (only x.name c) (told_work lib site table desc st x.name x.value s c d) t.follows) a.shows;
          settles = λ k. one_more c x.name s h (told_work lib site table desc st x.name x.value s c d) (work p) k (t.settles k) a.settles;
          calls = a.calls;
        }
    finished (flow_whole depth f given place i b o ds p q r) = whole_ends depth f given place i b o ds (work p) (work q) (work r) (finished p) (finished q) (finished r)
