-- The statements of a body that was just entered have begun to grow.
use Rattle.std.proofs.Common.{◌≡◌, ℕ, ◌+◌, List, [], ◌∷◌, ◌++◌, All, map, append-nil, length, get_or, arith, sym, ap, ◌∙◌, subst, refl}
use Rattle.std.proofs.lemmas.List.{map-append}
use Rattle.wdl_base.specs.declared.place.Segment.{Segment}
use Rattle.wdl_value.specs.Tables.{Row}
use Rattle.wdl_typed.specs.declared.expr.TExpr.{TExpr}
use Rattle.wdl_typed.specs.declared.flow.Statement.{Statement, Statement-F, out-Statement}
use Rattle.wdl_typed.specs.declared.flow.Statement.TheOpen as layer
use Rattle.wdl_typed.specs.declared.flow.Statement.TheVariants as stmt
use Rattle.wdl_typed.specs.declared.flow.TCall.{TCall}
use Rattle.wdl_typed.specs.declared.flow.TIf.{TIf}
use Rattle.wdl_typed.specs.declared.flow.TScatter.{TScatter}
use Rattle.wdl_typed.specs.declared.task.TDecl.{TDecl}
use Rattle.wdl_typed.specs.Bodies.{Library}
use Rattle.wdl_typed.specs.Flow.{Names}
use Rattle.wdl_typed.specs.Journal.{keys_distinct}
use Rattle.wdl_typed.specs.Scope.{names_of}
use Rattle.value_net.specs.Nets.{joined}
use Rattle.net_laws.specs.Growing.{CallNeeded, Form, IsLeft, IsOutside, Keeps, KeepsCells, NamesNeeded, State, all, body_given, does, left_call, left_decl, left_if, left_scatter, mark_cell, next, none_left, one, only, slot_cell}
use Rattle.net_laws.specs.Moving as even
use Rattle.net_laws.specs.Moving.{IsWeight, at_step, hit}
use Rattle.net_laws.specs.Net.{Given, Mark, Scope, Slot, Work, beyond, both_works, no_work}
use Rattle.net_laws.specs.Planned.{call_names}
use Rattle.net_laws.specs.Rules.{arg_keys}
use Rattle.net_laws.specs.Works.{evaluated, work_of}
use Rattle.net_laws.proofs.Even.{work_even}
use Rattle.plan_moves.specs.Sheets.{Sheet, needs_in, rules_of, state_of, taken_in}
use Rattle.plan_layout.specs.declared.layout.BodyLayout.{BodyLayout}
use Rattle.plan_layout.specs.declared.layout.Need.{Need}
use Rattle.plan_layout.specs.declared.layout.StatementLayout.{StatementLayout}
use Rattle.plan_layout.specs.Cells.{cell_at, mark_at, marks_at, slot_at, slots_at}
use Rattle.plan_layout.specs.Laid as laid
use Rattle.plan_layout.specs.Laid.{HasNeeds, HasSlots, Laid, Stand, behind_one, given_at, laid_call, laid_decl, laid_if, laid_next, laid_none, laid_scatter, laid_whole, one_name}
use Rattle.plan_layout.specs.Sees.{AllSeen, Sees, after_at, keys_at}
use Rattle.plan_layout.specs.Spots.{needs_of, plain_keys, spots_from}
use Rattle.plan_layout.proofs.Needed.{needs_used}
use Rattle.plan_growth.specs.Begun.{AllSit, HasBegun, IsFree, Sits, all_given, base_at, given_by, given_of, hits, scope_at}
use Rattle.plan_growth.specs.Entering.{cells_of, dones_at}
use Rattle.plan_growth.specs.Laws.{BodiesBegin}
use Rattle.plan_growth.proofs.Seen.{distinct_own, distinct_seen, marks_after, marks_all, marks_cells, marks_resolved, named_by, needs_here, slots_cells}

module _ (lib : Library) (site : List ℕ) (rows : List Row) (b : Sheet) (owners bases : List ℕ) (place : List Segment) where
  abbrev st : State
  st = state_of b owners

  -- ---- a statement whose step was not taken

  keeps_free : (t c : ℕ) → IsFree b owners t c → Keeps st t c
  keeps_free t c h = (h.0, ap joined h.1)

  all_keep : (t : ℕ) (cs : List ℕ) → All (IsFree b owners t) cs → All (Keeps st t) cs
  all_keep t cs h k d lt = keeps_free t (get_or cs k d) (h k d lt)

  module _ (t : ℕ) (x : Statement) (s : Scope) (g : Given) (d : ℕ) (needs : List ℕ) (h : Sits b owners t x s g d needs) where
    abbrev kept : KeepsCells lib site rows (rules_of b) st t g d
    kept = record { names = all_keep t (map slot_cell g.names) h.names; calls = all_keep t (map mark_cell g.calls) h.calls; done = keeps_free t d h.done }

    abbrev left : IsLeft lib site rows (rules_of b) st t (does x s g d)
    left = record { rule = h.rule; left = ap taken_in h.step }

    needs_are : st.needs t ≡ needs
    needs_are = ap needs_in h.step

  -- ---- its needs

  module _ (x : Statement) (a : Stand) (l : StatementLayout) (sees : Sees lib x a) (t : ℕ) where
    abbrev pub named_needs : (e : TExpr) → AllSeen a.names (names_of e) → HasNeeds a (names_of e) [] l → st.needs t ≡ cells_of bases l.needs l.after → NamesNeeded st t (scope_at bases a place) e
    named_needs e all_seen n is =
        record {
          slots = slots_at bases (needs_of a.names (names_of e));
          distinct = distinct_seen lib x a sees bases;
          needs = needs_here bases a place (names_of e) all_seen;
          uses = needs_used bases a.names (names_of e);
          cells =
              is ∙ ap (λ (ns : List Need). cells_of bases ns l.after) n.needs ∙ ap (cells_of bases (needs_of a.names (names_of e))) n.after
              ∙ append-nil (map (cell_at bases) (needs_of a.names (names_of e))) ∙ sym (slots_cells bases (needs_of a.names (names_of e)));
        }

    abbrev pub call_needs : (y : TCall) → AllSeen a.names (arg_keys y.args) → AllSeen a.calls (plain_keys y.after) → HasNeeds a (arg_keys y.args) y.after l → st.needs t ≡ cells_of bases l.needs l.after
        → CallNeeded st t (scope_at bases a place) y
    call_needs y all_seen all_after n is =
        record {
          slots = slots_at bases (needs_of a.names (arg_keys y.args));
          marks = marks_at bases (needs_of a.calls (plain_keys y.after));
          distinct = distinct_seen lib x a sees bases;
          needs =
              record {
                names = needs_here bases a place (arg_keys y.args) all_seen;
                calls = marks_resolved bases a.calls sees.plain.0 sees.plain.1 y.after;
                after = marks_all bases a.calls y.after all_after;
              };
          uses = needs_used bases a.names (arg_keys y.args);
          comes_after = marks_after bases a.calls y.after;
          cells =
              is ∙ ap (λ (ns : List Need). cells_of bases ns l.after) n.needs ∙ ap (cells_of bases (needs_of a.names (arg_keys y.args))) n.after
              ∙ ap (λ (cs : List ℕ). cs ++ map (cell_at bases) (needs_of a.calls (plain_keys y.after))) (sym (slots_cells bases (needs_of a.names (arg_keys y.args))))
              ∙ ap (λ (cs : List ℕ). map slot_cell (slots_at bases (needs_of a.names (arg_keys y.args))) ++ cs) (sym (marks_cells bases (needs_of a.calls (plain_keys y.after))));
        }

  -- ---- one statement

  abbrev Begins : ℕ → Form → (ℕ → ℕ → ℕ) → Type 0
  Begins depth f leaves = HasBegun lib site rows b owners depth f no_work leaves

  -- the statement, which gives that out and is done at that cell, has begun where its step is so
  abbrev BeginsAs : ℕ → ℕ → Statement → Scope → List ℕ → Given → ℕ → Type 0
  BeginsAs t depth x s needs g d = Sits b owners t x s g d needs → Begins depth (one x s g d) (λ v k. hit v k t)

  as_given : (t depth : ℕ) (x : Statement) (s : Scope) (needs : List ℕ) (g h : Given) (d e : ℕ) → g ≡ h → d ≡ e → BeginsAs t depth x s needs h e → BeginsAs t depth x s needs g d
  as_given t depth x s needs g h d e is same p =
      subst (λ (f : Given). BeginsAs t depth x s needs f d) (sym is) (subst (λ (c : ℕ). BeginsAs t depth x s needs h c) (sym same) p)

  module _ (t depth : ℕ) (a : Stand) (l : StatementLayout) where
    abbrev s : Scope
    s = scope_at bases a place

    abbrev done : ℕ
    done = base_at bases a + l.done

    abbrev cells : List ℕ
    cells = cells_of bases l.needs l.after

    abbrev Starts : Statement → Type 0
    Starts x = BeginsAs t depth x s cells (given_of lib bases a x) done

    -- by the names that the statement gives out, and its last slot
    by_names : (x : Statement) (y : Statement-F Statement) (n : Names) (slot : ℕ) → out-Statement x ≡ y → given_at lib y ≡ n → l.done ≡ slot → BeginsAs t depth x s cells (given_by bases a n) (base_at bases a + slot) → Starts x
    by_names x y n slot e f same p =
        as_given t depth x s cells (given_of lib bases a x) (given_by bases a n) done (base_at bases a + slot)
        (ap (λ (z : Statement-F Statement). given_by bases a (given_at lib z)) e ∙ ap (given_by bases a) f) (ap (λ (c : ℕ). base_at bases a + c) same) p

    keys_here : (x : Statement) (y : Statement-F Statement) → out-Statement x ≡ y → Sees lib x a → AllSeen a.names (keys_at y)
    keys_here x y e sees = subst (λ (z : Statement-F Statement). AllSeen a.names (keys_at z)) e sees.names

    after_here : (x : Statement) (y : Statement-F Statement) → out-Statement x ≡ y → Sees lib x a → AllSeen a.calls (plain_keys (after_at y))
    after_here x y e sees = subst (λ (z : Statement-F Statement). AllSeen a.calls (plain_keys (after_at z))) e sees.calls

    decl_starts : (x : TDecl) → Sees lib (stmt.Decl x) a → HasSlots (one_name x.name) a a.next_name l → HasNeeds a (names_of x.value) [] l → Starts (stmt.Decl x)
    decl_starts x sees slots needs =
        by_names (stmt.Decl x) (layer.Decl x) (one_name x.name) a.next_name (stmt.outs-Decl x) refl slots.done_is (λ h.
        record {
          grown =
              left_decl depth x s (base_at bases a + a.next_name) t (left t (stmt.Decl x) s (only x.name (base_at bases a + a.next_name)) (base_at bases a + a.next_name) cells h)
              (named_needs (stmt.Decl x) a l sees t x.value (keys_here (stmt.Decl x) (layer.Decl x) (stmt.outs-Decl x) sees) needs
              (needs_are t (stmt.Decl x) s (only x.name (base_at bases a + a.next_name)) (base_at bases a + a.next_name) cells h))
              (keeps_free t (base_at bases a + a.next_name) h.done);
          weighs = λ weight is. refl;
          leaves_are = λ v k. refl;
          spends = λ task. refl;
        })

    call_starts : (x : TCall) → Sees lib (stmt.Call x) a → HasSlots (call_names lib x) a a.next_call l → HasNeeds a (arg_keys x.args) x.after l → Starts (stmt.Call x)
    call_starts x sees slots needs =
        by_names (stmt.Call x) (layer.Call x) (call_names lib x) a.next_call (stmt.outs-Call x) refl slots.done_is (λ h.
        let g : Given = given_by bases a (call_names lib x) in
        let d : ℕ = base_at bases a + a.next_call in
        record {
          grown =
              left_call depth x s g d t (left t (stmt.Call x) s g d cells h)
              (call_needs (stmt.Call x) a l sees t x (keys_here (stmt.Call x) (layer.Call x) (stmt.outs-Call x) sees) (after_here (stmt.Call x) (layer.Call x) (stmt.outs-Call x) sees) needs
              (needs_are t (stmt.Call x) s g d cells h))
              (named_by bases a (call_names lib x)) refl (kept t (stmt.Call x) s g d cells h);
          weighs = λ weight is. refl;
          leaves_are = λ v k. refl;
          spends = λ task. refl;
        })

    outside : (x : Statement) (y : Statement-F Statement) (ss : List Statement) → out-Statement x ≡ y → given_at lib y ≡ body_given lib ss → Sees lib x a
        → IsOutside lib site rows (rules_of b) st ss (given_by bases a (body_given lib ss))
    outside x y ss e f sees =
        record {
          keys = ap (λ (n : Names). keys_distinct n.keys) (sym (ap (given_at lib) e ∙ f)) ∙ distinct_own lib x a sees;
          named = named_by bases a (body_given lib ss);
        }

    scatter_starts : (x : TScatter Statement) → Sees lib (stmt.Scatter x) a → HasSlots (body_given lib x.body) a a.next_done l → HasNeeds a (names_of x.over) [] l → Starts (stmt.Scatter x)
    scatter_starts x sees slots needs =
        by_names (stmt.Scatter x) (layer.Scatter x) (body_given lib x.body) a.next_done (stmt.outs-Scatter x) refl slots.done_is (λ h.
        let g : Given = given_by bases a (body_given lib x.body) in
        let d : ℕ = base_at bases a + a.next_done in
        record {
          grown =
              left_scatter depth x s g d t (left t (stmt.Scatter x) s g d cells h)
              (named_needs (stmt.Scatter x) a l sees t x.over (keys_here (stmt.Scatter x) (layer.Scatter x) (stmt.outs-Scatter x) sees) needs (needs_are t (stmt.Scatter x) s g d cells h))
              (outside (stmt.Scatter x) (layer.Scatter x) x.body (stmt.outs-Scatter x) refl sees) (kept t (stmt.Scatter x) s g d cells h);
          weighs = λ weight is. refl;
          leaves_are = λ v k. refl;
          spends = λ task. refl;
        })

    if_starts : (x : TIf Statement) → Sees lib (stmt.If x) a → HasSlots (body_given lib x.body) a a.next_done l → HasNeeds a (names_of x.cond) [] l → Starts (stmt.If x)
    if_starts x sees slots needs =
        by_names (stmt.If x) (layer.If x) (body_given lib x.body) a.next_done (stmt.outs-If x) refl slots.done_is (λ h.
        let g : Given = given_by bases a (body_given lib x.body) in
        let d : ℕ = base_at bases a + a.next_done in
        record {
          grown =
              left_if depth x s g d t (left t (stmt.If x) s g d cells h)
              (named_needs (stmt.If x) a l sees t x.cond (keys_here (stmt.If x) (layer.If x) (stmt.outs-If x) sees) needs (needs_are t (stmt.If x) s g d cells h))
              (outside (stmt.If x) (layer.If x) x.body (stmt.outs-If x) refl sees) (kept t (stmt.If x) s g d cells h);
          weighs = λ weight is. refl;
          leaves_are = λ v k. refl;
          spends = λ task. refl;
        })

  -- ---- statements one after the other

  abbrev pub scoped : Stand → Scope
  scoped a = scope_at bases a place

  -- the scope behind a statement
  pub scope_behind : (x : Statement) (a : Stand) → scoped (behind_one lib x a) ≡ beyond (scoped a) (given_of lib bases a x)
  scope_behind x a =
      ap (λ (ns : List Slot). record { names = ns; calls = marks_at bases (behind_one lib x a).calls; place = place }) (map-append (slot_at bases) a.names (spots_from (length a.path) a.next_name (given_at lib (out-Statement x)).keys))
      ∙ ap (λ (ms : List Mark). record { names = slots_at bases a.names ++ (given_of lib bases a x).names; calls = ms; place = place })
      (map-append (mark_at bases) a.calls (spots_from (length a.path) a.next_call (plain_keys (given_at lib (out-Statement x)).calls)))

  none_both : (weight : Work → ℕ) → IsWeight weight → (v w : Work) → even.IsEven v → weight v ≡ weight no_work → weight w ≡ weight no_work → weight (both_works v w) ≡ weight no_work
  none_both weight is v w even e f =
      let sum = is.both v w even in
      let none = is.nothing in
      omega (arith, sum, none, e, f)

  both_hits : (p q m n : ℕ) → p ≡ m → q ≡ n → p + q ≡ m + n
  both_hits p q m n e f = omega (arith, e, f)

  abbrev BodyStarts : List Statement → Stand → List StatementLayout → Type 0
  BodyStarts ss a ls = (t : ℕ) → AllSit b owners lib bases place t ss a ls → (depth : ℕ) → Begins depth (all ss (scoped a) (all_given lib bases a ss) (dones_at (base_at bases a) ls)) (λ v k. hits v k t ss)

  abbrev Says : laid.Form → Type 0
  Says (laid.one x a l) = Sees lib x a → (t depth : ℕ) → Starts t depth a l x
  Says (laid.all ss a ls) = BodyStarts ss a ls
  Says (laid.whole ss names calls path before after body) = Unit {0}

  follows_on : (x : Statement) (xs : List Statement) (a : Stand) (l : StatementLayout) (ls : List StatementLayout) → Sees lib x a → ((t depth : ℕ) → Starts t depth a l x) → BodyStarts xs (behind_one lib x a) ls
      → BodyStarts (x ∷ xs) a (l ∷ ls)
  follows_on x xs a l ls sees p q t h depth =
      let first = p t depth h.0 in
      let rest =
      subst (λ (z : Scope). Begins depth (all xs z (all_given lib bases (behind_one lib x a) xs) (dones_at (base_at bases a) ls)) (λ v k. hits v k (t + 1) xs)) (scope_behind x a) (q (t + 1) h.1 depth) in
      record {
        grown = next depth x xs (scoped a) (given_of lib bases a x) (all_given lib bases (behind_one lib x a) xs) (base_at bases a + l.done) (dones_at (base_at bases a) ls) first.grown rest.grown;
        weighs = λ weight is. none_both weight is (work_of lib site rows (rules_of b) st first.grown) (work_of lib site rows (rules_of b) st rest.grown) (work_even lib site rows (rules_of b) st first.grown) (first.weighs weight is) (rest.weighs weight is);
        spends = λ task. both_hits (evaluated lib site rows (rules_of b) st task first.grown) (evaluated lib site rows (rules_of b) st task rest.grown) 0 0 (first.spends task) (rest.spends task);
        leaves_are = λ v k.
            both_hits (at_step lib site rows (rules_of b) st v k first.grown) (at_step lib site rows (rules_of b) st v k rest.grown) (hit v k t) (hits v k (t + 1) xs) (first.leaves_are v k) (rest.leaves_are v k);
      }

  module _ (flow : ℕ) (root : List Statement) (bodies : List BodyLayout) where
    pub starts : {f : laid.Form} → Laid (Sees lib) lib flow root bodies f → Says f
    starts (laid_decl x a l slots needs) = λ sees t depth. decl_starts t depth a l x sees slots needs
    starts (laid_call x a l slots needs) = λ sees t depth. call_starts t depth a l x sees slots needs
    starts (laid_scatter x a l body slots needs there p) = λ sees t depth. scatter_starts t depth a l x sees slots needs
    starts (laid_if x a l body slots needs there p) = λ sees t depth. if_starts t depth a l x sees slots needs
    starts (laid_none a) = λ t h depth. record { grown = none_left depth (scoped a); weighs = λ weight is. refl; leaves_are = λ v k. refl; spends = λ task. refl }
    starts (laid_next x xs a l ls sees p q) = follows_on x xs a l ls sees (starts p sees) (starts q)
    starts (laid_whole ss names calls path before after body runs p) = tt

pub bodies_begin : BodiesBegin
bodies_begin lib site rows b owners bases place flow root bodies ss a ls p = starts lib site rows b owners bases place flow root bodies p
