-- Each step that is ready may be done: by induction over what grows, with the sights that the flow from scratch has there.
use Rattle.std.proofs.Common.{◌≡◌, ◌<◌, ◌-◌, ℕ, suc, ◌+◌, Bool, true, ◌⊎◌, inl, inr, List, [], ◌∷◌, ◌++◌, map, Option, Some, Ok, slice_get, arith, refl, subst, sym, ◌∙◌}
use Rattle.wdl_base.specs.declared.place.Segment.{Segment}
use Rattle.wdl_base.specs.declared.place.Segment.TheVariants as segment
use Rattle.wdl_value.specs.declared.env.Bind.{Bind}
use Rattle.wdl_value.specs.declared.value.Value.{Value}
use Rattle.wdl_value.specs.Parts.{items_in}
use Rattle.wdl_value.specs.Tables.{Row}
use Rattle.wdl_typed.specs.declared.expr.TExpr.{TExpr}
use Rattle.wdl_typed.specs.declared.flow.FlowDef.{FlowDef}
use Rattle.wdl_typed.specs.declared.flow.Statement.{Statement, Statement-F, out-Statement}
use Rattle.wdl_typed.specs.declared.flow.Statement.TheOpen as layer
use Rattle.wdl_typed.specs.declared.flow.Statement.TheVariants as stmt
use Rattle.wdl_typed.specs.declared.flow.TCall.{TCall}
use Rattle.wdl_typed.specs.declared.flow.TIf.{TIf}
use Rattle.wdl_typed.specs.declared.flow.TScatter.{TScatter}
use Rattle.wdl_typed.specs.declared.flow.Target.TheVariants as target
use Rattle.wdl_typed.specs.declared.task.TDecl.{TDecl}
use Rattle.wdl_typed.specs.declared.task.TInput.{TInput}
use Rattle.wdl_typed.specs.Bodies.{Library, Signature, call_by, signature}
use Rattle.wdl_typed.specs.Declarations.{plain_key}
use Rattle.wdl_typed.specs.Flow.{Ended, Flowing, Known, Run, Sight, args_known, beginning, declaration, env_of, flow, input_of, inputs, item_sight, run_of_part, seeing, statements}
use Rattle.wdl_typed.specs.Journal.{keys_distinct}
use Rattle.wdl_typed.specs.Kept.{flow_typed}
use Rattle.wdl_typed.specs.Scope.{lookup}
use Rattle.wdl_task.specs.Readiness.{are_given}
use Rattle.flow_soundness.specs.Readiness.{AreDeclsReady, AreInputsReady, IsBodyReady, IsDeclReady, IsDefaultReady, IsFlowReady, IsStatementReady}
use Rattle.flow_soundness.proofs.BlockReady.{if_body_ready, if_cond_ready, scatter_items_ready, scatter_over_ready}
use Rattle.flow_soundness.proofs.FlowReady.{flow_body_ready, flow_inputs_ready, flow_outputs_ready}
use Rattle.flow_soundness.proofs.Ready.{call_args_ready, callee_is_ready, decl_is_ready, first_ready, rest_ready, statement_typed}
use Rattle.flow_laws.specs.Laws.{run_with}
use Rattle.flow_laws.proofs.Agree.{Agree}
use Rattle.flow_laws.proofs.Checked.{kept}
use Rattle.flow_laws.proofs.Runners.{sight}
use Rattle.net_laws.specs.Growing.{CallNeeded, Declared, Form, Growing, NamesNeeded, Rule, State, absent_input, all, are_set, declares, default_input, does, each, each_scatter, failed_if, failed_scatter, false_if, flow_whole, given_input, is_set, item_next, left_call, left_decl, left_if, left_scatter, next, no_input, no_item, no_output, none_left, one, only, output_next, run_call, start, takes, tells, told_call, told_decl, true_if, whole}
use Rattle.net_laws.specs.Moving.{at_step, declared_at}
use Rattle.net_laws.specs.Net.{Given, Mark, Scope, Slot, Work, beyond, inward, item_scope, known_in, no_work, slot_keys}
use Rattle.net_laws.specs.Planned.{ArgsMet, CallNeeds}
use Rattle.net_laws.specs.Rules.{arg_keys, head}
use Rattle.net_laws.specs.Works.{told_work, work_of}
use Rattle.net_laws.proofs.Asking.{is_hit, some_of}
use Rattle.net_laws.proofs.Beneath.{Beneath, absent_beneath, beneath, body_beneath, declared_beneath, default_beneath, given_beneath, part, sees_item}
use Rattle.net_laws.proofs.Callable.{body_kept}
use Rattle.net_laws.proofs.Further.{Sees, further, sees_beyond}
use Rattle.net_laws.proofs.Leaves.{call_slots, needs_slots}
use Rattle.net_laws.proofs.Local.{args_known_same, args_met_same}
use Rattle.net_laws.proofs.Sets.{args_known_set, slots_set}
use Rattle.plan_ready.specs.Ready.{IsCallReady, IsLayerReady, IsRuleReady, StepsReady}
use Rattle.plan_ready.proofs.Near.{args_near, expr_near, known_there, value_there}
use Rattle.wdl_base.proofs.Options.{all_at, then_parts}

module _ (lib : Library) (site : List ℕ) (rows : List Row) (desc : ℕ → Rule → Type 0) (st : State) (t : ℕ) (r : Rule) (same : (q : Rule) → desc t q → q ≡ r) where
  abbrev run : Run
  run = run_with lib site rows

  abbrev hits : {depth : ℕ} {f : Form} → Growing lib site rows desc st depth f → ℕ
  hits p = at_step lib site rows desc st t 1 p

  abbrev Goal : Type 0
  Goal = IsRuleReady lib st.cells r

  -- ---- where each form stands, as the flow from scratch has it

  record OneAt (x : Statement) (s : Scope) : Type 0 where
    pub levels : ℕ
    pub names : List Known
    pub calls : List Ended
    pub sees : Sees st.cells s names calls
    pub ready : IsStatementReady lib levels x (sight s.place names calls)

  record AllAt (xs : List Statement) (s : Scope) : Type 0 where
    pub levels : ℕ
    pub names : List Known
    pub calls : List Ended
    pub sees : Sees st.cells s names calls
    pub ready : IsBodyReady lib levels xs (sight s.place names calls)

  record EachAt (xs : List Statement) (s : Scope) (k : ℕ) (item : List ℕ) (i : ℕ) (ys : List Value) : Type 0 where
    pub levels : ℕ
    pub names : List Known
    pub calls : List Ended
    pub sees : Sees st.cells s names calls
    pub ready : (j : ℕ) (y : Value) → slice_get ys j ≡ Some y → IsBodyReady lib levels xs (item_sight (sight s.place names calls) k item (i + j) y)

  record TakesAt (given : List Bind) (is : List TInput) (s : Scope) : Type 0 where
    pub names : List Known
    pub calls : List Ended
    pub sees : Sees st.cells s names calls
    pub ready : AreInputsReady given is (sight s.place names calls)

  record TellsAt (ds : List TDecl) (s : Scope) : Type 0 where
    pub names : List Known
    pub calls : List Ended
    pub sees : Sees st.cells s names calls
    pub ready : AreDeclsReady ds (sight s.place names calls)

  record WholeAt (f : FlowDef) (given : List Bind) : Type 0 where
    pub levels : ℕ
    pub number : ℕ
    pub found : slice_get lib.flows number ≡ Some f
    pub ready : IsFlowReady lib levels number given

  abbrev At : Form → Type 0
  At (one x s g d) = OneAt x s
  At (all xs s g ds) = AllAt xs s
  At (each xs s k item i ys qs) = EachAt xs s k item i ys
  At (takes given is s g) = TakesAt given is s
  At (tells ds s g) = TellsAt ds s
  At (whole f given place g ds) = WholeAt f given

  -- ---- leaves

  at_leaf : (u : ℕ) (q : Rule) → desc u q → u ≡ t → IsRuleReady lib st.cells q → Goal
  at_leaf u q h e i = subst (IsRuleReady lib st.cells) (same q (subst (λ (n : ℕ). desc n q) e h)) i

  layer_leaf : (u : ℕ) (x : Statement) (y : Statement-F Statement) (s : Scope) (g : Given) (d : ℕ) → out-Statement x ≡ y → desc u (does x s g d) → u ≡ t → IsLayerReady lib st.cells y s → Goal
  layer_leaf u x y s g d e h i j = at_leaf u (does x s g d) h i (subst (λ (z : Statement-F Statement). IsLayerReady lib st.cells z s) (sym e) j)

  call_there : (levels : ℕ) (x : TCall) (s : Sight) → IsStatementReady lib levels (stmt.Call x) s → (g : Signature) × (signature lib x.target ≡ Some g)
  call_there levels x s b =
      let h = statement_typed lib levels (stmt.Call x) s b (layer.Call x) (stmt.outs-Call x) in
      let p = then_parts (call_by lib.structs x b.seen) (signature lib x.target) h.0 h.1 in
      (p.0, p.1)

  call_ready_at : (x : TCall) (s : Scope) → keys_distinct (slot_keys s.names) ≡ true → OneAt (stmt.Call x) s → IsCallReady lib st.cells s x
  call_ready_at x s distinct at =
      record {
        there = call_there at.levels x (sight s.place at.names at.calls) at.ready;
        args = λ slots marks needs set.
            args_near (env_of (map (known_in st.cells) slots)) (env_of at.names) x.args (near slots marks needs set)
            (call_args_ready lib at.levels x (sight s.place at.names at.calls) at.ready (known slots marks needs set));
        tasks = λ slots marks needs set args met k task.
            (callee_is_ready lib at.levels x (sight s.place at.names at.calls) args at.ready (known slots marks needs set)
            (sym (args_met_same (map (known_in st.cells) slots) at.names x.args (near slots marks needs set)) ∙ met)).tasks k task;
      }
    where
      near : (slots : List Slot) (marks : List Mark) → CallNeeds s x slots marks → slots_set st.cells slots ≡ true → Agree (env_of (map (known_in st.cells) slots)) (env_of at.names) (arg_keys x.args)
      near slots marks needs set = further st.cells s distinct at.names at.calls at.sees slots set (arg_keys x.args) needs.names

      known : (slots : List Slot) (marks : List Mark) → CallNeeds s x slots marks → slots_set st.cells slots ≡ true → args_known at.names x.args ≡ true
      known slots marks needs set =
          sym (args_known_same (map (known_in st.cells) slots) at.names x.args (near slots marks needs set)) ∙ args_known_set st.cells slots set x.args needs.names.all

  declared_leaf : (name : List ℕ) (e : TExpr) (s : Scope) (c : ℕ) (d : Declared lib site rows desc st name e s c) (names : List Known) (calls : List Ended) → Sees st.cells s names calls → IsDeclReady e (sight s.place names calls)
      → 0 < declared_at lib site rows desc st t 1 name e s c d → Goal
  declared_leaf name e s c (u, n, inl p) names calls sees ready h = at_leaf u (declares name e s c) p.0.rule (is_hit t u h) (expr_near st.cells s n.distinct names calls sees e ready)
  declared_leaf name e s c (u, n, inr p) names calls sees ready h = absurd (omega (arith, h))

  -- ---- what stands within

  first_at : (depth : ℕ) (x : Statement) (xs : List Statement) (s : Scope) → AllAt (x ∷ xs) s → OneAt x s
  first_at depth x xs s at = record { levels = at.levels; names = at.names; calls = at.calls; sees = at.sees; ready = first_ready lib at.levels x xs (sight s.place at.names at.calls) at.ready }

  rest_at : (depth : ℕ) (x : Statement) (xs : List Statement) (s : Scope) (g : Given) (d : ℕ) → AllAt (x ∷ xs) s → Growing lib site rows desc st depth (one x s g d) → AllAt xs (beyond s g)
  rest_at depth x xs s g d at p =
      let y = run_of_part (part lib site rows desc st depth x) (sight s.place at.names at.calls) in
      let u = (beneath lib site rows desc st p).under at.names at.calls at.sees in
      record {
        levels = at.levels;
        names = at.names ++ y.names;
        calls = at.calls ++ y.calls;
        sees = sees_beyond st.cells s g at.names y.names at.calls y.calls at.sees u.names u.calls;
        ready = rest_ready lib at.levels x xs (sight s.place at.names at.calls) at.ready run refl depth;
      }

  from_first : (i : ℕ) → 0 + i ≡ i
  from_first i = omega arith

  items_at : (x : TScatter Statement) (s : Scope) (y : Value) (u : ℕ) (n : NamesNeeded st u s x.over) → are_set st (st.needs u) ≡ true → head st.cells n.slots x.over ≡ Some (Ok y) → OneAt (stmt.Scatter x) s
      → EachAt x.body s x.number x.item 0 (items_in y)
  items_at x s y u n set e at =
      let slots = needs_slots st u s x.over n set in
      let items =
      scatter_items_ready lib at.levels x (sight s.place at.names at.calls) y at.ready (known_there st.cells s n.distinct at.names at.calls at.sees x.over n.slots n.needs slots)
      (value_there st.cells s n.distinct at.names at.calls at.sees x.over n.slots n.needs slots y e) in
      record {
        levels = at.levels - 1;
        names = at.names;
        calls = at.calls;
        sees = at.sees;
        ready = λ j z found.
            subst (λ (i : ℕ). IsBodyReady lib (at.levels - 1) x.body (item_sight (sight s.place at.names at.calls) x.number x.item i z)) (sym (from_first j)) (items.each j z found);
      }

  at_itself : (i : ℕ) → i + 0 ≡ i
  at_itself i = omega arith

  one_more : (i j : ℕ) → i + suc j ≡ (i + 1) + j
  one_more i j = omega arith

  item_at : (xs : List Statement) (s : Scope) (k : ℕ) (item : List ℕ) (i cell : ℕ) (y : Value) (ys : List Value) → st.cells cell ≡ Some y → EachAt xs s k item i (y ∷ ys) → AllAt xs (item_scope s k item i cell)
  item_at xs s k item i cell y ys is at =
      record {
        levels = at.levels;
        names = at.names ++ record { key = plain_key item; value = Some y } ∷ [];
        calls = at.calls;
        sees = sees_item lib site rows desc st s k item i cell y is at.names at.calls at.sees;
        ready = subst (λ (j : ℕ). IsBodyReady lib at.levels xs (item_sight (sight s.place at.names at.calls) k item j y)) (at_itself i) (at.ready 0 y refl);
      }

  later_at : (xs : List Statement) (s : Scope) (k : ℕ) (item : List ℕ) (i : ℕ) (y : Value) (ys : List Value) → EachAt xs s k item i (y ∷ ys) → EachAt xs s k item (i + 1) ys
  later_at xs s k item i y ys at =
      record {
        levels = at.levels;
        names = at.names;
        calls = at.calls;
        sees = at.sees;
        ready = λ j z found. subst (λ (l : ℕ). IsBodyReady lib at.levels xs (item_sight (sight s.place at.names at.calls) k item l z)) (one_more i j) (at.ready (suc j) z found);
      }

  body_at : (x : TIf Statement) (s : Scope) → OneAt (stmt.If x) s → AllAt x.body (inward s (segment.If x.number))
  body_at x s at =
      record {
        levels = at.levels - 1;
        names = at.names;
        calls = at.calls;
        sees = record { names = at.sees.names; calls = at.sees.calls };
        ready = if_body_ready lib at.levels x (sight s.place at.names at.calls) at.ready;
      }

  called_at : (x : TCall) (s : Scope) (u k : ℕ) (f : FlowDef) (args : List Bind) (n : CallNeeded st u s x) → are_set st (st.needs u) ≡ true → x.target ≡ target.Flow k → slice_get lib.flows k ≡ Some f
      → ArgsMet st.cells x n.slots n.marks args → OneAt (stmt.Call x) s → WholeAt f args
  called_at x s u k f args n set is found met at =
      let near = further st.cells s n.distinct at.names at.calls at.sees n.slots (call_slots st u s x n set).0 (arg_keys x.args) n.needs.names in
      let ready =
      callee_is_ready lib at.levels x (sight s.place at.names at.calls) args at.ready (sym (args_known_same (map (known_in st.cells) n.slots) at.names x.args near) ∙ met.known)
      (sym (args_met_same (map (known_in st.cells) n.slots) at.names x.args near) ∙ met.met) in
      record { levels = at.levels - 1; number = k; found = found; ready = ready.flows k is }

  -- ---- inputs and outputs

  next_input : (given : List Bind) (i : TInput) (is : List TInput) (s : Scope) (c : ℕ) (w : Work) (done : Bool) → Beneath lib site rows desc st s (λ (y : Sight). input_of y i (lookup given (plain_key i.name))) (only i.name c) w done
      → TakesAt given (i ∷ is) s → TakesAt given is (beyond s (only i.name c))
  next_input given i is s c w done b at =
      let y = input_of (sight s.place at.names at.calls) i (lookup given (plain_key i.name)) in
      let u = b.under at.names at.calls at.sees in
      record {
        names = at.names ++ y.names;
        calls = at.calls ++ y.calls;
        sees = sees_beyond st.cells s (only i.name c) at.names y.names at.calls y.calls at.sees u.names u.calls;
        ready = at.ready.1;
      }

  next_output : (x : TDecl) (xs : List TDecl) (s : Scope) (c : ℕ) (d : Declared lib site rows desc st x.name x.value s c) → TellsAt (x ∷ xs) s → TellsAt xs (beyond s (only x.name c))
  next_output x xs s c d at =
      let y = declaration (sight s.place at.names at.calls) x.name x.value in
      let u = (declared_beneath lib site rows desc st x.name x.value s c d).under at.names at.calls at.sees in
      record {
        names = at.names ++ y.names;
        calls = at.calls ++ y.calls;
        sees = sees_beyond st.cells s (only x.name c) at.names y.names at.calls y.calls at.sees u.names u.calls;
        ready = at.ready.1;
      }

  -- ---- workflows

  module _ (depth : ℕ) (f : FlowDef) (given : List Bind) (place : List Segment) (i b o : Given) (ds : List ℕ) (at : WholeAt f given) (p : Growing lib site rows desc st depth (takes given f.inputs (start place) i))
      (q : Growing lib site rows desc st depth (all f.body (beyond (start place) i) b ds)) where
    abbrev taken_in : Flowing
    taken_in = inputs given f.inputs (beginning place)

    abbrev made_in : Flowing
    made_in = statements run (flow run depth) f.body (seeing (beginning place) taken_in)

    start_sees : Sees st.cells (start place) [] []
    start_sees = record { names = tt; calls = tt }

    inputs_at : TakesAt given f.inputs (start place)
    inputs_at = record { names = []; calls = []; sees = start_sees; ready = flow_inputs_ready run at.levels depth at.number f given place at.ready at.found }

    inputs_sees : Sees st.cells (beyond (start place) i) taken_in.names taken_in.calls
    inputs_sees = let u = (beneath lib site rows desc st p).under [] [] start_sees in sees_beyond st.cells (start place) i [] taken_in.names [] taken_in.calls start_sees u.names u.calls

    flow_at : AllAt f.body (beyond (start place) i)
    flow_at = record { levels = at.levels; names = taken_in.names; calls = taken_in.calls; sees = inputs_sees; ready = flow_body_ready run at.levels depth at.number f given place at.ready at.found }

    outputs_at : TellsAt f.outputs (beyond (beyond (start place) i) b)
    outputs_at =
        let u =
        (body_beneath lib site rows desc st depth f.body (beyond (start place) i) b (work_of lib site rows desc st q) (are_set st ds) (beneath lib site rows desc st q)).under taken_in.names taken_in.calls inputs_sees in
        record {
          names = taken_in.names ++ made_in.names;
          calls = taken_in.calls ++ made_in.calls;
          sees = sees_beyond st.cells (beyond (start place) i) b taken_in.names made_in.names taken_in.calls made_in.calls inputs_sees u.names u.calls;
          ready = flow_outputs_ready run at.levels depth at.number f given place at.ready at.found;
        }

  -- ---- what grows, form by form

  found : {depth : ℕ} {f : Form} (p : Growing lib site rows desc st depth f) → At f → 0 < hits p → Goal
  found (none_left depth s) at h = absurd (omega (arith, h))
  found (next depth x xs s g h_ d ds p q) at h = go (some_of (hits p) (hits q) h) (found p (first_at depth x xs s at)) (found q (rest_at depth x xs s g d at p))
    where
      go : (0 < hits p) ⊎ (0 < hits q) → (0 < hits p → Goal) → (0 < hits q → Goal) → Goal
      go (inl l) a b = a l
      go (inr l) a b = b l
  found (left_decl depth x s c u left n k) at h =
      layer_leaf u (stmt.Decl x) (layer.Decl x) s (only x.name c) c (stmt.outs-Decl x) left.rule (is_hit t u h)
      (expr_near st.cells s n.distinct at.names at.calls at.sees x.value (decl_is_ready lib at.levels x (sight s.place at.names at.calls) at.ready))
  found (left_call depth x s g d u left n is ends k) at h = layer_leaf u (stmt.Call x) (layer.Call x) s g d (stmt.outs-Call x) left.rule (is_hit t u h) (call_ready_at x s n.distinct at)
  found (left_scatter depth x s g d u left n outside k) at h =
      layer_leaf u (stmt.Scatter x) (layer.Scatter x) s g d (stmt.outs-Scatter x) left.rule (is_hit t u h)
      (expr_near st.cells s n.distinct at.names at.calls at.sees x.over (scatter_over_ready lib at.levels x (sight s.place at.names at.calls) at.ready))
  found (left_if depth x s g d u left n outside k) at h =
      layer_leaf u (stmt.If x) (layer.If x) s g d (stmt.outs-If x) left.rule (is_hit t u h)
      (expr_near st.cells s n.distinct at.names at.calls at.sees x.cond (if_cond_ready lib at.levels x (sight s.place at.names at.calls) at.ready))
  found (told_decl depth x s c u w taken n set own follows) at h = absurd (omega (arith, h))
  found (told_call depth x s g d u w taken n set is ends own plain follows) at h = layer_leaf u (stmt.Call x) (layer.Call x) s g d (stmt.outs-Call x) taken.rule (is_hit t u h) (call_ready_at x s n.distinct at)
  found (run_call depth x s g h_ d u ds taken n set k is f found_ args met names ends distinct p copied ended) at h = found p (called_at x s u k f args n set is found_ met at) h
  found (failed_scatter depth x s g d u c taken n set e outside k) at h = absurd (omega (arith, h))
  found (each_scatter depth x s g d u y qs taken n set e outside p names calls ended) at h = found p (items_at x s y u n set e at) h
  found (failed_if depth x s g d u c taken n set e outside k) at h = absurd (omega (arith, h))
  found (false_if depth x s g d u y taken n set e off outside own same_ done) at h = absurd (omega (arith, h))
  found (true_if depth x s g h_ d u ds y taken n set e on outside p names calls ended) at h = found p (body_at x s at) h
  found (no_item depth xs s k item i) at h = absurd (omega (arith, h))
  found (item_next depth xs s k item i cell y ys g ds qs is p q) at h = go (some_of (hits p) (hits q) h) (found p (item_at xs s k item i cell y ys is at)) (found q (later_at xs s k item i y ys at))
    where
      go : (0 < hits p) ⊎ (0 < hits q) → (0 < hits p → Goal) → (0 < hits q → Goal) → Goal
      go (inl l) a b = a l
      go (inr l) a b = b l
  found (no_input depth given s) at h = absurd (omega (arith, h))
  found (given_input depth given i is s h_ c y e there p) at h = found p (next_input given i is s c no_work (is_set st c) (given_beneath lib site rows desc st given i s c y e there) at) h
  found (absent_input depth given i is s h_ c e none there p) at h = found p (next_input given i is s c no_work (is_set st c) (absent_beneath lib site rows desc st given i s c e none there) at) h
  found (default_input depth given i is s h_ c e none some d p) at h =
      go (some_of (declared_at lib site rows desc st t 1 i.name e s c d) (hits p) h)
      (found p (next_input given i is s c (told_work lib site rows desc st i.name e s c d) (is_set st c) (default_beneath lib site rows desc st given i s c e none some d) at))
    where
      own : IsDeclReady e (sight s.place at.names at.calls)
      own = subst (λ (o : Option TExpr). IsDefaultReady o (sight s.place at.names at.calls)) some (at.ready.0 none)

      go : (0 < declared_at lib site rows desc st t 1 i.name e s c d) ⊎ (0 < hits p) → (0 < hits p → Goal) → Goal
      go (inl l) rest = declared_leaf i.name e s c d at.names at.calls at.sees own l
      go (inr l) rest = rest l
  found (no_output depth s) at h = absurd (omega (arith, h))
  found (output_next depth x xs s h_ c d p) at h = go (some_of (declared_at lib site rows desc st t 1 x.name x.value s c d) (hits p) h) (found p (next_output x xs s c d at))
    where
      go : (0 < declared_at lib site rows desc st t 1 x.name x.value s c d) ⊎ (0 < hits p) → (0 < hits p → Goal) → Goal
      go (inl l) rest = declared_leaf x.name x.value s c d at.names at.calls at.sees at.ready.0 l
      go (inr l) rest = rest l
  found (flow_whole depth f given place i b o ds p q r_) at h =
      go (some_of (hits p) (hits q + hits r_) h) (found p (inputs_at depth f given place i b o ds at p q)) (found q (flow_at depth f given place i b o ds at p q)) (found r_ (outputs_at depth f given place i b o ds at p q))
    where
      later : (0 < hits q) ⊎ (0 < hits r_) → (0 < hits q → Goal) → (0 < hits r_ → Goal) → Goal
      later (inl l) b_ c_ = b_ l
      later (inr l) b_ c_ = c_ l

      go : (0 < hits p) ⊎ (0 < hits q + hits r_) → (0 < hits p → Goal) → (0 < hits q → Goal) → (0 < hits r_ → Goal) → Goal
      go (inl l) a b_ c_ = a l
      go (inr l) a b_ c_ = later (some_of (hits q) (hits r_) l) b_ c_

one_rule : (o : Option Rule) (r q : Rule) → o ≡ Some r → o ≡ Some q → q ≡ r
one_rule o r q e h = some_same (sym h ∙ e)
  where
    some_same : {A : Type 0} {x y : A} → Some x ≡ Some y → x ≡ y
    some_same e_ = cc

pub steps : StepsReady
steps lib main checked site rows rules st depth k f there given fit place g ds p t r is h =
    let kept_ = kept lib main checked in
    found lib site rows (λ u q. rules u ≡ Some q) st t r (λ q e. one_rule (rules t) r q is e) p
    (record {
      levels = 24;
      number = k;
      found = there;
      ready = record {
        library = record { tasks = kept_.tasks; flows = kept_.flows };
        nested = λ f_ e. body_kept lib f_ (all_at (flow_typed lib) lib.flows k f_ kept_.flows e);
        fit = λ f_ e. subst (λ (w : FlowDef). are_given lib.structs w.inputs given ≡ true) (one_flow (slice_get lib.flows k) f_ f there e) fit;
      };
    })
    h
  where
    one_flow : (o : Option FlowDef) (a b : FlowDef) → o ≡ Some b → o ≡ Some a → b ≡ a
    one_flow o a b e h_ = some_same (sym e ∙ h_)
      where
        some_same : {A : Type 0} {x y : A} → Some x ≡ Some y → x ≡ y
        some_same e_ = cc
