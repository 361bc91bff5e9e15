-- What the steps of a net evaluate is at most what the flow costs, for all that grows once no step is ready: each expression once for
-- each instance of its statement.
use Rattle.std.proofs.Common.{◌≡◌, ◌≤◌, ℕ, suc, ◌+◌, Bool, true, cond, inl, inr, List, [], ◌∷◌, ◌++◌, append_assoc, map, length, Option, Some, Ok, Err, slice_get, arith, sym, ap, ◌∙◌, subst, refl}
use Rattle.wdl_base.specs.declared.place.Segment.TheVariants as segment
use Rattle.wdl_value.specs.declared.env.Bind.{Bind}
use Rattle.wdl_value.specs.declared.value.Value.{Value}
use Rattle.wdl_value.specs.Outcome.{Outcome}
use Rattle.wdl_value.specs.Parts.{bool_in, items_in}
use Rattle.wdl_value.specs.Tables.{Row}
use Rattle.wdl_typed.specs.declared.expr.TExpr.{TExpr}
use Rattle.wdl_typed.specs.declared.flow.FlowDef.{FlowDef}
use Rattle.wdl_typed.specs.declared.flow.Statement.{Statement}
use Rattle.wdl_typed.specs.declared.flow.Statement.TheOpen as layer
use Rattle.wdl_typed.specs.declared.flow.Statement.TheVariants as stmt
use Rattle.wdl_typed.specs.declared.flow.TCall.{TCall}
use Rattle.wdl_typed.specs.declared.flow.Target.{Target}
use Rattle.wdl_typed.specs.declared.flow.Target.TheVariants as target
use Rattle.wdl_typed.specs.declared.task.TDecl.{TDecl}
use Rattle.wdl_typed.specs.declared.task.TInput.{TInput}
use Rattle.wdl_typed.specs.Bodies.{Library}
use Rattle.wdl_typed.specs.Flow.{Callee, Ended, Flowing, Known, Part, Run, Runner, Sight, all_known, in_turn, item_sight, run_of_part, seeing, together}
use Rattle.wdl_typed.specs.Requests.{Tried}
use Rattle.wdl_typed.specs.Scope.{names_of}
use Rattle.flow_laws.specs.Laws.{run_with}
use Rattle.net_laws.specs.Net.{Given, Scope, Shows, Work, beyond, known_in, no_work, sight_of}
use Rattle.net_laws.specs.Rules.{head}
use Rattle.net_laws.specs.Cost.{CalleeCost, Priced, TaskCost, called_cost, chosen_cost, cost_in_turn, default_cost, expr_cost, flow_cost, flow_cost_at, items_cost, met_cost, one_if, priced_input, priced_output, run_of, some_cost, value_cost}
use Rattle.net_laws.specs.Planned.{part_of}
use Rattle.net_laws.specs.Growing.{AllStuck, Declared, Form, Growing, NamesNeeded, Rule, State, absent_input, all, default_input, each, each_scatter, failed_if, failed_scatter, false_if, flow_whole, given_input, item_next, left_call, left_decl, left_if, left_scatter, next, no_input, no_item, no_output, none_left, one, only, output_next, run_call, start, takes, tells, told_call, told_decl, true_if, whole}
use Rattle.net_laws.specs.Works.{evaluated, told_count, told_work, work_of}
use Rattle.net_laws.proofs.Finished.{callee, finished, taking, telling}
use Rattle.net_laws.proofs.Flows.{shows_absent, shows_default, shows_given}
use Rattle.net_laws.proofs.Leaves.{call_ready, declared, needs_known}
use Rattle.net_laws.proofs.Local.{known_same}
use Rattle.net_laws.proofs.Lookups.{agree}
use Rattle.net_laws.proofs.Prices.{at_head, bodies, call_spent, call_within, if_price, more, next_sight, price_is, priced, same_part, scatter_price, sums}
use Rattle.net_laws.proofs.Shown.{item_seen, shows_declaration, sight_beyond}
use Rattle.net_laws.proofs.Whole.{planned_shows}

-- ---- costs one after the other

-- the sight behind these
abbrev after : List Priced → Sight → Sight
after [] s = s
after (p ∷ ps) s = after ps (seeing s (run_of p s))

cost_append : (ps qs : List Priced) (s : Sight) → cost_in_turn (ps ++ qs) s ≡ cost_in_turn ps s + cost_in_turn qs (after ps s)
cost_append [] qs s = omega arith
cost_append (p ∷ ps) qs s = let e = cost_append ps qs (seeing s (run_of p s)) in omega (arith, e)

seeing_twice : (s : Sight) (f g : Flowing) → seeing (seeing s f) g ≡ seeing s (together f g)
seeing_twice s f g =
    ap (λ (ks : List Known). (let t : Sight = record { names = ks; calls = (s.calls ++ f.calls) ++ g.calls; place = s.place } in t)) (append_assoc s.names f.names g.names)
    ∙ ap (λ (es : List Ended). (let t : Sight = record { names = s.names ++ (f.names ++ g.names); calls = es; place = s.place } in t)) (append_assoc s.calls f.calls g.calls)

nil_right : {A : Type 0} (xs : List A) → xs ++ [] ≡ xs
nil_right [] = refl
nil_right (x ∷ xs) = ap (λ ys. x ∷ ys) (nil_right xs)

after_is : (ps : List Priced) (s : Sight) → after ps s ≡ seeing s (in_turn (map run_of ps) s)
after_is [] s =
    sym (ap (λ (ks : List Known). (let t : Sight = record { names = ks; calls = s.calls ++ []; place = s.place } in t)) (nil_right s.names)
    ∙ ap (λ (es : List Ended). (let t : Sight = record { names = s.names; calls = es; place = s.place } in t)) (nil_right s.calls))
after_is (p ∷ ps) s = after_is ps (seeing s (run_of p s)) ∙ seeing_twice s (run_of p s) (in_turn (map run_of ps) (seeing s (run_of p s)))

after_append : (ps qs : List Priced) (s : Sight) → after (ps ++ qs) s ≡ after qs (after ps s)
after_append [] qs s = refl
after_append (p ∷ ps) qs s = after_append ps qs (seeing s (run_of p s))

behind : (a b n : ℕ) → n ≤ b → n ≤ a + b
behind a b n h = omega (arith, h)

three : (a b c x y z total : ℕ) → total ≡ (x + y) + z → a ≤ x → b ≤ y → c ≤ z → a + (b + c) ≤ total
three a b c x y z total e h i j = omega (arith, e, h, i, j)

module _ (lib : Library) (site : List ℕ) (table : List Row) (desc : ℕ → Rule → Type 0) (st : State) (task : TaskCost) where
  abbrev run : Run
  run = run_with lib site table

  abbrev at : ℕ → Callee
  at depth = callee lib site table desc st depth

  abbrev price : ℕ → CalleeCost
  price depth = flow_cost run task depth

  abbrev told_count_ : (name : List ℕ) (e : TExpr) (s : Scope) (c : ℕ) → Declared lib site table desc st name e s c → ℕ
  told_count_ = told_count lib site table desc st

  abbrev spends : {depth : ℕ} {f : Form} → Growing lib site table desc st depth f → ℕ
  spends p = evaluated lib site table desc st task p

  -- ---- what the flow counts

  abbrev pub cost_at : ℕ → Form → ℕ
  cost_at depth (one x s g d) = (priced st.cells lib site table (at depth) task (price depth) x).cost (sight_of st.cells s)
  cost_at depth (all xs s g ds) = bodies st.cells lib site table (at depth) task (price depth) xs (sight_of st.cells s)
  cost_at depth (each xs s k item i ys qs) = items_cost (bodies st.cells lib site table (at depth) task (price depth) xs) (sight_of st.cells s) k item i ys
  cost_at depth (takes given is s g) = cost_in_turn (map (priced_input given) is) (sight_of st.cells s)
  cost_at depth (tells ds s g) = cost_in_turn (map priced_output ds) (sight_of st.cells s)
  cost_at depth (whole f given place g ds) = flow_cost_at run task (at depth) (price depth) (Some f) given place

  module _ (stuck : AllStuck lib site table desc st) where
    told_within : (name : List ℕ) (e : TExpr) (s : Scope) (c : ℕ) (d : Declared lib site table desc st name e s c) → told_count_ name e s c d ≤ expr_cost e (sight_of st.cells s)
    told_within name e s c (t, n, inl p) = omega arith
    told_within name e s c (t, n, inr p) =
        let i : expr_cost e (sight_of st.cells s) ≡ 1 =
        ap one_if (known_same (map (known_in st.cells) s.names) (map (known_in st.cells) n.slots) e (agree st.cells s.names n.slots n.distinct n.needs.resolved (names_of e) n.needs.all) ∙ needs_known st t s e n p.set) in
        omega (arith, i)

    one_known : (depth : ℕ) (x : TDecl) (s : Scope) (t : ℕ) (n : NamesNeeded st t s x.value) → all_known (map (known_in st.cells) n.slots) x.value ≡ true → 1 ≤ cost_at depth (one (stmt.Decl x) s (only x.name 0) 0)
    one_known depth x s t n h =
        let i : (priced st.cells lib site table (at depth) task (price depth) (stmt.Decl x)).cost (sight_of st.cells s) ≡ 1 =
        price_is st.cells lib site table (at depth) task (price depth) (stmt.Decl x) (layer.Decl x) (stmt.outs-Decl x) (sight_of st.cells s)
        ∙ ap one_if (known_same (map (known_in st.cells) s.names) (map (known_in st.cells) n.slots) x.value (agree st.cells s.names n.slots n.distinct n.needs.resolved (names_of x.value) n.needs.all) ∙ h) in
        omega (arith, i)

    -- the sight behind an input or an output
    behind_name : (s : Scope) (g : Given) (w : Work) (f : Runner) → Shows st.cells s f g w → seeing (sight_of st.cells s) (f (sight_of st.cells s)) ≡ sight_of st.cells (beyond s g)
    behind_name s g w f p = ap (seeing (sight_of st.cells s)) p ∙ sym (sight_beyond st.cells s g w)

    runs_same : (depth : ℕ) (xs : List Statement) → map run_of (map (priced st.cells lib site table (at depth) task (price depth)) xs) ≡ map run_of_part (map (part_of run (at depth)) xs)
    runs_same depth [] = refl
    runs_same depth (x ∷ xs) =
        ap (λ (p : Part). p.run ∷ map run_of (map (priced st.cells lib site table (at depth) task (price depth)) xs)) (same_part st.cells lib site table (at depth) task (price depth) x)
        ∙ ap (λ (fs : List Runner). run_of_part (part_of run (at depth) x) ∷ fs) (runs_same depth xs)

    inputs_same : (given : List Bind) (is : List TInput) → map run_of (map (priced_input given) is) ≡ map (taking lib site table desc st stuck given) is
    inputs_same given [] = refl
    inputs_same given (i ∷ is) = ap (λ (fs : List Runner). taking lib site table desc st stuck given i ∷ fs) (inputs_same given is)

    -- a call of a workflow, once its arguments are there
    called_price : (depth : ℕ) (x : TCall) (s : Scope) (b : Bool) (r : Tried (List Bind)) (k : ℕ) (f : FlowDef) (args : List Bind) → b ≡ true → r ≡ Ok args → x.target ≡ target.Flow k → slice_get lib.flows k ≡ Some f
        → cond b (length x.args + met_cost (called_cost lib task (price (suc depth)) (s.place ++ segment.Call x.name ∷ []) x.target) r) 0
        ≡ length x.args + flow_cost_at run task (at depth) (price depth) (Some f) args (s.place ++ segment.Call x.name ∷ [])
    called_price depth x s b r k f args test met is found =
        ap (λ (t : Bool). cond t (length x.args + met_cost (called_cost lib task (price (suc depth)) (s.place ++ segment.Call x.name ∷ []) x.target) r) 0) test
        ∙ ap (λ (o : Tried (List Bind)). length x.args + met_cost (called_cost lib task (price (suc depth)) (s.place ++ segment.Call x.name ∷ []) x.target) o) met
        ∙ ap (λ (g : Target). length x.args + called_cost lib task (price (suc depth)) (s.place ++ segment.Call x.name ∷ []) g args) is
        ∙ ap (λ (o : Option FlowDef). length x.args + flow_cost_at run task (at depth) (price depth) o args (s.place ++ segment.Call x.name ∷ [])) found

    call_total : (a b n total : ℕ) → total ≡ n + b → a ≤ b → (c : ℕ) → total ≤ c → n + a ≤ c
    call_total a b n total e h c j = omega (arith, e, h, j)

    pub within : {depth : ℕ} {f : Form} (p : Growing lib site table desc st depth f) → spends p ≤ cost_at depth f
    within (none_left depth s) = omega arith
    within (next depth x xs s g h d ds p q) =
        let w = finished lib site table desc st stuck p in
        sums st.cells lib site table (at depth) task (price depth) (spends p) (spends q) (cost_at depth (one x s g d))
        (bodies st.cells lib site table (at depth) task (price depth) xs (seeing (sight_of st.cells s) (run_of (priced st.cells lib site table (at depth) task (price depth) x) (sight_of st.cells s)))) (within p)
        (subst (λ (z : Sight). spends q ≤ bodies st.cells lib site table (at depth) task (price depth) xs z)
        (sym (next_sight st.cells lib site table (at depth) task (price depth) x s g (work_of lib site table desc st p) (planned_shows st.cells lib site table (at depth) w.planned))) (within q))
    within (left_decl depth x s c t left n k) = omega arith
    within (left_call depth x s g d t left n is ends k) = omega arith
    within (left_scatter depth x s g d t left n outside k) = omega arith
    within (left_if depth x s g d t left n outside k) = omega arith
    within (told_decl depth x s c t w taken n set own follows) = one_known depth x s t n (needs_known st t s x.value n set)
    within (told_call depth x s g d t w taken n set is ends own plain follows) = call_within st.cells lib site table (at depth) task (price depth) x s n.slots n.marks n.distinct n.needs
    within (run_call depth x s g h d t ds taken n set k is f found args met names ends distinct p copied ended) =
        call_total (spends p) (cost_at depth (whole f args (s.place ++ segment.Call x.name ∷ []) h ds)) (length x.args)
        (call_spent st.cells lib site table (at (suc depth)) task (price (suc depth)) s x n.slots n.marks) (called_price depth x s _ _ k f args (call_ready st t s x n set) met.met is found) (within p)
        (cost_at (suc depth) (one (stmt.Call x) s g d)) (call_within st.cells lib site table (at (suc depth)) task (price (suc depth)) x s n.slots n.marks n.distinct n.needs)
    within (failed_scatter depth x s g d t c taken n set e outside k) =
        at_head st.cells lib site table (at depth) task (price depth)
        (λ (r : Outcome Value). 1 + value_cost (λ y. items_cost (bodies st.cells lib site table (at depth) task (price depth) x.body) (sight_of st.cells s) x.number x.item 0 (items_in y)) r) 1 (head st.cells n.slots x.over) (Some (Err c))
        (cost_at depth (one (stmt.Scatter x) s g d)) (scatter_price st.cells lib site table (at depth) task (price depth) x s n.slots n.distinct n.needs) e (omega arith)
    within (each_scatter depth x s g d t y qs taken n set e outside p names calls ended) =
        at_head st.cells lib site table (at depth) task (price depth)
        (λ (r : Outcome Value). 1 + value_cost (λ z. items_cost (bodies st.cells lib site table (at depth) task (price depth) x.body) (sight_of st.cells s) x.number x.item 0 (items_in z)) r) (1 + spends p) (head st.cells n.slots x.over)
        (Some (Ok y)) (cost_at depth (one (stmt.Scatter x) s g d)) (scatter_price st.cells lib site table (at depth) task (price depth) x s n.slots n.distinct n.needs) e
        (more st.cells lib site table (at depth) task (price depth) (spends p) (cost_at depth (each x.body s x.number x.item 0 (items_in y) qs)) (within p))
    within (failed_if depth x s g d t c taken n set e outside k) =
        at_head st.cells lib site table (at depth) task (price depth)
        (λ (r : Outcome Value). 1 + value_cost (λ y. chosen_cost (bodies st.cells lib site table (at depth) task (price depth) x.body) (sight_of st.cells s) x.number (bool_in y)) r) 1 (head st.cells n.slots x.cond) (Some (Err c))
        (cost_at depth (one (stmt.If x) s g d)) (if_price st.cells lib site table (at depth) task (price depth) x s n.slots n.distinct n.needs) e (omega arith)
    within (false_if depth x s g d t y taken n set e off outside own same done) =
        at_head st.cells lib site table (at depth) task (price depth)
        (λ (r : Outcome Value). 1 + value_cost (λ z. chosen_cost (bodies st.cells lib site table (at depth) task (price depth) x.body) (sight_of st.cells s) x.number (bool_in z)) r) 1 (head st.cells n.slots x.cond) (Some (Ok y))
        (cost_at depth (one (stmt.If x) s g d)) (if_price st.cells lib site table (at depth) task (price depth) x s n.slots n.distinct n.needs) e (omega arith)
    within (true_if depth x s g h d t ds y taken n set e on outside p names calls ended) =
        at_head st.cells lib site table (at depth) task (price depth)
        (λ (r : Outcome Value). 1 + value_cost (λ z. chosen_cost (bodies st.cells lib site table (at depth) task (price depth) x.body) (sight_of st.cells s) x.number (bool_in z)) r) (1 + spends p) (head st.cells n.slots x.cond) (Some (Ok y))
        (cost_at depth (one (stmt.If x) s g d)) (if_price st.cells lib site table (at depth) task (price depth) x s n.slots n.distinct n.needs) e
        (more st.cells lib site table (at depth) task (price depth) (spends p) (chosen_cost (bodies st.cells lib site table (at depth) task (price depth) x.body) (sight_of st.cells s) x.number (bool_in y))
        (subst (λ (b : Bool). spends p ≤ chosen_cost (bodies st.cells lib site table (at depth) task (price depth) x.body) (sight_of st.cells s) x.number b) (sym on) (within p)))
    within (no_item depth xs s k item i) = omega arith
    within (item_next depth xs s k item i cell y ys g ds qs is p q) =
        sums st.cells lib site table (at depth) task (price depth) (spends p) (spends q) (bodies st.cells lib site table (at depth) task (price depth) xs (item_sight (sight_of st.cells s) k item i y))
        (items_cost (bodies st.cells lib site table (at depth) task (price depth) xs) (sight_of st.cells s) k item (i + 1) ys)
        (subst (λ (z : Sight). spends p ≤ bodies st.cells lib site table (at depth) task (price depth) xs z) (item_seen st.cells s k item i cell y is) (within p)) (within q)
    within (no_input depth given s) = omega arith
    within (given_input depth given i is s h c y e found p) =
        behind ((priced_input given i).cost (sight_of st.cells s)) (cost_in_turn (map (priced_input given) is) (seeing (sight_of st.cells s) (run_of (priced_input given i) (sight_of st.cells s)))) (spends p)
        (subst (λ (z : Sight). spends p ≤ cost_in_turn (map (priced_input given) is) z)
        (sym (behind_name s (only i.name c) no_work (taking lib site table desc st stuck given i) (shows_given st.cells s given i y c e found))) (within p))
    within (absent_input depth given i is s h c e lacking found p) =
        behind ((priced_input given i).cost (sight_of st.cells s)) (cost_in_turn (map (priced_input given) is) (seeing (sight_of st.cells s) (run_of (priced_input given i) (sight_of st.cells s)))) (spends p)
        (subst (λ (z : Sight). spends p ≤ cost_in_turn (map (priced_input given) is) z)
        (sym (behind_name s (only i.name c) no_work (taking lib site table desc st stuck given i) (shows_absent st.cells s given i c e lacking found))) (within p))
    within (default_input depth given i is s h c e lacking some d p) =
        let t = declared lib site table desc st stuck i.name e s c d in
        sums st.cells lib site table (at depth) task (price depth) (told_count_ i.name e s c d) (spends p) ((priced_input given i).cost (sight_of st.cells s))
        (cost_in_turn (map (priced_input given) is) (seeing (sight_of st.cells s) (run_of (priced_input given i) (sight_of st.cells s))))
        (subst (λ (n : ℕ). told_count_ i.name e s c d ≤ n)
        (sym (ap (λ (o : Option Value). default_cost i o (sight_of st.cells s)) lacking ∙ ap (λ (o : Option TExpr). some_cost (λ (x : TExpr). expr_cost x (sight_of st.cells s)) o) some)) (told_within i.name e s c d))
        (subst (λ (z : Sight). spends p ≤ cost_in_turn (map (priced_input given) is) z)
        (sym (behind_name s (only i.name c) (told_work lib site table desc st i.name e s c d) (taking lib site table desc st stuck given i) (shows_default st.cells s given i e t.needed.slots (only i.name c) (told_work lib site table desc st i.name e s c d) lacking some t.needed.distinct t.needed.needs t.follows))) (within p))
    within (no_output depth s) = omega arith
    within (output_next depth x xs s h c d p) =
        let t = declared lib site table desc st stuck x.name x.value s c d in
        sums st.cells lib site table (at depth) task (price depth) (told_count_ x.name x.value s c d) (spends p) ((priced_output x).cost (sight_of st.cells s))
        (cost_in_turn (map priced_output xs) (seeing (sight_of st.cells s) (run_of (priced_output x) (sight_of st.cells s)))) (told_within x.name x.value s c d)
        (subst (λ (z : Sight). spends p ≤ cost_in_turn (map priced_output xs) z)
        (sym (behind_name s (only x.name c) (told_work lib site table desc st x.name x.value s c d) (telling lib site table desc st stuck x) (shows_declaration st.cells s t.needed.distinct x.name x.value t.needed.slots t.needed.needs (only x.name c) (told_work lib site table desc st x.name x.value s c d) t.follows))) (within p))
    within (flow_whole depth f given place i b o ds p q r) =
        let a = finished lib site table desc st stuck p in
        let w = finished lib site table desc st stuck q in
        let ins = map (priced_input given) f.inputs in
        let body = map (priced st.cells lib site table (at depth) task (price depth)) f.body in
        let outs = map priced_output f.outputs in
        let s = start place in
        let seen : after ins (sight_of st.cells s) ≡ sight_of st.cells (beyond s i) =
        after_is ins (sight_of st.cells s) ∙ ap (λ (fs : List Runner). seeing (sight_of st.cells s) (in_turn fs (sight_of st.cells s))) (inputs_same given f.inputs) ∙ behind_name s i (work_of lib site table desc st p) (in_turn (map (taking lib site table desc st stuck given) f.inputs)) a.shows in
        let told : after body (sight_of st.cells (beyond s i)) ≡ sight_of st.cells (beyond (beyond s i) b) =
        after_is body (sight_of st.cells (beyond s i))
        ∙ ap (λ (fs : List Runner). seeing (sight_of st.cells (beyond s i)) (in_turn fs (sight_of st.cells (beyond s i)))) (runs_same depth f.body)
        ∙ behind_name (beyond s i) b (work_of lib site table desc st q) (in_turn (map run_of_part (map (part_of run (at depth)) f.body))) (planned_shows st.cells lib site table (at depth) w.planned) in
        let behind_both : after (ins ++ body) (sight_of st.cells s) ≡ sight_of st.cells (beyond (beyond s i) b) = after_append ins body (sight_of st.cells s) ∙ ap (after body) seen ∙ told in
        three (spends p) (spends q) (spends r) (cost_in_turn ins (sight_of st.cells s)) (cost_in_turn body (sight_of st.cells (beyond s i))) (cost_in_turn outs (sight_of st.cells (beyond (beyond s i) b)))
        (cost_in_turn (ins ++ body ++ outs) (sight_of st.cells s))
        (cost_append (ins ++ body) outs (sight_of st.cells s)
        ∙ ap (λ (n : ℕ). n + cost_in_turn outs (after (ins ++ body) (sight_of st.cells s))) (cost_append ins body (sight_of st.cells s) ∙ ap (λ (z : Sight). cost_in_turn ins (sight_of st.cells s) + cost_in_turn body z) seen)
        ∙ ap (λ (z : Sight). (cost_in_turn ins (sight_of st.cells s) + cost_in_turn body (sight_of st.cells (beyond s i))) + cost_in_turn outs z) behind_both) (within p) (within q) (within r)
