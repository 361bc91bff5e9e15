-- Calls: a plan goes on growing.
use Rattle.std.proofs.lemmas.Bool.{and_parts}
use Rattle.plan_growth.proofs.Seen.{named_by}
use Rattle.std.proofs.Common.{◌≡◌, ℕ, zero, suc, ◌+◌, ◌<◌, ◌≤◌, ◌⊎◌, inl, inr, Bool, true, false, cond, ◌&&◌, List, [], ◌∷◌, ◌++◌, All, map, length, Option, Some, None, Ok, Err, slice_get, arith, sym, ap, ◌∙◌, subst, refl}
use Rattle.std.specs.List.{list_all}
use Rattle.std.proofs.lemmas.Option.{slice_get_within, same_Some}
use Rattle.wdl_base.specs.declared.place.Segment.{Segment}
use Rattle.wdl_base.specs.declared.place.Segment.TheVariants as segment
use Rattle.wdl_base.specs.declared.answer.Answer.{Answer}
use Rattle.wdl_value.specs.declared.env.Bind.{Bind}
use Rattle.wdl_value.specs.Tables.{Row, answer_at}
use Rattle.wdl_typed.specs.declared.flow.FlowDef.{FlowDef}
use Rattle.wdl_typed.specs.declared.flow.Statement.{Statement, Statement-F}
use Rattle.wdl_typed.specs.declared.flow.Statement.TheVariants as stmt
use Rattle.wdl_typed.specs.declared.flow.TCall.{TCall}
use Rattle.wdl_typed.specs.declared.flow.Target.{Target}
use Rattle.wdl_typed.specs.declared.flow.Target.TheVariants as target
use Rattle.wdl_typed.specs.declared.task.TaskDef.{TaskDef}
use Rattle.wdl_typed.specs.Bodies.{Library}
use Rattle.wdl_typed.specs.Flow.{Ended, Flowing, Known, Names, args_known, args_met, asked, attempted, attempts, call_of, called, each_call, each_key, env_of, failing_at, has_ended, missing, task_called, waiting, with_args, with_jobs}
use Rattle.wdl_typed.specs.Flow.{flow as flow_of}
use Rattle.wdl_typed.specs.Requests.{Asked, Failing, Tried, asks, request}
use Rattle.flow_laws.specs.Laws.{run_with}
use Rattle.step_net.specs.Views.{Wants}
use Rattle.value_net.specs.Nets as values
use Rattle.value_net.specs.Nets.{joined, value_at, with_taken}
use Rattle.net_laws.specs.Cost.{TaskCost, called_cost, met_cost}
use Rattle.net_laws.specs.Growing as net
use Rattle.net_laws.specs.Growing.{CallNeeded, Form, does, mark_cell, slot_cell}
use Rattle.net_laws.specs.Moving.{IsWeight}
use Rattle.net_laws.specs.Net.{Given, Scope, Work, ended_in, flowing_of, known_in, no_work}
use Rattle.net_laws.specs.Planned.{call_names, counted}
use Rattle.net_laws.specs.Works.{faulty}
use Rattle.net_laws.specs.Rules.{Follows, own_sight}
use Rattle.net_laws.proofs.Leaves.{call_ready, call_slots}
use Rattle.net_laws.proofs.Sets.{marks_set, slots_set}
use Rattle.plan_moves.specs.Laws.{HasAsked, asked_cost}
use Rattle.plan_moves.specs.Sheets.{IsMove, needs_in, state_of, taken_in}
use Rattle.plan_moves.specs.Telling.{CallsTask}
use Rattle.plan_moves.proofs.Called.{flows as enter_flows}
use Rattle.plan_moves.proofs.Calls.{calls}
use Rattle.plan_moves.proofs.Kept.{set_now}
use Rattle.plan_layout.specs.declared.layout.BodyLayout.{BodyLayout}
use Rattle.plan_layout.specs.declared.layout.FlowLayout.{FlowLayout}
use Rattle.plan_layout.specs.declared.layout.Layout.{Layout}
use Rattle.plan_layout.specs.declared.layout.Need.{Need}
use Rattle.plan_layout.specs.declared.layout.StatementLayout.{StatementLayout}
use Rattle.plan_layout.specs.Laid.{IsLaidAs, given_at}
use Rattle.plan_layout.specs.Sees.{AllSeen, FlowSees, Sees, after_at, keys_at}
use Rattle.plan_layout.specs.Spots.{plain_keys}
use Rattle.plan_growth.specs.declared.instance.Instance.{Instance}
use Rattle.plan_growth.specs.declared.rule.Rule.{Rule}
use Rattle.plan_growth.specs.declared.rule.Rule.TheVariants as rule
use Rattle.plan_growth.specs.Begun.{IsFree, base_at, given_by, scope_at}
use Rattle.plan_growth.specs.Blocks.{with_call}
use Rattle.plan_growth.specs.Entering.{Plot, Sown}
use Rattle.plan_growth.specs.Growth.{IsGrowing, growth_leaves, growth_spent, sheet_of, AskedCall}
use Rattle.plan_growth.specs.Keeps.{IsAt, asked_first, last_base, own_binds}
use Rattle.plan_growth.specs.Meaning.{Fits, Means, rule_cells}
use Rattle.plan_growth.proofs.Begins.{call_needs}
use Rattle.plan_growth.proofs.FlowCalls as flows
use Rattle.plan_growth.proofs.Inside.{CallLaid, call_laid}
use Rattle.plan_growth.proofs.Keeping.{MeansAt, base_same, means_at}
use Rattle.plan_growth.proofs.Lists.{get_set}
use Rattle.plan_growth.proofs.Moving.{Moves, is_move}
use Rattle.plan_growth.proofs.Alike.{calls_alike, names_alike}
use Rattle.plan_growth.proofs.Goes.{goes_asked, goes_on}
use Rattle.plan_growth.proofs.Outer.{all_left, all_right, calls_at, names_at}
use Rattle.plan_growth.proofs.Runs.{marks_run, slots_run}
use Rattle.plan_growth.proofs.Setting.{SetsOwn, StepAt, once_at, sets_moves, sets_none, step_at}

-- the first attempt of a call waits where no answer is there
first_waits : (lib : Library) (site : List ℕ) (rows : List Row) (n : Names) (place : List Segment) (y : TaskDef) (call : List ℕ) (a : Asked) (retries : ℕ) → answer_at rows place 0 ≡ None
    → attempts (run_with lib site rows) n place y call a retries 0 ≡ with_jobs (request site place 0 a ∷ []) (a.codes ∷ []) (waiting place (missing n))
first_waits lib site rows n place y call a zero e =
    ap (λ (o : Option Answer). with_jobs (request site place 0 a ∷ []) (a.codes ∷ []) (attempted (run_with lib site rows) n place y call a 0 true (missing n) o)) e
first_waits lib site rows n place y call a (suc left) e =
    ap (λ (o : Option Answer). with_jobs (request site place 0 a ∷ []) (a.codes ∷ []) (attempted (run_with lib site rows) n place y call a 0 false (attempts (run_with lib site rows) n place y call a left 1) o)) e

module _ (lib : Library) (layout : Layout) (site : List ℕ) (rows : List Row) (depth : ℕ) (form : Form) (v : Sown) (is : List Instance) (listed : Work) (asked_steps : List AskedCall) (paid : TaskCost → ℕ)
    (g : IsGrowing lib layout site rows depth form v is listed asked_steps paid) (t : ℕ) (r : Rule) (code : slice_get v.rules t ≡ Some r) (step : Wants) (there : slice_get v.steps t ≡ Some step)
    (fresh : step.is_taken ≡ false) (ready : values.are_set v.values step.needs ≡ true) (i k : ℕ) (same : r ≡ rule.Statement i k) (q : Instance) (body : BodyLayout) (flow : FlowDef) (l : StatementLayout) (x : TCall)
    (at : IsAt lib layout is i k q body flow l (stmt.Call x)) where
  abbrev rules : List net.Rule
  rules = g.growth.rules

  abbrev owners : List ℕ
  owners = g.growth.owners

  abbrev here : StepAt lib layout site rows depth form v is listed asked_steps paid g t r step
  here = step_at lib layout site rows depth form v is listed asked_steps paid g t r step code there

  abbrev w : Sown
  w = with_taken v t step

  abbrev Lists : Work → Work → Type 0
  Lists later added = (weight : Work → ℕ) → IsWeight weight → weight later ≡ weight listed + weight added

  abbrev h : MeansAt lib layout (length v.values) q body flow l (stmt.Call x) step.needs here.means
  h = means_at lib layout is (length v.values) i k q body flow l (stmt.Call x) step.needs here.means at (subst (λ (z : Rule). Means lib layout is (length v.values) z step.needs here.means) same here.stands.means)

  abbrev lay : CallLaid lib body.flow flow.body layout.bodies x h.stand l
  lay = call_laid lib body.flow flow.body layout.bodies x h.stand l h.laid

  abbrev n : Names
  n = call_names lib x

  abbrev s : Scope
  s = scope_at q.bases h.stand q.place

  abbrev gv : Given
  gv = given_by q.bases h.stand n

  abbrev base : ℕ
  base = base_at q.bases h.stand

  abbrev d : ℕ
  d = base + l.done

  abbrev place : List Segment
  place = q.place ++ segment.Call x.name ∷ []

  means_is : here.means ≡ does (stmt.Call x) s gv d
  means_is = h.means ∙ ap (λ (y : Statement-F Statement). does (stmt.Call x) s (given_by q.bases h.stand (given_at lib y)) d) (stmt.outs-Call x)

  rule_is : slice_get rules t ≡ Some (does (stmt.Call x) s gv d)
  rule_is = here.rule ∙ ap (λ (z : net.Rule). Some z) means_is

  free : All (IsFree (sheet_of v rules) owners t) (rule_cells (does (stmt.Call x) s gv d))
  free = subst (λ (z : net.Rule). All (IsFree (sheet_of v rules) owners t) (rule_cells z)) means_is (here.stands.free fresh)

  fits : Fits n h.stand
  fits = subst (λ (y : Statement-F Statement). Fits (given_at lib y) h.stand) (stmt.outs-Call x) h.fits

  once : (m : ℕ) → growth_leaves lib layout site rows g.growth t m ≡ m
  once = once_at lib layout site rows depth form v is listed asked_steps paid g t (does (stmt.Call x) s gv d) step rule_is refl there fresh

  still : SetsOwn v rules owners is g.even t step there fresh ready v.values
  still = sets_none v rules owners is g.even t step there fresh ready

  moves : Moves t v rules owners is w rules owners is []
  moves = sets_moves v rules owners is g.even t step there fresh ready v.values still

  move : IsMove t (sheet_of v rules) owners (sheet_of w rules) owners
  move = is_move t v rules owners is w rules owners is [] moves g.even

  pub step_was : slice_get w.steps t ≡ Some (record { needs = step.needs; is_taken = true })
  step_was = get_set v.steps t (record { needs = step.needs; is_taken = true }) (slice_get_within v.steps t step there)

  abbrev needed : CallNeeded (state_of (sheet_of w rules) owners) t s x
  needed =
      call_needs lib site rows (sheet_of w rules) owners q.bases q.place (stmt.Call x) h.stand l h.sees t x (subst (λ (y : Statement-F Statement). AllSeen h.stand.names (keys_at y)) (stmt.outs-Call x) h.sees.names)
      (subst (λ (y : Statement-F Statement). AllSeen h.stand.calls (plain_keys (after_at y))) (stmt.outs-Call x) h.sees.calls) lay.needs (ap needs_in step_was ∙ h.cells_are)

  abbrev env : List Bind
  env = env_of (map (known_in (value_at v.values)) needed.slots)

  env_is : own_binds v q.bases l.needs ≡ env
  env_is = ap (λ (ns : List Need). own_binds v q.bases ns) lay.needs.needs

  tested : args_known (map (known_in (value_at v.values)) needed.slots) x.args && list_all (has_ended (map (ended_in (value_at v.values)) needed.marks)) x.after ≡ true
  tested = call_ready (state_of (sheet_of w rules) owners) t s x needed (set_now lib site rows t (sheet_of v rules) owners (sheet_of w rules) owners move)

  -- ---- no cell of the call is set

  abbrev Free : ℕ → Type 0
  Free = IsFree (sheet_of v rules) owners t

  none_name : (j c : ℕ) → c ≡ base + h.stand.next_name + j → j < length n.keys → value_at v.values c ≡ None
  none_name j c e lt =
      let f = names_at Free q.bases (length h.stand.path) h.stand.next_name n.keys (all_left Free (map slot_cell gv.names) (map mark_cell gv.calls ++ d ∷ []) free) j lt in
      let z : c ≡ base + (h.stand.next_name + j) = omega (arith, e) in
      ap (value_at v.values) z ∙ ap joined f.1

  none_call : (j c : ℕ) → c ≡ base + h.stand.next_call + j → j < length n.calls → value_at v.values c ≡ None
  none_call j c e lt =
      let f =
      calls_at Free q.bases (length h.stand.path) h.stand.next_call n.calls (all_left Free (map mark_cell gv.calls) (d ∷ []) (all_right Free (map slot_cell gv.names) (map mark_cell gv.calls ++ d ∷ []) free)) j lt in
      let z : c ≡ base + (h.stand.next_call + j) = omega (arith, e) in
      ap (value_at v.values) z ∙ ap joined f.1

  abbrev shown : List Known → List Ended → Work → Flowing
  shown ks es z = record { names = ks; calls = es; jobs = z.jobs; codes = z.codes; faults = z.faults; waits = z.waits; count = z.count }

  none_given : (z : Work) → shown (each_key None n.keys) (each_call false n.calls) z ≡ flowing_of (value_at v.values) gv z
  none_given z =
      ap (λ (ks : List Known). shown ks (each_call false n.calls) z)
      (names_alike (value_at v.values) None (base + h.stand.next_name) n.keys none_name
      ∙ ap (map (known_in (value_at v.values))) (sym (slots_run q.bases (length h.stand.path) h.stand.next_name (base + h.stand.next_name) n.keys refl)))
      ∙ ap (λ (es : List Ended). shown (map (known_in (value_at v.values)) gv.names) es z)
      (calls_alike (value_at v.values) None (base + h.stand.next_call) n.calls none_call
      ∙ ap (map (ended_in (value_at v.values))) (sym (marks_run q.bases (length h.stand.path) h.stand.next_call (base + h.stand.next_call) n.calls refl)))

  -- what the call gives, by what its arguments come to
  call_is : (dp : ℕ) (o : Tried (List Bind)) → args_met env x.args ≡ o
      → call_of (run_with lib site rows) (flow_of (run_with lib site rows) dp) n x (own_sight (value_at v.values) q.place needed.slots needed.marks) ≡ with_args (run_with lib site rows) (flow_of (run_with lib site rows) dp) n place x o
  call_is dp o e =
      ap (λ (b : Bool). cond b (with_args (run_with lib site rows) (flow_of (run_with lib site rows) dp) n place x (args_met env x.args)) (missing n)) tested ∙ ap (with_args (run_with lib site rows) (flow_of (run_with lib site rows) dp) n place x) e

  abbrev cost : TaskCost → ℕ
  cost task = length x.args + met_cost (called_cost lib task (λ c given p. 0) place x.target) (args_met (own_binds v q.bases l.needs) x.args)

  cost_is : (task : TaskCost) → cost task ≡ length x.args + met_cost (called_cost lib task (λ c given p. 0) place x.target) (args_met env x.args)
  cost_is task = ap (λ (bs : List Bind). length x.args + met_cost (called_cost lib task (λ c given p. 0) place x.target) (args_met bs x.args)) env_is

  -- a call whose cells and work are what the definition gives, with no cell set
  module _ (added : Work) (plain : ((c : ℕ) × (y : TaskDef) × (x.target ≡ target.Task c) × (slice_get lib.tasks c ≡ Some y)) ⊎ ((e : Failing) × (args_met env x.args ≡ Err e)))
      (follows : (dp : ℕ) → Follows (value_at v.values) q.place needed.slots needed.marks (call_of (run_with lib site rows) (flow_of (run_with lib site rows) dp) n x) gv added) where
    has_asked : HasAsked lib site rows t (sheet_of v rules) owners (sheet_of w rules) owners added (λ task. asked_cost lib task (sheet_of w rules) x s needed.slots) depth form g.growth.grown
    has_asked =
        calls lib site rows t (sheet_of v rules) owners (sheet_of w rules) owners move (λ z e. e) x s gv d added rule_is (record { slots = needed.slots; marks = needed.marks; needs = needed.needs; plain = plain; follows = follows }) depth form g.root
        g.growth.grown once

    call_told : (later : Work) → Lists later added → (later_paid : TaskCost → ℕ) → ((task : TaskCost) → later_paid task ≤ paid task + cost task) → IsGrowing lib layout site rows depth form w is later asked_steps later_paid
    call_told later lists later_paid pays =
        goes_on lib layout site rows depth form v is listed asked_steps paid g t w rules owners is [] moves has_asked.grown (λ u z. 0)
        (record {
          leaves = λ u z ne. let e = has_asked.leaves u z in omega (arith, e);
          old_none = λ u z lt. refl;
          past_none = λ u z le. refl;
          each_one = λ j y e leaf z. absurd (let f : ⊥ = cc in f);
        })
        added later cost later_paid tt has_asked.weighs lists (λ task. has_asked.spends task ∙ ap (λ (m : ℕ). growth_spent lib layout site rows task g.growth + m) (sym (cost_is task))) pays

    -- the same, and the step is one of a call that was asked
    pub call_asked : (later : Work) → Lists later added → (later_paid : TaskCost → ℕ) → ((task : TaskCost) → later_paid task ≤ paid task + cost task) → (y : TaskDef) (args : List Bind)
        → (calls_task : CallsTask lib (sheet_of w rules) x s gv args y) → slots_set (value_at v.values) calls_task.slots ≡ true → marks_set (value_at v.values) calls_task.marks ≡ true
        → IsGrowing lib layout site rows depth form w is later (asked_steps ++ record { step = t; place = place; task = y; args = args } ∷ []) later_paid
    call_asked later lists later_paid pays y args calls_task names_set calls_set =
        goes_asked lib layout site rows depth form v is listed asked_steps paid g t w rules owners is [] moves has_asked.grown (λ u z. 0)
        (record {
          leaves = λ u z ne. let e = has_asked.leaves u z in omega (arith, e);
          old_none = λ u z lt. refl;
          past_none = λ u z le. refl;
          each_one = λ j y e leaf z. absurd (let f : ⊥ = cc in f);
        })
        added later cost later_paid tt has_asked.weighs lists (λ task. has_asked.spends task ∙ ap (λ (m : ℕ). growth_spent lib layout site rows task g.growth + m) (sym (cost_is task))) pays
        (record { step = t; place = place; task = y; args = args })
        (record {
          call = x;
          scope = s;
          given = gv;
          done = d;
          rule = rule_is;
          taken = ap taken_in step_was;
          once = λ m. let e = has_asked.leaves t m in let o = once m in e ∙ o;
          free = free;
          place = refl;
          calls_task = calls_task;
          names_set = names_set;
          calls_set = calls_set;
        })

  -- ---- faults

  -- an argument failed
  pub args_fail : (e : Failing) → args_met (own_binds v q.bases l.needs) x.args ≡ Err e → (later : Work) → Lists later (faulty (failing_at place e)) → (later_paid : TaskCost → ℕ)
      → ((task : TaskCost) → later_paid task ≤ paid task + cost task) → IsGrowing lib layout site rows depth form w is later asked_steps later_paid
  args_fail e is_err later lists later_paid pays =
      let failed : args_met env x.args ≡ Err e = ap (λ (bs : List Bind). args_met bs x.args) (sym env_is) ∙ is_err in
      call_told (faulty (failing_at place e)) (inr (e, failed)) (λ dp. call_is dp (Err e) failed ∙ none_given (faulty (failing_at place e))) later lists later_paid pays

  module _ (c : ℕ) (is_task : x.target ≡ target.Task c) (y : TaskDef) (task_there : slice_get lib.tasks c ≡ Some y) (args : List Bind) (met : args_met (own_binds v q.bases l.needs) x.args ≡ Ok args) where
    met_too : args_met env x.args ≡ Ok args
    met_too = ap (λ (bs : List Bind). args_met bs x.args) (sym env_is) ∙ met

    task_is : (dp : ℕ) (o : Tried Asked) → asks y args ≡ o
        → call_of (run_with lib site rows) (flow_of (run_with lib site rows) dp) n x (own_sight (value_at v.values) q.place needed.slots needed.marks) ≡ asked (run_with lib site rows) n place y x.name o
    task_is dp o e =
        call_is dp (Ok args) met_too ∙ ap (λ (z : Target). called (run_with lib site rows) (flow_of (run_with lib site rows) dp) n place x args z) is_task
        ∙ ap (λ (z : Option TaskDef). task_called (run_with lib site rows) n place x.name args z) task_there ∙ ap (asked (run_with lib site rows) n place y x.name) e

    -- the task asks for nothing: an expression of it failed
    pub task_fails : (e : Failing) → asks y args ≡ Err e → (later : Work) → Lists later (faulty (failing_at place e)) → (later_paid : TaskCost → ℕ) → ((task : TaskCost) → later_paid task ≤ paid task + cost task)
        → IsGrowing lib layout site rows depth form w is later asked_steps later_paid
    task_fails e is_err later lists later_paid pays =
        call_told (faulty (failing_at place e)) (inl (c, y, is_task, task_there)) (λ dp. task_is dp (Err e) is_err ∙ none_given (faulty (failing_at place e))) later lists later_paid pays

    sets : (slots_set (value_at v.values) needed.slots ≡ true) × (marks_set (value_at v.values) needed.marks ≡ true)
    sets = call_slots (state_of (sheet_of w rules) owners) t s x needed (set_now lib site rows t (sheet_of v rules) owners (sheet_of w rules) owners move)

    abbrev calls_task : CallsTask lib (sheet_of w rules) x s gv args y
    calls_task =
        let test = and_parts (args_known (map (known_in (value_at v.values)) needed.slots) x.args) (list_all (has_ended (map (ended_in (value_at v.values)) needed.marks)) x.after) tested in
        record {
          slots = needed.slots;
          marks = needed.marks;
          needs = needed.needs;
          met = record { known = test.0; ended = test.1; met = met_too };
          number = c;
          is = is_task;
          found = task_there;
          named = named_by q.bases h.stand n;
        }

    -- the task is asked, and its first attempt waits
    pub task_asked : (a : Asked) → asks y args ≡ Ok a → answer_at rows place 0 ≡ None → (later : Work) → Lists later (asked_first site place a) → (later_paid : TaskCost → ℕ)
        → ((task : TaskCost) → later_paid task ≤ paid task + cost task) → IsGrowing lib layout site rows depth form w is later (asked_steps ++ record { step = t; place = place; task = y; args = args } ∷ []) later_paid
    task_asked a is_ok none later lists later_paid pays =
        call_asked (asked_first site place a) (inl (c, y, is_task, task_there))
        (λ dp. task_is dp (Ok a) is_ok ∙ first_waits lib site rows n place y x.name a a.retries none ∙ none_given (asked_first site place a)) later lists later_paid pays y args
        calls_task sets.0 sets.1

  -- ---- calls of workflows

  module _ (c : ℕ) (is_flow : x.target ≡ target.Flow c) (f : FlowDef) (flow_there : slice_get lib.flows c ≡ Some f) (fl : FlowLayout) (fl_there : slice_get layout.flows c ≡ Some fl) (own : BodyLayout)
      (own_there : slice_get layout.bodies fl.body ≡ Some own) (sees : FlowSees lib f) (args : List Bind) (met : args_met (own_binds v q.bases l.needs) x.args ≡ Ok args) where
    flow_is : IsLaidAs (Sees lib) lib layout.bodies c f fl
    flow_is = let z = g.laid.flows c f flow_there in subst (λ (y : FlowLayout). IsLaidAs (Sees lib) lib layout.bodies c f y) (same_Some _ _ (sym z.there ∙ fl_there)) z.laid

    entered : (later : Work) → Lists later (counted (length f.body) no_work) → (later_paid : TaskCost → ℕ) → ((task : TaskCost) → later_paid task ≤ paid task + length x.args)
        → (let p : Plot = with_call f args place fl flow_is.body l base (record { net = w; instances = is }) in IsGrowing lib layout site rows depth form p.net p.instances later asked_steps later_paid)
    entered later lists later_paid pays =
        let m = flows.call_moves lib layout site rows v rules owners is g.even t step there fresh ready q.bases q.place h.stand l h.cells_are x h.sees body.flow flow.body lay fits free c is_flow f flow_there fl fl_there flow_is sees args in
        let b = flows.b lib layout site rows v rules owners is g.even t step there fresh ready q.bases q.place h.stand l h.cells_are x h.sees body.flow flow.body lay fits free c is_flow f flow_there fl fl_there flow_is sees args in
        let own_now = flows.owners_now lib layout site rows v rules owners is g.even t step there fresh ready q.bases q.place h.stand l h.cells_are x h.sees body.flow flow.body lay fits free c is_flow f flow_there fl fl_there flow_is sees args in
        let net_now = flows.last_net lib layout site rows v rules owners is g.even t step there fresh ready q.bases q.place h.stand l h.cells_are x h.sees body.flow flow.body lay fits free c is_flow f flow_there fl fl_there flow_is sees args in
        let rules_now = flows.rules_now lib layout site rows v rules owners is g.even t step there fresh ready q.bases q.place h.stand l h.cells_are x h.sees body.flow flow.body lay fits free c is_flow f flow_there fl fl_there flow_is sees args in
        let js = (flows.flow_net lib layout site rows v rules owners is g.even t step there fresh ready q.bases q.place h.stand l h.cells_are x h.sees body.flow flow.body lay fits free c is_flow f flow_there fl fl_there flow_is sees args).instances in
        let news = flows.news lib layout site rows v rules owners is g.even t step there fresh ready q.bases q.place h.stand l h.cells_are x h.sees body.flow flow.body lay fits free c is_flow f flow_there fl fl_there flow_is sees args in
        let leaves = flows.new_leaves lib layout site rows v rules owners is g.even t step there fresh ready q.bases q.place h.stand l h.cells_are x h.sees body.flow flow.body lay fits free c is_flow f flow_there fl fl_there flow_is sees args in
        let e =
        enter_flows lib site rows t (sheet_of v rules) owners b own_now (is_move t v rules owners is net_now rules_now own_now js news m g.even) x s gv d (counted (length f.body) no_work) leaves rule_is
        (flows.call_enters lib layout site rows v rules owners is g.even t step there fresh ready q.bases q.place h.stand l h.cells_are x h.sees body.flow flow.body lay fits free c is_flow f flow_there fl fl_there flow_is sees args met)
        depth form g.root g.growth.grown once in
        goes_on lib layout site rows depth form v is listed asked_steps paid g t net_now rules_now own_now js news m e.grown leaves
        (record {
          leaves = e.leaves;
          old_none = flows.leaves_before lib layout site rows v rules owners is g.even t step there fresh ready q.bases q.place h.stand l h.cells_are x h.sees body.flow flow.body lay fits free c is_flow f flow_there fl fl_there flow_is sees args;
          past_none = flows.leaves_past lib layout site rows v rules owners is g.even t step there fresh ready q.bases q.place h.stand l h.cells_are x h.sees body.flow flow.body lay fits free c is_flow f flow_there fl fl_there flow_is sees args;
          each_one = flows.leaves_each lib layout site rows v rules owners is g.even t step there fresh ready q.bases q.place h.stand l h.cells_are x h.sees body.flow flow.body lay fits free c is_flow f flow_there fl fl_there flow_is sees args;
        })
        (counted (length f.body) no_work) later (λ task. length x.args) later_paid
        (flows.news_stand lib layout site rows v rules owners is g.even t step there fresh ready q.bases q.place h.stand l h.cells_are x h.sees body.flow flow.body lay fits free c is_flow f flow_there fl fl_there flow_is sees args)
        e.weighs lists e.spends pays

    pub flow_goes : (later : Work) → Lists later (counted (length f.body) no_work) → (later_paid : TaskCost → ℕ) → ((task : TaskCost) → later_paid task ≤ paid task + length x.args)
        → (let p : Plot = with_call f args place fl own l (last_base q.bases) (record { net = w; instances = is }) in IsGrowing lib layout site rows depth form p.net p.instances later asked_steps later_paid)
    flow_goes later lists later_paid pays =
        subst (λ (z : BodyLayout). let p : Plot = with_call f args place fl z l (last_base q.bases) (record { net = w; instances = is }) in IsGrowing lib layout site rows depth form p.net p.instances later asked_steps later_paid)
        (same_Some _ _ (sym flow_is.there ∙ own_there))
        (subst (λ (z : ℕ). let p : Plot = with_call f args place fl flow_is.body l z (record { net = w; instances = is }) in IsGrowing lib layout site rows depth form p.net p.instances later asked_steps later_paid)
        (base_same q.bases h.stand h.depth) (entered later lists later_paid pays))
