-- The main workflow is entered, and nothing was done.
use Rattle.std.proofs.Common.{zero, suc, ◌≡◌, ◌≤◌, ◌<◌, ◌+◌, ◌^◌, ℕ, Bool, true, false, nat_lt, ◌&&◌, List, [], ◌∷◌, ◌++◌, Option, Some, Result, Ok, Err, drop, get_or, length, slice_get, arith, sym, ap, ◌∙◌, subst, refl}
use Rattle.std.specs.List.{list_all}
use Rattle.std.proofs.lemmas.Bool.{and_from, and_parts, lt-ltb, ltb-true, or_right}
use Rattle.std.proofs.lemmas.Option.{same_Some, slice_get_within}
use Rattle.std.proofs.Math.Seq.{drop-cons}
use Rattle.std.proofs.Math.Bool.{and-false}
use Rattle.wdl_base.specs.declared.fault.Fault.{Fault}
use Rattle.wdl_value.specs.declared.env.Bind.{Bind}
use Rattle.wdl_value.specs.declared.value.Value.{Value}
use Rattle.wdl_typed.specs.declared.checked.Checked.{Checked}
use Rattle.wdl_typed.specs.declared.flow.FlowDef.{FlowDef}
use Rattle.wdl_typed.specs.declared.task.TDecl.{TDecl}
use Rattle.wdl_typed.specs.Bodies.{Library}
use Rattle.wdl_typed.specs.Declarations.{plain_key, task_typed}
use Rattle.wdl_typed.specs.Flow.{bound_by, is_empty, too_many}
use Rattle.wdl_typed.specs.Kept.{count, flow_typed, is_checked, main_is_there}
use Rattle.wdl_typed.specs.Journal.{keys_distinct}
use Rattle.wdl_typed.specs.KnownTypes.{are_structs}
use Rattle.wdl_task.specs.declared.request.Prepared.{Prepared}
use Rattle.flow_soundness.proofs.FlowReady.{fit_are_given}
use Rattle.flow_laws.proofs.Elements.{none_within}
use Rattle.value_net.specs.Nets.{IsSound, empty, value_at, view}
use Rattle.net_laws.specs.Growing.{whole}
use Rattle.net_laws.specs.Net.{Given, find, no_work, slot_keys}
use Rattle.net_laws.specs.Planned.{counted}
use Rattle.plan_layout.specs.declared.layout.BodyLayout.{BodyLayout}
use Rattle.plan_layout.specs.declared.layout.FlowLayout.{FlowLayout}
use Rattle.plan_layout.specs.declared.layout.Layout.{Layout}
use Rattle.plan_layout.specs.Cells.{slots_at}
use Rattle.plan_layout.specs.Laid.{body_seen}
use Rattle.plan_layout.specs.Sees.{with_outputs}
use Rattle.plan_layout.specs.Laws.{FlowsSee}
use Rattle.plan_lists.specs.Lists.{JobTest, Listed}
use Rattle.plan_lists.proofs.Ends.{too_many_now}
use Rattle.plan_room.specs.Room.{HasFlowRoom}
use Rattle.plan_room.proofs.Rooms as rooms
use Rattle.plan_growth.specs.Entering.{Plot, flow_dones, with_flow}
use Rattle.plan_growth.specs.Growth.{IsGrowing, growth_work, sheet_of}
use Rattle.plan_growth.proofs.GoOn.{plans_begin}
use Rattle.plan_ends.proofs.Ends.{listed_too}
use Rattle.plan_steps.specs.Doing.{Asks, State, asks, field, state}
use Rattle.scatter_plan.specs.Holding.{IsHolding, waiting}
use Rattle.plan_steps.specs.declared.fault.PlanFault.{PlanFault}
use Rattle.plan_steps.specs.declared.fault.PlanFault.TheVariants.{TooMany, NoMemory}
use Rattle.plan_steps.specs.declared.growth.Growth.{Growth}
use Rattle.plan_steps.specs.declared.asking.Asking.{Asking}
use Rattle.plan_steps.specs.Askings.{Call, IsAsking, calls}
use Rattle.scatter_plan.specs.Settling.{Began, Begins, Enters, EntersFirst, IsFirstOf, IsMadeOf, Starts, Turned, Turns, bare_asks, env_at, is_over, main_flow, outputs_when}
use Rattle.plan_steps.proofs.Lists.{read_at}
use Rattle.plan_steps.specs.Stepping.{library_in}

-- ---- outputs, one after the other

pub env_start : (values : List (Option Value)) (first : ℕ) (ds : List TDecl) → env_at values (first + 0) (drop 0 ds) ≡ env_at values first ds
env_start values first ds = ap (λ n. env_at values n ds) (omega arith)

pub env_step : (values : List (Option Value)) (first k : ℕ) (ds : List TDecl) (d : TDecl) → k < length ds → d ≡ get_or ds k d
    → env_at values (first + k) (drop k ds) ≡ bound_by (plain_key d.name) (value_at values (first + k)) ++ env_at values (first + (k + 1)) (drop (k + 1) ds)
env_step values first k ds d within e =
    let split : drop k ds ≡ d ∷ drop (suc k) ds = drop-cons ds k d within ∙ ap (λ (x : TDecl). x ∷ drop (suc k) ds) (sym e) in
    let next : first + k + 1 ≡ first + (k + 1) = omega arith in
    let later : suc k ≡ k + 1 = omega arith in
    ap (env_at values (first + k)) split
    ∙ ap (λ n. bound_by (plain_key d.name) (value_at values (first + k)) ++ env_at values n (drop (suc k) ds)) next
    ∙ ap (λ n. bound_by (plain_key d.name) (value_at values (first + k)) ++ env_at values (first + (k + 1)) (drop n ds)) later

-- ---- the main workflow

at_number : (fs : List FlowDef) (k : ℕ) → nat_lt k (length fs) ≡ true → (f : FlowDef) × (slice_get fs k ≡ Some f)
at_number [] k h = absurd (omega (arith, ltb-true k 0 h))
at_number (f ∷ fs) zero h = (f, refl)
at_number (f ∷ fs) (suc k) h = at_number fs k (lt-ltb k (length fs) (omega (arith, ltb-true (suc k) (length (f ∷ fs)) h)))

main_kept : (lib : Library) (main : Option ℕ) → is_checked lib main ≡ true → main_is_there lib.flows main ≡ true
main_kept lib main h =
    let p = and_parts (are_structs lib.structs && list_all (task_typed lib.structs) lib.tasks && list_all (flow_typed lib) lib.flows && main_is_there lib.flows main) (nat_lt (count lib) (2 ^ 32)) h in
    (and_parts (are_structs lib.structs && list_all (task_typed lib.structs) lib.tasks && list_all (flow_typed lib) lib.flows) (main_is_there lib.flows main) p.0).1

-- the main workflow, its layout and its body
pub record Main (c : Checked) (layout : Layout) (main : ℕ) : Type 0 where
  pub flow : FlowDef
  pub there : slice_get c.flows main ≡ Some flow
  pub line : FlowLayout
  pub line_there : slice_get layout.flows main ≡ Some line
  pub body : BodyLayout
  pub body_there : slice_get layout.bodies line.body ≡ Some body
  pub room : (cells : ℕ) → HasFlowRoom cells flow line body

module _ (c : Checked) (layout : Layout) (main : ℕ) (given : List Bind) (made : IsMadeOf c layout main given) where
  pub main_of : Main c layout main
  main_of =
      let f = at_number c.flows main (ap (main_is_there c.flows) (sym made.main_is) ∙ main_kept (library_in c) c.main c.kept) in
      let z = made.laid.flows main f.0 f.1 in
      record {
        flow = f.0;
        there = f.1;
        line = z.layout;
        line_there = z.there;
        body = z.laid.body;
        body_there = z.laid.there;
        room = λ cells. (rooms.flows (library_in c) layout.bodies main f.0 z.layout z.laid cells).0;
      }

  abbrev BeginsAs : (m : Main c layout main) (site : List ℕ) → Type 0
  BeginsAs m site =
      (let p : Plot = with_flow m.flow given [] m.line m.body (record { net = empty; instances = [] }) in
      (g : Given) × IsGrowing (library_in c) layout site [] 24 (whole m.flow given [] g (flow_dones m.flow m.line m.body 0)) p.net p.instances (counted (length m.flow.body) no_work) [] (λ task. 0)
      × (g.names ≡ slots_at (0 ∷ []) (with_outputs (body_seen (library_in c) m.flow) m.flow.outputs)) × (keys_distinct (slot_keys g.names) ≡ true)
      × ((j : ℕ) (d : TDecl) → slice_get m.flow.outputs j ≡ Some d → find g.names (plain_key d.name) ≡ Some (m.line.first_output + j)))

  module _ (see : FlowsSee) (m : Main c layout main) (site : List ℕ) where
    abbrev first_plot : Plot
    first_plot = with_flow m.flow given [] m.line m.body (record { net = empty; instances = [] })

    begun : BeginsAs m site
    begun =
        plans_begin (library_in c) layout site [] made.laid c.main c.kept main m.flow m.there (see (library_in c) c.main c.kept main m.flow m.there) m.line m.line_there m.body m.body_there given 24
        (omega arith)

    abbrev first_state : State
    first_state = record { field = record { plot = first_plot; faults = []; count = length m.flow.body }; asks = bare_asks }

    none_there : {A : Type 0} (k : ℕ) (x : A) → slice_get [] k ≡ Some x → ⊥
    none_there k x e = cc

    first_lists : Listed (counted (length m.flow.body) no_work) (λ (is : JobTest). waiting [] is + 0) [] (length m.flow.body)
    first_lists = record { jobs_are = λ is. refl; faults_are = λ is. refl; count_is = omega arith }

    pub first_holding : length m.flow.body ≤ 1000000 → IsHolding c layout main given site [] first_state
    first_holding few =
        record {
          flow = m.flow;
          there = m.there;
          inputs_given = fit_are_given c.structs m.flow.inputs given (made.fit m.flow m.there);
          names = begun.0;
          dones = flow_dones m.flow m.line m.body 0;
          distinct = begun.3;
          line = m.line;
          line_there = m.line_there;
          outputs = begun.4;
          few_count = few;
          few_jobs = omega arith;
          listed = counted (length m.flow.body) no_work;
          even = refl;
          paid_by = λ task. 0;
          asked = [];
          growing = begun.1;
          answered = λ is. 0;
          lists = first_lists;
          over = λ is. refl;
          jobs = refl;
          awaited = λ k p e. absurd (none_there k p e);
          called = λ j x e. absurd (none_there j x e);
          owes = omega arith;
          rowed = λ r e. absurd (none_within r e);
        }

    pub first_many : 1000000 < length m.flow.body → too_many (main_flow c main given site []) ≡ true
    first_many many =
        let g = begun.1 in
        too_many_now (library_in c) site [] (sheet_of first_plot.net g.growth.rules) g.growth.owners 24 main m.flow m.there given [] begun.0 (flow_dones m.flow m.line m.body 0) g.growth.grown (λ is. 0) [] (length m.flow.body)
        (listed_too (growth_work (library_in c) layout site [] g.growth) (counted (length m.flow.body) no_work) (λ is. 0) [] (length m.flow.body) g.weighs first_lists)
        (or_right (nat_lt 20000 0) (nat_lt 1000000 (length m.flow.body)) (lt-ltb 1000000 (length m.flow.body) many))

    -- the same, of a state that is that one
    pub first_starts : (s : State) → s ≡ first_state → length m.flow.body ≤ 1000000 → Starts c layout main given site s
    unfolding first_holding
    first_starts s e few = subst (Starts c layout main given site) (sym e) (record { holding = first_holding few; paid = omega arith })

    entered_state : (g : Growth) → IsFirstOf m.flow given m.line m.body g → record { field = field g; asks = bare_asks } ≡ first_state
    entered_state g h =
        ap (λ (x : Plot). record { field = record { plot = x; faults = g.faults; count = g.count }; asks = bare_asks }) h.plot_is
        ∙ ap (λ (x : List Fault). record { field = record { plot = first_plot; faults = x; count = g.count }; asks = bare_asks }) h.faults
        ∙ ap (λ n. record { field = record { plot = first_plot; faults = []; count = n }; asks = bare_asks }) h.count

    enters_first : (r : Result Growth PlanFault) → EntersFirst m.flow given m.line m.body r → Enters c layout main given site r
    enters_first (Ok g) h = (h.sound, first_starts (record { field = field g; asks = bare_asks }) (entered_state g h) h.few)
    enters_first (Err TooMany) h = first_many h
    enters_first (Err NoMemory) h = tt

  module _ (f : FlowDef) (l : FlowLayout) (b : BodyLayout) (there : slice_get c.flows main ≡ Some f) (line_there : slice_get layout.flows main ≡ Some l) where
    pub same_flow : f ≡ main_of.flow
    same_flow = same_Some f main_of.flow (sym there ∙ main_of.there)

    pub same_line : l ≡ main_of.line
    same_line = same_Some l main_of.line (sym line_there ∙ main_of.line_there)

    pub body_found : slice_get layout.bodies l.body ≡ Some main_of.body
    body_found = ap (λ (x : FlowLayout). slice_get layout.bodies x.body) same_line ∙ main_of.body_there

    pub body_within : l.body < length layout.bodies
    body_within = slice_get_within layout.bodies l.body main_of.body body_found

    module _ (body_there : slice_get layout.bodies l.body ≡ Some b) where
      same_body : b ≡ main_of.body
      same_body = same_Some b main_of.body (sym body_there ∙ ap (λ (x : FlowLayout). slice_get layout.bodies x.body) same_line ∙ main_of.body_there)

      pub room_there : HasFlowRoom 0 f l b
      room_there =
          subst (λ (x : FlowDef). HasFlowRoom 0 x l b) (sym same_flow)
          (subst (λ (x : FlowLayout). HasFlowRoom 0 main_of.flow x b) (sym same_line) (subst (HasFlowRoom 0 main_of.flow main_of.line) (sym same_body) (main_of.room 0)))

      pub enters_there : FlowsSee → (site : List ℕ) (r : Result Growth PlanFault) → EntersFirst f given l b r → Enters c layout main given site r
      enters_there see site r h =
          enters_first see main_of site r
          (subst (λ (x : FlowDef). EntersFirst x given main_of.line main_of.body r) same_flow
          (subst (λ (x : FlowLayout). EntersFirst f given x main_of.body r) same_line (subst (λ (x : BodyLayout). EntersFirst f given l x r) same_body h)))

-- ---- what is read

pub found_in : {A : Type 0} (all xs : List A) (i : ℕ) (x y : A) → xs ≡ all → slice_get all i ≡ Some x → y ≡ get_or xs i y → slice_get all i ≡ Some y
found_in all xs i x y e there is = subst (λ l. slice_get l i ≡ Some y) e (read_at xs i y y (subst (λ l. i < length l) (sym e) (slice_get_within all i x there)) is)

none_left : {A : Type 0} (xs : List A) → length xs ≤ 0 → is_empty xs ≡ true
none_left [] h = refl
none_left (x ∷ xs) h = absurd (omega (arith, h))

some_left : {A : Type 0} (xs : List A) → 0 < length xs → is_empty xs ≡ false
some_left [] h = absurd (omega (arith, h))
some_left (x ∷ xs) h = refl

pub is_over_if : (s : State) → length s.asks.ready ≤ 0 → length s.field.faults ≤ 0 → is_over s ≡ true
is_over_if s a b = and_from (is_empty s.asks.ready) (is_empty s.field.faults) (none_left s.asks.ready a) (none_left s.field.faults b)

pub waits_still : (s : State) → 0 < length s.asks.ready → is_over s ≡ false
waits_still s a = ap (λ b. b && is_empty s.field.faults) (some_left s.asks.ready a)

pub has_failed : (s : State) → 0 < length s.field.faults → is_over s ≡ false
has_failed s b = ap (λ x. is_empty s.asks.ready && x) (some_left s.field.faults b) ∙ and-false (is_empty s.asks.ready)

pub outputs_shown : (s : State) (values : List (Option Value)) (env : List Bind) (slice : List TDecl) (flow f : FlowDef) (line l : FlowLayout) → env ≡ env_at values line.first_output slice → slice ≡ flow.outputs → flow ≡ f → line ≡ l
    → is_over s ≡ true → Some env ≡ outputs_when (is_over s) values l.first_output f.outputs
outputs_shown s values env slice flow f line l e d a b o =
    ap Some e
    ∙ ap (λ (x : List TDecl). Some (env_at values line.first_output x)) d
    ∙ ap (λ (x : FlowDef). Some (env_at values line.first_output x.outputs)) a
    ∙ ap (λ (x : FlowLayout). Some (env_at values x.first_output f.outputs)) b
    ∙ sym (ap (λ (t : Bool). outputs_when t values l.first_output f.outputs) o)

-- ---- a plan that began

pub asks_bare : (q : Asking) → q.ready.items ≡ [] → calls q ≡ [] → q.jobs ≡ 0 → asks q ≡ bare_asks
asks_bare q a b d =
    ap (λ (r : List Prepared). record { ready = r; calls = calls q; jobs = q.jobs }) a ∙ ap (λ (x : List Call). record { ready = []; calls = x; jobs = q.jobs }) b ∙ ap (λ n. record { ready = []; calls = []; jobs = n }) d

module _ (c : Checked) (layout : Layout) (main : ℕ) (given : List Bind) (site : List ℕ) where
  pub starts_now : (g : Growth) (q : Asking) → asks q ≡ bare_asks → Starts c layout main given site (record { field = field g; asks = bare_asks }) → Starts c layout main given site (state g q)
  starts_now g q e h = subst (λ (a : Asks). Starts c layout main given site (record { field = field g; asks = a })) (sym e) h

  pub began : (s : State) (was : IsHolding c layout main given site [] s) (g : Growth) (q : Asking) (o : Option (List Bind)) (old new : ℕ) → IsSound g.entered.net → IsAsking q
      → Turned c layout main given site [] s was (state g q) old new
      → ((f : FlowDef) (l : FlowLayout) → slice_get c.flows main ≡ Some f → slice_get layout.flows main ≡ Some l → o ≡ outputs_when (is_over (state g q)) (view g.entered.net).values l.first_output f.outputs)
      → Began c layout main given site [] 0 old new (record { growth = g; asking = q; outputs = o })
  began s was g q o old new sound asking t outputs =
      let h = t.settled.holding in
      record {
        over = record { sound = sound; asking = asking; settled = t.settled; outputs = outputs h.flow h.line h.there h.line_there };
        within = omega (arith, t.paid);
      }

  pub begins_past : (A : Type 0) (s : State) (was : IsHolding c layout main given site [] s) (after : State) (old new : ℕ) (e : PlanFault) → Turns c layout main given site [] {A = A} s was after old new (Err e)
      → Begins c layout main given site old new (Err e)
  begins_past A s was after old new TooMany h = h
  begins_past A s was after old new NoMemory h = tt
