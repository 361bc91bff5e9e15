-- What the step of a statement may do.
use Rattle.std.proofs.Common.{◌≡◌, ◌<◌, ◌-◌, ◌+◌, ℕ, true, List, [], ◌∷◌, ◌++◌, All, Option, Some, None, option_and_then, get_or, length, map, slice_get, arith, ap, refl, subst, sym, ◌∙◌}
use Rattle.std.proofs.lemmas.List.Elements.{All-cons, All-head}
use Rattle.wdl_base.specs.declared.name.Key.{Key}
use Rattle.wdl_base.specs.declared.place.Segment.TheVariants as segment
use Rattle.wdl_value.specs.declared.env.Bind.{Bind}
use Rattle.wdl_value.specs.declared.value.Value.{Value}
use Rattle.wdl_typed.specs.declared.expr.TExpr.{TExpr}
use Rattle.wdl_typed.specs.declared.flow.FlowDef.{FlowDef}
use Rattle.wdl_typed.specs.declared.flow.Statement.{Statement, Statement-F, out-Statement}
use Rattle.wdl_typed.specs.declared.flow.Statement.TheOpen as layer
use Rattle.wdl_typed.specs.declared.flow.Statement.TheVariants as stmt
use Rattle.wdl_typed.specs.declared.flow.TCall.{TCall}
use Rattle.wdl_typed.specs.declared.flow.Target.{Target}
use Rattle.wdl_typed.specs.declared.flow.Target.TheVariants as target
use Rattle.wdl_typed.specs.declared.task.TaskDef.{TaskDef}
use Rattle.wdl_typed.specs.Bodies.{Library, Signature, flow_signature, signature, task_signature}
use Rattle.wdl_typed.specs.Declarations.{task_typed}
use Rattle.wdl_typed.specs.Flow.{Names, signature_keys}
use Rattle.wdl_typed.specs.Scope.{names_of}
use Rattle.wdl_eval.specs.Ready.{IsReady}
use Rattle.wdl_task.specs.Readiness.{are_given}
use Rattle.value_net.specs.Nets.{are_set, value_at}
use Rattle.net_laws.specs.Growing as net
use Rattle.net_laws.specs.Growing.{mark_cell, slot_cell}
use Rattle.net_laws.specs.Net.{Resolved, Scope, Slot, Work}
use Rattle.net_laws.specs.Planned.{CallNeeds}
use Rattle.net_laws.specs.Rules.{Needs, arg_keys}
use Rattle.net_laws.proofs.Sets.{slots_set}
use Rattle.plan_layout.specs.declared.layout.BodyLayout.{BodyLayout}
use Rattle.plan_layout.specs.declared.layout.Layout.{Layout}
use Rattle.plan_layout.specs.declared.layout.Need.{Need}
use Rattle.plan_layout.specs.declared.layout.StatementLayout.{StatementLayout}
use Rattle.plan_layout.specs.Cells.{cell_at, marks_at, slots_at}
use Rattle.plan_layout.specs.Laid as laid
use Rattle.plan_layout.specs.Laid.{HasNeeds, HasSlots, IsLayout, Laid, Stand, given_at, laid_call, laid_decl, laid_if, laid_scatter}
use Rattle.plan_layout.specs.Sees.{AllSeen, Sees, after_at, keys_at}
use Rattle.plan_layout.specs.Spots.{needs_of, plain_keys}
use Rattle.plan_layout.proofs.Needed.{needs_all, needs_resolved}
use Rattle.plan_room.specs.Laws.{BlockFits}
use Rattle.plan_room.specs.Reached.{AreReached, IsReached}
use Rattle.plan_room.specs.Room.{HasRuns}
use Rattle.plan_room.proofs.Needs.{all_needed, none_all}
use Rattle.plan_room.proofs.Rooms as rooms
use Rattle.plan_ready.specs.Ready.{IsCallReady, IsExprReady, IsLayerReady}
use Rattle.plan_growth.specs.declared.instance.Instance.{Instance}
use Rattle.plan_growth.specs.Begun.{base_at, given_by, scope_at}
use Rattle.plan_growth.specs.Entering.{cells_of}
use Rattle.plan_growth.specs.Growth.{AskedCall}
use Rattle.plan_growth.specs.Meaning.{AreThere}
use Rattle.plan_growth.proofs.FlowCalls.{output_keys_count}
use Rattle.plan_growth.proofs.Heads.{needs_set}
use Rattle.plan_growth.proofs.Outer.{all_left, all_right, calls_at, names_at}
use Rattle.plan_growth.proofs.Seen.{marks_all, marks_resolved}
use Rattle.plan_lists.specs.Lists.{jobs_in}
use Rattle.plan_may.specs.May.{IsApart, at_place, MayAsk, MayCall, MayEnter, MayLayer, MayRun, last_base, own_env}

-- ---- names that are there

pub are_reached : (bases : List ℕ) (n : ℕ) (ns : List Need) → AreThere bases n ns → AreReached n bases ns
are_reached bases n [] h = none_all _
are_reached bases n (s ∷ ss) h = All-cons (IsReached n bases) s ss (record { level = h.0; cell = h.1 }) (are_reached bases n ss h.2)

pub needs_reached : (bases : List ℕ) (n : ℕ) (seen : List Need) (keys : List Key) (needs : List Need) → needs ≡ needs_of seen keys → AreThere bases n seen → AreReached n bases needs
needs_reached bases n seen keys needs e h = subst (AreReached n bases) (sym e) (all_needed (IsReached n bases) seen keys (are_reached bases n seen h))

pub last_base_at : (bases : List ℕ) (level : ℕ) → length bases ≡ level + 1 → last_base bases ≡ get_or bases level 0
last_base_at bases level e = let same : length bases - 1 ≡ level = omega (arith, e) in ap (λ (k : ℕ). get_or bases k 0) same

-- ---- what a line's layout tells

-- the slots of a statement and its needs, by what it is
pub record LineLaid (lib : Library) (a : Stand) (l : StatementLayout) (y : Statement-F Statement) : Type 0 where
  pub slots : HasSlots (given_at lib y) a l.done l
  pub needs : HasNeeds a (keys_at y) (after_at y) l

slots_here : (n : Names) (a : Stand) (done : ℕ) (l : StatementLayout) → HasSlots n a done l → HasSlots n a l.done l
slots_here n a done l h = record { first_name = h.first_name; names = h.names; first_call = h.first_call; calls = h.calls; done_is = refl }

module _ (lib : Library) (flow : ℕ) (root : List Statement) (bodies : List BodyLayout) where
  abbrev Says : laid.Form → Type 0
  Says (laid.one x a l) = LineLaid lib a l (out-Statement x)
  Says (laid.all ss a ls) = Unit {0}
  Says (laid.whole ss names calls path before after b) = Unit {0}

  says : {f : laid.Form} → Laid (Sees lib) lib flow root bodies f → Says f
  says (laid_decl x a l slots needs) = subst (LineLaid lib a l) (sym (stmt.outs-Decl x)) (record { slots = slots_here _ a _ l slots; needs = needs })
  says (laid_call x a l slots needs) = subst (LineLaid lib a l) (sym (stmt.outs-Call x)) (record { slots = slots_here _ a _ l slots; needs = needs })
  says (laid_scatter x a l b slots needs there p) = subst (LineLaid lib a l) (sym (stmt.outs-Scatter x)) (record { slots = slots_here _ a _ l slots; needs = needs })
  says (laid_if x a l b slots needs there p) = subst (LineLaid lib a l) (sym (stmt.outs-If x)) (record { slots = slots_here _ a _ l slots; needs = needs })
  says (laid.laid_none a) = tt
  says (laid.laid_next x xs a l ls sees p q) = tt
  says (laid.laid_whole ss names calls path before after b runs p) = tt

  pub line_laid : (x : Statement) (a : Stand) (l : StatementLayout) → Laid (Sees lib) lib flow root bodies (laid.one x a l) → LineLaid lib a l (out-Statement x)
  line_laid x a l p = says p

-- ---- the step's own cells

module _ (bases : List ℕ) (a : Stand) (l : StatementLayout) (n : Names) (count done : ℕ) (slots : HasSlots n a done l)
    (free : All (λ (c : ℕ). c < count) (map slot_cell (given_by bases a n).names ++ (map mark_cell (given_by bases a n).calls ++ (base_at bases a + l.done) ∷ []))) where
  abbrev Below : ℕ → Type 0
  Below c = c < count

  abbrev behind : List ℕ
  behind = map mark_cell (given_by bases a n).calls ++ (base_at bases a + l.done) ∷ []

  later : All Below behind
  later = all_right Below (map slot_cell (given_by bases a n).names) behind free

  pub runs_of : HasRuns count (base_at bases a) l
  runs_of =
      let e = slots.names in
      let f = slots.first_name in
      let g = slots.calls in
      let h = slots.first_call in
      record {
        names = λ some.
            let at = names_at Below bases (length a.path) a.next_name n.keys (all_left Below (map slot_cell (given_by bases a n).names) behind free) (length n.keys - 1) (omega (arith, some, e)) in
            omega (arith, at, e, f, some);
        calls = λ some.
            let at = calls_at Below bases (length a.path) a.next_call n.calls (all_left Below (map mark_cell (given_by bases a n).calls) ((base_at bases a + l.done) ∷ []) later) (length n.calls - 1) (omega (arith, some, g)) in
            omega (arith, at, g, h, some);
        done = All-head Below (base_at bases a + l.done) [] (all_right Below (map mark_cell (given_by bases a n).calls) ((base_at bases a + l.done) ∷ []) later);
      }

-- ---- what may be evaluated

needs_at : (bases : List ℕ) (seen : List Need) (s : Scope) → s.names ≡ slots_at bases seen → (keys : List Key) (needs : List Need) → needs ≡ needs_of seen keys → AllSeen seen keys → Needs s keys (slots_at bases needs)
needs_at bases seen s e keys needs is all =
    subst (λ (ns : List Need). Needs s keys (slots_at bases ns)) (sym is)
    (record { resolved = subst (λ (ns : List Slot). Resolved ns (slots_at bases (needs_of seen keys))) (sym e) (needs_resolved bases seen keys); all = needs_all bases seen keys all })

-- An expression may be evaluated over its needs, which are set.
pub expr_may : (lib : Library) (values : List (Option Value)) (bases : List ℕ) (seen : List Need) (s : Scope) → s.names ≡ slots_at bases seen → (e : TExpr) (needs : List Need) → needs ≡ needs_of seen (names_of e)
    → AllSeen seen (names_of e) → (more : List ℕ) → are_set values (map (cell_at bases) needs ++ more) ≡ true → IsExprReady lib (value_at values) s e → IsReady e (own_env values bases needs)
expr_may lib values bases seen s same e needs is all more set ready =
    ready (slots_at bases needs) (needs_at bases seen s same (names_of e) needs is all) (needs_set values bases needs more set)

-- ---- what is called

pub task_keys : (lib : Library) (call : List ℕ) (k : ℕ) (t : TaskDef) → slice_get lib.tasks k ≡ Some t → length (signature_keys call (signature lib (target.Task k))) ≡ length t.outputs
task_keys lib call k t e =
    ap (λ (o : Option TaskDef). length (signature_keys call (option_and_then (λ (g : TaskDef). Some (task_signature g)) o))) e ∙ output_keys_count call t.outputs

flow_keys : (lib : Library) (call : List ℕ) (k : ℕ) (f : FlowDef) → slice_get lib.flows k ≡ Some f → length (signature_keys call (signature lib (target.Flow k))) ≡ length f.outputs
flow_keys lib call k f e =
    ap (λ (o : Option FlowDef). length (signature_keys call (option_and_then (λ (g : FlowDef). Some (flow_signature g)) o))) e ∙ output_keys_count call f.outputs

module _ (lib : Library) (layout : Layout) (all_laid : IsLayout (Sees lib) lib layout) (values : List (Option Value)) (rules : List net.Rule) (listed : Work) (asked : List AskedCall) (l : StatementLayout) (call : List ℕ) (given : List Bind) where
  task_may : (k : ℕ) (sig : Signature) → signature lib (target.Task k) ≡ Some sig → l.names ≡ length (signature_keys call (signature lib (target.Task k)))
      → ((t : TaskDef) → slice_get lib.tasks k ≡ Some t → (task_typed lib.structs t ≡ true) × (are_given lib.structs t.inputs given ≡ true)) → MayAsk lib l k given
  task_may k sig there names kept = by_task (slice_get lib.tasks k) refl there
    where
      by_task : (o : Option TaskDef) → slice_get lib.tasks k ≡ o → option_and_then (λ (g : TaskDef). Some (task_signature g)) o ≡ Some sig → MayAsk lib l k given
      by_task None e h = absurd (let f : ⊥ = cc in f)
      by_task (Some t) e h =
          let p = kept t e in
          record { task = t; there = e; kept = record { structs = lib.structs; typed = p.0; fit = p.1 }; names = names ∙ task_keys lib call k t e }

  flow_may : (k : ℕ) (sig : Signature) → signature lib (target.Flow k) ≡ Some sig → l.names ≡ length (signature_keys call (signature lib (target.Flow k))) → MayEnter lib layout values l k
  flow_may k sig there names = by_flow (slice_get lib.flows k) refl there
    where
      by_flow : (o : Option FlowDef) → slice_get lib.flows k ≡ o → option_and_then (λ (g : FlowDef). Some (flow_signature g)) o ≡ Some sig → MayEnter lib layout values l k
      by_flow None e h = absurd (let f : ⊥ = cc in f)
      by_flow (Some f) e h =
          let q = all_laid.flows k f e in
          let count = names ∙ flow_keys lib call k f e in
          record {
            flow = f;
            there = e;
            laid = q.layout;
            laid_there = q.there;
            body = q.laid.body;
            body_there = q.laid.there;
            room = (rooms.flows lib layout.bodies k f q.layout q.laid (length values)).0;
            names = omega (arith, count);
          }

  run_may : (g : Target) (sig : Signature) → signature lib g ≡ Some sig → l.names ≡ length (signature_keys call (signature lib g))
      → ((k : ℕ) (t : TaskDef) → g ≡ target.Task k → slice_get lib.tasks k ≡ Some t → (task_typed lib.structs t ≡ true) × (are_given lib.structs t.inputs given ≡ true)) → MayRun lib layout values rules listed asked l g given
  run_may (target.Task k) sig there names kept = task_may k sig there names (λ t e. kept k t refl e)
  run_may (target.Flow k) sig there names kept = flow_may k sig there names

-- ---- the step of a statement

module _ (lib : Library) (layout : Layout) (all_laid : IsLayout (Sees lib) lib layout) (values : List (Option Value)) (rules : List net.Rule) (listed : Work) (asked : List AskedCall) (instance : Instance) (flow : ℕ) (root : List Statement)
    (x : Statement) (a : Stand) (l : StatementLayout) (lay : Laid (Sees lib) lib flow root layout.bodies (laid.one x a l)) (sees : Sees lib x a) (deep : length instance.bases ≡ length a.path + 1)
    (names : AreThere instance.bases (length values) a.names) (calls : AreThere instance.bases (length values) a.calls) (ready : are_set values (cells_of instance.bases l.needs l.after) ≡ true) where
  abbrev bases : List ℕ
  bases = instance.bases

  abbrev scope : Scope
  scope = scope_at bases a instance.place

  abbrev Free : Type 0
  Free = All (λ (c : ℕ). c < length values) (map slot_cell (given_by bases a (given_at lib (out-Statement x))).names ++ (map mark_cell (given_by bases a (given_at lib (out-Statement x))).calls ++ (base_at bases a + l.done) ∷ []))

  abbrev line : LineLaid lib a l (out-Statement x)
  line = line_laid lib flow root layout.bodies x a l lay

  pub reached : AreReached (length values) bases l.needs
  reached = needs_reached bases (length values) a.names (keys_at (out-Statement x)) l.needs line.needs.needs names

  pub runs : Free → HasRuns (length values) (last_base bases) l
  runs free =
      subst (λ (c : ℕ). HasRuns (length values) c l) (sym (last_base_at bases (length a.path) deep)) (runs_of bases a l (given_at lib (out-Statement x)) (length values) l.done line.slots free)

  abbrev Blocks : Statement-F Statement → Type 0
  Blocks (layer.Decl y) = Unit {0}
  Blocks (layer.Call y) = Unit {0}
  Blocks (layer.Scatter y) = BlockFits layout.bodies (length values) bases l 1
  Blocks (layer.If y) = BlockFits layout.bodies (length values) bases l 0

  blocks : Blocks (out-Statement x)
  blocks = rooms.block_of (Sees lib) lib flow root layout.bodies lay (length values) bases deep (are_reached bases (length values) a.names names) (are_reached bases (length values) a.calls calls)

  expr_here : (e : TExpr) → HasNeeds a (names_of e) [] l → AllSeen a.names (names_of e) → IsExprReady lib (value_at values) scope e → IsReady e (own_env values bases l.needs)
  expr_here e needs all can = expr_may lib values bases a.names scope refl e l.needs needs.needs all (map (cell_at bases) l.after) ready can

  call_needs : (y : TCall) → HasNeeds a (arg_keys y.args) y.after l → AllSeen a.names (arg_keys y.args) → AllSeen a.calls (plain_keys y.after)
      → CallNeeds scope y (slots_at bases l.needs) (marks_at bases (needs_of a.calls (plain_keys y.after)))
  call_needs y needs all after =
      record {
        names = needs_at bases a.names scope refl (arg_keys y.args) l.needs needs.needs all;
        calls = marks_resolved bases a.calls sees.plain.0 sees.plain.1 y.after;
        after = marks_all bases a.calls y.after after;
      }

  set : slots_set (value_at values) (slots_at bases l.needs) ≡ true
  set = needs_set values bases l.needs (map (cell_at bases) l.after) ready

  call_may : (y : TCall) → LineLaid lib a l (layer.Call y) → AllSeen a.names (arg_keys y.args) → AllSeen a.calls (plain_keys y.after) → IsCallReady lib (value_at values) scope y
      → IsApart lib layout values rules listed asked (instance.place ++ segment.Call y.name ∷ []) → jobs_in listed (at_place (instance.place ++ segment.Call y.name ∷ [])) ≡ 0 → MayCall lib layout values rules listed asked instance l y
  call_may y here all after can apart new =
      let needs = call_needs y here.needs all after in
      let marks = marks_at bases (needs_of a.calls (plain_keys y.after)) in
      record {
        args = can.args (slots_at bases l.needs) marks needs set;
        run = λ given met.
            run_may lib layout all_laid values rules listed asked l y.name given y.target can.there.0 can.there.1 here.slots.names (can.tasks (slots_at bases l.needs) marks needs set given met);
        apart = apart;
        new = new;
      }

  by_layer : (y : Statement-F Statement) → LineLaid lib a l y → AllSeen a.names (keys_at y) → AllSeen a.calls (plain_keys (after_at y)) → Blocks y → IsLayerReady lib (value_at values) y scope
      → HasRuns (length values) (last_base bases) l → ((z : TCall) → y ≡ layer.Call z → IsApart lib layout values rules listed asked (instance.place ++ segment.Call z.name ∷ []) × (jobs_in listed (at_place (instance.place ++ segment.Call z.name ∷ [])) ≡ 0)) → MayLayer lib layout values rules listed asked instance l y
  by_layer (layer.Decl y) here all after block can run apart =
      let names_are = here.slots.names in
      let some : 0 < l.names = omega (arith, names_are) in
      let within = run.names some in
      (omega (arith, names_are, within), expr_here y.value here.needs all can)
  by_layer (layer.Call y) here all after block can run apart = let p = apart y refl in call_may y here all after can p.0 p.1
  by_layer (layer.Scatter y) here all after block can run apart =
      let cells = block.cells in
      record { inner = block.inner; there = block.there; some = omega (arith, cells); room = block.room; within = block.within; ready = expr_here y.over here.needs all can }
  by_layer (layer.If y) here all after block can run apart =
      record { inner = block.inner; there = block.there; room = block.room; within = block.within; ready = expr_here y.cond here.needs all can }

  pub layer_may : Free → IsLayerReady lib (value_at values) (out-Statement x) scope
      → ((z : TCall) → out-Statement x ≡ layer.Call z → IsApart lib layout values rules listed asked (instance.place ++ segment.Call z.name ∷ []) × (jobs_in listed (at_place (instance.place ++ segment.Call z.name ∷ [])) ≡ 0)) → MayLayer lib layout values rules listed asked instance l (out-Statement x)
  layer_may free can apart = by_layer (out-Statement x) line sees.names sees.calls blocks can (runs free) apart
