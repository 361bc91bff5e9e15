-- A call that was asked is that of a statement of the plan.
use Rattle.wdl_base.specs.declared.place.Segment.{Segment}
use Rattle.wdl_base.specs.declared.place.Segment.TheVariants as segment
use Rattle.std.proofs.Common.{◌≡◌, ◌<◌, ◌+◌, ℕ, Bool, true, false, List, [], ◌∷◌, ◌++◌, All, map, length, get_or, Option, Some, None, slice_get, arith, ap, refl, subst, sym, ◌∙◌}
use Rattle.std.proofs.lemmas.Bool.{true≢false}
use Rattle.std.proofs.lemmas.Option.{slice_get_within, same_Some}
use Rattle.wdl_value.specs.declared.env.Bind.{Bind}
use Rattle.wdl_value.specs.Tables.{Row}
use Rattle.wdl_typed.specs.declared.flow.Statement.{Statement, Statement-F, out-Statement}
use Rattle.wdl_typed.specs.declared.flow.Statement.TheOpen as layer
use Rattle.wdl_typed.specs.declared.flow.Statement.TheVariants as stmt
use Rattle.wdl_typed.specs.declared.flow.TCall.{TCall}
use Rattle.wdl_typed.specs.declared.flow.Target.{Target}
use Rattle.wdl_typed.specs.Bodies.{Library, signature}
use Rattle.wdl_typed.specs.Declarations.{task_typed}
use Rattle.wdl_typed.specs.Flow.{Names, signature_keys}
use Rattle.wdl_task.specs.Readiness.{are_given}
use Rattle.value_net.specs.Nets.{value_at, view_of}
use Rattle.net_laws.specs.Cost.{TaskCost}
use Rattle.net_laws.specs.Growing as net
use Rattle.net_laws.specs.Growing.{Form, copies, declares, does, ends, gathers, mark_cell, slot_cell}
use Rattle.net_laws.specs.Moving.{at_step}
use Rattle.net_laws.specs.Net.{Given, Work}
use Rattle.net_laws.specs.Planned.{call_names}
use Rattle.plan_moves.specs.Sheets.{Grown, Sheet, rules_of, state_of}
use Rattle.plan_moves.specs.Telling.{HasOutputs}
use Rattle.plan_layout.specs.declared.layout.BodyLayout.{BodyLayout}
use Rattle.plan_layout.specs.declared.layout.Layout.{Layout}
use Rattle.plan_layout.specs.declared.layout.StatementLayout.{StatementLayout}
use Rattle.plan_layout.specs.Laid as laid
use Rattle.plan_layout.specs.Laid.{Laid, Stand, given_at, laid_call, laid_decl, laid_if, laid_next, laid_none, laid_scatter, laid_whole}
use Rattle.plan_layout.specs.Sees.{Sees}
use Rattle.plan_room.specs.Room.{HasRuns}
use Rattle.plan_ready.specs.Ready.{IsCallReady, IsLayerReady, IsRuleReady}
use Rattle.plan_ready.proofs.Steps as ready
use Rattle.plan_growth.specs.declared.instance.Instance.{Instance}
use Rattle.plan_growth.specs.declared.rule.Rule.{Rule}
use Rattle.plan_growth.specs.declared.rule.Rule.TheVariants as rule
use Rattle.plan_growth.specs.Begun.{IsFree, base_at, given_by}
use Rattle.plan_growth.specs.Blocks.{with_ended}
use Rattle.plan_growth.specs.Entering.{Sown}
use Rattle.plan_growth.specs.Growth.{AskedCall, IsAsker, IsGrowing, sheet_of}
use Rattle.plan_growth.specs.Meaning.{Fits, Means, MeansStatement, rule_cells}
use Rattle.plan_growth.proofs.Ended as ended
use Rattle.plan_growth.proofs.Ended.{AreNamed, tells_named}
use Rattle.plan_may.specs.May.{HasInputs, last_base}
use Rattle.plan_may.proofs.Statements.{LineLaid, last_base_at, line_laid, runs_of, task_keys}
use Rattle.plan_arrives.specs.Arrivals.{SetsCells}
use Rattle.plan_arrives.specs.Concluding.{CallsConclude, Concludes}
use Rattle.wdl_base.proofs.Options.{item_there}

-- ---- what a rule is

abbrev is_does : net.Rule → Bool
is_does (does x s g d) = true
is_does (declares name e s c) = false
is_does (gathers parts c) = false
is_does (ends parts c) = false
is_does (copies from c) = false

abbrev rule_layer : net.Rule → Option (Statement-F Statement)
rule_layer (does x s g d) = Some (out-Statement x)
rule_layer (declares name e s c) = None
rule_layer (gathers parts c) = None
rule_layer (ends parts c) = None
rule_layer (copies from c) = None

abbrev rule_statement : net.Rule → Option Statement
rule_statement (does x s g d) = Some x
rule_statement (declares name e s c) = None
rule_statement (gathers parts c) = None
rule_statement (ends parts c) = None
rule_statement (copies from c) = None

abbrev rule_place : net.Rule → Option (List Segment)
rule_place (does x s g d) = Some s.place
rule_place (declares name e s c) = None
rule_place (gathers parts c) = None
rule_place (ends parts c) = None
rule_place (copies from c) = None

abbrev rule_given : net.Rule → Option Given
rule_given (does x s g d) = Some g
rule_given (declares name e s c) = None
rule_given (gathers parts c) = None
rule_given (ends parts c) = None
rule_given (copies from c) = None

abbrev rule_done : net.Rule → Option ℕ
rule_done (does x s g d) = Some d
rule_done (declares name e s c) = None
rule_done (gathers parts c) = None
rule_done (ends parts c) = None
rule_done (copies from c) = None

-- ---- the slots of a call

module _ (lib : Library) (flow : ℕ) (root : List Statement) (bodies : List BodyLayout) where
  abbrev DoneIs : Stand → StatementLayout → Statement-F Statement → Type 0
  DoneIs a l (layer.Decl x) = Unit {0}
  DoneIs a l (layer.Call x) = l.done ≡ a.next_call
  DoneIs a l (layer.Scatter x) = Unit {0}
  DoneIs a l (layer.If x) = Unit {0}

  abbrev Says : laid.Form → Type 0
  Says (laid.one x a l) = DoneIs a l (out-Statement x)
  Says (laid.all ss a ls) = Unit {0}
  Says (laid.whole ss names calls path before after b) = Unit {0}

  says : {f : laid.Form} → Laid (Sees lib) lib flow root bodies f → Says f
  says (laid_decl x a l slots needs) = subst (DoneIs a l) (sym (stmt.outs-Decl x)) tt
  says (laid_call x a l slots needs) = subst (DoneIs a l) (sym (stmt.outs-Call x)) slots.done_is
  says (laid_scatter x a l b slots needs there p) = subst (DoneIs a l) (sym (stmt.outs-Scatter x)) tt
  says (laid_if x a l b slots needs there p) = subst (DoneIs a l) (sym (stmt.outs-If x)) tt
  says (laid_none a) = tt
  says (laid_next x xs a l ls sees p q) = tt
  says (laid_whole ss names calls path before after b runs p) = tt

  call_done : (x : Statement) (c : TCall) (a : Stand) (l : StatementLayout) → out-Statement x ≡ layer.Call c → Laid (Sees lib) lib flow root bodies (laid.one x a l) → l.done ≡ a.next_call
  call_done x c a l e p = subst (DoneIs a l) e (says p)

-- ---- a call that was asked

module _ (lib : Library) (layout : Layout) (site : List ℕ) (rows : List Row) (depth : ℕ) (form : Form) (v : Sown) (is : List Instance) (listed : Work) (asked : List AskedCall) (paid : TaskCost → ℕ)
    (inputs : HasInputs lib form) (growing : IsGrowing lib layout site rows depth form v is listed asked paid) (c : AskedCall) (q : IsAsker lib layout site rows growing.growth c) where
  abbrev rules : List net.Rule
  rules = growing.growth.rules

  abbrev owners : List ℕ
  owners = growing.growth.owners

  abbrev sheet : Sheet
  sheet = sheet_of v rules

  abbrev t : ℕ
  t = c.step

  abbrev x : TCall
  x = q.call

  abbrev m : net.Rule
  m = does (stmt.Call x) q.scope q.given q.done

  abbrev Goal : Type 0
  Goal = Concludes lib layout site rows depth form v is listed asked paid growing c q

  -- ---- its task

  abbrev Ready : Form → Type 0
  Ready f = (p : Grown lib site rows sheet owners depth f) → 0 < at_step lib site rows (rules_of sheet) (state_of sheet owners) t 1 p → HasInputs lib f → IsRuleReady lib (value_at v.values) m

  rule_ready : IsRuleReady lib (value_at v.values) m
  rule_ready =
      let root = growing.root in
      let once = q.once 1 in
      subst Ready (sym root.is)
      (λ p some given. ready.steps lib root.main root.checked site rows (slice_get rules) (state_of sheet owners) depth root.number root.flow root.found root.given given root.place root.names root.dones p t m q.rule some)
      growing.growth.grown (omega (arith, once)) inputs

  call_ready : IsCallReady lib (value_at v.values) q.scope x
  call_ready = subst (λ (y : Statement-F Statement). IsLayerReady lib (value_at v.values) y q.scope) (stmt.outs-Call x) rule_ready

  task_ready : (task_typed lib.structs c.task ≡ true) × (are_given lib.structs c.task.inputs c.args ≡ true)
  task_ready =
      let z = q.calls_task in
      call_ready.tasks z.slots z.marks z.needs q.names_set c.args z.met.met z.number c.task z.is z.found

  -- ---- its statement

  module _ (i k : ℕ) (needs : List ℕ) (code : slice_get v.rules t ≡ Some (rule.Statement i k)) (means : MeansStatement lib layout is (length v.values) i k needs m) where
    abbrev a : Stand
    a = means.stand

    abbrev l : StatementLayout
    l = means.line

    abbrev bases : List ℕ
    bases = means.instance.bases

    abbrev n : Names
    n = call_names lib x

    is_call : out-Statement means.statement ≡ layer.Call x
    is_call = same_Some _ _ (sym (ap rule_layer means.means) ∙ ap (λ (y : Statement-F Statement). Some y) (stmt.outs-Call x))

    statement_is : means.statement ≡ stmt.Call x
    statement_is = sym (same_Some _ _ (ap rule_statement means.means))

    place_is : c.place ≡ means.instance.place ++ segment.Call x.name ∷ []
    place_is = q.place ∙ ap (λ (p : List Segment). p ++ segment.Call x.name ∷ []) (same_Some _ _ (ap rule_place means.means))

    given_is : q.given ≡ given_by bases a n
    given_is = same_Some _ _ (ap rule_given means.means) ∙ ap (λ (y : Statement-F Statement). given_by bases a (given_at lib y)) is_call

    done_is : q.done ≡ base_at bases a + l.done
    done_is = same_Some _ _ (ap rule_done means.means)

    line_here : LineLaid lib a l (layer.Call x)
    line_here = subst (LineLaid lib a l) is_call (line_laid lib means.body.flow means.flow.body layout.bodies means.statement a l means.laid)

    done_last : l.done ≡ a.next_call
    done_last = call_done lib means.body.flow means.flow.body layout.bodies means.statement x a l is_call means.laid

    fits : Fits n a
    fits = subst (λ (y : Statement-F Statement). Fits (given_at lib y) a) is_call means.fits

    base_is : last_base bases ≡ base_at bases a
    base_is = last_base_at bases (length a.path) means.depth

    free : All (IsFree sheet owners t) (rule_cells (does (stmt.Call x) q.scope (given_by bases a n) (base_at bases a + l.done)))
    free =
        subst (λ (g : Given). All (IsFree sheet owners t) (rule_cells (does (stmt.Call x) q.scope g (base_at bases a + l.done)))) given_is
        (subst (λ (d : ℕ). All (IsFree sheet owners t) (rule_cells (does (stmt.Call x) q.scope q.given d))) done_is q.free)

    runs : HasRuns (length v.values) (last_base bases) l
    runs =
        subst (λ (b : ℕ). HasRuns (length v.values) b l) (sym base_is)
        (runs_of bases a l n (length v.values) l.done line_here.slots (λ j d lt. slice_get_within v.values (get_or (map slot_cell (given_by bases a n).names ++ (map mark_cell (given_by bases a n).calls ++ (base_at bases a + l.done) ∷ [])) j d) None (free j d lt).1))

    names : l.names ≡ length c.task.outputs
    names =
        line_here.slots.names ∙ ap (λ (g : Target). length (signature_keys x.name (signature lib g))) q.calls_task.is ∙ task_keys lib x.name q.calls_task.number c.task q.calls_task.found

    abbrev Ends : ℕ → List Bind → Type 0
    Ends b outs = (let w : Sown = with_ended (b + l.first_name) (b + l.done) outs v in SetsCells v owners t w × HasOutputs (sheet_of w rules) x q.given outs)

    ends_here : (outs : List Bind) → AreNamed c.task.outputs outs → Ends (base_at bases a) outs
    ends_here outs named =
        let z = q.calls_task in
        let values = ended.values_now lib v rules owners t bases q.scope a l x line_here.slots.first_name done_last fits free z.number z.is c.task z.found outs named in
        let w : Sown = view_of values v.rules v.steps in
        let sets : SetsCells v owners t w =
        record {
          rules = refl;
          steps = refl;
          cells = ended.as_long lib v rules owners t bases q.scope a l x line_here.slots.first_name done_last fits free z.number z.is c.task z.found outs named;
          others = ended.other_owner lib v rules owners t bases q.scope a l x line_here.slots.first_name done_last fits free z.number z.is c.task z.found outs named;
          kept = ended.values_keep lib v rules owners t bases q.scope a l x line_here.slots.first_name done_last fits free z.number z.is c.task z.found outs named;
        } in
        let has : HasOutputs (sheet_of w rules) x q.given outs =
        subst (λ (g : Given). HasOutputs (sheet_of w rules) x g outs) (sym given_is)
        (ended.has_outputs lib v rules owners t bases q.scope a l x line_here.slots.first_name done_last fits free z.number z.is c.task z.found outs named) in
        subst (λ (u : Sown). SetsCells v owners t u × HasOutputs (sheet_of u rules) x q.given outs)
        (sym (ended.net_now lib v rules owners t bases q.scope a l x line_here.slots.first_name done_last fits free z.number z.is c.task z.found outs named)) (sets, has)

    concludes : Goal
    concludes =
        let deep = means.depth in
        record {
          i = i;
          k = k;
          code = code;
          instance = means.instance;
          body = means.body;
          flow = means.flow;
          of_instance = means.of_instance;
          line = l;
          line_there = means.line_there;
          statement = means.statement;
          statement_there = means.statement_there;
          some = omega (arith, deep);
          statement_is = statement_is;
          is_call = is_call;
          place = place_is;
          number = q.calls_task.number;
          target_is = q.calls_task.is;
          task_there = q.calls_task.found;
          typed = task_ready.0;
          given_fit = task_ready.1;
          names = names;
          runs = runs;
          ends = λ b dir answer outs e. subst (λ (z : ℕ). Ends z outs) (sym base_is) (ends_here outs (tells_named lib.structs c.task b dir answer outs e));
        }

  not_does : {A : Type 0} (z : net.Rule) → is_does z ≡ false → m ≡ z → A
  not_does z n e = absurd (true≢false (ap is_does e ∙ n))

  by_rule : (r : Rule) (needs : List ℕ) → slice_get v.rules t ≡ Some r → Means lib layout is (length v.values) r needs m → Goal
  by_rule (rule.Statement i k) needs code means = concludes i k needs code means
  by_rule (rule.Input i k) needs code means = not_does _ refl means.declared.means
  by_rule (rule.Output i k) needs code means = not_does _ refl means.declared.means
  by_rule (rule.Gathers d) needs code means = not_does _ refl means
  by_rule (rule.Ends d) needs code means = not_does _ refl means
  by_rule (rule.Copies d) needs code means = not_does _ refl means.2

  conclude_it : Goal
  conclude_it =
      let lt = slice_get_within rules t m q.rule in
      let even = growing.even.rules_too in
      let codes = growing.even.codes in
      let w = item_there v.steps t (omega (arith, lt, even)) in
      let r = item_there v.rules t (omega (arith, lt, even, codes)) in
      by_rule r.0 w.0.needs r.1 (growing.stands t r.0 w.0 m r.1 w.1 q.rule).means

pub conclude : CallsConclude
conclude lib layout site rows depth form v is listed asked paid inputs growing c q = conclude_it lib layout site rows depth form v is listed asked paid inputs growing c q
