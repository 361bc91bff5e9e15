-- Each step of a plan that is ready may be done.
use Rattle.std.proofs.Common.{◌≡◌, ◌<◌, ◌+◌, ℕ, true, false, List, [], ◌∷◌, ◌++◌, All, Some, None, length, slice_get, arith, ap, refl, subst, sym, ◌∙◌}
use Rattle.std.proofs.lemmas.Bool.{true≢false}
use Rattle.std.proofs.lemmas.List.Elements.{All-head}
use Rattle.std.proofs.lemmas.Option.{slice_get_within, same_Some}
use Rattle.wdl_base.specs.declared.place.Segment.TheVariants as segment
use Rattle.wdl_value.specs.Tables.{Row}
use Rattle.wdl_typed.specs.declared.expr.TExpr.{TExpr}
use Rattle.wdl_typed.specs.declared.flow.Statement.{Statement, out-Statement}
use Rattle.wdl_typed.specs.declared.flow.Statement.TheOpen as layer
use Rattle.wdl_typed.specs.declared.flow.Statement.TheVariants as stmt
use Rattle.wdl_typed.specs.declared.flow.TCall.{TCall}
use Rattle.wdl_typed.specs.Bodies.{Library}
use Rattle.wdl_typed.specs.Scope.{names_of}
use Rattle.step_net.specs.Views.{Wants}
use Rattle.value_net.specs.Nets.{are_set, value_at}
use Rattle.flow_laws.proofs.SameRequests.{place_same}
use Rattle.net_laws.specs.Askers.{Asker}
use Rattle.net_laws.specs.Cost.{TaskCost}
use Rattle.net_laws.specs.Growing as net
use Rattle.net_laws.specs.Growing.{Form, copies, declares, does, ends, gathers}
use Rattle.net_laws.specs.Moving.{at_step}
use Rattle.net_laws.specs.Net.{Given, Scope, Work}
use Rattle.net_laws.specs.Works.{work_of}
use Rattle.net_laws.proofs.Places.{one_at_a_place}
use Rattle.plan_moves.specs.Sheets.{Grown, Sheet, rules_of, state_of, taken_in}
use Rattle.plan_layout.specs.declared.layout.Layout.{Layout}
use Rattle.plan_layout.specs.declared.layout.Need.{Need}
use Rattle.plan_ready.specs.Ready.{IsRuleReady}
use Rattle.plan_ready.proofs.Steps as ready
use Rattle.plan_growth.specs.declared.instance.Instance.{Instance}
use Rattle.plan_growth.specs.declared.rule.Rule.{Rule}
use Rattle.plan_growth.specs.declared.rule.Rule.TheVariants as rule
use Rattle.plan_growth.specs.Begun.{IsFree, base_at, given_of, scope_at}
use Rattle.plan_growth.specs.Entering.{Sown}
use Rattle.plan_growth.specs.Growth.{AskedCall, IsGrowing, growth_leaves, is_leaf, sheet_of}
use Rattle.plan_growth.specs.Meaning.{MeansDeclared, MeansInput, MeansOutput, MeansStatement, rule_cells}
use Rattle.plan_growth.specs.News.{Stands}
use Rattle.plan_lists.specs.Lists.{jobs_in}
use Rattle.plan_lists.proofs.Weights.{jobs_weigh}
use Rattle.plan_may.specs.May.{HasInputs, IsApart, at_place, MayDo, MayInput, MayOutput, MayStatement, MayTell, StepsMay}
use Rattle.plan_may.proofs.Apart.{callers_apart}
use Rattle.plan_may.proofs.Callers.{caller_there, callers}
use Rattle.plan_may.proofs.Jobs.{jobs_called}
use Rattle.plan_may.proofs.Places.{none_pass}
use Rattle.plan_may.proofs.Statements.{expr_may, layer_may, needs_reached, reached, runs}
use Rattle.wdl_base.proofs.Options.{item_there}

module _ (b : Sheet) (owners : List ℕ) (t : ℕ) where
  free_below : (c : ℕ) → IsFree b owners t c → c < length b.values
  free_below c h = slice_get_within b.values c None h.1

  all_below : (cs : List ℕ) → All (IsFree b owners t) cs → All (λ (c : ℕ). c < length b.values) cs
  all_below cs h k d lt = free_below _ (h k d lt)

module _ (lib : Library) (layout : Layout) (site : List ℕ) (rows : List Row) (depth : ℕ) (form : Form) (v : Sown) (is : List Instance) (listed : Work) (asked : List AskedCall) (paid : TaskCost → ℕ)
    (inputs : HasInputs lib form) (growing : IsGrowing lib layout site rows depth form v is listed asked paid) (t : ℕ) (r : Rule) (w : Wants) (rule_there : slice_get v.rules t ≡ Some r)
    (there : slice_get v.steps t ≡ Some w) (fresh : w.is_taken ≡ false) (set : are_set v.values w.needs ≡ true) where
  abbrev rules : List net.Rule
  rules = growing.growth.rules

  abbrev owners : List ℕ
  owners = growing.growth.owners

  abbrev sheet : Sheet
  sheet = sheet_of v rules

  abbrev Leaves : ℕ → ℕ → ℕ
  Leaves u k = growth_leaves lib layout site rows growing.growth u k

  left : taken_in (slice_get v.steps t) ≡ false
  left = ap taken_in there ∙ fresh

  -- ---- it is ready

  abbrev Ready : net.Rule → Form → Type 0
  Ready m f = (p : Grown lib site rows sheet owners depth f) → 0 < at_step lib site rows (rules_of sheet) (state_of sheet owners) t 1 p → HasInputs lib f → IsRuleReady lib (value_at v.values) m

  ready_rule : (m : net.Rule) → slice_get rules t ≡ Some m → is_leaf m ≡ true → IsRuleReady lib (value_at v.values) m
  ready_rule m e leaf =
      let root = growing.root in
      let once = growing.once t m e leaf left 1 in
      subst (Ready m) (sym root.is)
      (λ p some given. ready.steps lib root.main root.checked site rows (slice_get rules) (state_of sheet owners) depth root.number root.flow root.found root.given given root.place root.names root.dones p t m e some)
      growing.growth.grown (omega (arith, once)) inputs

  -- ---- no other call has its place

  apart : (x : Statement) (call : TCall) (s : Scope) (g : Given) (d : ℕ) → out-Statement x ≡ layer.Call call → slice_get rules t ≡ Some (does x s g d)
      → IsApart lib layout v.values rules listed asked (s.place ++ segment.Call call.name ∷ [])
  apart x call s g d is_call e j c at same =
      let q = growing.asks j c at in
      let once = growing.once t (does x s g d) e refl left 1 in
      let twice = q.once 1 in
      let st = state_of sheet owners in
      let p = growing.growth.grown in
      let mine = caller_there lib site rows (rules_of sheet) st t x call is_call s g d (λ o i. same_Some _ _ (sym i ∙ e)) p (omega (arith, once)) in
      let other = caller_there lib site rows (rules_of sheet) st c.step (stmt.Call q.call) q.call (stmt.outs-Call q.call) q.scope q.given q.done (λ o i. same_Some _ _ (sym i ∙ q.rule)) p (omega (arith, twice)) in
      let one =
      one_at_a_place (callers lib site rows (rules_of sheet) st p) (callers_apart lib site rows (rules_of sheet) st depth form growing.root p) (record { step = t; place = s.place ++ segment.Call call.name ∷ [] })
      (record { step = c.step; place = q.scope.place ++ segment.Call q.call.name ∷ [] }) mine other (sym same ∙ q.place) in
      true≢false (sym q.taken ∙ ap (λ (a : Asker). taken_in (slice_get v.steps a.step)) (sym one) ∙ left)

  -- and no job stands there
  new : (x : Statement) (call : TCall) (s : Scope) (g : Given) (d : ℕ) → out-Statement x ≡ layer.Call call → slice_get rules t ≡ Some (does x s g d)
      → jobs_in listed (at_place (s.place ++ segment.Call call.name ∷ [])) ≡ 0
  new x call s g d is_call e =
      let once = growing.once t (does x s g d) e refl left 1 in
      let st = state_of sheet owners in
      let p = growing.growth.grown in
      let place = s.place ++ segment.Call call.name ∷ [] in
      let mine = caller_there lib site rows (rules_of sheet) st t x call is_call s g d (λ o i. same_Some _ _ (sym i ∙ e)) p (omega (arith, once)) in
      let w = work_of lib site rows (rules_of sheet) st p in
      sym (growing.weighs (λ (y : Work). jobs_in y (at_place place)) (jobs_weigh (at_place place)))
      ∙ none_pass (at_place place) w.jobs w.codes (λ y c within passes.
      let q = jobs_called lib site rows (rules_of sheet) st p y within in
      let one =
      one_at_a_place (callers lib site rows (rules_of sheet) st p) (callers_apart lib site rows (rules_of sheet) st depth form growing.root p) q.0 (record { step = t; place = place }) q.1 mine
      (sym q.2 ∙ place_same y.place place passes) in
      true≢false (sym q.3 ∙ ap (λ (a : Asker). taken_in (slice_get v.steps a.step)) one ∙ left))

  -- ---- by its rule

  statement_may : (i k : ℕ) (m : net.Rule) → slice_get rules t ≡ Some m → (w.is_taken ≡ false → All (IsFree sheet owners t) (rule_cells m)) → MeansStatement lib layout is (length v.values) i k w.needs m
      → MayStatement lib layout v.values rules listed asked is i k
  statement_may i k m e free means =
      let x = means.statement in
      let a = means.stand in
      let l = means.line in
      let bases = means.instance.bases in
      let s = scope_at bases a means.instance.place in
      let g = given_of lib bases a x in
      let d = base_at bases a + l.done in
      let same = e ∙ ap (λ (n : net.Rule). Some n) means.means in
      let cells = subst (λ (n : net.Rule). All (IsFree sheet owners t) (rule_cells n)) means.means (free fresh) in
      let below = all_below sheet owners t (rule_cells (does x s g d)) cells in
      let set_here = ap (are_set v.values) (sym means.cells_are) ∙ set in
      let deep = means.depth in
      record {
        instance = means.instance;
        body = means.body;
        flow = means.flow;
        of_instance = means.of_instance;
        line = l;
        line_there = means.line_there;
        statement = x;
        statement_there = means.statement_there;
        some = omega (arith, deep);
        reached = reached lib layout growing.laid v.values rules listed asked means.instance means.body.flow means.flow.body x a l means.laid means.sees means.depth means.names means.calls set_here;
        runs = runs lib layout growing.laid v.values rules listed asked means.instance means.body.flow means.flow.body x a l means.laid means.sees means.depth means.names means.calls set_here below;
        can = layer_may lib layout growing.laid v.values rules listed asked means.instance means.body.flow means.flow.body x a l means.laid means.sees means.depth means.names means.calls set_here below
            (ready_rule (does x s g d) same refl) (λ z f. (apart x z s g d f same, new x z s g d f same));
      }

  declared_may : (instance : Instance) (name : List ℕ) (e : TExpr) (needs : List Need) (slot : ℕ) (m : net.Rule) → slice_get rules t ≡ Some m → (w.is_taken ≡ false → All (IsFree sheet owners t) (rule_cells m))
      → MeansDeclared instance name e needs slot (length v.values) w.needs m → MayTell v.values instance.bases needs e slot
  declared_may instance name e needs slot m same free means =
      let b = means.base in
      let cells = subst (λ (n : net.Rule). All (IsFree sheet owners t) (rule_cells n)) means.means (free fresh) in
      let below = free_below sheet owners t (b + slot) (All-head (IsFree sheet owners t) (b + slot) [] cells) in
      subst (λ (bases : List ℕ). MayTell v.values bases needs e slot) (sym means.bases)
      (record {
        some = omega arith;
        within = below;
        reached = needs_reached (b ∷ []) (length v.values) means.seen (names_of e) needs means.needs_are means.names;
        ready = expr_may lib v.values (b ∷ []) means.seen means.scope means.scope_names e needs means.needs_are means.all_seen [] (ap (are_set v.values) (sym means.cells_are) ∙ set)
            (ready_rule (declares name e means.scope (b + slot)) (same ∙ ap (λ (n : net.Rule). Some n) means.means) refl);
      })

  input_may : (i k : ℕ) (m : net.Rule) → slice_get rules t ≡ Some m → (w.is_taken ≡ false → All (IsFree sheet owners t) (rule_cells m)) → MeansInput lib layout is (length v.values) i k w.needs m
      → MayInput lib layout v.values rules listed asked is i k
  input_may i k m e free means =
      record {
        instance = means.instance;
        body = means.body;
        flow = means.flow;
        of_instance = means.of_instance;
        flow_layout = means.flow_layout;
        layout_there = means.layout_there;
        input = means.input;
        input_there = means.input_there;
        value = means.value;
        default_is = means.default_is;
        needs = means.needs;
        needs_there = means.needs_there;
        may = declared_may means.instance means.input.name means.value means.needs k m e free means.declared;
      }

  output_may : (i k : ℕ) (m : net.Rule) → slice_get rules t ≡ Some m → (w.is_taken ≡ false → All (IsFree sheet owners t) (rule_cells m)) → MeansOutput lib layout is (length v.values) i k w.needs m
      → MayOutput lib layout v.values rules listed asked is i k
  output_may i k m e free means =
      record {
        instance = means.instance;
        body = means.body;
        flow = means.flow;
        of_instance = means.of_instance;
        flow_layout = means.flow_layout;
        layout_there = means.layout_there;
        output = means.output;
        output_there = means.output_there;
        needs = means.needs;
        needs_there = means.needs_there;
        may = declared_may means.instance means.output.name means.output.value means.needs (means.flow_layout.first_output + k) m e free means.declared;
      }

  joint_may : (m n : net.Rule) (c : ℕ) → m ≡ n → rule_cells n ≡ c ∷ [] → (w.is_taken ≡ false → All (IsFree sheet owners t) (rule_cells m)) → c < length v.values
  joint_may m n c e f free =
      free_below sheet owners t c
      (All-head (IsFree sheet owners t) c [] (subst (All (IsFree sheet owners t)) f (subst (λ (q : net.Rule). All (IsFree sheet owners t) (rule_cells q)) e (free fresh))))

  by_rule : (q : Rule) (m : net.Rule) → slice_get rules t ≡ Some m → Stands lib layout is sheet owners t q w m → MayDo lib layout v.values rules listed asked is q w.needs
  by_rule (rule.Statement i k) m e stands = statement_may i k m e stands.free stands.means
  by_rule (rule.Input i k) m e stands = input_may i k m e stands.free stands.means
  by_rule (rule.Output i k) m e stands = output_may i k m e stands.free stands.means
  by_rule (rule.Gathers c) m e stands = joint_may m (gathers w.needs c) c stands.means refl stands.free
  by_rule (rule.Ends c) m e stands = joint_may m (ends w.needs c) c stands.means refl stands.free
  by_rule (rule.Copies c) m e stands = let z = stands.means in (joint_may m (copies z.0 c) c z.2 refl stands.free, z.0, z.1)

  step_may : MayDo lib layout v.values rules listed asked is r w.needs
  step_may =
      let lt = slice_get_within v.steps t w there in
      let even = growing.even.rules_too in
      let m = item_there rules t (omega (arith, lt, even)) in
      by_rule r m.0 m.1 (growing.stands t r w m.0 rule_there there m.1)

pub steps : StepsMay
steps lib layout site rows depth form v is listed asked paid inputs growing t r w rule_there there fresh set = step_may lib layout site rows depth form v is listed asked paid inputs growing t r w rule_there there fresh set
