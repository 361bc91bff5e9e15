-- Blocks: a plan goes on growing.
use Rattle.std.proofs.Common.{◌≡◌, ℕ, zero, suc, ◌+◌, ◌*◌, ◌<◌, ◌≤◌, ◌⊎◌, inl, inr, suc-mul, zero-mul, true, false, List, [], ◌∷◌, ◌++◌, All, map, length, Option, Some, None, Ok, Err, codes, slice_get, slice_set, arith, sym, ap, ◌∙◌, subst, refl}
use Rattle.std.proofs.lemmas.List.{length-set}
use Rattle.std.proofs.lemmas.Option.{slice_get_within, same_Some}
use Rattle.wdl_base.specs.declared.fault.EvalCode.{EvalCode}
use Rattle.wdl_base.specs.declared.place.Segment.{Segment}
use Rattle.wdl_base.specs.declared.place.Segment.TheVariants as segment
use Rattle.wdl_value.specs.declared.value.Value.{Value}
use Rattle.wdl_value.specs.declared.value.Value.TheVariants as kind
use Rattle.wdl_value.specs.Parts.{bool_in, items_in}
use Rattle.wdl_value.specs.Tables.{Row}
use Rattle.wdl_typed.specs.declared.flow.FlowDef.{FlowDef}
use Rattle.wdl_typed.specs.declared.flow.Statement.{Statement, Statement-F}
use Rattle.wdl_typed.specs.declared.flow.Statement.TheVariants as stmt
use Rattle.wdl_typed.specs.declared.flow.TIf.{TIf}
use Rattle.wdl_typed.specs.declared.flow.TScatter.{TScatter}
use Rattle.wdl_typed.specs.Bodies.{Library}
use Rattle.wdl_typed.specs.Flow.{Ended, Flowing, Known, Names, each_call, fault_at, giving}
use Rattle.wdl_typed.specs.KnownTypes as known_types
use Rattle.wdl_typed.specs.Scope.{names_of}
use Rattle.step_net.specs.Views.{Wants}
use Rattle.value_net.specs.Nets as values
use Rattle.value_net.specs.Nets.{joined, value_at, view_of, with_taken, with_value}
use Rattle.net_laws.specs.Cost.{TaskCost}
use Rattle.net_laws.specs.Growing as net
use Rattle.net_laws.specs.Growing.{Form, body_given, does, mark_cell, slot_cell}
use Rattle.net_laws.specs.Moving.{IsWeight}
use Rattle.net_laws.specs.Net.{Given, Scope, Work, both_works, ended_in, flowing_of, known_in, no_work}
use Rattle.net_laws.specs.Planned.{counted}
use Rattle.net_laws.specs.Works.{faulty}
use Rattle.plan_moves.proofs.Entered.{enters}
use Rattle.plan_moves.proofs.Passed.{blocks}
use Rattle.plan_layout.specs.declared.layout.BodyLayout.{BodyLayout}
use Rattle.plan_layout.specs.declared.layout.Layout.{Layout}
use Rattle.plan_layout.specs.declared.layout.StatementLayout.{StatementLayout}
use Rattle.plan_layout.specs.Cells.{cell_at}
use Rattle.plan_layout.specs.Laid.{Stand, given_at}
use Rattle.plan_layout.specs.Sees.{AllSeen, keys_at}
use Rattle.plan_growth.specs.declared.instance.Instance.{Instance}
use Rattle.plan_growth.specs.declared.rule.Rule.{Rule}
use Rattle.plan_growth.specs.declared.rule.Rule.TheVariants as rule
use Rattle.plan_growth.specs.Begun.{IsFree, base_at, given_by, scope_at}
use Rattle.plan_growth.specs.Blocks.{with_condition, with_nothing, with_scatter}
use Rattle.plan_growth.specs.Entering.{Plot, Sown, with_absent}
use Rattle.plan_growth.specs.Growth.{IsGrowing, growth_leaves, sheet_of, AskedCall}
use Rattle.plan_growth.specs.Keeps.{IsAt, last_base, own_outcome}
use Rattle.plan_growth.specs.Meaning.{Fits, Means, rule_cells}
use Rattle.plan_growth.proofs.Heads.{has_head}
use Rattle.plan_growth.proofs.Inside.{IfLaid, ScatterLaid, if_laid, scatter_laid}
use Rattle.plan_growth.proofs.Items.{items_work}
use Rattle.plan_growth.proofs.Keeping.{MeansAt, base_same, means_at}
use Rattle.plan_growth.proofs.Lists.{get_set, get_unset}
use Rattle.plan_growth.proofs.Moving.{Moves, is_move}
use Rattle.plan_growth.proofs.Adding.{last}
use Rattle.plan_growth.proofs.Alike.{calls_alike, names_alike}
use Rattle.plan_growth.proofs.Conditions as condition
use Rattle.plan_growth.proofs.Goes.{goes_on}
use Rattle.plan_growth.proofs.Outer.{all_left, all_right, calls_at, names_at}
use Rattle.plan_growth.proofs.Runs.{marks_run, slots_run}
use Rattle.plan_growth.proofs.Scatters as scatter
use Rattle.plan_growth.proofs.Standing.{lines_length}
use Rattle.plan_growth.proofs.Setting.{SetsOwn, StepAt, goes_moved, once_at, sets_more, sets_moves, sets_none, step_at}

-- what the items of a scatter come to
items_counted : (lib : Library) (layout : Layout) (number : ℕ) (bl : BodyLayout) (flow : FlowDef) (ss : List Statement) (outer path : List ℕ) (splace : List Segment) (k : ℕ) (item : List ℕ) (a : Stand) (m : ℕ) → length ss ≡ m
    → (xs : List Value) → items_work lib layout number bl flow ss outer path splace k item a xs ≡ counted (length xs * m) no_work
items_counted lib layout number bl flow ss outer path splace k item a m e [] =
    let none = zero-mul m in
    let z : 0 ≡ 0 * m + 0 = omega (arith, none) in
    ap (λ (n : ℕ). let w : Work = record { jobs = []; codes = []; faults = []; waits = []; count = n } in w) z
items_counted lib layout number bl flow ss outer path splace k item a m e (x ∷ xs) =
    let more = suc-mul (length xs) m in
    let sum : length ss + 0 + (length xs * m + 0) ≡ suc (length xs) * m + 0 = omega (arith, more, e) in
    ap (λ (w : Work). both_works (counted (length ss) no_work) w) (items_counted lib layout number bl flow ss outer path splace k item a m e xs)
    ∙ ap (λ (n : ℕ). let w : Work = record { jobs = []; codes = []; faults = []; waits = []; count = n } in w) sum

-- ---- cells that are set to nothing

abbrev absent_values : ℕ → ℕ → List (Option Value) → List (Option Value)
absent_values first zero vs = vs
absent_values first (suc n) vs = slice_set (absent_values first n vs) (first + n) (Some kind.Absent)

absent_net : (first n : ℕ) (net_ : Sown) → with_absent first n net_ ≡ view_of (absent_values first n net_.values) net_.rules net_.steps
absent_net first zero net_ = refl
absent_net first (suc n) net_ = ap (λ (u : Sown). with_value u (first + n) kind.Absent) (absent_net first n net_)

absent_other : (first n : ℕ) (vs : List (Option Value)) (c : ℕ) → ((j : ℕ) → j < n → c ≡ first + j → ⊥) → slice_get (absent_values first n vs) c ≡ slice_get vs c
absent_other first zero vs c away = refl
absent_other first (suc n) vs c away = get_unset (absent_values first n vs) (first + n) c (Some kind.Absent) (away n (omega arith)) ∙ absent_other first n vs c (λ j lt. away j (omega (arith, lt)))

absent_length : (first n : ℕ) (vs : List (Option Value)) → length (absent_values first n vs) ≡ length vs
absent_length first zero vs = refl
absent_length first (suc n) vs = length-set (absent_values first n vs) (first + n) (Some kind.Absent) ∙ absent_length first n vs

absent_get : (first n : ℕ) (vs : List (Option Value)) → ((j : ℕ) → j < n → first + j < length vs) → (j : ℕ) → j < n → slice_get (absent_values first n vs) (first + j) ≡ Some (Some kind.Absent)
absent_get first zero vs inside j lt = absurd (omega (arith, lt))
absent_get first (suc n) vs inside j lt = by_case (last j n lt) (absent_get first n vs (λ i l. inside i (omega (arith, l))) j)
  where
    by_case : (j < n) ⊎ (j ≡ n) → (j < n → slice_get (absent_values first n vs) (first + j) ≡ Some (Some kind.Absent)) → slice_get (slice_set (absent_values first n vs) (first + n) (Some kind.Absent)) (first + j) ≡ Some (Some kind.Absent)
    by_case (inl l) rest = get_unset (absent_values first n vs) (first + n) (first + j) (Some kind.Absent) (λ e. omega (arith, e, l)) ∙ rest l
    by_case (inr e) rest =
        let size = absent_length first n vs in
        let low = inside n (omega arith) in
        let same : first + j ≡ first + n = omega (arith, e) in
        ap (slice_get (slice_set (absent_values first n vs) (first + n) (Some kind.Absent))) same ∙ get_set (absent_values first n vs) (first + n) (Some kind.Absent) (omega (arith, low, size))

module _ (lib : Library) (layout : Layout) (site : List ℕ) (rows : List Row) (depth : ℕ) (form : Form) (v : Sown) (is : List Instance) (listed : Work) (asked : List AskedCall) (paid : TaskCost → ℕ)
    (g : IsGrowing lib layout site rows depth form v is listed asked paid) (t : ℕ) (r : Rule) (code : slice_get v.rules t ≡ Some r) (step : Wants) (there : slice_get v.steps t ≡ Some step)
    (fresh : step.is_taken ≡ false) (ready : values.are_set v.values step.needs ≡ true) (i k : ℕ) (same : r ≡ rule.Statement i k) (q : Instance) (body : BodyLayout) (flow : FlowDef) (l : StatementLayout) where
  abbrev rules : List net.Rule
  rules = g.growth.rules

  abbrev owners : List ℕ
  owners = g.growth.owners

  abbrev here : StepAt lib layout site rows depth form v is listed asked paid g t r step
  here = step_at lib layout site rows depth form v is listed asked paid g t r step code there

  abbrev w : Sown
  w = with_taken v t step

  abbrev Lists : Work → Work → Type 0
  Lists later added = (weight : Work → ℕ) → IsWeight weight → weight later ≡ weight listed + weight added

  abbrev After : List (Option Value) → Sown
  After vs = view_of vs v.rules (slice_set v.steps t (record { needs = step.needs; is_taken = true }))

  abbrev Sets : List (Option Value) → Type 0
  Sets vs = SetsOwn v rules owners is g.even t step there fresh ready vs

  still : Sets v.values
  still = sets_none v rules owners is g.even t step there fresh ready

  moves : (vs : List (Option Value)) → Sets vs → Moves t v rules owners is (After vs) rules owners is []
  moves vs h = sets_moves v rules owners is g.even t step there fresh ready vs h

  -- ---- scatters

  module _ (x : TScatter Statement) (at : IsAt lib layout is i k q body flow l (stmt.Scatter x)) where
    abbrev h : MeansAt lib layout (length v.values) q body flow l (stmt.Scatter x) step.needs here.means
    h = means_at lib layout is (length v.values) i k q body flow l (stmt.Scatter x) step.needs here.means at (subst (λ (z : Rule). Means lib layout is (length v.values) z step.needs here.means) same here.stands.means)

    abbrev lay : ScatterLaid lib body.flow flow.body layout.bodies x h.stand l
    lay = scatter_laid lib body.flow flow.body layout.bodies x h.stand l h.laid

    abbrev s : Scope
    s = scope_at q.bases h.stand q.place

    abbrev gv : Given
    gv = given_by q.bases h.stand (body_given lib x.body)

    abbrev d : ℕ
    d = base_at q.bases h.stand + l.done

    means_is : here.means ≡ does (stmt.Scatter x) s gv d
    means_is = h.means ∙ ap (λ (y : Statement-F Statement). does (stmt.Scatter x) s (given_by q.bases h.stand (given_at lib y)) d) (stmt.outs-Scatter x)

    rule_is : slice_get rules t ≡ Some (does (stmt.Scatter x) s gv d)
    rule_is = here.rule ∙ ap (λ (z : net.Rule). Some z) means_is

    free : All (IsFree (sheet_of v rules) owners t) (rule_cells (does (stmt.Scatter x) s gv d))
    free = subst (λ (z : net.Rule). All (IsFree (sheet_of v rules) owners t) (rule_cells z)) means_is (here.stands.free fresh)

    fits : Fits (body_given lib x.body) h.stand
    fits = subst (λ (y : Statement-F Statement). Fits (given_at lib y) h.stand) (stmt.outs-Scatter x) h.fits

    sees : AllSeen h.stand.names (names_of x.over)
    sees = subst (λ (y : Statement-F Statement). AllSeen h.stand.names (keys_at y)) (stmt.outs-Scatter x) h.sees.names

    set_all : values.are_set v.values (map (cell_at q.bases) l.needs ++ map (cell_at q.bases) l.after) ≡ true
    set_all = ap (values.are_set v.values) (sym h.cells_are) ∙ ready

    once : (n : ℕ) → growth_leaves lib layout site rows g.growth t n ≡ n
    once = once_at lib layout site rows depth form v is listed asked paid g t (does (stmt.Scatter x) s gv d) step rule_is refl there fresh

    pub scatter_fails : (c : EvalCode) → own_outcome v q.bases l.needs x.over ≡ Err c → (later : Work) → Lists later (faulty (fault_at (q.place ++ segment.Scatter x.number ∷ []) x.item c)) → (later_paid : TaskCost → ℕ)
        → ((task : TaskCost) → later_paid task ≤ paid task + 1) → IsGrowing lib layout site rows depth form w is later asked later_paid
    scatter_fails c is_ later lists later_paid pays =
        goes_moved lib layout site rows depth form v is listed asked paid g t w (moves v.values still) (faulty (fault_at (q.place ++ segment.Scatter x.number ∷ []) x.item c)) 1
        (blocks.scatter lib site rows t (sheet_of v rules) owners (sheet_of w rules) owners (is_move t v rules owners is w rules owners is [] (moves v.values still) g.even) (λ z e. e) x s gv d
        (faulty (fault_at (q.place ++ segment.Scatter x.number ∷ []) x.item c)) rule_is
        (record {
          code = c;
          value_of_head = has_head v.values q.bases h.stand q.place x.over l.needs lay.needs.needs sees (map (cell_at q.bases) l.after) set_all (sheet_of w rules) (λ z y e. e) (Err c) is_;
          work = refl;
          still = λ z e. refl;
        })
        depth form g.root g.growth.grown once)
        later lists later_paid pays

    pub scatter_goes : (inner : BodyLayout) → slice_get layout.bodies l.inner ≡ Some inner → (y : Value) → own_outcome v q.bases l.needs x.over ≡ Ok y → (later : Work)
        → Lists later (counted (length (items_in y) * length inner.statements) no_work) → (later_paid : TaskCost → ℕ) → ((task : TaskCost) → later_paid task ≤ paid task + 1)
        → (let p : Plot = with_scatter q.bases (q.place ++ segment.Scatter x.number ∷ []) inner l (last_base q.bases) (items_in y) (record { net = w; instances = is }) in
        IsGrowing lib layout site rows depth form p.net p.instances later asked later_paid)
    scatter_goes inner inner_there y is_ later lists later_paid pays =
        let same_inner : lay.inner ≡ inner = same_Some _ _ (sym lay.there ∙ inner_there) in
        let same_base = base_same q.bases h.stand h.depth in
        let lines : length lay.inner.statements ≡ length x.body = lines_length lib 0 [] [] body.flow flow.body layout.bodies lay.body.statements in
        let work_is = items_counted lib layout l.inner lay.inner flow x.body q.bases (h.stand.path ++ h.stand.index ∷ []) q.place x.number x.item h.stand (length lay.inner.statements) (sym lines) (items_in y) in
        subst (λ (z : BodyLayout). Lists later (counted (length (items_in y) * length z.statements) no_work)
        → (let p : Plot = with_scatter q.bases (q.place ++ segment.Scatter x.number ∷ []) z l (last_base q.bases) (items_in y) (record { net = w; instances = is }) in
        IsGrowing lib layout site rows depth form p.net p.instances later asked later_paid)) same_inner
        (λ given_lists.
        subst (λ (z : ℕ). let p : Plot = with_scatter q.bases (q.place ++ segment.Scatter x.number ∷ []) lay.inner l z (items_in y) (record { net = w; instances = is }) in
        IsGrowing lib layout site rows depth form p.net p.instances later asked later_paid) same_base
        (entered (λ weight is_weight. given_lists weight is_weight ∙ ap (λ (z : Work). weight listed + weight z) (sym work_is)))) lists
      where
        entered : Lists later (items_work lib layout l.inner lay.inner flow x.body q.bases (h.stand.path ++ h.stand.index ∷ []) q.place x.number x.item h.stand (items_in y))
            → (let p : Plot = with_scatter q.bases (q.place ++ segment.Scatter x.number ∷ []) lay.inner l (base_at q.bases h.stand) (items_in y) (record { net = w; instances = is }) in
            IsGrowing lib layout site rows depth form p.net p.instances later asked later_paid)
        entered so =
            let m =
            scatter.scatter_moves lib layout site rows v rules owners is g.even t step there fresh ready q.bases q.place h.stand l flow body.flow at.of_instance.flow_there h.depth h.names h.calls x h.sees lay fits free y in
            let b =
            scatter.b lib layout site rows v rules owners is g.even t step there fresh ready q.bases q.place h.stand l flow body.flow at.of_instance.flow_there h.depth h.names h.calls x h.sees lay fits free y in
            let e =
            enters.scatter lib site rows t (sheet_of v rules) owners b
            (scatter.owners_now lib layout site rows v rules owners is g.even t step there fresh ready q.bases q.place h.stand l flow body.flow at.of_instance.flow_there h.depth h.names h.calls x h.sees lay fits free y)
            (is_move t v rules owners is
            (scatter.last_net lib layout site rows v rules owners is g.even t step there fresh ready q.bases q.place h.stand l flow body.flow at.of_instance.flow_there h.depth h.names h.calls x h.sees lay fits free y)
            (scatter.rules_now lib layout site rows v rules owners is g.even t step there fresh ready q.bases q.place h.stand l flow body.flow at.of_instance.flow_there h.depth h.names h.calls x h.sees lay fits free y)
            (scatter.owners_now lib layout site rows v rules owners is g.even t step there fresh ready q.bases q.place h.stand l flow body.flow at.of_instance.flow_there h.depth h.names h.calls x h.sees lay fits free y)
            (scatter.items_net lib layout site rows v rules owners is g.even t step there fresh ready q.bases q.place h.stand l flow body.flow at.of_instance.flow_there h.depth h.names h.calls x h.sees lay fits free y).instances
            (scatter.news lib layout site rows v rules owners is g.even t step there fresh ready q.bases q.place h.stand l flow body.flow at.of_instance.flow_there h.depth h.names h.calls x h.sees lay fits free y) m g.even)
            x s gv d (items_work lib layout l.inner lay.inner flow x.body q.bases (h.stand.path ++ h.stand.index ∷ []) q.place x.number x.item h.stand (items_in y))
            (scatter.new_leaves lib layout site rows v rules owners is g.even t step there fresh ready q.bases q.place h.stand l flow body.flow at.of_instance.flow_there h.depth h.names h.calls x h.sees lay fits free y) rule_is
            (scatter.scatter_enters lib layout site rows v rules owners is g.even t step there fresh ready q.bases q.place h.stand l flow body.flow at.of_instance.flow_there h.depth h.names h.calls x h.sees lay fits free y
            (has_head v.values q.bases h.stand q.place x.over l.needs lay.needs.needs sees (map (cell_at q.bases) l.after) set_all b m.kept (Ok y) is_))
            depth form g.root g.growth.grown once in
            goes_on lib layout site rows depth form v is listed asked paid g t
            (scatter.last_net lib layout site rows v rules owners is g.even t step there fresh ready q.bases q.place h.stand l flow body.flow at.of_instance.flow_there h.depth h.names h.calls x h.sees lay fits free y)
            (scatter.rules_now lib layout site rows v rules owners is g.even t step there fresh ready q.bases q.place h.stand l flow body.flow at.of_instance.flow_there h.depth h.names h.calls x h.sees lay fits free y)
            (scatter.owners_now lib layout site rows v rules owners is g.even t step there fresh ready q.bases q.place h.stand l flow body.flow at.of_instance.flow_there h.depth h.names h.calls x h.sees lay fits free y)
            (scatter.items_net lib layout site rows v rules owners is g.even t step there fresh ready q.bases q.place h.stand l flow body.flow at.of_instance.flow_there h.depth h.names h.calls x h.sees lay fits free y).instances
            (scatter.news lib layout site rows v rules owners is g.even t step there fresh ready q.bases q.place h.stand l flow body.flow at.of_instance.flow_there h.depth h.names h.calls x h.sees lay fits free y) m e.grown
            (scatter.new_leaves lib layout site rows v rules owners is g.even t step there fresh ready q.bases q.place h.stand l flow body.flow at.of_instance.flow_there h.depth h.names h.calls x h.sees lay fits free y)
            (record {
              leaves = e.leaves;
              old_none = scatter.leaves_before lib layout site rows v rules owners is g.even t step there fresh ready q.bases q.place h.stand l flow body.flow at.of_instance.flow_there h.depth h.names h.calls x h.sees lay fits free y;
              past_none = scatter.leaves_past lib layout site rows v rules owners is g.even t step there fresh ready q.bases q.place h.stand l flow body.flow at.of_instance.flow_there h.depth h.names h.calls x h.sees lay fits free y;
              each_one = scatter.leaves_each lib layout site rows v rules owners is g.even t step there fresh ready q.bases q.place h.stand l flow body.flow at.of_instance.flow_there h.depth h.names h.calls x h.sees lay fits free y;
            })
            (items_work lib layout l.inner lay.inner flow x.body q.bases (h.stand.path ++ h.stand.index ∷ []) q.place x.number x.item h.stand (items_in y)) later (λ task. 1) later_paid
            (scatter.news_stand lib layout site rows v rules owners is g.even t step there fresh ready q.bases q.place h.stand l flow body.flow at.of_instance.flow_there h.depth h.names h.calls x h.sees lay fits free y)
            e.weighs so e.spends pays

  -- ---- conditions

  module _ (x : TIf Statement) (at : IsAt lib layout is i k q body flow l (stmt.If x)) where
    abbrev ih : MeansAt lib layout (length v.values) q body flow l (stmt.If x) step.needs here.means
    ih = means_at lib layout is (length v.values) i k q body flow l (stmt.If x) step.needs here.means at (subst (λ (z : Rule). Means lib layout is (length v.values) z step.needs here.means) same here.stands.means)

    abbrev ilay : IfLaid lib body.flow flow.body layout.bodies x ih.stand l
    ilay = if_laid lib body.flow flow.body layout.bodies x ih.stand l ih.laid

    abbrev is_ : Scope
    is_ = scope_at q.bases ih.stand q.place

    abbrev n : Names
    n = body_given lib x.body

    abbrev ig : Given
    ig = given_by q.bases ih.stand n

    abbrev base : ℕ
    base = base_at q.bases ih.stand

    abbrev id : ℕ
    id = base + l.done

    if_means : here.means ≡ does (stmt.If x) is_ ig id
    if_means = ih.means ∙ ap (λ (y : Statement-F Statement). does (stmt.If x) is_ (given_by q.bases ih.stand (given_at lib y)) id) (stmt.outs-If x)

    if_rule : slice_get rules t ≡ Some (does (stmt.If x) is_ ig id)
    if_rule = here.rule ∙ ap (λ (z : net.Rule). Some z) if_means

    if_free : All (IsFree (sheet_of v rules) owners t) (rule_cells (does (stmt.If x) is_ ig id))
    if_free = subst (λ (z : net.Rule). All (IsFree (sheet_of v rules) owners t) (rule_cells z)) if_means (here.stands.free fresh)

    if_fits : Fits (body_given lib x.body) ih.stand
    if_fits = subst (λ (y : Statement-F Statement). Fits (given_at lib y) ih.stand) (stmt.outs-If x) ih.fits

    if_sees : AllSeen ih.stand.names (names_of x.cond)
    if_sees = subst (λ (y : Statement-F Statement). AllSeen ih.stand.names (keys_at y)) (stmt.outs-If x) ih.sees.names

    if_set : values.are_set v.values (map (cell_at q.bases) l.needs ++ map (cell_at q.bases) l.after) ≡ true
    if_set = ap (values.are_set v.values) (sym ih.cells_are) ∙ ready

    if_once : (m : ℕ) → growth_leaves lib layout site rows g.growth t m ≡ m
    if_once = once_at lib layout site rows depth form v is listed asked paid g t (does (stmt.If x) is_ ig id) step if_rule refl there fresh

    pub if_fails : (c : EvalCode) → own_outcome v q.bases l.needs x.cond ≡ Err c → (later : Work) → Lists later (faulty (fault_at (q.place ++ segment.If x.number ∷ []) (codes "if") c)) → (later_paid : TaskCost → ℕ)
        → ((task : TaskCost) → later_paid task ≤ paid task + 1) → IsGrowing lib layout site rows depth form w is later asked later_paid
    if_fails c is_err later lists later_paid pays =
        goes_moved lib layout site rows depth form v is listed asked paid g t w (moves v.values still) (faulty (fault_at (q.place ++ segment.If x.number ∷ []) (codes "if") c)) 1
        (blocks.condition lib site rows t (sheet_of v rules) owners (sheet_of w rules) owners (is_move t v rules owners is w rules owners is [] (moves v.values still) g.even) (λ z e. e) x is_ ig id
        (faulty (fault_at (q.place ++ segment.If x.number ∷ []) (codes "if") c)) if_rule
        (record {
          code = c;
          value_of_head = has_head v.values q.bases ih.stand q.place x.cond l.needs ilay.needs.needs if_sees (map (cell_at q.bases) l.after) if_set (sheet_of w rules) (λ z y e. e) (Err c) is_err;
          work = refl;
          still = λ z e. refl;
        })
        depth form g.root g.growth.grown if_once)
        later lists later_paid pays

    -- ---- one that is false

    abbrev Free : ℕ → Type 0
    Free = IsFree (sheet_of v rules) owners t

    own_names : (j : ℕ) → j < length n.keys → Free (base + (ih.stand.next_name + j))
    own_names = names_at Free q.bases (length ih.stand.path) ih.stand.next_name n.keys (all_left Free (map slot_cell ig.names) (map mark_cell ig.calls ++ id ∷ []) if_free)

    own_rest : All Free (map mark_cell ig.calls ++ id ∷ [])
    own_rest = all_right Free (map slot_cell ig.names) (map mark_cell ig.calls ++ id ∷ []) if_free

    own_calls : (j : ℕ) → j < length n.calls → Free (base + (ih.stand.next_call + j))
    own_calls = calls_at Free q.bases (length ih.stand.path) ih.stand.next_call n.calls (all_left Free (map mark_cell ig.calls) (id ∷ []) own_rest)

    own_done : Free id
    own_done = all_right Free (map mark_cell ig.calls) (id ∷ []) own_rest 0 0 (omega arith)

    low : ih.stand.next_call + length n.calls ≤ l.done
    low = let e = ilay.slots.done_is in let f = if_fits.1 in omega (arith, e, f)

    absent_sets : (vs : List (Option Value)) → Sets vs → (first count : ℕ) → ((j : ℕ) → j < count → Free (first + j)) → Sets (absent_values first count vs)
    absent_sets vs h first zero free_ = h
    absent_sets vs h first (suc m) free_ =
        sets_more v rules owners is g.even t step there fresh ready (absent_values first m vs) (first + m) kind.Absent (absent_sets vs h first m (λ j lt. free_ j (omega (arith, lt)))) (free_ m (omega arith))

    free_here : (c d : ℕ) → c ≡ d → Free d → Free c
    free_here c d e f = subst Free (sym e) f

    names_free : (j : ℕ) → j < length n.keys → Free (base + ih.stand.next_name + j)
    names_free j lt = free_here (base + ih.stand.next_name + j) (base + (ih.stand.next_name + j)) (omega arith) (own_names j lt)

    calls_free : (j : ℕ) → j < length n.calls → Free (base + ih.stand.next_call + j)
    calls_free j lt = free_here (base + ih.stand.next_call + j) (base + (ih.stand.next_call + j)) (omega arith) (own_calls j lt)

    abbrev one_values : List (Option Value)
    one_values = absent_values (base + ih.stand.next_name) (length n.keys) v.values

    abbrev two_values : List (Option Value)
    two_values = absent_values (base + ih.stand.next_call) (length n.calls) one_values

    abbrev off_values : List (Option Value)
    off_values = slice_set two_values id (Some kind.Absent)

    off_sets : Sets off_values
    off_sets =
        sets_more v rules owners is g.even t step there fresh ready two_values id kind.Absent
        (absent_sets one_values (absent_sets v.values still (base + ih.stand.next_name) (length n.keys) names_free) (base + ih.stand.next_call) (length n.calls) calls_free) own_done

    inside : (c : ℕ) → Free c → c < length v.values
    inside c f = slice_get_within v.values c None f.1

    off_name : (j c : ℕ) → c ≡ base + ih.stand.next_name + j → j < length n.keys → value_at off_values c ≡ Some kind.Absent
    off_name j c e lt =
        let f = if_fits.0 in
        let m = low in
        ap (value_at off_values) e
        ∙ ap joined
        (get_unset two_values id (base + ih.stand.next_name + j) (Some kind.Absent) (λ z. omega (arith, z, lt, f, m))
        ∙ absent_other (base + ih.stand.next_call) (length n.calls) one_values (base + ih.stand.next_name + j) (λ z zl ze. omega (arith, ze, lt, f))
        ∙ absent_get (base + ih.stand.next_name) (length n.keys) v.values (λ z zl. inside (base + ih.stand.next_name + z) (names_free z zl)) j lt)

    off_call : (j c : ℕ) → c ≡ base + ih.stand.next_call + j → j < length n.calls → value_at off_values c ≡ Some kind.Absent
    off_call j c e lt =
        let m = low in
        ap (value_at off_values) e
        ∙ ap joined
        (get_unset two_values id (base + ih.stand.next_call + j) (Some kind.Absent) (λ z. omega (arith, z, lt, m))
        ∙ absent_get (base + ih.stand.next_call) (length n.calls) one_values (λ z zl.
        let a = inside (base + ih.stand.next_call + z) (calls_free z zl) in
        let b = absent_length (base + ih.stand.next_name) (length n.keys) v.values in
        omega (arith, a, b)) j lt)

    off_done : value_at off_values id ≡ Some kind.Absent
    off_done =
        ap joined
        (get_set two_values id (Some kind.Absent)
        (let a = inside id own_done in
        let b = absent_length (base + ih.stand.next_name) (length n.keys) v.values in
        let c = absent_length (base + ih.stand.next_call) (length n.calls) one_values in
        omega (arith, a, b, c)))

    abbrev off_flow : List Known → List Ended → Flowing
    off_flow ks es = record { names = ks; calls = es; jobs = []; codes = []; faults = []; waits = []; count = 0 }

    off_gives : giving (Some kind.Absent) true n ≡ flowing_of (value_at off_values) ig no_work
    off_gives =
        ap (λ (ks : List Known). off_flow ks (each_call true n.calls))
        (names_alike (value_at off_values) (Some kind.Absent) (base + ih.stand.next_name) n.keys off_name
        ∙ ap (map (known_in (value_at off_values))) (sym (slots_run q.bases (length ih.stand.path) ih.stand.next_name (base + ih.stand.next_name) n.keys refl)))
        ∙ ap (λ (es : List Ended). off_flow (map (known_in (value_at off_values)) ig.names) es)
        (calls_alike (value_at off_values) (Some kind.Absent) (base + ih.stand.next_call) n.calls off_call
        ∙ ap (map (ended_in (value_at off_values))) (sym (marks_run q.bases (length ih.stand.path) ih.stand.next_call (base + ih.stand.next_call) n.calls refl)))

    off_net : with_nothing l (last_base q.bases) w ≡ After off_values
    off_net =
        ap (λ (b : ℕ). with_nothing l b w) (sym (base_same q.bases ih.stand ih.depth))
        ∙ ap (λ (m : ℕ). with_value (with_absent (base + l.first_call) l.calls (with_absent (base + m) l.names w)) id kind.Absent) ilay.slots.first_name
        ∙ ap (λ (m : ℕ). with_value (with_absent (base + l.first_call) l.calls (with_absent (base + ih.stand.next_name) m w)) id kind.Absent) ilay.slots.names
        ∙ ap (λ (m : ℕ). with_value (with_absent (base + m) l.calls (with_absent (base + ih.stand.next_name) (length n.keys) w)) id kind.Absent) ilay.slots.first_call
        ∙ ap (λ (m : ℕ). with_value (with_absent (base + ih.stand.next_call) m (with_absent (base + ih.stand.next_name) (length n.keys) w)) id kind.Absent) ilay.slots.calls
        ∙ ap (λ (u : Sown). with_value (with_absent (base + ih.stand.next_call) (length n.calls) u) id kind.Absent) (absent_net (base + ih.stand.next_name) (length n.keys) w)
        ∙ ap (λ (u : Sown). with_value u id kind.Absent) (absent_net (base + ih.stand.next_call) (length n.calls) (After one_values))

    pub if_off : (y : Value) → own_outcome v q.bases l.needs x.cond ≡ Ok y → bool_in y ≡ false → (later_paid : TaskCost → ℕ) → ((task : TaskCost) → later_paid task ≤ paid task + 1)
        → IsGrowing lib layout site rows depth form (with_nothing l (last_base q.bases) w) is listed asked later_paid
    if_off y is_ok off later_paid pays =
        subst (λ (u : Sown). IsGrowing lib layout site rows depth form u is listed asked later_paid) (sym off_net)
        (goes_moved lib layout site rows depth form v is listed asked paid g t (After off_values) (moves off_values off_sets) no_work 1
        (blocks.off lib site rows t (sheet_of v rules) owners (sheet_of (After off_values) rules) owners (is_move t v rules owners is (After off_values) rules owners is [] (moves off_values off_sets) g.even) (λ z e. e) x is_ ig id no_work
        if_rule
        (record {
          value = y;
          value_of_head = has_head v.values q.bases ih.stand q.place x.cond l.needs ilay.needs.needs if_sees (map (cell_at q.bases) l.after) if_set (sheet_of (After off_values) rules) off_sets.kept (Ok y) is_ok;
          off = off;
          gives = off_gives;
          done = ap known_types.is_some off_done;
          work = refl;
        })
        depth form g.root g.growth.grown if_once)
        listed (λ weight is_weight. let z = is_weight.nothing in omega (arith, z)) later_paid pays)

    -- ---- one that is true

    if_entered : (y : Value) → own_outcome v q.bases l.needs x.cond ≡ Ok y → bool_in y ≡ true → (later : Work) → Lists later (counted (length x.body) no_work) → (later_paid : TaskCost → ℕ)
        → ((task : TaskCost) → later_paid task ≤ paid task + 1)
        → (let p : Plot = with_condition q.bases (q.place ++ segment.If x.number ∷ []) ilay.inner l base (record { net = w; instances = is }) in IsGrowing lib layout site rows depth form p.net p.instances later asked later_paid)
    if_entered y is_ok on later so later_paid pays =
        let m = condition.condition_moves lib layout site rows v rules owners is g.even t step there fresh ready q.bases q.place ih.stand l flow body.flow at.of_instance.flow_there ih.depth ih.names ih.calls x ih.sees ilay if_fits if_free in
        let b = condition.b lib layout site rows v rules owners is g.even t step there fresh ready q.bases q.place ih.stand l flow body.flow at.of_instance.flow_there ih.depth ih.names ih.calls x ih.sees ilay if_fits if_free in
        let own = condition.owners_now lib layout site rows v rules owners is g.even t step there fresh ready q.bases q.place ih.stand l flow body.flow at.of_instance.flow_there ih.depth ih.names ih.calls x ih.sees ilay if_fits if_free in
        let net_now = condition.last_net lib layout site rows v rules owners is g.even t step there fresh ready q.bases q.place ih.stand l flow body.flow at.of_instance.flow_there ih.depth ih.names ih.calls x ih.sees ilay if_fits if_free in
        let rules_now = condition.rules_now lib layout site rows v rules owners is g.even t step there fresh ready q.bases q.place ih.stand l flow body.flow at.of_instance.flow_there ih.depth ih.names ih.calls x ih.sees ilay if_fits if_free in
        let js = (condition.body_net lib layout site rows v rules owners is g.even t step there fresh ready q.bases q.place ih.stand l flow body.flow at.of_instance.flow_there ih.depth ih.names ih.calls x ih.sees ilay if_fits if_free).instances in
        let news = condition.news lib layout site rows v rules owners is g.even t step there fresh ready q.bases q.place ih.stand l flow body.flow at.of_instance.flow_there ih.depth ih.names ih.calls x ih.sees ilay if_fits if_free in
        let leaves = condition.new_leaves lib layout site rows v rules owners is g.even t step there fresh ready q.bases q.place ih.stand l flow body.flow at.of_instance.flow_there ih.depth ih.names ih.calls x ih.sees ilay if_fits if_free in
        let e =
        enters.condition lib site rows t (sheet_of v rules) owners b own (is_move t v rules owners is net_now rules_now own js news m g.even) x is_ ig id (counted (length x.body) no_work) leaves if_rule
        (condition.condition_enters lib layout site rows v rules owners is g.even t step there fresh ready q.bases q.place ih.stand l flow body.flow at.of_instance.flow_there ih.depth ih.names ih.calls x ih.sees ilay if_fits if_free y
        (has_head v.values q.bases ih.stand q.place x.cond l.needs ilay.needs.needs if_sees (map (cell_at q.bases) l.after) if_set b m.kept (Ok y) is_ok) on)
        depth form g.root g.growth.grown if_once in
        goes_on lib layout site rows depth form v is listed asked paid g t net_now rules_now own js news m e.grown leaves
        (record {
          leaves = e.leaves;
          old_none = condition.leaves_before lib layout site rows v rules owners is g.even t step there fresh ready q.bases q.place ih.stand l flow body.flow at.of_instance.flow_there ih.depth ih.names ih.calls x ih.sees ilay if_fits if_free;
          past_none = condition.leaves_past lib layout site rows v rules owners is g.even t step there fresh ready q.bases q.place ih.stand l flow body.flow at.of_instance.flow_there ih.depth ih.names ih.calls x ih.sees ilay if_fits if_free;
          each_one = condition.leaves_each lib layout site rows v rules owners is g.even t step there fresh ready q.bases q.place ih.stand l flow body.flow at.of_instance.flow_there ih.depth ih.names ih.calls x ih.sees ilay if_fits if_free;
        })
        (counted (length x.body) no_work) later (λ task. 1) later_paid
        (condition.news_stand lib layout site rows v rules owners is g.even t step there fresh ready q.bases q.place ih.stand l flow body.flow at.of_instance.flow_there ih.depth ih.names ih.calls x ih.sees ilay if_fits if_free)
        e.weighs so e.spends pays

    pub if_on : (inner : BodyLayout) → slice_get layout.bodies l.inner ≡ Some inner → (y : Value) → own_outcome v q.bases l.needs x.cond ≡ Ok y → bool_in y ≡ true → (later : Work)
        → Lists later (counted (length inner.statements) no_work) → (later_paid : TaskCost → ℕ) → ((task : TaskCost) → later_paid task ≤ paid task + 1)
        → (let p : Plot = with_condition q.bases (q.place ++ segment.If x.number ∷ []) inner l (last_base q.bases) (record { net = w; instances = is }) in IsGrowing lib layout site rows depth form p.net p.instances later asked later_paid)
    if_on inner inner_there y is_ok on later lists later_paid pays =
        let same_inner : ilay.inner ≡ inner = same_Some _ _ (sym ilay.there ∙ inner_there) in
        let lines : length ilay.inner.statements ≡ length x.body = lines_length lib 0 [] [] body.flow flow.body layout.bodies ilay.body.statements in
        subst (λ (z : BodyLayout). Lists later (counted (length z.statements) no_work)
        → (let p : Plot = with_condition q.bases (q.place ++ segment.If x.number ∷ []) z l (last_base q.bases) (record { net = w; instances = is }) in IsGrowing lib layout site rows depth form p.net p.instances later asked later_paid))
        same_inner
        (λ given_lists.
        subst (λ (z : ℕ). let p : Plot = with_condition q.bases (q.place ++ segment.If x.number ∷ []) ilay.inner l z (record { net = w; instances = is }) in
        IsGrowing lib layout site rows depth form p.net p.instances later asked later_paid) (base_same q.bases ih.stand ih.depth)
        (if_entered y is_ok on later (λ weight is_weight. given_lists weight is_weight ∙ ap (λ (m : ℕ). weight listed + weight (counted m no_work)) lines) later_paid pays)) lists
