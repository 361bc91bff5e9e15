-- Steps that add no other: they set cells of their own, or none.
use Rattle.std.proofs.Common.{◌≡◌, ℕ, ◌+◌, ◌≤◌, Bool, true, false, cond, List, [], map, append-nil, length, get_or, Option, Some, None, Ok, Err, slice_get, slice_set, arith, sym, ap, ◌∙◌, refl}
use Rattle.std.proofs.lemmas.List.{length-set}
use Rattle.std.proofs.lemmas.Option.{slice_get-get_or, slice_get_within, same_Some}
use Rattle.wdl_base.specs.declared.place.Segment.{Segment}
use Rattle.wdl_value.specs.declared.value.Value.{Value}
use Rattle.wdl_value.specs.Outcome.{Outcome}
use Rattle.wdl_value.specs.Tables.{Row}
use Rattle.wdl_typed.specs.declared.expr.TExpr.{TExpr}
use Rattle.wdl_typed.specs.Bodies.{Library}
use Rattle.wdl_typed.specs.Evaluation.{value_of}
use Rattle.wdl_typed.specs.Flow.{Known, Sight, all_known, declaration, declared_as, env_of, fault_at, known, named, with_fault}
use Rattle.wdl_typed.specs.Requests.{before}
use Rattle.wdl_typed.specs.Scope.{names_of}
use Rattle.step_net.specs.Views.{Wants}
use Rattle.value_net.specs.Nets as values
use Rattle.value_net.specs.Nets.{value_at, view_of}
use Rattle.net_laws.specs.Cost.{TaskCost}
use Rattle.net_laws.specs.Growing as net
use Rattle.net_laws.specs.Growing.{Form, only}
use Rattle.net_laws.specs.Moving.{IsWeight}
use Rattle.net_laws.specs.Net.{Cells, Scope, Slot, Work, flowing_of, known_in, no_work}
use Rattle.net_laws.specs.Rules.{Follows, Needs}
use Rattle.net_laws.specs.Works.{faulty}
use Rattle.net_laws.proofs.Sets.{all_known_set, slots_set}
use Rattle.plan_moves.specs.Laws.{HasMoved, Tells}
use Rattle.plan_moves.specs.Sheets.{Sheet, taken_in}
use Rattle.plan_layout.specs.declared.layout.Layout.{Layout}
use Rattle.plan_growth.specs.declared.instance.Instance.{Instance}
use Rattle.plan_growth.specs.declared.rule.Rule.{Rule}
use Rattle.plan_growth.specs.Begun.{IsFree}
use Rattle.plan_growth.specs.Entering.{Sown}
use Rattle.plan_growth.specs.Growth.{IsEven, IsGrowing, growth_leaves, is_leaf, sheet_of, AskedCall}
use Rattle.plan_growth.specs.News.{Stands}
use Rattle.plan_growth.proofs.Goes.{goes_on}
use Rattle.plan_growth.proofs.Heads.{known_same, set_same, values_kept}
use Rattle.plan_growth.proofs.Lists.{get_unset}
use Rattle.plan_growth.proofs.Moving.{Moves}

-- ---- cells of the step alone

module _ (v : Sown) (rules : List net.Rule) (owners : List ℕ) (is : List Instance) (even : IsEven v rules owners) (t : ℕ) (step : Wants) (there : slice_get v.steps t ≡ Some step) (fresh : step.is_taken ≡ false)
    (ready : values.are_set v.values step.needs ≡ true) where
  -- The step sets cells of its own alone, to these values.
  pub record SetsOwn (vs : List (Option Value)) : Type 0 where
    pub size : length vs ≡ length v.values
    pub others : (c u : ℕ) → slice_get owners c ≡ Some u → (u ≡ t → ⊥) → slice_get vs c ≡ slice_get v.values c
    pub kept : (c : ℕ) (x : Value) → slice_get v.values c ≡ Some (Some x) → slice_get vs c ≡ Some (Some x)

  pub sets_moves : (vs : List (Option Value)) → SetsOwn vs
      → Moves t v rules owners is (view_of vs v.rules (slice_set v.steps t (record { needs = step.needs; is_taken = true }))) rules owners is []
  sets_moves vs h =
      let longer = length-set v.steps t (record { needs = step.needs; is_taken = true }) in
      record {
        step = step;
        there = there;
        fresh = fresh;
        ready = ready;
        codes = sym (append-nil v.rules);
        means = sym (append-nil rules);
        steps = sym (append-nil (slice_set v.steps t (record { needs = step.needs; is_taken = true })));
        instances = λ i x e. e;
        cells = (let size = h.size in omega (arith, size));
        others = h.others;
        kept = h.kept;
        owned = λ c u e n. e;
        even_now = record { codes = even.codes ∙ sym longer; rules_too = even.rules_too ∙ sym longer; owners_too = even.owners_too ∙ sym h.size };
      }

  pub sets_none : SetsOwn v.values
  sets_none = record { size = refl; others = λ c u e n. refl; kept = λ c x e. e }

  -- One cell more.
  pub sets_more : (vs : List (Option Value)) (c : ℕ) (x : Value) → SetsOwn vs → IsFree (sheet_of v rules) owners t c → SetsOwn (slice_set vs c (Some x))
  sets_more vs c x h free =
      record {
        size = length-set vs c (Some x) ∙ h.size;
        others = λ d u e n. get_unset vs c d (Some x) (λ same. n (same_Some _ _ (sym e ∙ ap (slice_get owners) same ∙ free.0))) ∙ h.others d u e n;
        kept = λ d y e. get_unset vs c d (Some x) (λ same. not_set y (sym e ∙ ap (slice_get v.values) same ∙ free.1)) ∙ h.kept d y e;
      }
    where
      not_set : (y : Value) → (let o : Option (Option Value) = Some (Some y) in o ≡ Some None) → ⊥
      not_set y e = cc

-- ---- what a declaration says

abbrev pub told_work : List Segment → List ℕ → Outcome Value → Work
told_work place name (Ok x) = no_work
told_work place name (Err c) = faulty (fault_at place name c)

abbrev pub told_value : Outcome Value → Option Value
told_value (Ok x) = Some x
told_value (Err c) = None

module _ (cells : Cells) (place : List Segment) (slots : List Slot) (name : List ℕ) (e : TExpr) (c : ℕ) where
  outcome_follows : (o : Outcome Value) → cells c ≡ told_value o → declared_as place name o ≡ flowing_of cells (only name c) (told_work place name o)
  outcome_follows (Ok x) h =
      ap (λ (z : Option Value). named (known name z)) (sym h)
  outcome_follows (Err k) h = ap (λ (z : Option Value). with_fault (fault_at place name k) (named (known name z))) (sym h)

  pub declaration_follows : (o : Outcome Value) → all_known (map (known_in cells) slots) e ≡ true → value_of (before (env_of (map (known_in cells) slots))) e ≡ o → cells c ≡ told_value o
      → Follows cells place slots [] (λ (y : Sight). declaration y name e) (only name c) (told_work place name o)
  declaration_follows o known_all is h =
      ap (λ (b : Bool). cond b (declared_as place name (value_of (before (env_of (map (known_in cells) slots))) e)) (named (known name None))) known_all ∙ ap (declared_as place name) is ∙ outcome_follows o h

-- what a declaration's move says, by what its expression comes to over the step's needs
pub tells_by : (vs : List (Option Value)) (b : Sheet) (name : List ℕ) (e : TExpr) (s : Scope) (c : ℕ) (slots : List Slot) → Needs s (names_of e) slots → slots_set (value_at vs) slots ≡ true
    → ((d : ℕ) (x : Value) → slice_get vs d ≡ Some (Some x) → slice_get b.values d ≡ Some (Some x)) → (o : Outcome Value) → value_of (before (env_of (map (known_in (value_at vs)) slots))) e ≡ o
    → value_at b.values c ≡ told_value o → Tells b name e s c (told_work s.place name o)
tells_by vs b name e s c slots needs set kept o is cell =
    let same = values_kept vs b.values kept in
    record {
      slots = slots;
      needs = needs;
      follows =
          declaration_follows (value_at b.values) s.place slots name e c o (all_known_set (value_at b.values) slots (set_same (value_at vs) (value_at b.values) slots set same) (names_of e) needs.all)
          (ap (λ (ks : List Known). value_of (before (env_of ks)) e) (known_same (value_at vs) (value_at b.values) slots set same) ∙ is) cell;
    }

-- ---- a plan goes on growing, with no other step

module _ (lib : Library) (layout : Layout) (site : List ℕ) (rows : List Row) (depth : ℕ) (form : Form) (v : Sown) (is : List Instance) (listed : Work) (asked : List AskedCall) (paid : TaskCost → ℕ)
    (g : IsGrowing lib layout site rows depth form v is listed asked paid) where
  -- a step that is left, with what it is to do
  pub record StepAt (t : ℕ) (r : Rule) (step : Wants) : Type 0 where
    pub means : net.Rule
    pub rule : slice_get g.growth.rules t ≡ Some means
    pub stands : Stands lib layout is (sheet_of v g.growth.rules) g.growth.owners t r step means

  pub step_at : (t : ℕ) (r : Rule) (step : Wants) → slice_get v.rules t ≡ Some r → slice_get v.steps t ≡ Some step → StepAt t r step
  step_at t r step code there =
      let inside = slice_get_within v.steps t step there in
      let even = g.even.rules_too in
      let m = get_or g.growth.rules t (net.copies 0 0) in
      let at = slice_get-get_or g.growth.rules t (net.copies 0 0) (omega (arith, inside, even)) in
      record { means = m; rule = at; stands = g.stands t r step m code there at }

  pub once_at : (t : ℕ) (m : net.Rule) (step : Wants) → slice_get g.growth.rules t ≡ Some m → is_leaf m ≡ true → slice_get v.steps t ≡ Some step → step.is_taken ≡ false → (k : ℕ)
      → growth_leaves lib layout site rows g.growth t k ≡ k
  once_at t m step rule leaf there fresh = g.once t m rule leaf (ap taken_in there ∙ fresh)

  pub goes_moved : (t : ℕ) (w : Sown) (m : Moves t v g.growth.rules g.growth.owners is w g.growth.rules g.growth.owners is []) (added : Work) (n : ℕ)
      → HasMoved lib site rows t (sheet_of v g.growth.rules) g.growth.owners (sheet_of w g.growth.rules) g.growth.owners added n depth form g.growth.grown
      → (later : Work) → ((weight : Work → ℕ) → IsWeight weight → weight later ≡ weight listed + weight added) → (later_paid : TaskCost → ℕ) → ((task : TaskCost) → later_paid task ≤ paid task + n)
      → IsGrowing lib layout site rows depth form w is later asked later_paid
  goes_moved t w m added n h later lists later_paid pays =
      goes_on lib layout site rows depth form v is listed asked paid g t w g.growth.rules g.growth.owners is [] m h.grown (λ u k. 0)
      (record {
        leaves = λ u k ne. let e = h.leaves u k ne in omega (arith, e);
        old_none = λ u k lt. refl;
        past_none = λ u k le. refl;
        each_one = λ j x e leaf k. absurd (let f : ⊥ = cc in f);
      })
      added later (λ task. n) later_paid tt h.weighs lists h.spends pays
