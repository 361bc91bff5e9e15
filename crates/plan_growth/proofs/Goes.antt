-- A plan goes on growing: what a law of moves gives, as what holds of a plan at any time.
use Rattle.value_net.specs.Nets.{value_at}
use Rattle.std.proofs.Common.{◌≡◌, ℕ, zero, suc, ◌+◌, ◌<◌, ◌≤◌, ◌⊎◌, inl, inr, true, false, List, [], ◌∷◌, ◌++◌, map, length, get_or, Some, slice_get, slice_set, arith, sym, ap, ◌∙◌, subst}
use Rattle.std.proofs.lemmas.Bool.{true≢false}
use Rattle.std.proofs.lemmas.List.{length-append, length-map, length-set}
use Rattle.std.proofs.lemmas.Option.{slice_get-get_or, slice_get_within}
use Rattle.wdl_value.specs.Tables.{Row}
use Rattle.wdl_typed.specs.declared.flow.Statement.TheVariants as stmt
use Rattle.wdl_typed.specs.Bodies.{Library}
use Rattle.net_laws.specs.Cost.{TaskCost}
use Rattle.net_laws.specs.Growing as net
use Rattle.net_laws.specs.Growing.{Form, does}
use Rattle.net_laws.specs.Moving.{IsWeight}
use Rattle.net_laws.specs.Net.{Work}
use Rattle.plan_moves.specs.Sheets.{Grown, taken_in}
use Rattle.plan_layout.specs.declared.layout.Layout.{Layout}
use Rattle.plan_growth.specs.declared.instance.Instance.{Instance}
use Rattle.plan_growth.specs.Entering.{Sown}
use Rattle.plan_growth.specs.Growth.{Growth, IsAsker, IsGrowing, growth_leaves, growth_spent, growth_work, is_leaf, sheet_of, AskedCall}
use Rattle.plan_growth.specs.Meaning.{rule_cells}
use Rattle.plan_growth.specs.News.{AllStand, New, new_means, new_wants}
use Rattle.plan_growth.proofs.Askers.{ended_set_same, task_kept}
use Rattle.plan_growth.proofs.Heads.{set_same, values_kept}
use Rattle.plan_growth.proofs.Lists.{get_split}
use Rattle.plan_growth.proofs.Moving.{Moves, all_stand, free_kept, mapped_back, rule_kept, step_now, step_other}

module _ (lib : Library) (layout : Layout) (site : List ℕ) (rows : List Row) (depth : ℕ) (form : Form) (v : Sown) (is : List Instance) (listed : Work) (asked : List AskedCall) (paid : TaskCost → ℕ)
    (g : IsGrowing lib layout site rows depth form v is listed asked paid) where
  -- lists that weigh the same, and less that was paid
  pub as_listed : (later : Work) → ((weight : Work → ℕ) → IsWeight weight → weight later ≡ weight listed) → (later_paid : TaskCost → ℕ) → ((task : TaskCost) → later_paid task ≤ paid task)
      → IsGrowing lib layout site rows depth form v is later asked later_paid
  as_listed later lists later_paid pays =
      record {
        laid = g.laid;
        root = g.root;
        growth = g.growth;
        even = g.even;
        stands = g.stands;
        weighs = λ weight is_weight. g.weighs weight is_weight ∙ sym (lists weight is_weight);
        once = g.once;
        fresh = g.fresh;
        asks = g.asks;
        spends = λ task.
            let a = g.spends task in
            let b = pays task in
            omega (arith, a, b);
      }

  -- a call that was asked more
  pub asks_too : (u : AskedCall) → IsAsker lib layout site rows g.growth u → IsGrowing lib layout site rows depth form v is listed (asked ++ u ∷ []) paid
  asks_too u h =
      record {
        laid = g.laid;
        root = g.root;
        growth = g.growth;
        even = g.even;
        stands = g.stands;
        weighs = g.weighs;
        once = g.once;
        fresh = g.fresh;
        asks = λ j x e. by_case j x (get_split asked (u ∷ []) j x e);
        spends = g.spends;
      }
    where
      by_case : (j : ℕ) (x : AskedCall) → (slice_get asked j ≡ Some x) ⊎ ((i : ℕ) × (j ≡ length asked + i) × (slice_get (u ∷ []) i ≡ Some x)) → IsAsker lib layout site rows g.growth x
      by_case j x (inl e) = g.asks j x e
      by_case j x (inr (zero, e, is_)) = let same : u ≡ x = cc in subst (λ (z : AskedCall). IsAsker lib layout site rows g.growth z) same h
      by_case j x (inr (suc i, e, is_)) = absurd (let f : ⊥ = cc in f)

module _ (lib : Library) (layout : Layout) (site : List ℕ) (rows : List Row) (depth : ℕ) (form : Form) (v : Sown) (is : List Instance) (listed : Work) (asked : List AskedCall) (paid : TaskCost → ℕ)
    (g : IsGrowing lib layout site rows depth form v is listed asked paid) where
  abbrev old_leaves : ℕ → ℕ → ℕ
  old_leaves u k = growth_leaves lib layout site rows g.growth u k

  module _ (t : ℕ) (w : Sown) (rules_now : List net.Rule) (owners_now : List ℕ) (js : List Instance) (news : List New) (m : Moves t v g.growth.rules g.growth.owners is w rules_now owners_now js news)
      (grown : Grown lib site rows (sheet_of w rules_now) owners_now depth form) where
    abbrev now : Growth lib layout site rows depth form w
    now = record { rules = rules_now; owners = owners_now; grown = grown }

    abbrev new_leaves : ℕ → ℕ → ℕ
    new_leaves u k = growth_leaves lib layout site rows now u k

    -- so many leaves came for each step: one for each that was added and is no joint
    pub record AddsLeaves (new : ℕ → ℕ → ℕ) : Type 0 where
      pub leaves : (u k : ℕ) → (u ≡ t → ⊥) → new_leaves u k ≡ old_leaves u k + new u k
      pub old_none : (u k : ℕ) → u < length v.steps → new u k ≡ 0
      pub past_none : (u k : ℕ) → length w.steps ≤ u → new u k ≡ 0
      pub each_one : (j : ℕ) (n : New) → slice_get news j ≡ Some n → is_leaf n.means ≡ true → (k : ℕ) → new (length v.steps + j) k ≡ k

    module _ (new : ℕ → ℕ → ℕ) (adds : AddsLeaves new) where
      not_own : (u : ℕ) → taken_in (slice_get w.steps u) ≡ false → u ≡ t → ⊥
      not_own u h e =
          true≢false (sym (ap taken_in (ap (slice_get w.steps) e ∙ step_now t v g.growth.rules g.growth.owners is w rules_now owners_now js news m g.even)) ∙ h)

      same_inside : {A : Type 0} {x y : A} → Some x ≡ Some y → x ≡ y
      same_inside e = cc

      still_once : (u : ℕ) (x : net.Rule) → slice_get rules_now u ≡ Some x → is_leaf x ≡ true → taken_in (slice_get w.steps u) ≡ false → (k : ℕ) → new_leaves u k ≡ k
      still_once u x rule_ leaf left k = by_case (get_split g.growth.rules (map new_means news) u x (ap (λ (rs : List net.Rule). slice_get rs u) (sym m.means) ∙ rule_))
        where
          own : u ≡ t → ⊥
          own = not_own u left

          by_case : (slice_get g.growth.rules u ≡ Some x) ⊎ ((j : ℕ) × (u ≡ length g.growth.rules + j) × (slice_get (map new_means news) j ≡ Some x)) → new_leaves u k ≡ k
          by_case (inl h) =
              let a = slice_get_within g.growth.rules u x h in
              let b = g.even.rules_too in
              let inside : u < length v.steps = omega (arith, a, b) in
              let was = slice_get-get_or v.steps u m.step inside in
              let same = step_other t v g.growth.rules g.growth.owners is w rules_now owners_now js news m g.even u (get_or v.steps u m.step) own was in
              let old = g.once u x h leaf (ap taken_in (was ∙ sym same) ∙ left) k in
              let sum = adds.leaves u k own in
              let none = adds.old_none u k inside in
              omega (arith, old, sum, none)
          by_case (inr (j, e, h)) =
              let n = mapped_back new_means news j x h in
              let b = g.even.rules_too in
              let at : length v.steps + j ≡ u = omega (arith, e, b) in
              let one = adds.each_one j n.0 n.1 (ap is_leaf (sym n.2) ∙ leaf) k in
              let here : new u k ≡ k = subst (λ (z : ℕ). new z k ≡ k) at one in
              let none = g.fresh u k (omega (arith, at)) in
              let sum = adds.leaves u k own in
              omega (arith, here, none, sum)

      longer : length w.steps ≡ length v.steps + length news
      longer =
          let a = ap length m.steps in
          let b = length-append (slice_set v.steps t (record { needs = m.step.needs; is_taken = true })) (map new_wants news) in
          let c = length-set v.steps t (record { needs = m.step.needs; is_taken = true }) in
          let d = length-map news new_wants in
          omega (arith, a, b, c, d)

      still_fresh : (u k : ℕ) → length w.steps ≤ u → new_leaves u k ≡ 0
      still_fresh u k le =
          let long = longer in
          let inside = slice_get_within v.steps t m.step m.there in
          let sum = adds.leaves u k (λ e. omega (arith, e, inside, long, le)) in
          let none = g.fresh u k (omega (arith, long, le)) in
          let past = adds.past_none u k le in
          omega (arith, sum, none, past)

      asker_on : (c : AskedCall) → IsAsker lib layout site rows g.growth c → IsAsker lib layout site rows now c
      asker_on c h =
          let u = c.step in
          let inside : u < length v.steps = (let a = slice_get_within g.growth.rules u (does (stmt.Call h.call) h.scope h.given h.done) h.rule in let b = g.even.rules_too in omega (arith, a, b)) in
          let was = slice_get-get_or v.steps u m.step inside in
          let other : u ≡ t → ⊥ = λ e. true≢false (sym h.taken ∙ ap taken_in (ap (slice_get v.steps) e ∙ m.there) ∙ m.fresh) in
          let same = values_kept v.values w.values m.kept in
          record {
            call = h.call;
            scope = h.scope;
            given = h.given;
            done = h.done;
            rule = rule_kept t v g.growth.rules g.growth.owners is w rules_now owners_now js news m g.even u (does (stmt.Call h.call) h.scope h.given h.done) h.rule;
            taken = ap taken_in (step_other t v g.growth.rules g.growth.owners is w rules_now owners_now js news m g.even u (get_or v.steps u m.step) other was ∙ sym was) ∙ h.taken;
            once = λ k.
                let old = h.once k in
                let sum = adds.leaves u k other in
                let none = adds.old_none u k inside in
                omega (arith, old, sum, none);
            free = free_kept t v g.growth.rules g.growth.owners is w rules_now owners_now js news m g.even u (rule_cells (does (stmt.Call h.call) h.scope h.given h.done)) other h.free;
            place = h.place;
            calls_task = task_kept lib (sheet_of v g.growth.rules) (sheet_of w rules_now) h.call h.scope h.given c.args c.task same h.calls_task h.names_set h.calls_set;
            names_set = set_same (value_at v.values) (value_at w.values) h.calls_task.slots h.names_set same;
            calls_set = ended_set_same (value_at v.values) (value_at w.values) h.calls_task.marks h.calls_set same;
          }

      pub goes_on : (added later_listed : Work) (cost later_paid : TaskCost → ℕ) → AllStand lib layout js (sheet_of w rules_now) owners_now (length v.steps) news
          → ((weight : Work → ℕ) → IsWeight weight → weight (growth_work lib layout site rows now) ≡ weight (growth_work lib layout site rows g.growth) + weight added)
          → ((weight : Work → ℕ) → IsWeight weight → weight later_listed ≡ weight listed + weight added)
          → ((task : TaskCost) → growth_spent lib layout site rows task now ≡ growth_spent lib layout site rows task g.growth + cost task)
          → ((task : TaskCost) → later_paid task ≤ paid task + cost task) → IsGrowing lib layout site rows depth form w js later_listed asked later_paid
      goes_on added later_listed cost later_paid stand weighs lists spends pays =
          record {
            laid = g.laid;
            root = g.root;
            growth = now;
            even = m.even_now;
            stands = all_stand lib layout t v g.growth.rules g.growth.owners is w rules_now owners_now js news m g.even g.stands stand;
            weighs = λ weight is_weight.
                let a = weighs weight is_weight in
                let b = lists weight is_weight in
                let c = g.weighs weight is_weight in
                omega (arith, a, b, c);
            once = still_once;
            fresh = still_fresh;
            asks = λ j u h. asker_on u (g.asks j u h);
            spends = λ task.
                let a = spends task in
                let b = pays task in
                let c = g.spends task in
                omega (arith, a, b, c);
          }

      -- The same where the step is one of a call that was asked.
      pub goes_asked : (added later_listed : Work) (cost later_paid : TaskCost → ℕ) → AllStand lib layout js (sheet_of w rules_now) owners_now (length v.steps) news
          → ((weight : Work → ℕ) → IsWeight weight → weight (growth_work lib layout site rows now) ≡ weight (growth_work lib layout site rows g.growth) + weight added)
          → ((weight : Work → ℕ) → IsWeight weight → weight later_listed ≡ weight listed + weight added)
          → ((task : TaskCost) → growth_spent lib layout site rows task now ≡ growth_spent lib layout site rows task g.growth + cost task)
          → ((task : TaskCost) → later_paid task ≤ paid task + cost task) → (c : AskedCall) → IsAsker lib layout site rows now c → IsGrowing lib layout site rows depth form w js later_listed (asked ++ c ∷ []) later_paid
      unfolding goes_on
      goes_asked added later_listed cost later_paid stand weighs lists spends pays c h =
          asks_too lib layout site rows depth form w js later_listed asked later_paid (goes_on added later_listed cost later_paid stand weighs lists spends pays) c h
