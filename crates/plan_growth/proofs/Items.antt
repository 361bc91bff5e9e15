-- The items of a scatter that is entered.
use Rattle.std.proofs.Common.{◌≡◌, ℕ, ◌+◌, ◌<◌, ◌≤◌, List, [], ◌∷◌, ◌++◌, map, append_assoc, append-nil, length, get_or, Some, slice_get, arith, sym, ap, ◌∙◌, subst, refl}
use Rattle.std.proofs.lemmas.List.{get_or_push, length-append, length-map, map-append}
use Rattle.std.proofs.lemmas.Option.{slice_get_within}
use Rattle.wdl_base.specs.declared.place.Segment.{Segment}
use Rattle.wdl_base.specs.declared.place.Segment.TheVariants as segment
use Rattle.wdl_value.specs.declared.value.Value.{Value}
use Rattle.wdl_value.specs.Tables.{Row}
use Rattle.wdl_typed.specs.declared.flow.FlowDef.{FlowDef}
use Rattle.wdl_typed.specs.declared.flow.Statement.{Statement}
use Rattle.wdl_typed.specs.Bodies.{Library}
use Rattle.wdl_typed.specs.Declarations.{plain_key}
use Rattle.value_net.specs.Nets.{joined, with_cells, with_value}
use Rattle.net_laws.specs.Growing as net
use Rattle.net_laws.specs.Growing.{Item, all, body_given, each, item_next, no_item}
use Rattle.net_laws.specs.Moving as even
use Rattle.net_laws.specs.Moving.{IsWeight}
use Rattle.net_laws.specs.Net.{Mark, Scope, Slot, Work, both_works, item_scope, no_work}
use Rattle.net_laws.specs.Planned.{counted}
use Rattle.net_laws.specs.Works.{work_of}
use Rattle.net_laws.proofs.Even.{work_even}
use Rattle.plan_moves.specs.Sheets.{Sheet, rules_of, state_of}
use Rattle.plan_layout.specs.declared.layout.BodyLayout.{BodyLayout}
use Rattle.plan_layout.specs.declared.layout.Layout.{Layout}
use Rattle.plan_layout.specs.declared.layout.Need.{Need}
use Rattle.plan_layout.specs.Cells.{marks_at, slot_at, slots_at}
use Rattle.plan_layout.specs.Laid as laid
use Rattle.plan_layout.specs.Laid.{Laid, Stand, beginning, item_spot}
use Rattle.plan_layout.specs.Paths.{body_at}
use Rattle.plan_layout.specs.Sees.{Sees}
use Rattle.plan_growth.specs.declared.instance.Instance.{Instance}
use Rattle.plan_growth.specs.Begun.{AllSit, HasBegun, all_given, base_at, hits, scope_at}
use Rattle.plan_growth.specs.Entering.{Plot, Sown, dones_at, with_item, with_items}
use Rattle.plan_growth.specs.Growth.{IsEven, sheet_of}
use Rattle.plan_growth.specs.Meaning.{AreThere}
use Rattle.plan_growth.specs.News.{AllStand, New, new_code, new_means, new_wants, statement_news, with_news}
use Rattle.plan_growth.proofs.Adding.{hits_both, hits_length, lists_both, rules_both, stand_both}
use Rattle.plan_growth.proofs.Begins.{bodies_begin}
use Rattle.plan_growth.proofs.Entry.{item_entered, item_even, item_extends, item_there, net_is}
use Rattle.plan_growth.proofs.Instances.{Extends, IsEntered, Kept, entered_later, extends_twice, instance_owners, put}
use Rattle.plan_growth.proofs.Lists.{get_left, get_right}
use Rattle.plan_growth.proofs.Sitting.{all_sit}
use Rattle.plan_growth.proofs.Standing.{news_length, statements_added, statements_stand}
use Rattle.plan_growth.proofs.There.{marks_more, slots_more, there_both, there_more}

module _ (lib : Library) (layout : Layout) (number : ℕ) (bl : BodyLayout) (flow : FlowDef) (ss : List Statement) (outer path : List ℕ) (splace : List Segment) (k : ℕ) (item : List ℕ) (a : Stand) where
  abbrev place : List Segment
  place = splace ++ segment.Scatter k ∷ []

  abbrev inner_names : List Need
  inner_names = a.names ++ item_spot path item ∷ []

  abbrev pub inner : Stand
  inner = beginning inner_names a.calls path (body_given lib ss) 1 0

  abbrev place_at : ℕ → List Segment
  place_at i = place ++ segment.Index i ∷ []

  abbrev pub one_entered : ℕ → Value → Plot → Plot
  one_entered i x p = with_item number outer (place_at i) bl x p

  abbrev pub entered : ℕ → List Value → Plot → Plot
  entered i xs p = with_items number outer place bl i xs p

  abbrev bases_at : Plot → List ℕ
  bases_at q = outer ++ length q.net.values ∷ []

  abbrev news_at : ℕ → Plot → List New
  news_at i q = statement_news lib (length q.instances) (bases_at q) (place_at i) 0 ss inner bl.statements

  abbrev pub items_news : ℕ → List Value → Plot → List New
  items_news i [] p = []
  items_news i (x ∷ xs) p = news_at i p ++ items_news (i + 1) xs (one_entered i x p)

  abbrev owners_at : Plot → List ℕ
  owners_at q = instance_owners lib (0 ∷ []) [] (length q.net.steps) ss

  abbrev pub items_owners : ℕ → List Value → Plot → List ℕ
  items_owners i [] p = []
  items_owners i (x ∷ xs) p = owners_at p ++ items_owners (i + 1) xs (one_entered i x p)

  abbrev pub rules_after : ℕ → List Value → Plot → List net.Rule → List net.Rule
  rules_after i xs p rules = rules ++ map new_means (items_news i xs p)

  -- ---- what was entered

  module _ (b : Sheet) (owners : List ℕ) (is : List Instance) where
    -- the instance of one item
    pub record ItemAt (i : ℕ) (x : Value) (q : Plot) : Type 0 where
      pub cell : slice_get b.values (length q.net.values) ≡ Some (Some x)
      pub entered_there : IsEntered lib b owners (bases_at q) (place_at i) (0 ∷ []) [] (length q.net.values) (length q.net.steps) ss inner bl.statements
      pub instance : slice_get is (length q.instances) ≡ Some (record { body = number; bases = bases_at q; place = place_at i })

    abbrev pub AllItems : ℕ → List Value → Plot → Type 0
    AllItems i [] p = Unit {0}
    AllItems i (x ∷ xs) p = ItemAt i x p × AllItems (i + 1) xs (one_entered i x p)

  item_later : (b c : Sheet) (mine theirs : List ℕ) (is js : List Instance) → Extends b mine c theirs → Kept is js → (i : ℕ) (x : Value) (q : Plot) → ItemAt b mine is i x q → ItemAt c theirs js i x q
  item_later b c mine theirs is js e kept i x q h =
      record {
        cell = e.values (length q.net.values) (Some x) h.cell;
        entered_there = entered_later lib b c mine theirs (bases_at q) (place_at i) (0 ∷ []) [] (length q.net.values) (length q.net.steps) ss inner bl.statements e h.entered_there;
        instance = kept (length q.instances) (record { body = number; bases = bases_at q; place = place_at i }) h.instance;
      }

  pub items_later : (b c : Sheet) (mine theirs : List ℕ) (is js : List Instance) → Extends b mine c theirs → Kept is js → (i : ℕ) (xs : List Value) (p : Plot) → AllItems b mine is i xs p → AllItems c theirs js i xs p
  items_later b c mine theirs is js e kept i [] p h = tt
  items_later b c mine theirs is js e kept i (x ∷ xs) p h =
      (item_later b c mine theirs is js e kept i x p h.0, items_later b c mine theirs is js e kept (i + 1) xs (one_entered i x p) h.1)

  module _ (deep : length path ≡ length outer) (p : Laid (Sees lib) lib bl.flow flow.body layout.bodies (laid.all ss inner bl.statements)) (cells : bl.cells ≡ (laid.behind_all lib ss inner).next_done) where
    -- the items from one on are entered, and the rules and owners are these
    pub record AreEntered (i : ℕ) (xs : List Value) (q : Plot) (rules : List net.Rule) (owners : List ℕ) (now : List net.Rule) (own : List ℕ) : Type 0 where
      pub items : AllItems (sheet_of (entered i xs q).net now) own (entered i xs q).instances i xs q
      pub extends : Extends (sheet_of q.net rules) owners (sheet_of (entered i xs q).net now) own
      pub even : IsEven (entered i xs q).net now own
      pub instances : Kept q.instances (entered i xs q).instances
      pub codes : (entered i xs q).net.rules ≡ q.net.rules ++ map new_code (items_news i xs q)
      pub steps : (entered i xs q).net.steps ≡ q.net.steps ++ map new_wants (items_news i xs q)

    as_lists : (i : ℕ) (xs : List Value) (q : Plot) (rules : List net.Rule) (owners : List ℕ) (now then : List net.Rule) (own other : List ℕ) → now ≡ then → own ≡ other → AreEntered i xs q rules owners now own
        → AreEntered i xs q rules owners then other
    as_lists i xs q rules owners now then own other e f h =
        subst (λ (rs : List net.Rule). AreEntered i xs q rules owners rs other) e (subst (λ (os : List ℕ). AreEntered i xs q rules owners now os) f h)

    none_entered : (i : ℕ) (q : Plot) (rules : List net.Rule) (owners : List ℕ) → IsEven q.net rules owners → AreEntered i [] q rules owners rules owners
    none_entered i q rules owners even =
        record {
          items = tt;
          extends = record { rules = λ j x h. h; steps = λ j x h. h; owners = λ j x h. h; values = λ j x h. h };
          even = even;
          instances = λ j x h. h;
          codes = sym (append-nil q.net.rules);
          steps = sym (append-nil q.net.steps);
        }

    module _ (i : ℕ) (x : Value) (q : Plot) (rules : List net.Rule) (owners : List ℕ) (even : IsEven q.net rules owners) where
      abbrev mid : Plot
      mid = one_entered i x q

      abbrev mid_rules : List net.Rule
      mid_rules = rules ++ map new_means (news_at i q)

      abbrev mid_owners : List ℕ
      mid_owners = owners ++ owners_at q

      abbrev instance_now : Instance
      instance_now = record { body = number; bases = bases_at q; place = place_at i }

      net_now : mid.net ≡ with_value (with_news (with_cells q.net bl.cells) (news_at i q)) (length q.net.values) x
      net_now = ap (λ (v : Sown). with_value v (length q.net.values) x) (net_is lib number bl ss outer (place_at i) (0 ∷ []) [] inner_names a.calls path deep bl.flow flow.body layout.bodies p cells q rules owners even)

      even_mid : IsEven mid.net mid_rules mid_owners
      even_mid = item_even lib number bl ss outer (place_at i) (0 ∷ []) [] inner_names a.calls path deep bl.flow flow.body layout.bodies p cells q rules owners even (omega arith) x

      kept : Kept q.instances mid.instances
      kept j z e = get_left q.instances (instance_now ∷ []) j z e

      item_mid : ItemAt (sheet_of mid.net mid_rules) mid_owners mid.instances i x q
      item_mid =
          record {
            cell = item_there lib number bl ss outer (place_at i) (0 ∷ []) [] inner_names a.calls path deep bl.flow flow.body layout.bodies p cells q rules owners even (omega arith) x;
            entered_there = item_entered lib number bl ss outer (place_at i) (0 ∷ []) [] inner_names a.calls path deep bl.flow flow.body layout.bodies p cells q rules owners even (omega arith) x;
            instance = ap (slice_get mid.instances) (omega arith) ∙ get_right q.instances (instance_now ∷ []) 0;
          }

      next_entered : (xs : List Value) (now : List net.Rule) (own : List ℕ) → AreEntered (i + 1) xs mid mid_rules mid_owners now own → AreEntered i (x ∷ xs) q rules owners now own
      next_entered xs now own h =
          let last = entered (i + 1) xs mid in
          record {
            items = (item_later (sheet_of mid.net mid_rules) (sheet_of last.net now) mid_owners own mid.instances last.instances h.extends h.instances i x q item_mid, h.items);
            extends =
                extends_twice (sheet_of q.net rules) (sheet_of mid.net mid_rules) (sheet_of last.net now) owners mid_owners own
                (item_extends lib number bl ss outer (place_at i) (0 ∷ []) [] inner_names a.calls path deep bl.flow flow.body layout.bodies p cells q rules owners even (omega arith) x) h.extends;
            even = h.even;
            instances = λ j z e. h.instances j z (kept j z e);
            codes = lists_both new_code q.net.rules last.net.rules mid.net.rules (news_at i q) (items_news (i + 1) xs mid) (ap (λ (v : Sown). v.rules) net_now) h.codes;
            steps = lists_both new_wants q.net.steps last.net.steps mid.net.steps (news_at i q) (items_news (i + 1) xs mid) (ap (λ (v : Sown). v.steps) net_now) h.steps;
          }

    pub are_entered : (i : ℕ) (xs : List Value) (q : Plot) (rules : List net.Rule) (owners : List ℕ) → IsEven q.net rules owners
        → AreEntered i xs q rules owners (rules_after i xs q rules) (owners ++ items_owners i xs q)
    are_entered i [] q rules owners even =
        as_lists i [] q rules owners rules (rules ++ []) owners (owners ++ []) (sym (append-nil rules)) (sym (append-nil owners)) (none_entered i q rules owners even)
    are_entered i (x ∷ xs) q rules owners even =
        let mid = one_entered i x q in
        let mid_rules = rules ++ map new_means (news_at i q) in
        let mid_owners = owners ++ owners_at q in
        as_lists i (x ∷ xs) q rules owners (rules_after (i + 1) xs mid mid_rules) (rules_after i (x ∷ xs) q rules) (mid_owners ++ items_owners (i + 1) xs mid) (owners ++ items_owners i (x ∷ xs) q)
        (rules_both rules (news_at i q) (items_news (i + 1) xs mid)) (append_assoc owners (owners_at q) (items_owners (i + 1) xs mid))
        (next_entered i x q rules owners even xs (rules_after (i + 1) xs mid mid_rules) (mid_owners ++ items_owners (i + 1) xs mid) (are_entered (i + 1) xs mid mid_rules mid_owners (even_mid i x q rules owners even)))

  -- ---- what has begun at each item

  abbrev pub items_of : ℕ → List Value → Plot → List Item
  items_of i [] p = []
  items_of i (x ∷ xs) p =
      record { item = length p.net.values; given = all_given lib (bases_at p) inner ss; dones = dones_at (length p.net.values) bl.statements } ∷ items_of (i + 1) xs (one_entered i x p)

  abbrev pub items_leaves : ℕ → ℕ → ℕ → List Value → Plot → ℕ
  items_leaves v n i [] p = 0
  items_leaves v n i (x ∷ xs) p = hits v n (length p.net.steps) ss + items_leaves v n (i + 1) xs (one_entered i x p)

  abbrev pub items_work : List Value → Work
  items_work [] = no_work
  items_work (x ∷ xs) = both_works (counted (length ss) no_work) (items_work xs)

  module _ (deep : length path ≡ length outer) (p : Laid (Sees lib) lib bl.flow flow.body layout.bodies (laid.all ss inner bl.statements)) (site : List ℕ) (rows : List Row) (b : Sheet) (owners : List ℕ)
      (is : List Instance) (size : ℕ) (within : size ≤ length b.values) (names_there : AreThere outer size a.names) (calls_there : AreThere outer size a.calls) where
    abbrev outside : Scope
    outside = scope_at outer a splace

    scope_is : (i base : ℕ) → scope_at (outer ++ base ∷ []) inner (place_at i) ≡ item_scope outside k item i base
    scope_is i base =
        ap (λ (ns : List Slot). record { names = ns; calls = marks_at (outer ++ base ∷ []) a.calls; place = place_at i })
        (map-append (slot_at (outer ++ base ∷ [])) a.names (item_spot path item ∷ [])
        ∙ ap (λ (ns : List Slot). ns ++ record { key = plain_key item; cell = get_or (outer ++ base ∷ []) (length path) 0 + 0 } ∷ []) (slots_more outer (base ∷ []) size a.names names_there)
        ∙ ap (λ (c : ℕ). slots_at outer a.names ++ record { key = plain_key item; cell = c } ∷ [])
        (let at = get_or_push outer base 0 (length path) (sym deep) in omega (arith, at)))
        ∙ ap (λ (ms : List Mark). record { names = slots_at outer a.names ++ record { key = plain_key item; cell = base } ∷ []; calls = ms; place = place_at i })
        (marks_more outer (base ∷ []) size a.calls calls_there)

    abbrev Begins : ℕ → net.Form → Work → (ℕ → ℕ → ℕ) → Type 0
    Begins depth f w leaves = HasBegun lib site rows b owners depth f w leaves

    -- the body at an item
    pub sits_at : (i : ℕ) (x : Value) (q : Plot) → ItemAt b owners is i x q → AllSit b owners lib (bases_at q) (place_at i) (length q.net.steps) ss inner bl.statements
    sits_at i x q h =
        all_sit lib b owners (bases_at q) (place_at i) bl.flow flow.body layout.bodies p (length q.net.steps)
        (put lib b owners (bases_at q) (place_at i) (0 ∷ []) [] (length q.net.values) (length q.net.steps) ss bl.statements inner_names a.calls path h.entered_there
        (get_or_push outer (length q.net.values) 0 (length path) (sym deep)))

    body_begins : (i : ℕ) (x : Value) (q : Plot) → ItemAt b owners is i x q → (depth : ℕ)
        → Begins depth (all ss (item_scope outside k item i (length q.net.values)) (all_given lib (bases_at q) inner ss) (dones_at (length q.net.values) bl.statements)) no_work (λ v n. hits v n (length q.net.steps) ss)
    body_begins i x q h depth =
        subst (λ (base : ℕ). Begins depth (all ss (item_scope outside k item i (length q.net.values)) (all_given lib (bases_at q) inner ss) (dones_at base bl.statements)) no_work (λ v n. hits v n (length q.net.steps) ss))
        (get_or_push outer (length q.net.values) 0 (length path) (sym deep))
        (subst (λ (s : Scope). Begins depth (all ss s (all_given lib (bases_at q) inner ss) (dones_at (base_at (bases_at q) inner) bl.statements)) no_work (λ v n. hits v n (length q.net.steps) ss))
        (scope_is i (length q.net.values))
        (bodies_begin lib site rows b owners (bases_at q) (place_at i) bl.flow flow.body layout.bodies ss inner bl.statements p (length q.net.steps) (sits_at i x q h) depth))

    both_weigh : (weight : Work → ℕ) → IsWeight weight → (v w x : Work) → even.IsEven v → weight v ≡ weight no_work → weight w ≡ weight x → weight (both_works (counted (length ss) v) w) ≡ weight (both_works (counted (length ss) no_work) x)
    both_weigh weight is_weight v w x even_v e f =
        let a_ = is_weight.both (counted (length ss) v) w even_v in
        let b_ = is_weight.both (counted (length ss) no_work) x refl in
        let c = is_weight.more (length ss) v in
        let z = is_weight.nothing in
        omega (arith, a_, b_, c, e, f, z)

    both_sums : (m n i j : ℕ) → m ≡ i → n ≡ j → m + n ≡ i + j
    both_sums m n i j e f = omega (arith, e, f)

    pub each_begins : (i : ℕ) (xs : List Value) (q : Plot) → AllItems b owners is i xs q → (depth : ℕ)
        → Begins depth (each ss outside k item i xs (items_of i xs q)) (items_work xs) (λ v n. items_leaves v n i xs q)
    each_begins i [] q h depth = record { grown = no_item depth ss outside k item i; weighs = λ weight is_weight. refl; leaves_are = λ v n. refl; spends = λ task. refl }
    each_begins i (x ∷ xs) q h depth =
        let m = one_entered i x q in
        let body = body_begins i x q h.0 depth in
        let rest = each_begins (i + 1) xs m h.1 depth in
        record {
          grown =
              item_next depth ss outside k item i (length q.net.values) x xs (all_given lib (bases_at q) inner ss) (dones_at (length q.net.values) bl.statements) (items_of (i + 1) xs m) (ap joined h.0.cell)
              body.grown rest.grown;
          weighs = λ weight is_weight.
              both_weigh weight is_weight (work_of lib site rows (rules_of b) (state_of b owners) body.grown) (work_of lib site rows (rules_of b) (state_of b owners) rest.grown) (items_work xs)
              (work_even lib site rows (rules_of b) (state_of b owners) body.grown)
              (body.weighs weight is_weight) (rest.weighs weight is_weight);
          leaves_are = λ v n. both_sums _ _ (hits v n (length q.net.steps) ss) (items_leaves v n (i + 1) xs m) (body.leaves_are v n) (rest.leaves_are v n);
          spends = λ task. both_sums _ _ 0 0 (body.spends task) (rest.spends task);
        }

    -- ---- what holds of the steps

    steps_long : (i : ℕ) (x : Value) (q : Plot) → length (one_entered i x q).net.steps ≡ length q.net.steps + length (news_at i q)
    steps_long i x q =
        ap (λ (v : Sown). length v.steps) (statements_added lib (length q.instances) (bases_at q) (place_at i) bl.flow flow.body layout.bodies p 0 (with_cells q.net bl.cells))
        ∙ length-append q.net.steps (map new_wants (news_at i q)) ∙ ap (λ (m : ℕ). length q.net.steps + m) (length-map (news_at i q) new_wants)

    module _ (there : slice_get layout.bodies number ≡ Some bl) (of_flow : slice_get lib.flows bl.flow ≡ Some flow) (at_path : body_at flow.body bl.path ≡ ss) where
      abbrev AllHere : ℕ → List New → Type 0
      AllHere = AllStand lib layout is b owners

      stands_at : (i : ℕ) (x : Value) (q : Plot) → ItemAt b owners is i x q → AllHere (length q.net.steps) (news_at i q)
      stands_at i x q h =
          let base = length q.net.values in
          let inside : base < length b.values = slice_get_within b.values base (Some x) h.cell in
          let at = get_or_push outer base 0 (length path) (sym deep) in
          let long = length-append outer (base ∷ []) in
          statements_stand lib layout is b owners (length q.instances) (record { body = number; bases = bases_at q; place = place_at i }) bl flow
          (record { there = h.instance; body_there = there; flow_there = of_flow }) p (length q.net.steps) 0 (sits_at i x q h)
          (there_both (bases_at q) (length b.values) a.names (item_spot path item ∷ []) (there_more outer (base ∷ []) size (length b.values) within a.names names_there)
          (omega (arith, long, deep), omega (arith, at, inside), tt))
          (there_more outer (base ∷ []) size (length b.values) within a.calls calls_there)
          (omega (arith, long, deep))
          (λ j y e. ap (λ (xs : List Statement). slice_get xs (0 + j)) at_path ∙ ap (slice_get ss) (omega arith) ∙ e, λ j y e. ap (slice_get bl.statements) (omega arith) ∙ e) (omega arith, omega arith)

      pub items_stand : (i : ℕ) (xs : List Value) (q : Plot) → AllItems b owners is i xs q → AllHere (length q.net.steps) (items_news i xs q)
      items_stand i [] q h = tt
      items_stand i (x ∷ xs) q h =
          let m = one_entered i x q in
          stand_both lib layout is b owners (length q.net.steps) (length m.net.steps) (news_at i q) (items_news (i + 1) xs m) (steps_long i x q) (stands_at i x q h.0) (items_stand (i + 1) xs m h.1)

    -- the leaves of all, as those of the steps
    news_long : (i : ℕ) (q : Plot) → length (news_at i q) ≡ length ss
    news_long i q = news_length lib (length q.instances) (bases_at q) (place_at i) bl.flow flow.body layout.bodies p 0

    pub leaves_sum : (v n i : ℕ) (xs : List Value) (q : Plot) → items_leaves v n i xs q ≡ hits v n (length q.net.steps) (items_news i xs q)
    leaves_sum v n i [] q = refl
    leaves_sum v n i (x ∷ xs) q =
        let m = one_entered i x q in
        let rest = leaves_sum v n (i + 1) xs m in
        let own = hits_length v n (length q.net.steps) ss (news_at i q) (sym (news_long i q)) in
        let both = hits_both v n (length q.net.steps) (length m.net.steps) (news_at i q) (items_news (i + 1) xs m) (steps_long i x q) in
        omega (arith, rest, own, both)
