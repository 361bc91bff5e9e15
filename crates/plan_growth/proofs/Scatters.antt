-- A scatter that is entered.
use Rattle.std.proofs.Common.{◌≡◌, ℕ, zero, suc, ◌+◌, ◌<◌, ◌≤◌, ◌⊎◌, inl, inr, true, false, List, [], ◌∷◌, ◌++◌, All, map, length, get_or, Option, Some, None, Ok, slice_get, arith, sym, ap, ◌∙◌, subst, refl}
use Rattle.std.proofs.lemmas.Bool.{false≢true}
use Rattle.std.proofs.lemmas.List.{length-append, length-map, length-set}
use Rattle.std.proofs.lemmas.Option.{slice_get-get_or, slice_get_within}
use Rattle.wdl_base.specs.declared.place.Segment.{Segment}
use Rattle.wdl_base.specs.declared.place.Segment.TheVariants as segment
use Rattle.wdl_value.specs.declared.value.Value.{Value}
use Rattle.wdl_value.specs.Parts.{items_in}
use Rattle.wdl_value.specs.Tables.{Row}
use Rattle.wdl_typed.specs.declared.flow.FlowDef.{FlowDef}
use Rattle.wdl_typed.specs.declared.flow.Statement.{Statement, Statement-F}
use Rattle.wdl_typed.specs.declared.flow.Statement.TheVariants as stmt
use Rattle.wdl_typed.specs.declared.flow.TScatter.{TScatter}
use Rattle.wdl_typed.specs.Bodies.{Library}
use Rattle.wdl_typed.specs.Flow.{Names}
use Rattle.wdl_typed.specs.Journal.{keys_distinct}
use Rattle.step_net.specs.Views.{Wants}
use Rattle.value_net.specs.Nets as values
use Rattle.value_net.specs.Nets.{with_step, with_taken}
use Rattle.net_laws.specs.Growing as net
use Rattle.net_laws.specs.Growing.{AllEnding, AllGathered, Ending, Gathered, Item, body_given, does, each, ends, gathers, mark_cell, slot_cell}
use Rattle.net_laws.specs.Net.{Mark, Slot}
use Rattle.plan_moves.specs.Laws.{EntersScatter, HasHead}
use Rattle.plan_moves.specs.Sheets.{Sheet, rules_of, state_of}
use Rattle.plan_layout.specs.declared.layout.Layout.{Layout}
use Rattle.plan_layout.specs.declared.layout.StatementLayout.{StatementLayout}
use Rattle.plan_layout.specs.Laid as laid
use Rattle.plan_layout.specs.Laid.{Laid, Stand, given_at, item_spot}
use Rattle.plan_layout.specs.Paths.{body_at}
use Rattle.plan_layout.specs.Sees.{Sees}
use Rattle.plan_layout.specs.Spots.{plain_keys}
use Rattle.plan_growth.specs.declared.instance.Instance.{Instance}
use Rattle.plan_growth.specs.declared.rule.Rule.TheVariants as rule
use Rattle.plan_growth.specs.Begun.{HasBegun, IsFree, base_at, given_by, hits, scope_at}
use Rattle.plan_growth.specs.Blocks.{with_gathered}
use Rattle.plan_growth.specs.Entering as entering
use Rattle.plan_growth.specs.Entering.{Plot, Sown, beyond_each, firsts_of, with_ends, with_gathers}
use Rattle.plan_growth.specs.Growth.{IsEven, is_leaf, sheet_of}
use Rattle.plan_growth.specs.Meaning.{AreThere, Fits, rule_cells}
use Rattle.plan_growth.specs.News.{AllStand, New, new_code, new_means, new_wants, with_news}
use Rattle.plan_growth.proofs.Adding.{hits_before, hits_behind, hits_one, lists_both, news_both, news_by, news_by_get, news_by_length, news_by_of, news_last, rule_at, rules_both, stand_both, stand_by, step_at}
use Rattle.plan_growth.proofs.Entry.{even_news}
use Rattle.plan_growth.proofs.Firsts.{all_within, beyond_within, dones_same, items_called, items_named}
use Rattle.plan_growth.proofs.Inside.{ScatterLaid}
use Rattle.plan_growth.proofs.Instances.{Extends, instance_owners, owners_count}
use Rattle.plan_growth.proofs.Items.{AllItems, AreEntered, are_entered, each_begins, entered, inner, items_later, items_leaves, items_news, items_of, items_owners, items_stand, items_work, leaves_sum, rules_after}
use Rattle.plan_growth.proofs.Lists.{get_at, get_left, get_split, kept_length}
use Rattle.plan_growth.proofs.Moving.{Moves}
use Rattle.plan_growth.proofs.Outer.{all_left, all_right, calls_at, calls_given, done_given, done_new, end_new, end_stands, ends_added, gather_new, gather_stands, gathers_added, joint_waits, names_at, names_given, others_owned, outer_length, outer_owners}
use Rattle.plan_growth.proofs.Runs.{ending_all, gathered_all, marks_run, slots_run}
use Rattle.plan_growth.proofs.Seen.{distinct_calls, distinct_own}
use Rattle.plan_growth.proofs.Sitting.{dones_count}

module _ (lib : Library) (layout : Layout) (site : List ℕ) (rows : List Row) (v : Sown) (rules : List net.Rule) (owners : List ℕ) (is : List Instance) (even : IsEven v rules owners) (t : ℕ) (step : Wants)
    (there : slice_get v.steps t ≡ Some step) (fresh : step.is_taken ≡ false) (ready : values.are_set v.values step.needs ≡ true) (outer : List ℕ) (place : List Segment) (a : Stand) (l : StatementLayout) (flow : FlowDef)
    (number : ℕ) (flow_there : slice_get lib.flows number ≡ Some flow) (level : length outer ≡ length a.path + 1) (names_there : AreThere outer (length v.values) a.names)
    (calls_there : AreThere outer (length v.values) a.calls) (x : TScatter Statement) (sees : Sees lib (stmt.Scatter x) a) (lay : ScatterLaid lib number flow.body layout.bodies x a l)
    (fits : Fits (body_given lib x.body) a)
    (free : All (IsFree (sheet_of v rules) owners t) (rule_cells (does (stmt.Scatter x) (scope_at outer a place) (given_by outer a (body_given lib x.body)) (base_at outer a + l.done)))) (y : Value) where
  abbrev xs : List Value
  xs = items_in y

  abbrev n : Names
  n = body_given lib x.body

  abbrev base : ℕ
  base = base_at outer a

  abbrev path : List ℕ
  path = a.path ++ a.index ∷ []

  abbrev place_in : List Segment
  place_in = place ++ segment.Scatter x.number ∷ []

  abbrev start : Plot
  start = record { net = with_taken v t step; instances = is }

  deep : length path ≡ length outer
  deep = let size = length-append a.path (a.index ∷ []) in omega (arith, size, level)

  abbrev stand : Stand
  stand = inner lib layout l.inner lay.inner flow x.body outer path place x.number x.item a

  inner_laid : Laid (Sees lib) lib lay.inner.flow flow.body layout.bodies (laid.all x.body stand lay.inner.statements)
  inner_laid = subst (λ (f : ℕ). Laid (Sees lib) lib f flow.body layout.bodies (laid.all x.body stand lay.inner.statements)) (sym lay.body.runs.flow_is) lay.body.statements

  -- ---- the cells outside

  abbrev Free : ℕ → Type 0
  Free = IsFree (sheet_of v rules) owners t

  own_names : (j : ℕ) → j < length n.keys → Free (base + (a.next_name + j))
  own_names = names_at Free outer (length a.path) a.next_name n.keys (all_left Free (map slot_cell (given_by outer a n).names) (map mark_cell (given_by outer a n).calls ++ (base + l.done) ∷ []) free)

  own_rest : All Free (map mark_cell (given_by outer a n).calls ++ (base + l.done) ∷ [])
  own_rest = all_right Free (map slot_cell (given_by outer a n).names) (map mark_cell (given_by outer a n).calls ++ (base + l.done) ∷ []) free

  own_calls : (j : ℕ) → j < length n.calls → Free (base + (a.next_call + j))
  own_calls = calls_at Free outer (length a.path) a.next_call n.calls (all_left Free (map mark_cell (given_by outer a n).calls) ((base + l.done) ∷ []) own_rest)

  own_done : Free (base + l.done)
  own_done = all_right Free (map mark_cell (given_by outer a n).calls) ((base + l.done) ∷ []) own_rest 0 0 (omega arith)

  low : a.next_call + length n.calls ≤ l.done
  low = let e = lay.slots.done_is in let f = fits.1 in omega (arith, e, f)

  -- ---- the items

  abbrev pub items_net : Plot
  items_net = entered lib layout l.inner lay.inner flow x.body outer path place x.number x.item a 0 xs start

  abbrev firsts : List ℕ
  firsts = firsts_of l.inner outer place_in lay.inner 0 xs start

  abbrev name_step : ℕ
  name_step = length items_net.net.steps

  abbrev call_step : ℕ
  call_step = name_step + length n.keys

  abbrev done_step : ℕ
  done_step = call_step + length n.calls

  abbrev owners_out : List ℕ
  owners_out = outer_owners owners base a.next_name (length n.keys) a.next_call (length n.calls) l.done name_step call_step done_step

  even_start : IsEven start.net rules owners_out
  even_start =
      let size = length-set v.steps t (record { needs = step.needs; is_taken = true }) in
      record {
        codes = even.codes ∙ sym size;
        rules_too = even.rules_too ∙ sym size;
        owners_too =
            outer_length (sheet_of v rules) owners t base a.next_name (length n.keys) a.next_call (length n.calls) l.done own_names own_calls own_done fits.0 low name_step call_step done_step ∙ even.owners_too;
      }

  abbrev Entered : ℕ → List Value → List net.Rule → List ℕ → Type 0
  Entered i ys now own = AreEntered lib layout l.inner lay.inner flow x.body outer path place x.number x.item a deep inner_laid lay.body.runs.cells i ys start rules owners_out now own

  abbrev rules_in : List net.Rule
  rules_in = rules_after lib layout l.inner lay.inner flow x.body outer path place x.number x.item a 0 xs start rules

  abbrev pub owners_now : List ℕ
  owners_now = owners_out ++ items_owners lib layout l.inner lay.inner flow x.body outer path place x.number x.item a 0 xs start

  entry : Entered 0 xs rules_in owners_now
  entry = are_entered lib layout l.inner lay.inner flow x.body outer path place x.number x.item a deep inner_laid lay.body.runs.cells 0 xs start rules owners_out even_start

  abbrev news_in : List New
  news_in = items_news lib layout l.inner lay.inner flow x.body outer path place x.number x.item a 0 xs start

  long : length items_net.net.steps ≡ length start.net.steps + length news_in
  long = ap length entry.steps ∙ length-append start.net.steps (map new_wants news_in) ∙ ap (λ (m : ℕ). length start.net.steps + m) (length-map news_in new_wants)

  -- ---- the joints

  abbrev gathering : List New
  gathering = news_by (gather_new firsts 1 (base + a.next_name)) (length n.keys)

  abbrev calling : List New
  calling = news_by (end_new firsts lay.inner.first_call (base + a.next_call)) (length n.calls)

  abbrev ending : New
  ending = done_new (entering.all_dones lay.inner.statements firsts) (base + l.done)

  abbrev joints : List New
  joints = (gathering ++ calling) ++ ending ∷ []

  abbrev pub last_net : Sown
  last_net = with_gathered firsts lay.inner l base items_net.net

  gathered_net : with_gathers firsts lay.inner.first_name (base + l.first_name) l.names items_net.net ≡ with_news items_net.net gathering
  gathered_net =
      ap (λ (m : ℕ). with_gathers firsts m (base + l.first_name) l.names items_net.net) lay.body.runs.first_name
      ∙ ap (λ (m : ℕ). with_gathers firsts 1 (base + m) l.names items_net.net) lay.slots.first_name
      ∙ ap (λ (m : ℕ). with_gathers firsts 1 (base + a.next_name) m items_net.net) lay.slots.names
      ∙ gathers_added firsts 1 (base + a.next_name) (length n.keys) items_net.net

  called_net : with_ends firsts lay.inner.first_call (base + l.first_call) l.calls (with_gathers firsts lay.inner.first_name (base + l.first_name) l.names items_net.net)
      ≡ with_news items_net.net (gathering ++ calling)
  called_net =
      ap (λ (m : ℕ). with_ends firsts lay.inner.first_call (base + m) l.calls (with_gathers firsts lay.inner.first_name (base + l.first_name) l.names items_net.net)) lay.slots.first_call
      ∙ ap (λ (m : ℕ). with_ends firsts lay.inner.first_call (base + a.next_call) m (with_gathers firsts lay.inner.first_name (base + l.first_name) l.names items_net.net)) lay.slots.calls
      ∙ ap (with_ends firsts lay.inner.first_call (base + a.next_call) (length n.calls)) gathered_net
      ∙ ends_added firsts lay.inner.first_call (base + a.next_call) (length n.calls) (with_news items_net.net gathering)
      ∙ news_both items_net.net gathering calling

  joined_net : last_net ≡ with_news items_net.net joints
  joined_net =
      ap (λ (u : Sown). with_step u (rule.Ends (base + l.done)) (entering.all_dones lay.inner.statements firsts)) called_net ∙ news_last items_net.net (gathering ++ calling) ending

  abbrev pub rules_now : List net.Rule
  rules_now = rules_in ++ map new_means joints

  abbrev pub b : Sheet
  b = sheet_of last_net rules_now

  values_same : last_net.values ≡ items_net.net.values
  values_same = ap (λ (u : Sown). u.values) joined_net

  steps_are : last_net.steps ≡ items_net.net.steps ++ map new_wants joints
  steps_are = ap (λ (u : Sown). u.steps) joined_net

  joints_behind : Extends (sheet_of items_net.net rules_in) owners_now b owners_now
  joints_behind =
      record {
        rules = λ i r h. get_left rules_in (map new_means joints) i r h;
        steps = λ i w h. ap (λ (ws : List Wants). slice_get ws i) steps_are ∙ get_left items_net.net.steps (map new_wants joints) i w h;
        owners = λ i u h. h;
        values = λ i o h. ap (λ (os : List (Option Value)). slice_get os i) values_same ∙ h;
      }

  value_kept : (c : ℕ) (o : Option Value) → slice_get v.values c ≡ Some o → slice_get b.values c ≡ Some o
  value_kept c o h = joints_behind.values c o (entry.extends.values c o h)

  longer : length v.values ≤ length b.values
  longer = kept_length v.values b.values value_kept

  all_items : AllItems lib layout l.inner lay.inner flow x.body outer path place x.number x.item a b owners_now items_net.instances 0 xs start
  all_items =
      items_later lib layout l.inner lay.inner flow x.body outer path place x.number x.item a (sheet_of items_net.net rules_in) b owners_now owners_now items_net.instances items_net.instances joints_behind (λ i y h. h) 0 xs
      start entry.items

  -- where the steps of the joints are
  rule_here : (j u : ℕ) (m : New) → u ≡ name_step + j → slice_get joints j ≡ Some m → slice_get rules_now u ≡ Some m.means
  rule_here j u m e h = let size = entry.even.rules_too in rule_at rules_in joints j u m (omega (arith, e, size)) h

  step_here : (j u : ℕ) (m : New) → u ≡ name_step + j → slice_get joints j ≡ Some m → slice_get last_net.steps u ≡ Some (new_wants m)
  step_here j u m e h = ap (λ (ws : List Wants). slice_get ws u) steps_are ∙ step_at items_net.net.steps joints j u m e h

  gather_there : (j : ℕ) → j < length n.keys → slice_get joints j ≡ Some (gather_new firsts 1 (base + a.next_name) j)
  gather_there j lt =
      get_left (gathering ++ calling) (ending ∷ []) j (gather_new firsts 1 (base + a.next_name) j)
      (get_left gathering calling j (gather_new firsts 1 (base + a.next_name) j) (news_by_get (gather_new firsts 1 (base + a.next_name)) (length n.keys) j lt))

  call_there : (j : ℕ) → j < length n.calls → slice_get joints (length n.keys + j) ≡ Some (end_new firsts lay.inner.first_call (base + a.next_call) j)
  call_there j lt =
      let size = news_by_length (gather_new firsts 1 (base + a.next_name)) (length n.keys) in
      get_left (gathering ++ calling) (ending ∷ []) (length n.keys + j) (end_new firsts lay.inner.first_call (base + a.next_call) j)
      (get_at gathering calling j (length n.keys + j) (omega (arith, size)) ∙ news_by_get (end_new firsts lay.inner.first_call (base + a.next_call)) (length n.calls) j lt)

  ending_there : slice_get joints (length n.keys + length n.calls) ≡ Some ending
  ending_there =
      let one = news_by_length (gather_new firsts 1 (base + a.next_name)) (length n.keys) in
      let two = news_by_length (end_new firsts lay.inner.first_call (base + a.next_call)) (length n.calls) in
      let both = length-append gathering calling in
      get_at (gathering ++ calling) (ending ∷ []) 0 (length n.keys + length n.calls) (omega (arith, one, two, both))

  -- their cells
  name_free : (j : ℕ) → j < length n.keys → IsFree b owners_now (name_step + j) (base + a.next_name + j)
  name_free j lt = (
    ap (slice_get owners_now) (omega arith)
        ∙ get_left owners_out (items_owners lib layout l.inner lay.inner flow x.body outer path place x.number x.item a 0 xs start) (base + (a.next_name + j)) (name_step + j)
        (names_given (sheet_of v rules) owners t base a.next_name (length n.keys) a.next_call (length n.calls) l.done own_names own_calls own_done fits.0 low name_step call_step done_step j lt),
    ap (slice_get b.values) (omega arith) ∙ value_kept (base + (a.next_name + j)) None (own_names j lt).1,
  )

  call_free : (j : ℕ) → j < length n.calls → IsFree b owners_now (call_step + j) (base + a.next_call + j)
  call_free j lt = (
    ap (slice_get owners_now) (omega arith)
        ∙ get_left owners_out (items_owners lib layout l.inner lay.inner flow x.body outer path place x.number x.item a 0 xs start) (base + (a.next_call + j)) (call_step + j)
        (calls_given (sheet_of v rules) owners t base a.next_name (length n.keys) a.next_call (length n.calls) l.done own_names own_calls own_done fits.0 low name_step call_step done_step j lt),
    ap (slice_get b.values) (omega arith) ∙ value_kept (base + (a.next_call + j)) None (own_calls j lt).1,
  )

  done_free : IsFree b owners_now done_step (base + l.done)
  done_free = (
    get_left owners_out (items_owners lib layout l.inner lay.inner flow x.body outer path place x.number x.item a 0 xs start) (base + l.done) done_step
        (done_given (sheet_of v rules) owners t base a.next_name (length n.keys) a.next_call (length n.calls) l.done own_names own_calls own_done fits.0 low name_step call_step done_step),
    value_kept (base + l.done) None own_done.1,
  )

  -- ---- what is gathered and ends

  gathered_at : (i m d : ℕ) → m ≡ 1 + i → d ≡ base + a.next_name + i → i < length n.keys → Gathered lib site rows (rules_of b) (state_of b owners_now) (beyond_each firsts m) d
  gathered_at i m d e f lt =
      subst (λ (p : ℕ). Gathered lib site rows (rules_of b) (state_of b owners_now) (beyond_each firsts p) d) (sym e)
      (subst (λ (c : ℕ). Gathered lib site rows (rules_of b) (state_of b owners_now) (beyond_each firsts (1 + i)) c) (sym f) (
        name_step + i,
        inl
            (joint_waits lib site rows b owners_now (name_step + i) (gathers (beyond_each firsts (1 + i)) (base + a.next_name + i)) (beyond_each firsts (1 + i)) (base + a.next_name + i)
            (rule_here i (name_step + i) (gather_new firsts 1 (base + a.next_name) i) refl (gather_there i lt)) (step_here i (name_step + i) (gather_new firsts 1 (base + a.next_name) i) refl (gather_there i lt))
            (name_free i lt)),
      ))

  ending_at : (i m d : ℕ) → m ≡ lay.inner.first_call + i → d ≡ base + a.next_call + i → i < length n.calls → Ending lib site rows (rules_of b) (state_of b owners_now) (beyond_each firsts m) d
  ending_at i m d e f lt =
      subst (λ (p : ℕ). Ending lib site rows (rules_of b) (state_of b owners_now) (beyond_each firsts p) d) (sym e)
      (subst (λ (c : ℕ). Ending lib site rows (rules_of b) (state_of b owners_now) (beyond_each firsts (lay.inner.first_call + i)) c) (sym f) (
        call_step + i,
        inl
            (joint_waits lib site rows b owners_now (call_step + i) (ends (beyond_each firsts (lay.inner.first_call + i)) (base + a.next_call + i)) (beyond_each firsts (lay.inner.first_call + i)) (base + a.next_call + i)
            (rule_here (length n.keys + i) (call_step + i) (end_new firsts lay.inner.first_call (base + a.next_call) i) (omega arith) (call_there i lt))
            (step_here (length n.keys + i) (call_step + i) (end_new firsts lay.inner.first_call (base + a.next_call) i) (omega arith) (call_there i lt)) (call_free i lt)),
      ))

  abbrev all_of : List Item
  all_of = items_of lib layout l.inner lay.inner flow x.body outer path place x.number x.item a 0 xs start

  keys_differ : keys_distinct n.keys ≡ true
  keys_differ = ap (λ (y : Statement-F Statement). keys_distinct (given_at lib y).keys) (sym (stmt.outs-Scatter x)) ∙ distinct_own lib (stmt.Scatter x) a sees

  calls_differ : keys_distinct (plain_keys n.calls) ≡ true
  calls_differ =
      ap (λ (y : Statement-F Statement). keys_distinct (plain_keys (given_at lib y).calls)) (sym (stmt.outs-Scatter x)) ∙ distinct_calls lib (stmt.Scatter x) a sees

  pub names_gathered : AllGathered lib site rows (rules_of b) (state_of b owners_now) all_of n.keys (given_by outer a n).names
  names_gathered =
      subst (λ (ss : List Slot). AllGathered lib site rows (rules_of b) (state_of b owners_now) all_of n.keys ss) (sym (slots_run outer (length a.path) a.next_name (base + a.next_name) n.keys refl))
      (gathered_all lib site rows (rules_of b) (state_of b owners_now) all_of firsts 1 (base + a.next_name) n.keys
      (items_named lib layout l.inner lay.inner flow x.body outer path place x.number x.item a deep site rows (rules_of b) (state_of b owners_now) keys_differ 0 xs start) gathered_at)

  pub calls_ending : AllEnding lib site rows (rules_of b) (state_of b owners_now) all_of n.calls (given_by outer a n).calls
  calls_ending =
      subst (λ (ms : List Mark). AllEnding lib site rows (rules_of b) (state_of b owners_now) all_of n.calls ms) (sym (marks_run outer (length a.path) a.next_call (base + a.next_call) n.calls refl))
      (ending_all lib site rows (rules_of b) (state_of b owners_now) all_of firsts lay.inner.first_call (base + a.next_call) n.calls
      (items_called lib layout l.inner lay.inner flow x.body outer path place x.number x.item a deep site rows (rules_of b) (state_of b owners_now) calls_differ lay.inner.first_call lay.body.runs.first_call 0 xs start)
      ending_at)

  pub all_ended : Ending lib site rows (rules_of b) (state_of b owners_now) (net.all_dones lib site rows (rules_of b) (state_of b owners_now) all_of) (base + l.done)
  all_ended =
      subst (λ (cs : List ℕ). Ending lib site rows (rules_of b) (state_of b owners_now) cs (base + l.done))
      (sym (dones_same lib layout l.inner lay.inner flow x.body outer path place x.number x.item a site rows (rules_of b) (state_of b owners_now) 0 xs start)) (
        done_step,
        inl
            (joint_waits lib site rows b owners_now done_step (ends (entering.all_dones lay.inner.statements firsts) (base + l.done)) (entering.all_dones lay.inner.statements firsts) (base + l.done)
            (rule_here (length n.keys + length n.calls) done_step ending (omega arith) ending_there) (step_here (length n.keys + length n.calls) done_step ending (omega arith) ending_there) done_free),
      )

  -- ---- what holds of the steps that were added

  abbrev Here : ℕ → List New → Type 0
  Here u ns = AllStand lib layout items_net.instances b owners_now u ns

  abbrev Inside : List ℕ → Type 0
  Inside cs = All (λ (c : ℕ). c < length b.values) cs

  many : (u : ℕ) → 1 + length n.keys + 0 + length n.calls ≤ length (instance_owners lib (0 ∷ []) [] u x.body)
  many u =
      let e = owners_count lib (0 ∷ []) [] u x.body (a.names ++ item_spot path x.item ∷ []) a.calls path in
      let d = dones_count lib u x.body stand in
      omega (arith, e, d)

  names_inside : (j : ℕ) → j < length n.keys → Inside (beyond_each firsts (1 + j))
  names_inside j lt =
      beyond_within lib layout l.inner lay.inner flow x.body outer path place x.number x.item a b owners_now items_net.instances 0 xs start all_items (1 + j) (omega arith) (λ u. let m = many u in omega (arith, m, lt))

  calls_inside : (j : ℕ) → j < length n.calls → Inside (beyond_each firsts (lay.inner.first_call + j))
  calls_inside j lt =
      let e = lay.body.runs.first_call in
      beyond_within lib layout l.inner lay.inner flow x.body outer path place x.number x.item a b owners_now items_net.instances 0 xs start all_items (lay.inner.first_call + j) (omega (arith, e))
      (λ u. let m = many u in omega (arith, m, lt, e))

  dones_inside : Inside (entering.all_dones lay.inner.statements firsts)
  dones_inside =
      all_within lib layout l.inner lay.inner flow x.body outer path place x.number x.item a deep inner_laid site rows b owners_now items_net.instances (length v.values) longer names_there calls_there 0 xs start all_items

  joints_stand : Here name_step joints
  joints_stand =
      let one = news_by_length (gather_new firsts 1 (base + a.next_name)) (length n.keys) in
      let two = news_by_length (end_new firsts lay.inner.first_call (base + a.next_call)) (length n.calls) in
      let both = length-append gathering calling in
      stand_both lib layout items_net.instances b owners_now name_step done_step (gathering ++ calling) (ending ∷ []) (omega (arith, one, two, both))
      (stand_both lib layout items_net.instances b owners_now name_step call_step gathering calling (omega (arith, one))
      (stand_by lib layout items_net.instances b owners_now (gather_new firsts 1 (base + a.next_name)) name_step (length n.keys) (λ j lt.
      gather_stands lib layout items_net.instances b owners_now (name_step + j) (base + a.next_name + j) (beyond_each firsts (1 + j)) (name_free j lt) (names_inside j lt)))
      (stand_by lib layout items_net.instances b owners_now (end_new firsts lay.inner.first_call (base + a.next_call)) call_step (length n.calls) (λ j lt.
      end_stands lib layout items_net.instances b owners_now (call_step + j) (base + a.next_call + j) (beyond_each firsts (lay.inner.first_call + j)) (call_free j lt) (calls_inside j lt))))
      (end_stands lib layout items_net.instances b owners_now done_step (base + l.done) (entering.all_dones lay.inner.statements firsts) done_free dones_inside, tt)

  abbrev pub news : List New
  news = news_in ++ joints

  starts : length start.net.steps ≡ length v.steps
  starts = length-set v.steps t (record { needs = step.needs; is_taken = true })

  pub news_stand : Here (length v.steps) news
  news_stand =
      subst (λ (u : ℕ). Here u news) starts
      (stand_both lib layout items_net.instances b owners_now (length start.net.steps) name_step news_in joints long
      (items_stand lib layout l.inner lay.inner flow x.body outer path place x.number x.item a deep inner_laid site rows b owners_now items_net.instances (length v.values) longer names_there calls_there lay.there
      (ap (slice_get lib.flows) lay.body.runs.flow_is ∙ flow_there) (ap (body_at flow.body) lay.body.runs.path_is ∙ lay.body.runs.there) 0 xs start all_items) joints_stand)

  -- ---- what the step did

  pub scatter_moves : Moves t v rules owners is last_net rules_now owners_now items_net.instances news
  scatter_moves =
      record {
        step = step;
        there = there;
        fresh = fresh;
        ready = ready;
        codes = lists_both new_code v.rules last_net.rules items_net.net.rules news_in joints entry.codes (ap (λ (u : Sown). u.rules) joined_net);
        means = rules_both rules news_in joints;
        steps = lists_both new_wants start.net.steps last_net.steps items_net.net.steps news_in joints entry.steps steps_are;
        instances = entry.instances;
        cells = longer;
        others = λ c u h ne.
            let inside = slice_get_within owners c u h in
            let size = even.owners_too in
            let at = slice_get-get_or v.values c None (omega (arith, inside, size)) in
            value_kept c (get_or v.values c None) at ∙ sym at;
        kept = λ c z h. value_kept c (Some z) h;
        owned = λ c u h ne.
            get_left owners_out (items_owners lib layout l.inner lay.inner flow x.body outer path place x.number x.item a 0 xs start) c u
            (others_owned (sheet_of v rules) owners t base a.next_name (length n.keys) a.next_call (length n.calls) l.done own_names own_calls own_done fits.0 low name_step call_step done_step c u h ne);
        even_now = subst (λ (u : Sown). IsEven u rules_now owners_now) (sym joined_net) (even_news items_net.net rules_in owners_now joints entry.even);
      }

  -- ---- leaves

  abbrev pub new_leaves : ℕ → ℕ → ℕ
  new_leaves u k = items_leaves lib layout l.inner lay.inner flow x.body outer path place x.number x.item a u k 0 xs start

  leaves_are : (u k : ℕ) → new_leaves u k ≡ hits u k (length v.steps) news_in
  leaves_are u k =
      leaves_sum lib layout l.inner lay.inner flow x.body outer path place x.number x.item a deep inner_laid site rows b owners_now items_net.instances (length v.values) longer names_there calls_there u k 0 xs start
      ∙ ap (λ (m : ℕ). hits u k m news_in) starts

  pub leaves_before : (u k : ℕ) → u < length v.steps → new_leaves u k ≡ 0
  leaves_before u k lt = leaves_are u k ∙ hits_before u k (length v.steps) news_in lt

  pub leaves_past : (u k : ℕ) → length last_net.steps ≤ u → new_leaves u k ≡ 0
  leaves_past u k le =
      let all = ap length steps_are in
      let both = length-append items_net.net.steps (map new_wants joints) in
      let some = long in
      let first = starts in
      leaves_are u k ∙ hits_behind u k (length v.steps) news_in (omega (arith, all, both, some, first, le))

  joint_none : (j : ℕ) (m : New) → slice_get joints j ≡ Some m → is_leaf m.means ≡ false
  joint_none j m h = by_case (get_split (gathering ++ calling) (ending ∷ []) j m h)
    where
      by_both : (slice_get gathering j ≡ Some m) ⊎ ((i : ℕ) × (j ≡ length gathering + i) × (slice_get calling i ≡ Some m)) → is_leaf m.means ≡ false
      by_both (inl e) = let p = news_by_of (gather_new firsts 1 (base + a.next_name)) (length n.keys) j m e in ap (λ (z : New). is_leaf z.means) p.1
      by_both (inr (i, f, e)) = let p = news_by_of (end_new firsts lay.inner.first_call (base + a.next_call)) (length n.calls) i m e in ap (λ (z : New). is_leaf z.means) p.1

      by_case : (slice_get (gathering ++ calling) j ≡ Some m) ⊎ ((i : ℕ) × (j ≡ length (gathering ++ calling) + i) × (slice_get (ending ∷ []) i ≡ Some m)) → is_leaf m.means ≡ false
      by_case (inl e) = by_both (get_split gathering calling j m e)
      by_case (inr (zero, f, e)) = let same : ending ≡ m = cc in ap (λ (z : New). is_leaf z.means) (sym same)
      by_case (inr (suc i, f, e)) = absurd (let z : ⊥ = cc in z)

  pub leaves_each : (j : ℕ) (m : New) → slice_get news j ≡ Some m → is_leaf m.means ≡ true → (k : ℕ) → new_leaves (length v.steps + j) k ≡ k
  leaves_each j m h leaf k = by_case (get_split news_in joints j m h)
    where
      by_case : (slice_get news_in j ≡ Some m) ⊎ ((i : ℕ) × (j ≡ length news_in + i) × (slice_get joints i ≡ Some m)) → new_leaves (length v.steps + j) k ≡ k
      by_case (inl e) =
          let inside = slice_get_within news_in j m e in
          leaves_are (length v.steps + j) k ∙ hits_one (length v.steps + j) k (length v.steps) news_in (omega arith) (omega (arith, inside))
      by_case (inr (i, f, e)) = absurd (false≢true (sym (joint_none i m e) ∙ leaf))

  -- ---- what has grown

  pub scatter_enters : HasHead b (scope_at outer a place) x.over (Ok y)
      → EntersScatter lib site rows b owners_now x (scope_at outer a place) (given_by outer a n) (base + l.done) (items_work lib layout l.inner lay.inner flow x.body outer path place x.number x.item a xs) new_leaves
  scatter_enters head =
      record {
        value = y;
        value_of_head = head;
        items = all_of;
        each_item = λ depth. (begun depth).grown;
        names = names_gathered;
        calls = calls_ending;
        ended = all_ended;
        work = λ depth weight is_weight. (begun depth).weighs weight is_weight;
        leaves = λ depth u k. (begun depth).leaves_are u k;
        spends = λ depth task. (begun depth).spends task;
      }
    where
      begun : (depth : ℕ) → HasBegun lib site rows b owners_now depth (each x.body (scope_at outer a place) x.number x.item 0 xs all_of)
          (items_work lib layout l.inner lay.inner flow x.body outer path place x.number x.item a xs) new_leaves
      begun =
          each_begins lib layout l.inner lay.inner flow x.body outer path place x.number x.item a deep inner_laid site rows b owners_now items_net.instances (length v.values) longer names_there calls_there 0 xs start all_items
