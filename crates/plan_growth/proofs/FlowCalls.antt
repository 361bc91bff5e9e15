-- A call of a workflow, which is entered.
use Rattle.std.proofs.Common.{◌≡◌, ℕ, zero, suc, ◌+◌, ◌<◌, ◌≤◌, ◌⊎◌, inl, inr, true, false, List, [], ◌∷◌, ◌++◌, All, map, length, get_or, Option, Some, None, Ok, slice_get, arith, sym, ap, ◌∙◌, subst, refl}
use Rattle.std.specs.Prelude.{option_and_then}
use Rattle.std.proofs.lemmas.Bool.{and_parts, false≢true}
use Rattle.std.proofs.lemmas.List.{length-append, length-map, length-set}
use Rattle.std.proofs.lemmas.Option.{slice_get-get_or, slice_get_within}
use Rattle.wdl_base.specs.declared.place.Segment.{Segment}
use Rattle.wdl_base.specs.declared.place.Segment.TheVariants as segment
use Rattle.wdl_value.specs.declared.env.Bind.{Bind}
use Rattle.wdl_value.specs.declared.value.Value.{Value}
use Rattle.wdl_value.specs.Tables.{Row}
use Rattle.wdl_typed.specs.declared.flow.FlowDef.{FlowDef}
use Rattle.wdl_typed.specs.declared.flow.Statement.{Statement, Statement-F}
use Rattle.wdl_typed.specs.declared.flow.Statement.TheVariants as stmt
use Rattle.wdl_typed.specs.declared.flow.TCall.{TCall}
use Rattle.wdl_typed.specs.declared.flow.Target.{Target}
use Rattle.wdl_typed.specs.declared.flow.Target.TheVariants as target
use Rattle.wdl_typed.specs.declared.task.TDecl.{TDecl}
use Rattle.wdl_typed.specs.Bodies.{Library, flow_signature, signature}
use Rattle.wdl_typed.specs.Flow.{Known, Names, args_known, args_met, env_of, has_ended, output_keys, signature_keys}
use Rattle.std.specs.List.{list_all}
use Rattle.step_net.specs.Views.{Wants}
use Rattle.value_net.specs.Nets as values
use Rattle.value_net.specs.Nets.{value_at, with_step, with_taken}
use Rattle.net_laws.specs.Growing as net
use Rattle.net_laws.specs.Growing.{CallNeeded, Copied, Ending, OutputsCopied, copies, does, ends, mark_cell, slot_cell}
use Rattle.net_laws.specs.Net.{Given, Resolved, Slot, ended_in, known_in, no_work}
use Rattle.net_laws.specs.Planned.{call_names, counted}
use Rattle.net_laws.proofs.Leaves.{call_ready}
use Rattle.plan_moves.specs.Laws.{EntersFlow}
use Rattle.plan_moves.specs.Sheets.{Sheet, needs_in, rules_of, state_of}
use Rattle.plan_moves.proofs.Kept.{set_now}
use Rattle.plan_layout.specs.declared.layout.FlowLayout.{FlowLayout}
use Rattle.plan_layout.specs.declared.layout.Layout.{Layout}
use Rattle.plan_layout.specs.declared.layout.StatementLayout.{StatementLayout}
use Rattle.plan_layout.specs.Cells.{cell_at, slots_at}
use Rattle.plan_layout.specs.Laid.{IsLaidAs, Stand}
use Rattle.plan_layout.specs.Sees.{AllSeen, FlowSees, Sees, after_at, keys_at}
use Rattle.plan_layout.specs.Spots.{plain_keys}
use Rattle.plan_growth.specs.declared.instance.Instance.{Instance}
use Rattle.plan_growth.specs.declared.rule.Rule.TheVariants as rule
use Rattle.plan_growth.specs.Begun.{HasBegun, IsFree, base_at, given_by, hits, scope_at}
use Rattle.plan_growth.specs.Blocks.{with_call}
use Rattle.plan_growth.specs.Entering.{Plot, Sown, cells_of, flow_dones, with_copies, with_flow}
use Rattle.plan_growth.specs.Growth.{IsEven, is_leaf, sheet_of}
use Rattle.plan_growth.specs.Meaning.{Fits, rule_cells}
use Rattle.plan_growth.specs.News.{AllStand, New, new_code, new_means, new_wants, with_news}
use Rattle.plan_growth.proofs.Adding.{hits_before, hits_behind, hits_one, lists_both, news_by, news_by_get, news_by_length, news_by_of, news_last, rule_at, rules_both, stand_both, stand_by, step_at}
use Rattle.plan_growth.proofs.Begins.{call_needs}
use Rattle.plan_growth.proofs.Entry.{even_news}
use Rattle.plan_growth.proofs.Heads.{known_same, needs_set, values_kept}
use Rattle.plan_growth.proofs.Inside.{CallLaid}
use Rattle.plan_growth.proofs.Instances.{Extends}
use Rattle.plan_growth.proofs.Lists.{get_at, get_left, get_split, kept_length}
use Rattle.plan_growth.proofs.Moving.{Moves, is_move, step_now}
use Rattle.plan_growth.proofs.Outer.{all_left, all_right, copies_added, copy_new, copy_stands, done_given, done_new, end_stands, joint_waits, names_at, names_given, others_owned, outer_length, outer_owners}
use Rattle.plan_growth.proofs.Runs.{run_slots, slots_run}
use Rattle.plan_growth.proofs.Told.{outputs_given}
use Rattle.plan_growth.proofs.Wholes as whole

-- The outputs of a call are those of its workflow, copied.
outputs_copied : (lib : Library) (site : List ℕ) (rows : List Row) (desc : ℕ → net.Rule → Type 0) (st : net.State) (call : List ℕ) (names : List Slot) (base : ℕ) (ds : List TDecl) (k m c : ℕ) → m ≡ base + k
    → Resolved names (outputs_given base k ds).names → ((i n d : ℕ) → n ≡ m + i → d ≡ c + i → i < length ds → Copied lib site rows desc st n d)
    → OutputsCopied lib site rows desc st call ds names (run_slots c (output_keys call ds))
outputs_copied lib site rows desc st call names base [] k m c e found joint = tt
outputs_copied lib site rows desc st call names base (d ∷ ds) k m c e found joint = (
  refl,
  (base + k, found.0, joint 0 (base + k) c (omega (arith, e)) (omega arith) (omega arith)),
  outputs_copied lib site rows desc st call names base ds (k + 1) (m + 1) (c + 1) (omega (arith, e)) found.1 (λ i n z f g lt. joint (suc i) n z (omega (arith, f)) (omega (arith, g)) (omega (arith, lt))),
)

pub output_keys_count : (call : List ℕ) (ds : List TDecl) → length (output_keys call ds) ≡ length ds
output_keys_count call [] = refl
output_keys_count call (d ∷ ds) = let rest = output_keys_count call ds in omega (arith, rest)

module _ (lib : Library) (layout : Layout) (site : List ℕ) (rows : List Row) (v : Sown) (rules : List net.Rule) (owners : List ℕ) (is : List Instance) (even : IsEven v rules owners) (t : ℕ) (step : Wants)
    (there : slice_get v.steps t ≡ Some step) (fresh : step.is_taken ≡ false) (ready : values.are_set v.values step.needs ≡ true) (outer : List ℕ) (place : List Segment) (a : Stand) (l : StatementLayout)
    (wants : step.needs ≡ cells_of outer l.needs l.after) (x : TCall) (sees : Sees lib (stmt.Call x) a) (number : ℕ) (root : List Statement) (lay : CallLaid lib number root layout.bodies x a l)
    (fits : Fits (call_names lib x) a)
    (free : All (IsFree (sheet_of v rules) owners t) (rule_cells (does (stmt.Call x) (scope_at outer a place) (given_by outer a (call_names lib x)) (base_at outer a + l.done)))) (callee : ℕ)
    (is_flow : x.target ≡ target.Flow callee) (f : FlowDef) (flow_there : slice_get lib.flows callee ≡ Some f) (fl : FlowLayout) (fl_there : slice_get layout.flows callee ≡ Some fl)
    (flow_laid : IsLaidAs (Sees lib) lib layout.bodies callee f fl) (flow_sees : FlowSees lib f) (args : List Bind) where
  abbrev n : Names
  n = call_names lib x

  abbrev base : ℕ
  base = base_at outer a

  abbrev place_in : List Segment
  place_in = place ++ segment.Call x.name ∷ []

  abbrev start : Plot
  start = record { net = with_taken v t step; instances = is }

  keys_are : n.keys ≡ output_keys x.name f.outputs
  keys_are =
      ap (λ (g : Target). signature_keys x.name (signature lib g)) is_flow ∙ ap (λ (o : Option FlowDef). signature_keys x.name (option_and_then (λ (g : FlowDef). Some (flow_signature g)) o)) flow_there

  abbrev count : ℕ
  count = length n.keys

  count_is : count ≡ length f.outputs
  count_is = ap length keys_are ∙ output_keys_count x.name f.outputs

  -- ---- the cells outside

  abbrev Free : ℕ → Type 0
  Free = IsFree (sheet_of v rules) owners t

  own_names : (j : ℕ) → j < count → Free (base + (a.next_name + j))
  own_names = names_at Free outer (length a.path) a.next_name n.keys (all_left Free (map slot_cell (given_by outer a n).names) (map mark_cell (given_by outer a n).calls ++ (base + l.done) ∷ []) free)

  own_calls : (j : ℕ) → j < 0 → Free (base + (a.next_call + j))
  own_calls j lt = absurd (omega (arith, lt))

  own_done : Free (base + l.done)
  own_done =
      all_right Free (map mark_cell (given_by outer a n).calls) ((base + l.done) ∷ []) (all_right Free (map slot_cell (given_by outer a n).names) (map mark_cell (given_by outer a n).calls ++ (base + l.done) ∷ []) free) 0 0 (omega arith)

  low : a.next_call + 0 ≤ l.done
  low = let e = lay.slots.done_is in omega (arith, e)

  -- ---- the workflow

  abbrev pub flow_net : Plot
  flow_net = with_flow f args place_in fl flow_laid.body start

  abbrev name_step : ℕ
  name_step = length flow_net.net.steps

  abbrev done_step : ℕ
  done_step = name_step + count

  abbrev owners_out : List ℕ
  owners_out = outer_owners owners base a.next_name count a.next_call 0 l.done name_step done_step done_step

  pub even_start : IsEven start.net rules owners_out
  even_start =
      let size = length-set v.steps t (record { needs = step.needs; is_taken = true }) in
      record {
        codes = even.codes ∙ sym size;
        rules_too = even.rules_too ∙ sym size;
        owners_too = outer_length (sheet_of v rules) owners t base a.next_name count a.next_call 0 l.done own_names own_calls own_done fits.0 low name_step done_step done_step ∙ even.owners_too;
      }

  abbrev rules_in : List net.Rule
  rules_in = whole.rules_now lib layout site rows callee f fl flow_laid flow_sees flow_there fl_there args place_in start rules owners_out even_start

  abbrev pub owners_now : List ℕ
  owners_now = whole.owners_now lib layout site rows callee f fl flow_laid flow_sees flow_there fl_there args place_in start rules owners_out even_start

  abbrev news_in : List New
  news_in = whole.news lib layout site rows callee f fl flow_laid flow_sees flow_there fl_there args place_in start rules owners_out even_start

  abbrev inside_names : Given
  inside_names = whole.names_out lib layout site rows callee f fl flow_laid flow_sees flow_there fl_there args place_in start rules owners_out even_start

  behind : Extends (sheet_of start.net rules) owners_out (sheet_of flow_net.net rules_in) owners_now
  behind = whole.flow_behind lib layout site rows callee f fl flow_laid flow_sees flow_there fl_there args place_in start rules owners_out even_start

  even_in : IsEven flow_net.net rules_in owners_now
  even_in = whole.flow_even lib layout site rows callee f fl flow_laid flow_sees flow_there fl_there args place_in start rules owners_out even_start

  steps_in : flow_net.net.steps ≡ start.net.steps ++ map new_wants news_in
  steps_in = whole.flow_steps lib layout site rows callee f fl flow_laid flow_sees flow_there fl_there args place_in start rules owners_out even_start

  long : name_step ≡ length start.net.steps + length news_in
  long = ap length steps_in ∙ length-append start.net.steps (map new_wants news_in) ∙ ap (λ (m : ℕ). length start.net.steps + m) (length-map news_in new_wants)

  -- ---- the joints

  abbrev first : ℕ
  first = length v.values

  abbrev copying : List New
  copying = news_by (copy_new (first + fl.first_output) (base + a.next_name)) count

  abbrev ending : New
  ending = done_new (flow_dones f fl flow_laid.body first) (base + l.done)

  abbrev joints : List New
  joints = copying ++ ending ∷ []

  abbrev pub last_plot : Plot
  last_plot = with_call f args place_in fl flow_laid.body l base start

  abbrev pub last_net : Sown
  last_net = last_plot.net

  joined_net : last_net ≡ with_news flow_net.net joints
  joined_net =
      ap (λ (u : Sown). with_step u (rule.Ends (base + l.done)) (flow_dones f fl flow_laid.body first))
      (ap (λ (m : ℕ). with_copies (first + fl.first_output) (base + m) l.names flow_net.net) lay.slots.first_name
      ∙ ap (λ (m : ℕ). with_copies (first + fl.first_output) (base + a.next_name) m flow_net.net) lay.slots.names
      ∙ copies_added (first + fl.first_output) (base + a.next_name) count flow_net.net)
      ∙ news_last flow_net.net copying ending

  abbrev pub rules_now : List net.Rule
  rules_now = rules_in ++ map new_means joints

  abbrev pub b : Sheet
  b = sheet_of last_net rules_now

  values_same : last_net.values ≡ flow_net.net.values
  values_same = ap (λ (u : Sown). u.values) joined_net

  steps_are : last_net.steps ≡ flow_net.net.steps ++ map new_wants joints
  steps_are = ap (λ (u : Sown). u.steps) joined_net

  value_kept : (c : ℕ) (o : Option Value) → slice_get v.values c ≡ Some o → slice_get b.values c ≡ Some o
  value_kept c o h = ap (λ (os : List (Option Value)). slice_get os c) values_same ∙ behind.values c o h

  longer : length v.values ≤ length b.values
  longer = kept_length v.values b.values value_kept

  rule_here : (j u : ℕ) (m : New) → u ≡ name_step + j → slice_get joints j ≡ Some m → slice_get rules_now u ≡ Some m.means
  rule_here j u m e h = let size = even_in.rules_too in rule_at rules_in joints j u m (omega (arith, e, size)) h

  step_here : (j u : ℕ) (m : New) → u ≡ name_step + j → slice_get joints j ≡ Some m → slice_get last_net.steps u ≡ Some (new_wants m)
  step_here j u m e h = ap (λ (ws : List Wants). slice_get ws u) steps_are ∙ step_at flow_net.net.steps joints j u m e h

  copy_there : (j : ℕ) → j < count → slice_get joints j ≡ Some (copy_new (first + fl.first_output) (base + a.next_name) j)
  copy_there j lt = get_left copying (ending ∷ []) j (copy_new (first + fl.first_output) (base + a.next_name) j) (news_by_get (copy_new (first + fl.first_output) (base + a.next_name)) count j lt)

  ending_there : slice_get joints count ≡ Some ending
  ending_there = let size = news_by_length (copy_new (first + fl.first_output) (base + a.next_name)) count in get_at copying (ending ∷ []) 0 count (omega (arith, size))

  -- the owners in the workflow's own cells are behind
  abbrev owners_in : List ℕ
  owners_in = whole.owners_in lib layout site rows callee f fl flow_laid flow_sees flow_there fl_there args place_in start rules owners_out even_start

  name_free : (j : ℕ) → j < count → IsFree b owners_now (name_step + j) (base + a.next_name + j)
  name_free j lt = (
    ap (slice_get owners_now) (omega arith)
        ∙ get_left owners_out owners_in (base + (a.next_name + j)) (name_step + j)
        (names_given (sheet_of v rules) owners t base a.next_name count a.next_call 0 l.done own_names own_calls own_done fits.0 low name_step done_step done_step j lt),
    ap (slice_get b.values) (omega arith) ∙ value_kept (base + (a.next_name + j)) None (own_names j lt).1,
  )

  done_free : IsFree b owners_now done_step (base + l.done)
  done_free = (
    get_left owners_out owners_in (base + l.done) done_step (done_given (sheet_of v rules) owners t base a.next_name count a.next_call 0 l.done own_names own_calls own_done fits.0 low name_step done_step done_step),
    value_kept (base + l.done) None own_done.1,
  )

  -- ---- what is copied and ends

  abbrev Copies : ℕ → ℕ → Type 0
  Copies m d = Copied lib site rows (rules_of b) (state_of b owners_now) m d

  name_copied : (i m d : ℕ) → m ≡ first + fl.first_output + i → d ≡ base + a.next_name + i → i < length f.outputs → Copies m d
  name_copied i m d e g lt =
      let many = count_is in
      let lower : i < count = omega (arith, lt, many) in
      subst (λ (p : ℕ). Copies p d) (sym e)
      (subst (λ (c : ℕ). Copies (first + fl.first_output + i) c) (sym g) (
        name_step + i,
        inl
            (joint_waits lib site rows b owners_now (name_step + i) (copies (first + fl.first_output + i) (base + a.next_name + i)) ((first + fl.first_output + i) ∷ []) (base + a.next_name + i)
            (rule_here i (name_step + i) (copy_new (first + fl.first_output) (base + a.next_name) i) refl (copy_there i lower))
            (step_here i (name_step + i) (copy_new (first + fl.first_output) (base + a.next_name) i) refl (copy_there i lower)) (name_free i lower)),
      ))

  outs_at : fl.first_output ≡ length (whole.seen_out lib layout site rows callee f fl flow_laid flow_sees flow_there fl_there args place_in start rules owners_out even_start)
  outs_at = flow_laid.first_output ∙ ap length (whole.seen_is lib layout site rows callee f fl flow_laid flow_sees flow_there fl_there args place_in start rules owners_out even_start)

  all_copied : OutputsCopied lib site rows (rules_of b) (state_of b owners_now) x.name f.outputs inside_names.names (given_by outer a n).names
  all_copied =
      let at = outs_at in
      subst (λ (ss : List Slot). OutputsCopied lib site rows (rules_of b) (state_of b owners_now) x.name f.outputs inside_names.names ss)
      (ap (run_slots (base + a.next_name)) (sym keys_are) ∙ sym (slots_run outer (length a.path) a.next_name (base + a.next_name) n.keys refl))
      (outputs_copied lib site rows (rules_of b) (state_of b owners_now) x.name inside_names.names first f.outputs
      (length (whole.seen_out lib layout site rows callee f fl flow_laid flow_sees flow_there fl_there args place_in start rules owners_out even_start)) (first + fl.first_output) (base + a.next_name) (omega (arith, at))
      (whole.outs_found lib layout site rows callee f fl flow_laid flow_sees flow_there fl_there args place_in start rules owners_out even_start) name_copied)

  all_ended : Ending lib site rows (rules_of b) (state_of b owners_now) (flow_dones f fl flow_laid.body first) (base + l.done)
  all_ended = (
    done_step,
    inl
        (joint_waits lib site rows b owners_now done_step (ends (flow_dones f fl flow_laid.body first) (base + l.done)) (flow_dones f fl flow_laid.body first) (base + l.done) (rule_here count done_step ending refl ending_there)
        (step_here count done_step ending refl ending_there) done_free),
  )

  -- ---- what has grown

  pub added : Extends (sheet_of flow_net.net rules_in) owners_now b owners_now
  added =
      record {
        rules = λ i r h. get_left rules_in (map new_means joints) i r h;
        steps = λ i w h. ap (λ (ws : List Wants). slice_get ws i) steps_are ∙ get_left flow_net.net.steps (map new_wants joints) i w h;
        owners = λ i u h. h;
        values = λ i o h. ap (λ (os : List (Option Value)). slice_get os i) values_same ∙ h;
      }

  abbrev Here : ℕ → List New → Type 0
  Here u ns = AllStand lib layout flow_net.instances b owners_now u ns

  size_same : (c : ℕ) → c < length flow_net.net.values → c < length b.values
  size_same c lt = let e = ap length values_same in omega (arith, e, lt)

  output_inside : (j : ℕ) → j < count → first + fl.first_output + j < length b.values
  output_inside j lt =
      let many = count_is in
      let at = outs_at in
      let inside = size_same _ (whole.outs_inside lib layout site rows callee f fl flow_laid flow_sees flow_there fl_there args place_in start rules owners_out even_start j (omega (arith, lt, many))) in
      omega (arith, inside, at)

  dones_inside : All (λ (c : ℕ). c < length b.values) (flow_dones f fl flow_laid.body first)
  dones_inside i d lt =
      size_same (get_or (flow_dones f fl flow_laid.body first) i d) (whole.dones_inside lib layout site rows callee f fl flow_laid flow_sees flow_there fl_there args place_in start rules owners_out even_start i d lt)

  joints_stand : Here name_step joints
  joints_stand =
      let one = news_by_length (copy_new (first + fl.first_output) (base + a.next_name)) count in
      stand_both lib layout flow_net.instances b owners_now name_step done_step copying (ending ∷ []) (omega (arith, one))
      (stand_by lib layout flow_net.instances b owners_now (copy_new (first + fl.first_output) (base + a.next_name)) name_step count (λ j lt.
      copy_stands lib layout flow_net.instances b owners_now (name_step + j) (base + a.next_name + j) (first + fl.first_output + j) (name_free j lt) (output_inside j lt)))
      (end_stands lib layout flow_net.instances b owners_now done_step (base + l.done) (flow_dones f fl flow_laid.body first) done_free dones_inside, tt)

  abbrev pub news : List New
  news = news_in ++ joints

  starts : length start.net.steps ≡ length v.steps
  starts = length-set v.steps t (record { needs = step.needs; is_taken = true })

  pub news_stand : Here (length v.steps) news
  news_stand =
      subst (λ (u : ℕ). Here u news) starts
      (stand_both lib layout flow_net.instances b owners_now (length start.net.steps) name_step news_in joints long
      (whole.news_stand lib layout site rows callee f fl flow_laid flow_sees flow_there fl_there args place_in start rules owners_out even_start b owners_now flow_net.instances added (λ i z h. h)) joints_stand)

  -- ---- what the step did

  pub call_moves : Moves t v rules owners is last_net rules_now owners_now flow_net.instances news
  call_moves =
      record {
        step = step;
        there = there;
        fresh = fresh;
        ready = ready;
        codes =
            lists_both new_code v.rules last_net.rules flow_net.net.rules news_in joints
            (whole.flow_codes lib layout site rows callee f fl flow_laid flow_sees flow_there fl_there args place_in start rules owners_out even_start) (ap (λ (u : Sown). u.rules) joined_net);
        means =
            ap (λ (rs : List net.Rule). rs ++ map new_means joints) (whole.flow_rules lib layout site rows callee f fl flow_laid flow_sees flow_there fl_there args place_in start rules owners_out even_start)
            ∙ rules_both rules news_in joints;
        steps = lists_both new_wants start.net.steps last_net.steps flow_net.net.steps news_in joints steps_in steps_are;
        instances = whole.flow_instances lib layout site rows callee f fl flow_laid flow_sees flow_there fl_there args place_in start rules owners_out even_start;
        cells = longer;
        others = λ c u h ne.
            let inside = slice_get_within owners c u h in
            let size = even.owners_too in
            let at = slice_get-get_or v.values c None (omega (arith, inside, size)) in
            value_kept c (get_or v.values c None) at ∙ sym at;
        kept = λ c z h. value_kept c (Some z) h;
        owned = λ c u h ne.
            get_left owners_out owners_in c u
            (others_owned (sheet_of v rules) owners t base a.next_name count a.next_call 0 l.done own_names own_calls own_done fits.0 low name_step done_step done_step c u h ne);
        even_now = subst (λ (u : Sown). IsEven u rules_now owners_now) (sym joined_net) (even_news flow_net.net rules_in owners_now joints even_in);
      }

  -- ---- leaves

  abbrev pub new_leaves : ℕ → ℕ → ℕ
  new_leaves u k = whole.new_leaves lib layout site rows callee f fl flow_laid flow_sees flow_there fl_there args place_in start rules owners_out even_start b owners_now flow_net.instances added (λ i z h. h) u k

  leaves_are : (u k : ℕ) → new_leaves u k ≡ hits u k (length v.steps) news_in
  leaves_are u k =
      whole.leaves_are lib layout site rows callee f fl flow_laid flow_sees flow_there fl_there args place_in start rules owners_out even_start b owners_now flow_net.instances added (λ i z h. h) u k
      ∙ ap (λ (m : ℕ). hits u k m news_in) starts

  pub leaves_before : (u k : ℕ) → u < length v.steps → new_leaves u k ≡ 0
  leaves_before u k lt = leaves_are u k ∙ hits_before u k (length v.steps) news_in lt

  pub leaves_past : (u k : ℕ) → length last_net.steps ≤ u → new_leaves u k ≡ 0
  leaves_past u k le =
      let all_ = ap length steps_are in
      let both = length-append flow_net.net.steps (map new_wants joints) in
      let some = long in
      let same = starts in
      leaves_are u k ∙ hits_behind u k (length v.steps) news_in (omega (arith, all_, both, some, same, le))

  joint_none : (j : ℕ) (m : New) → slice_get joints j ≡ Some m → is_leaf m.means ≡ false
  joint_none j m h = by_case (get_split copying (ending ∷ []) j m h)
    where
      by_case : (slice_get copying j ≡ Some m) ⊎ ((i : ℕ) × (j ≡ length copying + i) × (slice_get (ending ∷ []) i ≡ Some m)) → is_leaf m.means ≡ false
      by_case (inl e) = let p = news_by_of (copy_new (first + fl.first_output) (base + a.next_name)) count j m e in ap (λ (z : New). is_leaf z.means) p.1
      by_case (inr (zero, g, e)) = let same : ending ≡ m = cc in ap (λ (z : New). is_leaf z.means) (sym same)
      by_case (inr (suc i, g, e)) = absurd (let z : ⊥ = cc in z)

  pub leaves_each : (j : ℕ) (m : New) → slice_get news j ≡ Some m → is_leaf m.means ≡ true → (k : ℕ) → new_leaves (length v.steps + j) k ≡ k
  leaves_each j m h leaf k = by_case (get_split news_in joints j m h)
    where
      by_case : (slice_get news_in j ≡ Some m) ⊎ ((i : ℕ) × (j ≡ length news_in + i) × (slice_get joints i ≡ Some m)) → new_leaves (length v.steps + j) k ≡ k
      by_case (inl e) =
          let inside = slice_get_within news_in j m e in
          leaves_are (length v.steps + j) k ∙ hits_one (length v.steps + j) k (length v.steps) news_in (omega arith) (omega (arith, inside))
      by_case (inr (i, g, e)) = absurd (false≢true (sym (joint_none i m e) ∙ leaf))

  -- ---- the law of moves

  begun : (depth : ℕ) → HasBegun lib site rows b owners_now depth (net.whole f args place_in inside_names (flow_dones f fl flow_laid.body first)) (counted (length f.body) no_work) new_leaves
  begun depth = whole.flow_begins lib layout site rows callee f fl flow_laid flow_sees flow_there fl_there args place_in start rules owners_out even_start b owners_now flow_net.instances added (λ i z h. h) depth

  abbrev slots : List Slot
  slots = slots_at outer l.needs

  pub step_was : slice_get last_net.steps t ≡ Some (record { needs = step.needs; is_taken = true })
  unfolding call_moves
  step_was = step_now t v rules owners is last_net rules_now owners_now flow_net.instances news call_moves even

  abbrev needed : CallNeeded (state_of b owners_now) t (scope_at outer a place) x
  needed =
      call_needs lib site rows b owners_now outer place (stmt.Call x) a l sees t x (subst (λ (y : Statement-F Statement). AllSeen a.names (keys_at y)) (stmt.outs-Call x) sees.names)
      (subst (λ (y : Statement-F Statement). AllSeen a.calls (plain_keys (after_at y))) (stmt.outs-Call x) sees.calls) lay.needs
      (ap needs_in step_was ∙ wants)

  needed_slots : needed.slots ≡ slots
  needed_slots = ap (slots_at outer) (sym lay.needs.needs)

  pub call_enters : args_met (env_of (map (known_in (value_at v.values)) slots)) x.args ≡ Ok args
      → EntersFlow lib site rows b owners_now x (scope_at outer a place) (given_by outer a n) (base + l.done) (counted (length f.body) no_work) new_leaves
  call_enters met =
      let test =
      and_parts (args_known (map (known_in (value_at b.values)) needed.slots) x.args) (list_all (has_ended (map (ended_in (value_at b.values)) needed.marks)) x.after)
      (call_ready (state_of b owners_now) t (scope_at outer a place) x needed
      (set_now lib site rows t (sheet_of v rules) owners b owners_now (is_move t v rules owners is last_net rules_now owners_now flow_net.instances news call_moves even))) in
      let same =
      known_same (value_at v.values) (value_at b.values) slots (needs_set v.values outer l.needs (map (cell_at outer) l.after) (ap (values.are_set v.values) (sym wants) ∙ ready))
      (values_kept v.values b.values (λ c z h. value_kept c (Some z) h)) in
      record {
        slots = needed.slots;
        marks = needed.marks;
        needs = needed.needs;
        number = callee;
        is = is_flow;
        callee = f;
        found = flow_there;
        args = args;
        met =
            record {
              known = test.0;
              ended = test.1;
              met =
                  ap (λ (ss : List Slot). args_met (env_of (map (known_in (value_at b.values)) ss)) x.args) needed_slots ∙ ap (λ (ks : List Known). args_met (env_of ks) x.args) same ∙ met;
            };
        inner = inside_names;
        dones = flow_dones f fl flow_laid.body first;
        distinct = whole.names_differ lib layout site rows callee f fl flow_laid flow_sees flow_there fl_there args place_in start rules owners_out even_start;
        body = λ depth. (begun depth).grown;
        copied = all_copied;
        ended = all_ended;
        work = λ depth weight is_weight. (begun depth).weighs weight is_weight;
        leaves = λ depth u k. (begun depth).leaves_are u k;
        spends = λ depth task. (begun depth).spends task;
      }
