-- A condition that is true and entered.
use Rattle.std.proofs.Common.{◌≡◌, ℕ, zero, suc, ◌+◌, ◌<◌, ◌≤◌, ◌⊎◌, inl, inr, true, false, List, [], ◌∷◌, ◌++◌, All, map, length, get_or, Option, Some, None, Ok, slice_get, arith, sym, ap, ◌∙◌, subst, refl}
use Rattle.std.proofs.lemmas.Bool.{false≢true}
use Rattle.std.proofs.lemmas.List.{get_or_push, length-append, length-map, length-set}
use Rattle.std.proofs.lemmas.Option.{slice_get-get_or, slice_get_within}
use Rattle.wdl_base.specs.declared.place.Segment.{Segment}
use Rattle.wdl_base.specs.declared.place.Segment.TheVariants as segment
use Rattle.wdl_value.specs.declared.value.Value.{Value}
use Rattle.wdl_value.specs.Parts.{bool_in}
use Rattle.wdl_value.specs.Tables.{Row}
use Rattle.wdl_typed.specs.declared.flow.FlowDef.{FlowDef}
use Rattle.wdl_typed.specs.declared.flow.Statement.{Statement}
use Rattle.wdl_typed.specs.declared.flow.Statement.TheVariants as stmt
use Rattle.wdl_typed.specs.declared.flow.TIf.{TIf}
use Rattle.wdl_typed.specs.Bodies.{Library}
use Rattle.wdl_typed.specs.Flow.{Names}
use Rattle.step_net.specs.Views.{Wants}
use Rattle.value_net.specs.Nets as values
use Rattle.value_net.specs.Nets.{with_cells, with_step, with_taken}
use Rattle.net_laws.specs.Growing as net
use Rattle.net_laws.specs.Growing.{Copied, Ending, MarksCopied, SlotsCopied, all, body_given, copies, does, ends, mark_cell, slot_cell}
use Rattle.net_laws.specs.Moving.{IsWeight}
use Rattle.net_laws.specs.Net.{Given, Mark, Scope, Slot, Work, inward, no_work}
use Rattle.net_laws.specs.Planned.{counted}
use Rattle.net_laws.specs.Works.{work_of}
use Rattle.plan_moves.specs.Laws.{EntersIf, HasHead}
use Rattle.plan_moves.specs.Sheets.{Sheet, rules_of, state_of}
use Rattle.plan_layout.specs.declared.layout.Layout.{Layout}
use Rattle.plan_layout.specs.declared.layout.StatementLayout.{StatementLayout}
use Rattle.plan_layout.specs.Cells.{marks_at, slots_at}
use Rattle.plan_layout.specs.Laid as laid
use Rattle.plan_layout.specs.Laid.{Laid, Stand, beginning}
use Rattle.plan_layout.specs.Paths.{body_at}
use Rattle.plan_layout.specs.Sees.{Sees}
use Rattle.plan_growth.specs.declared.instance.Instance.{Instance}
use Rattle.plan_growth.specs.declared.rule.Rule.TheVariants as rule
use Rattle.plan_growth.specs.Begun.{AllSit, HasBegun, IsFree, all_given, base_at, given_by, hits, scope_at}
use Rattle.plan_growth.specs.Blocks.{with_copied}
use Rattle.plan_growth.specs.Entering.{Plot, Sown, dones_at, with_copies, with_instance}
use Rattle.plan_growth.specs.Growth.{IsEven, is_leaf, sheet_of}
use Rattle.plan_growth.specs.Meaning.{AreThere, Fits, rule_cells}
use Rattle.plan_growth.specs.News.{AllStand, New, new_code, new_means, new_wants, statement_news, with_news}
use Rattle.plan_growth.proofs.Adding.{hits_before, hits_behind, hits_length, hits_one, lists_both, news_both, news_by, news_by_get, news_by_length, news_by_of, news_last, rule_at, rules_both, stand_both, stand_by, step_at}
use Rattle.plan_growth.proofs.Begins.{bodies_begin}
use Rattle.plan_growth.proofs.Entry.{even_news, even_now, extends, instance_there, instances_kept, is_entered, net_is}
use Rattle.plan_growth.proofs.Firsts.{dones_within}
use Rattle.plan_growth.proofs.Inside.{IfLaid}
use Rattle.plan_growth.proofs.Instances.{Extends, IsEntered, entered_later, instance_owners, owners_count, put}
use Rattle.plan_growth.proofs.Lists.{get_at, get_left, get_split, kept_length}
use Rattle.plan_growth.proofs.Moving.{Moves}
use Rattle.plan_growth.proofs.Outer.{all_left, all_right, calls_at, calls_given, copies_added, copy_new, copy_stands, done_given, done_new, end_stands, joint_waits, names_at, names_given, others_owned, outer_length, outer_owners}
use Rattle.plan_growth.proofs.Runs.{given_marks, given_names, marks_copied, marks_run, run_marks, run_slots, slots_copied, slots_run}
use Rattle.plan_growth.proofs.Sitting.{all_sit, dones_count}
use Rattle.plan_growth.proofs.Standing.{lines_length, news_length, statements_stand}
use Rattle.plan_growth.proofs.There.{marks_more, slots_more, there_more}

module _ (lib : Library) (layout : Layout) (site : List ℕ) (rows : List Row) (v : Sown) (rules : List net.Rule) (owners : List ℕ) (is : List Instance) (even : IsEven v rules owners) (t : ℕ) (step : Wants)
    (there : slice_get v.steps t ≡ Some step) (fresh : step.is_taken ≡ false) (ready : values.are_set v.values step.needs ≡ true) (outer : List ℕ) (place : List Segment) (a : Stand) (l : StatementLayout) (flow : FlowDef)
    (number : ℕ) (flow_there : slice_get lib.flows number ≡ Some flow) (level : length outer ≡ length a.path + 1) (names_there : AreThere outer (length v.values) a.names)
    (calls_there : AreThere outer (length v.values) a.calls) (x : TIf Statement) (sees : Sees lib (stmt.If x) a) (lay : IfLaid lib number flow.body layout.bodies x a l)
    (fits : Fits (body_given lib x.body) a)
    (free : All (IsFree (sheet_of v rules) owners t) (rule_cells (does (stmt.If x) (scope_at outer a place) (given_by outer a (body_given lib x.body)) (base_at outer a + l.done)))) where
  abbrev n : Names
  n = body_given lib x.body

  abbrev base : ℕ
  base = base_at outer a

  abbrev path : List ℕ
  path = a.path ++ a.index ∷ []

  abbrev place_in : List Segment
  place_in = place ++ segment.If x.number ∷ []

  abbrev start : Plot
  start = record { net = with_taken v t step; instances = is }

  deep : length path ≡ length outer
  deep = let size = length-append a.path (a.index ∷ []) in omega (arith, size, level)

  abbrev inner : Stand
  inner = beginning a.names a.calls path (body_given lib x.body) 0 0

  inner_laid : Laid (Sees lib) lib lay.inner.flow flow.body layout.bodies (laid.all x.body inner lay.inner.statements)
  inner_laid = subst (λ (f : ℕ). Laid (Sees lib) lib f flow.body layout.bodies (laid.all x.body inner lay.inner.statements)) (sym lay.body.runs.flow_is) lay.body.statements

  -- ---- the cells outside

  abbrev Free : ℕ → Type 0
  Free = IsFree (sheet_of v rules) owners t

  own_names : (j : ℕ) → j < length n.keys → Free (base + (a.next_name + j))
  own_names = names_at Free outer (length a.path) a.next_name n.keys (all_left Free (map slot_cell (given_by outer a n).names) (map mark_cell (given_by outer a n).calls ++ (base + l.done) ∷ []) free)

  own_rest : All Free (map mark_cell (given_by outer a n).calls ++ (base + l.done) ∷ [])
  own_rest = all_right Free (map slot_cell (given_by outer a n).names) (map mark_cell (given_by outer a n).calls ++ (base + l.done) ∷ []) free

  own_calls : (j : ℕ) → j < length n.calls → Free (base + (a.next_call + j))
  own_calls = calls_at Free outer (length a.path) a.next_call n.calls (all_left Free (map mark_cell (given_by outer a n).calls) ((base + l.done) ∷ []) own_rest)

  own_done : Free (base + l.done)
  own_done = all_right Free (map mark_cell (given_by outer a n).calls) ((base + l.done) ∷ []) own_rest 0 0 (omega arith)

  low : a.next_call + length n.calls ≤ l.done
  low = let e = lay.slots.done_is in let f = fits.1 in omega (arith, e, f)

  -- ---- the body

  abbrev first : ℕ
  first = length v.values

  abbrev bases_in : List ℕ
  bases_in = outer ++ first ∷ []

  abbrev pub body_net : Plot
  body_net = with_instance l.inner outer place_in lay.inner start

  abbrev name_step : ℕ
  name_step = length body_net.net.steps

  abbrev call_step : ℕ
  call_step = name_step + length n.keys

  abbrev done_step : ℕ
  done_step = call_step + length n.calls

  abbrev owners_out : List ℕ
  owners_out = outer_owners owners base a.next_name (length n.keys) a.next_call (length n.calls) l.done name_step call_step done_step

  even_start : IsEven start.net rules owners_out
  even_start =
      let size = length-set v.steps t (record { needs = step.needs; is_taken = true }) in
      record {
        codes = even.codes ∙ sym size;
        rules_too = even.rules_too ∙ sym size;
        owners_too =
            outer_length (sheet_of v rules) owners t base a.next_name (length n.keys) a.next_call (length n.calls) l.done own_names own_calls own_done fits.0 low name_step call_step done_step ∙ even.owners_too;
      }

  abbrev news_in : List New
  news_in = statement_news lib (length is) bases_in place_in 0 x.body inner lay.inner.statements

  abbrev rules_in : List net.Rule
  rules_in = rules ++ map new_means news_in

  abbrev owners_in : List ℕ
  owners_in = instance_owners lib [] [] (length start.net.steps) x.body

  abbrev pub owners_now : List ℕ
  owners_now = owners_out ++ owners_in

  body_is : body_net.net ≡ with_news (with_cells start.net lay.inner.cells) news_in
  body_is = net_is lib l.inner lay.inner x.body outer place_in [] [] a.names a.calls path deep lay.inner.flow flow.body layout.bodies inner_laid lay.body.runs.cells start rules owners_out even_start

  body_entered : IsEntered lib (sheet_of body_net.net rules_in) owners_now bases_in place_in [] [] first (length start.net.steps) x.body inner lay.inner.statements
  body_entered = is_entered lib l.inner lay.inner x.body outer place_in [] [] a.names a.calls path deep lay.inner.flow flow.body layout.bodies inner_laid lay.body.runs.cells start rules owners_out even_start

  body_behind : Extends (sheet_of start.net rules) owners_out (sheet_of body_net.net rules_in) owners_now
  body_behind = extends lib l.inner lay.inner x.body outer place_in [] [] a.names a.calls path deep lay.inner.flow flow.body layout.bodies inner_laid lay.body.runs.cells start rules owners_out even_start

  body_even : IsEven body_net.net rules_in owners_now
  body_even = even_now lib l.inner lay.inner x.body outer place_in [] [] a.names a.calls path deep lay.inner.flow flow.body layout.bodies inner_laid lay.body.runs.cells start rules owners_out even_start

  news_count : length news_in ≡ length x.body
  news_count = news_length lib (length is) bases_in place_in lay.inner.flow flow.body layout.bodies inner_laid 0

  body_steps : body_net.net.steps ≡ start.net.steps ++ map new_wants news_in
  body_steps = ap (λ (u : Sown). u.steps) body_is

  long : name_step ≡ length start.net.steps + length news_in
  long = ap length body_steps ∙ length-append start.net.steps (map new_wants news_in) ∙ ap (λ (m : ℕ). length start.net.steps + m) (length-map news_in new_wants)

  -- ---- the joints

  abbrev copying : List New
  copying = news_by (copy_new (first + lay.inner.first_name) (base + a.next_name)) (length n.keys)

  abbrev calling : List New
  calling = news_by (copy_new (first + lay.inner.first_call) (base + a.next_call)) (length n.calls)

  abbrev ending : New
  ending = done_new (dones_at first lay.inner.statements) (base + l.done)

  abbrev joints : List New
  joints = (copying ++ calling) ++ ending ∷ []

  abbrev pub last_net : Sown
  last_net = with_copied first lay.inner l base body_net.net

  copied_net : with_copies (first + lay.inner.first_name) (base + l.first_name) l.names body_net.net ≡ with_news body_net.net copying
  copied_net =
      ap (λ (m : ℕ). with_copies (first + lay.inner.first_name) (base + m) l.names body_net.net) lay.slots.first_name
      ∙ ap (λ (m : ℕ). with_copies (first + lay.inner.first_name) (base + a.next_name) m body_net.net) lay.slots.names
      ∙ copies_added (first + lay.inner.first_name) (base + a.next_name) (length n.keys) body_net.net

  called_net : with_copies (first + lay.inner.first_call) (base + l.first_call) l.calls (with_copies (first + lay.inner.first_name) (base + l.first_name) l.names body_net.net)
      ≡ with_news body_net.net (copying ++ calling)
  called_net =
      ap (λ (m : ℕ). with_copies (first + lay.inner.first_call) (base + m) l.calls (with_copies (first + lay.inner.first_name) (base + l.first_name) l.names body_net.net)) lay.slots.first_call
      ∙ ap (λ (m : ℕ). with_copies (first + lay.inner.first_call) (base + a.next_call) m (with_copies (first + lay.inner.first_name) (base + l.first_name) l.names body_net.net)) lay.slots.calls
      ∙ ap (with_copies (first + lay.inner.first_call) (base + a.next_call) (length n.calls)) copied_net
      ∙ copies_added (first + lay.inner.first_call) (base + a.next_call) (length n.calls) (with_news body_net.net copying)
      ∙ news_both body_net.net copying calling

  joined_net : last_net ≡ with_news body_net.net joints
  joined_net = ap (λ (u : Sown). with_step u (rule.Ends (base + l.done)) (dones_at first lay.inner.statements)) called_net ∙ news_last body_net.net (copying ++ calling) ending

  abbrev pub rules_now : List net.Rule
  rules_now = rules_in ++ map new_means joints

  abbrev pub b : Sheet
  b = sheet_of last_net rules_now

  values_same : last_net.values ≡ body_net.net.values
  values_same = ap (λ (u : Sown). u.values) joined_net

  steps_are : last_net.steps ≡ body_net.net.steps ++ map new_wants joints
  steps_are = ap (λ (u : Sown). u.steps) joined_net

  joints_behind : Extends (sheet_of body_net.net rules_in) owners_now b owners_now
  joints_behind =
      record {
        rules = λ i r h. get_left rules_in (map new_means joints) i r h;
        steps = λ i w h. ap (λ (ws : List Wants). slice_get ws i) steps_are ∙ get_left body_net.net.steps (map new_wants joints) i w h;
        owners = λ i u h. h;
        values = λ i o h. ap (λ (os : List (Option Value)). slice_get os i) values_same ∙ h;
      }

  value_kept : (c : ℕ) (o : Option Value) → slice_get v.values c ≡ Some o → slice_get b.values c ≡ Some o
  value_kept c o h = joints_behind.values c o (body_behind.values c o h)

  longer : length v.values ≤ length b.values
  longer = kept_length v.values b.values value_kept

  entered_now : IsEntered lib b owners_now bases_in place_in [] [] first (length start.net.steps) x.body inner lay.inner.statements
  entered_now =
      entered_later lib (sheet_of body_net.net rules_in) b owners_now owners_now bases_in place_in [] [] first (length start.net.steps) x.body inner lay.inner.statements joints_behind body_entered

  base_in : base_at bases_in inner ≡ first
  base_in = get_or_push outer first 0 (length path) (sym deep)

  all_sits : AllSit b owners_now lib bases_in place_in (length start.net.steps) x.body inner lay.inner.statements
  all_sits =
      all_sit lib b owners_now bases_in place_in lay.inner.flow flow.body layout.bodies inner_laid (length start.net.steps)
      (put lib b owners_now bases_in place_in [] [] first (length start.net.steps) x.body lay.inner.statements a.names a.calls path entered_now base_in)

  -- where the steps of the joints are
  rule_here : (j u : ℕ) (m : New) → u ≡ name_step + j → slice_get joints j ≡ Some m → slice_get rules_now u ≡ Some m.means
  rule_here j u m e h = let size = body_even.rules_too in rule_at rules_in joints j u m (omega (arith, e, size)) h

  step_here : (j u : ℕ) (m : New) → u ≡ name_step + j → slice_get joints j ≡ Some m → slice_get last_net.steps u ≡ Some (new_wants m)
  step_here j u m e h = ap (λ (ws : List Wants). slice_get ws u) steps_are ∙ step_at body_net.net.steps joints j u m e h

  copy_there : (j : ℕ) → j < length n.keys → slice_get joints j ≡ Some (copy_new (first + lay.inner.first_name) (base + a.next_name) j)
  copy_there j lt =
      get_left (copying ++ calling) (ending ∷ []) j (copy_new (first + lay.inner.first_name) (base + a.next_name) j)
      (get_left copying calling j (copy_new (first + lay.inner.first_name) (base + a.next_name) j) (news_by_get (copy_new (first + lay.inner.first_name) (base + a.next_name)) (length n.keys) j lt))

  call_there : (j : ℕ) → j < length n.calls → slice_get joints (length n.keys + j) ≡ Some (copy_new (first + lay.inner.first_call) (base + a.next_call) j)
  call_there j lt =
      let size = news_by_length (copy_new (first + lay.inner.first_name) (base + a.next_name)) (length n.keys) in
      get_left (copying ++ calling) (ending ∷ []) (length n.keys + j) (copy_new (first + lay.inner.first_call) (base + a.next_call) j)
      (get_at copying calling j (length n.keys + j) (omega (arith, size)) ∙ news_by_get (copy_new (first + lay.inner.first_call) (base + a.next_call)) (length n.calls) j lt)

  ending_there : slice_get joints (length n.keys + length n.calls) ≡ Some ending
  ending_there =
      let one = news_by_length (copy_new (first + lay.inner.first_name) (base + a.next_name)) (length n.keys) in
      let two = news_by_length (copy_new (first + lay.inner.first_call) (base + a.next_call)) (length n.calls) in
      let both = length-append copying calling in
      get_at (copying ++ calling) (ending ∷ []) 0 (length n.keys + length n.calls) (omega (arith, one, two, both))

  -- their cells
  name_free : (j : ℕ) → j < length n.keys → IsFree b owners_now (name_step + j) (base + a.next_name + j)
  name_free j lt = (
    ap (slice_get owners_now) (omega arith)
        ∙ get_left owners_out owners_in (base + (a.next_name + j)) (name_step + j)
        (names_given (sheet_of v rules) owners t base a.next_name (length n.keys) a.next_call (length n.calls) l.done own_names own_calls own_done fits.0 low name_step call_step done_step j lt),
    ap (slice_get b.values) (omega arith) ∙ value_kept (base + (a.next_name + j)) None (own_names j lt).1,
  )

  call_free : (j : ℕ) → j < length n.calls → IsFree b owners_now (call_step + j) (base + a.next_call + j)
  call_free j lt = (
    ap (slice_get owners_now) (omega arith)
        ∙ get_left owners_out owners_in (base + (a.next_call + j)) (call_step + j)
        (calls_given (sheet_of v rules) owners t base a.next_name (length n.keys) a.next_call (length n.calls) l.done own_names own_calls own_done fits.0 low name_step call_step done_step j lt),
    ap (slice_get b.values) (omega arith) ∙ value_kept (base + (a.next_call + j)) None (own_calls j lt).1,
  )

  done_free : IsFree b owners_now done_step (base + l.done)
  done_free = (
    get_left owners_out owners_in (base + l.done) done_step
        (done_given (sheet_of v rules) owners t base a.next_name (length n.keys) a.next_call (length n.calls) l.done own_names own_calls own_done fits.0 low name_step call_step done_step),
    value_kept (base + l.done) None own_done.1,
  )

  -- ---- what is copied and ends

  abbrev Copies : ℕ → ℕ → Type 0
  Copies m d = Copied lib site rows (rules_of b) (state_of b owners_now) m d

  name_copied : (i m d : ℕ) → m ≡ first + lay.inner.first_name + i → d ≡ base + a.next_name + i → i < length n.keys → Copies m d
  name_copied i m d e f lt =
      subst (λ (p : ℕ). Copies p d) (sym e)
      (subst (λ (c : ℕ). Copies (first + lay.inner.first_name + i) c) (sym f) (
        name_step + i,
        inl
            (joint_waits lib site rows b owners_now (name_step + i) (copies (first + lay.inner.first_name + i) (base + a.next_name + i)) ((first + lay.inner.first_name + i) ∷ []) (base + a.next_name + i)
            (rule_here i (name_step + i) (copy_new (first + lay.inner.first_name) (base + a.next_name) i) refl (copy_there i lt))
            (step_here i (name_step + i) (copy_new (first + lay.inner.first_name) (base + a.next_name) i) refl (copy_there i lt)) (name_free i lt)),
      ))

  call_copied : (i m d : ℕ) → m ≡ first + lay.inner.first_call + i → d ≡ base + a.next_call + i → i < length n.calls → Copies m d
  call_copied i m d e f lt =
      subst (λ (p : ℕ). Copies p d) (sym e)
      (subst (λ (c : ℕ). Copies (first + lay.inner.first_call + i) c) (sym f) (
        call_step + i,
        inl
            (joint_waits lib site rows b owners_now (call_step + i) (copies (first + lay.inner.first_call + i) (base + a.next_call + i)) ((first + lay.inner.first_call + i) ∷ []) (base + a.next_call + i)
            (rule_here (length n.keys + i) (call_step + i) (copy_new (first + lay.inner.first_call) (base + a.next_call) i) (omega arith) (call_there i lt))
            (step_here (length n.keys + i) (call_step + i) (copy_new (first + lay.inner.first_call) (base + a.next_call) i) (omega arith) (call_there i lt)) (call_free i lt)),
      ))

  abbrev given_in : Given
  given_in = all_given lib bases_in inner x.body

  names_in_run : given_in.names ≡ run_slots (first + lay.inner.first_name) n.keys
  names_in_run =
      let z = lay.body.runs.first_name in
      let at = base_in in
      given_names lib bases_in x.body inner ∙ slots_run bases_in (length path) 0 (first + lay.inner.first_name) n.keys (omega (arith, z, at))

  calls_in_run : given_in.calls ≡ run_marks (first + lay.inner.first_call) n.calls
  calls_in_run =
      let z = lay.body.runs.first_call in
      let at = base_in in
      given_marks lib bases_in x.body inner ∙ marks_run bases_in (length path) inner.next_call (first + lay.inner.first_call) n.calls (omega (arith, z, at))

  names_copied : SlotsCopied lib site rows (rules_of b) (state_of b owners_now) given_in.names (given_by outer a n).names
  names_copied =
      subst (λ (ss : List Slot). SlotsCopied lib site rows (rules_of b) (state_of b owners_now) ss (given_by outer a n).names) (sym names_in_run)
      (subst (λ (ss : List Slot). SlotsCopied lib site rows (rules_of b) (state_of b owners_now) (run_slots (first + lay.inner.first_name) n.keys) ss)
      (sym (slots_run outer (length a.path) a.next_name (base + a.next_name) n.keys refl))
      (slots_copied lib site rows (rules_of b) (state_of b owners_now) (first + lay.inner.first_name) (base + a.next_name) n.keys name_copied))

  calls_copied : MarksCopied lib site rows (rules_of b) (state_of b owners_now) given_in.calls (given_by outer a n).calls
  calls_copied =
      subst (λ (ms : List Mark). MarksCopied lib site rows (rules_of b) (state_of b owners_now) ms (given_by outer a n).calls) (sym calls_in_run)
      (subst (λ (ms : List Mark). MarksCopied lib site rows (rules_of b) (state_of b owners_now) (run_marks (first + lay.inner.first_call) n.calls) ms)
      (sym (marks_run outer (length a.path) a.next_call (base + a.next_call) n.calls refl))
      (marks_copied lib site rows (rules_of b) (state_of b owners_now) (first + lay.inner.first_call) (base + a.next_call) n.calls call_copied))

  all_ended : Ending lib site rows (rules_of b) (state_of b owners_now) (dones_at first lay.inner.statements) (base + l.done)
  all_ended = (
    done_step,
    inl
        (joint_waits lib site rows b owners_now done_step (ends (dones_at first lay.inner.statements) (base + l.done)) (dones_at first lay.inner.statements) (base + l.done)
        (rule_here (length n.keys + length n.calls) done_step ending (omega arith) ending_there) (step_here (length n.keys + length n.calls) done_step ending (omega arith) ending_there) done_free),
  )

  -- ---- what holds of the steps that were added

  abbrev Here : ℕ → List New → Type 0
  Here u ns = AllStand lib layout body_net.instances b owners_now u ns

  many : 0 + length n.keys + 0 + length n.calls ≤ length owners_in
  many =
      let e = owners_count lib [] [] (length start.net.steps) x.body a.names a.calls path in
      let d = dones_count lib (length start.net.steps) x.body inner in
      omega (arith, e, d)

  slot_inside : (slot : ℕ) → slot < length owners_in → first + slot < length b.values
  slot_inside slot lt = slice_get_within b.values (first + slot) None (entered_now.unset slot (omega arith) lt)

  name_inside : (j : ℕ) → j < length n.keys → first + lay.inner.first_name + j < length b.values
  name_inside j lt =
      let z = lay.body.runs.first_name in
      let m = many in
      let inside = slot_inside (lay.inner.first_name + j) (omega (arith, z, m, lt)) in
      omega (arith, inside)

  call_inside : (j : ℕ) → j < length n.calls → first + lay.inner.first_call + j < length b.values
  call_inside j lt =
      let z = lay.body.runs.first_call in
      let m = many in
      let inside = slot_inside (lay.inner.first_call + j) (omega (arith, z, m, lt)) in
      omega (arith, inside)

  dones_inside : All (λ (c : ℕ). c < length b.values) (dones_at first lay.inner.statements)
  dones_inside =
      dones_within lib b owners_now bases_in place_in (length start.net.steps) x.body inner lay.inner.statements all_sits (lines_length lib 0 [] [] lay.inner.flow flow.body layout.bodies inner_laid) first base_in

  joints_stand : Here name_step joints
  joints_stand =
      let one = news_by_length (copy_new (first + lay.inner.first_name) (base + a.next_name)) (length n.keys) in
      let two = news_by_length (copy_new (first + lay.inner.first_call) (base + a.next_call)) (length n.calls) in
      let both = length-append copying calling in
      stand_both lib layout body_net.instances b owners_now name_step done_step (copying ++ calling) (ending ∷ []) (omega (arith, one, two, both))
      (stand_both lib layout body_net.instances b owners_now name_step call_step copying calling (omega (arith, one))
      (stand_by lib layout body_net.instances b owners_now (copy_new (first + lay.inner.first_name) (base + a.next_name)) name_step (length n.keys) (λ j lt.
      copy_stands lib layout body_net.instances b owners_now (name_step + j) (base + a.next_name + j) (first + lay.inner.first_name + j) (name_free j lt) (name_inside j lt)))
      (stand_by lib layout body_net.instances b owners_now (copy_new (first + lay.inner.first_call) (base + a.next_call)) call_step (length n.calls) (λ j lt.
      copy_stands lib layout body_net.instances b owners_now (call_step + j) (base + a.next_call + j) (first + lay.inner.first_call + j) (call_free j lt) (call_inside j lt))))
      (end_stands lib layout body_net.instances b owners_now done_step (base + l.done) (dones_at first lay.inner.statements) done_free dones_inside, tt)

  abbrev pub news : List New
  news = news_in ++ joints

  starts : length start.net.steps ≡ length v.steps
  starts = length-set v.steps t (record { needs = step.needs; is_taken = true })

  body_stand : Here (length start.net.steps) news_in
  body_stand =
      let at = length-append outer (first ∷ []) in
      statements_stand lib layout body_net.instances b owners_now (length is) (record { body = l.inner; bases = bases_in; place = place_in }) lay.inner flow
      (record {
        there = instance_there lib l.inner lay.inner x.body outer place_in [] [] a.names a.calls path deep lay.inner.flow flow.body layout.bodies inner_laid lay.body.runs.cells start rules owners_out even_start;
        body_there = lay.there;
        flow_there = ap (slice_get lib.flows) lay.body.runs.flow_is ∙ flow_there;
      })
      inner_laid (length start.net.steps) 0 all_sits (there_more outer (first ∷ []) (length v.values) (length b.values) longer a.names names_there)
      (there_more outer (first ∷ []) (length v.values) (length b.values) longer a.calls calls_there) (omega (arith, at, deep)) (
        λ j z e.
            ap (λ (ys : List Statement). slice_get ys (0 + j)) (ap (body_at flow.body) lay.body.runs.path_is ∙ lay.body.runs.there) ∙ ap (slice_get x.body) (omega arith) ∙ e,
        λ j z e. ap (slice_get lay.inner.statements) (omega arith) ∙ e,
      ) (omega arith, omega arith)

  pub news_stand : Here (length v.steps) news
  news_stand = subst (λ (u : ℕ). Here u news) starts (stand_both lib layout body_net.instances b owners_now (length start.net.steps) name_step news_in joints long body_stand joints_stand)

  -- ---- what the step did

  pub condition_moves : Moves t v rules owners is last_net rules_now owners_now body_net.instances news
  condition_moves =
      record {
        step = step;
        there = there;
        fresh = fresh;
        ready = ready;
        codes = lists_both new_code v.rules last_net.rules body_net.net.rules news_in joints (ap (λ (u : Sown). u.rules) body_is) (ap (λ (u : Sown). u.rules) joined_net);
        means = rules_both rules news_in joints;
        steps = lists_both new_wants start.net.steps last_net.steps body_net.net.steps news_in joints body_steps steps_are;
        instances = instances_kept lib l.inner lay.inner x.body outer place_in [] [] a.names a.calls path deep lay.inner.flow flow.body layout.bodies inner_laid lay.body.runs.cells start rules owners_out even_start;
        cells = longer;
        others = λ c u h ne.
            let inside = slice_get_within owners c u h in
            let size = even.owners_too in
            let at = slice_get-get_or v.values c None (omega (arith, inside, size)) in
            value_kept c (get_or v.values c None) at ∙ sym at;
        kept = λ c z h. value_kept c (Some z) h;
        owned = λ c u h ne.
            get_left owners_out owners_in c u
            (others_owned (sheet_of v rules) owners t base a.next_name (length n.keys) a.next_call (length n.calls) l.done own_names own_calls own_done fits.0 low name_step call_step done_step c u h ne);
        even_now = subst (λ (u : Sown). IsEven u rules_now owners_now) (sym joined_net) (even_news body_net.net rules_in owners_now joints body_even);
      }

  -- ---- leaves

  abbrev pub new_leaves : ℕ → ℕ → ℕ
  new_leaves u k = hits u k (length start.net.steps) x.body

  leaves_are : (u k : ℕ) → new_leaves u k ≡ hits u k (length v.steps) news_in
  leaves_are u k = hits_length u k (length start.net.steps) x.body news_in (sym news_count) ∙ ap (λ (m : ℕ). hits u k m news_in) starts

  pub leaves_before : (u k : ℕ) → u < length v.steps → new_leaves u k ≡ 0
  leaves_before u k lt = leaves_are u k ∙ hits_before u k (length v.steps) news_in lt

  pub leaves_past : (u k : ℕ) → length last_net.steps ≤ u → new_leaves u k ≡ 0
  leaves_past u k le =
      let all = ap length steps_are in
      let both = length-append body_net.net.steps (map new_wants joints) in
      let some = long in
      let same = starts in
      leaves_are u k ∙ hits_behind u k (length v.steps) news_in (omega (arith, all, both, some, same, le))

  joint_none : (j : ℕ) (m : New) → slice_get joints j ≡ Some m → is_leaf m.means ≡ false
  joint_none j m h = by_case (get_split (copying ++ calling) (ending ∷ []) j m h)
    where
      by_both : (slice_get copying j ≡ Some m) ⊎ ((i : ℕ) × (j ≡ length copying + i) × (slice_get calling i ≡ Some m)) → is_leaf m.means ≡ false
      by_both (inl e) = let p = news_by_of (copy_new (first + lay.inner.first_name) (base + a.next_name)) (length n.keys) j m e in ap (λ (z : New). is_leaf z.means) p.1
      by_both (inr (i, f, e)) = let p = news_by_of (copy_new (first + lay.inner.first_call) (base + a.next_call)) (length n.calls) i m e in ap (λ (z : New). is_leaf z.means) p.1

      by_case : (slice_get (copying ++ calling) j ≡ Some m) ⊎ ((i : ℕ) × (j ≡ length (copying ++ calling) + i) × (slice_get (ending ∷ []) i ≡ Some m)) → is_leaf m.means ≡ false
      by_case (inl e) = by_both (get_split copying calling j m e)
      by_case (inr (zero, f, e)) = let same : ending ≡ m = cc in ap (λ (z : New). is_leaf z.means) (sym same)
      by_case (inr (suc i, f, e)) = absurd (let z : ⊥ = cc in z)

  pub leaves_each : (j : ℕ) (m : New) → slice_get news j ≡ Some m → is_leaf m.means ≡ true → (k : ℕ) → new_leaves (length v.steps + j) k ≡ k
  leaves_each j m h leaf k = by_case (get_split news_in joints j m h)
    where
      by_case : (slice_get news_in j ≡ Some m) ⊎ ((i : ℕ) × (j ≡ length news_in + i) × (slice_get joints i ≡ Some m)) → new_leaves (length v.steps + j) k ≡ k
      by_case (inl e) =
          let inside = slice_get_within news_in j m e in
          leaves_are (length v.steps + j) k ∙ hits_one (length v.steps + j) k (length v.steps) news_in (omega arith) (omega (arith, inside))
      by_case (inr (i, f, e)) = absurd (false≢true (sym (joint_none i m e) ∙ leaf))

  -- ---- what has grown

  scope_is : scope_at bases_in inner place_in ≡ inward (scope_at outer a place) (segment.If x.number)
  scope_is =
      ap (λ (ns : List Slot). record { names = ns; calls = marks_at bases_in a.calls; place = place_in }) (slots_more outer (first ∷ []) (length v.values) a.names names_there)
      ∙ ap (λ (ms : List Mark). record { names = slots_at outer a.names; calls = ms; place = place_in }) (marks_more outer (first ∷ []) (length v.values) a.calls calls_there)

  begun : (depth : ℕ) → HasBegun lib site rows b owners_now depth (all x.body (inward (scope_at outer a place) (segment.If x.number)) given_in (dones_at first lay.inner.statements)) no_work new_leaves
  begun depth =
      subst (λ (c : ℕ). HasBegun lib site rows b owners_now depth (all x.body (inward (scope_at outer a place) (segment.If x.number)) given_in (dones_at c lay.inner.statements)) no_work new_leaves) base_in
      (subst (λ (s : Scope). HasBegun lib site rows b owners_now depth (all x.body s given_in (dones_at (base_at bases_in inner) lay.inner.statements)) no_work new_leaves) scope_is
      (bodies_begin lib site rows b owners_now bases_in place_in lay.inner.flow flow.body layout.bodies x.body inner lay.inner.statements inner_laid (length start.net.steps) all_sits depth))

  counted_same : (weight : Work → ℕ) → IsWeight weight → (m : ℕ) (w : Work) → weight w ≡ weight no_work → weight (counted m w) ≡ weight (counted m no_work)
  counted_same weight is_weight m w e =
      let a_ = is_weight.more m w in
      let z = is_weight.nothing in
      omega (arith, a_, z, e)

  pub condition_enters : (y : Value) → HasHead b (scope_at outer a place) x.cond (Ok y) → bool_in y ≡ true
      → EntersIf lib site rows b owners_now x (scope_at outer a place) (given_by outer a n) (base + l.done) (counted (length x.body) no_work) new_leaves
  condition_enters y head on =
      record {
        value = y;
        value_of_head = head;
        on = on;
        inner = given_in;
        dones = dones_at first lay.inner.statements;
        body = λ depth. (begun depth).grown;
        names = names_copied;
        calls = calls_copied;
        ended = all_ended;
        work = λ depth weight is_weight.
            counted_same weight is_weight (length x.body) (work_of lib site rows (rules_of b) (state_of b owners_now) (begun depth).grown) ((begun depth).weighs weight is_weight);
        leaves = λ depth u k. (begun depth).leaves_are u k;
        spends = λ depth task. (begun depth).spends task;
      }
