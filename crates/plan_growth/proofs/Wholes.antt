-- A workflow that is entered.
use Rattle.std.proofs.Common.{◌≡◌, ℕ, zero, suc, ◌+◌, ◌<◌, ◌≤◌, true, List, [], ◌∷◌, ◌++◌, All, map, append_assoc, append-nil, length, replicate, Option, Some, None, slice_get, arith, sym, ap, ◌∙◌, subst, refl}
use Rattle.std.proofs.lemmas.List.{length-append, length-map, length-replicate}
use Rattle.std.proofs.lemmas.List.Elements.{All-append, All-cons, All-nil}
use Rattle.std.proofs.lemmas.Option.{slice_get_within}
use Rattle.wdl_base.specs.declared.place.Segment.{Segment}
use Rattle.wdl_value.specs.declared.env.Bind.{Bind}
use Rattle.wdl_value.specs.declared.value.Value.{Value}
use Rattle.wdl_value.specs.Tables.{Row}
use Rattle.wdl_typed.specs.declared.flow.FlowDef.{FlowDef}
use Rattle.wdl_typed.specs.declared.flow.Statement.{Statement}
use Rattle.wdl_typed.specs.declared.task.TDecl.{TDecl}
use Rattle.wdl_typed.specs.Bodies.{Library}
use Rattle.wdl_typed.specs.Journal.{keys_distinct}
use Rattle.step_net.specs.Views.{Wants}
use Rattle.value_net.specs.Nets.{view_of, with_cells}
use Rattle.net_laws.specs.Growing as net
use Rattle.net_laws.specs.Growing.{all, body_given, flow_whole, nothing_given, slot_cell, start, tells, whole}
use Rattle.net_laws.specs.Moving as even_works
use Rattle.net_laws.specs.Moving.{IsWeight}
use Rattle.net_laws.specs.Net.{Given, Mark, Resolved, Scope, Slot, Work, beyond, both_given, both_works, no_work, slot_keys}
use Rattle.net_laws.specs.Planned.{counted}
use Rattle.net_laws.specs.Works.{work_of}
use Rattle.net_laws.proofs.Even.{work_even}
use Rattle.plan_moves.specs.Sheets.{Sheet, rules_of, state_of}
use Rattle.plan_layout.specs.declared.layout.FlowLayout.{FlowLayout}
use Rattle.plan_layout.specs.declared.layout.Layout.{Layout}
use Rattle.plan_layout.specs.declared.layout.Need.{Need}
use Rattle.plan_layout.specs.Cells.{marks_at, slots_at}
use Rattle.plan_layout.specs.Laid as laid
use Rattle.plan_layout.specs.Laid.{IsLaidAs, Laid, Stand, beginning, behind_all, body_seen}
use Rattle.plan_layout.specs.Paths.{body_at}
use Rattle.plan_layout.specs.Sees.{FlowSees, OutputsSee, Sees, spot_keys}
use Rattle.plan_layout.specs.Sees as see
use Rattle.plan_growth.specs.declared.instance.Instance.{Instance}
use Rattle.plan_growth.specs.Begun.{AllSit, HasBegun, IsFree, all_given, hits, scope_at}
use Rattle.plan_growth.specs.Entering.{Plot, Sown, cells_from, dones_at, flow_dones, with_flow, with_inputs, with_instance, with_outputs}
use Rattle.plan_growth.specs.Growth.{IsEven, sheet_of}
use Rattle.plan_growth.specs.Meaning.{AreThere}
use Rattle.plan_growth.specs.News.{AllStand, New, new_code, new_means, new_wants, statement_news, with_news}
use Rattle.plan_growth.proofs.Adding.{hits_both, hits_length, lists_both, news_both, rule_at, rules_both, stand_both, step_at}
use Rattle.plan_growth.proofs.Begins.{bodies_begin}
use Rattle.plan_growth.proofs.Entry.{cells_count, even_news, even_now, extends, instance_there, instances_kept, is_entered, net_is, values_are}
use Rattle.plan_growth.proofs.Firsts.{dones_within}
use Rattle.plan_growth.proofs.Inside.{WholeLaid, whole_laid}
use Rattle.plan_growth.proofs.Instances.{Extends, IsEntered, Kept, entered_later, instance_owners, put}
use Rattle.plan_growth.proofs.Lists.{get_copy, get_left, get_right, kept_length}
use Rattle.plan_growth.proofs.Runs.{self_found}
use Rattle.plan_growth.proofs.Scopes.{behind_count, behind_there, body_scope, inputs_cells, inputs_count, inputs_scope, outputs_cells, outputs_scope}
use Rattle.plan_growth.proofs.Sitting.{all_sit, call_owners, done_owners, name_owners, names_count}
use Rattle.plan_growth.proofs.Standing.{lines_length, news_length, statements_stand}
use Rattle.plan_growth.proofs.Tellers.{inputs_stand, inputs_there, outputs_stand}
use Rattle.plan_growth.proofs.Telling.{InputsPut, input_hits, input_owners, input_owners_length, input_values, inputs_added, inputs_later, inputs_sit, output_news_length, outputs_added, outputs_later, outputs_sit, values_length, values_other}
use Rattle.plan_growth.proofs.Told.{InputsSit, OutputsSit, input_news, inputs_begin, inputs_given, inputs_leaves, output_news, outputs_begin, outputs_given, told_scope}
use Rattle.plan_layout.proofs.Needed.{slots_keys}

-- the owners of outputs, from a step on
abbrev pub output_owners : ℕ → List TDecl → List ℕ
output_owners u [] = []
output_owners u (d ∷ ds) = u ∷ output_owners (u + 1) ds

output_owners_length : (u : ℕ) (ds : List TDecl) → length (output_owners u ds) ≡ length ds
output_owners_length u [] = refl
output_owners_length u (d ∷ ds) = let rest = output_owners_length (u + 1) ds in omega (arith, rest)

output_owner : (u : ℕ) (ds : List TDecl) (j : ℕ) → j < length ds → slice_get (output_owners u ds) j ≡ Some (u + j)
output_owner u [] j lt = absurd (omega (arith, lt))
output_owner u (d ∷ ds) zero lt = let z : u ≡ u + 0 = omega arith in ap (λ (w : ℕ). Some w) z
output_owner u (d ∷ ds) (suc j) lt = output_owner (u + 1) ds j (omega (arith, lt)) ∙ (let z : u + 1 + j ≡ u + suc j = omega arith in ap (λ (w : ℕ). Some w) z)

module _ (lib : Library) (layout : Layout) (site : List ℕ) (rows : List Row) (number : ℕ) (f : FlowDef) (fl : FlowLayout) (lay : IsLaidAs (Sees lib) lib layout.bodies number f fl) (sees : FlowSees lib f)
    (flow_there : slice_get lib.flows number ≡ Some f) (fl_there : slice_get layout.flows number ≡ Some fl) (given : List Bind) (place : List Segment) (q : Plot) (rules : List net.Rule) (owners : List ℕ)
    (even : IsEven q.net rules owners) where
  abbrev pub ss : List Statement
  ss = f.body

  abbrev pub seen_in : List Need
  seen_in = laid.with_inputs [] f.inputs

  pub whole_is : WholeLaid lib number f.body layout.bodies ss seen_in [] [] (length f.inputs) (length f.outputs) lay.body
  whole_is = whole_laid lib number f.body layout.bodies ss seen_in [] [] (length f.inputs) (length f.outputs) lay.body lay.laid

  abbrev pub instance : ℕ
  instance = length q.instances

  abbrev pub base : ℕ
  base = length q.net.values

  abbrev pub first : ℕ
  first = length q.net.steps

  abbrev pub bases : List ℕ
  bases = base ∷ []

  abbrev pub input_step : ℕ
  input_step = first + length ss

  abbrev pub in_news : List New
  in_news = input_news instance base place given 0 f.inputs []

  abbrev pub output_step : ℕ
  output_step = input_step + length in_news

  abbrev pub befores : List ℕ
  befores = input_owners instance base place given input_step 0 f.inputs []

  abbrev pub afters : List ℕ
  afters = output_owners output_step f.outputs

  pub befores_count : length befores ≡ length f.inputs
  befores_count = input_owners_length instance base place given input_step 0 f.inputs []

  pub afters_count : length afters ≡ length f.outputs
  afters_count = output_owners_length output_step f.outputs

  abbrev pub stand : Stand
  stand = beginning seen_in [] [] (body_given lib ss) (length befores) (length afters)

  pub stand_is : beginning seen_in [] [] (body_given lib ss) (length f.inputs) (length f.outputs) ≡ stand
  stand_is =
      ap (λ (m : ℕ). beginning seen_in [] [] (body_given lib ss) m (length f.outputs)) (sym befores_count) ∙ ap (λ (m : ℕ). beginning seen_in [] [] (body_given lib ss) (length befores) m) (sym afters_count)

  pub inner_laid : Laid (Sees lib) lib lay.body.flow f.body layout.bodies (laid.all ss stand lay.body.statements)
  inner_laid =
      subst (λ (n : ℕ). Laid (Sees lib) lib n f.body layout.bodies (laid.all ss stand lay.body.statements)) (sym whole_is.runs.flow_is)
      (subst (λ (a : Stand). Laid (Sees lib) lib number f.body layout.bodies (laid.all ss a lay.body.statements)) stand_is whole_is.statements)

  pub cells_are : lay.body.cells ≡ (behind_all lib ss stand).next_done
  cells_are = whole_is.runs.cells ∙ ap (λ (a : Stand). (behind_all lib ss a).next_done) stand_is

  -- ---- the body

  abbrev pub body_net : Plot
  body_net = with_instance fl.body [] place lay.body q

  abbrev pub news_in : List New
  news_in = statement_news lib instance bases place 0 ss stand lay.body.statements

  abbrev pub rules_in : List net.Rule
  rules_in = rules ++ map new_means news_in

  abbrev pub owners_in : List ℕ
  owners_in = instance_owners lib befores afters first ss

  abbrev pub owners_now : List ℕ
  owners_now = owners ++ owners_in

  pub body_is : body_net.net ≡ with_news (with_cells q.net lay.body.cells) news_in
  body_is = net_is lib fl.body lay.body ss [] place befores afters seen_in [] [] refl lay.body.flow f.body layout.bodies inner_laid cells_are q rules owners even

  pub body_entered : IsEntered lib (sheet_of body_net.net rules_in) owners_now bases place befores afters base first ss stand lay.body.statements
  body_entered = is_entered lib fl.body lay.body ss [] place befores afters seen_in [] [] refl lay.body.flow f.body layout.bodies inner_laid cells_are q rules owners even

  body_behind : Extends (sheet_of q.net rules) owners (sheet_of body_net.net rules_in) owners_now
  body_behind = extends lib fl.body lay.body ss [] place befores afters seen_in [] [] refl lay.body.flow f.body layout.bodies inner_laid cells_are q rules owners even

  pub body_even : IsEven body_net.net rules_in owners_now
  body_even = even_now lib fl.body lay.body ss [] place befores afters seen_in [] [] refl lay.body.flow f.body layout.bodies inner_laid cells_are q rules owners even

  body_values : body_net.net.values ≡ q.net.values ++ replicate lay.body.cells None
  body_values = values_are lib fl.body lay.body ss [] place befores afters seen_in [] [] refl lay.body.flow f.body layout.bodies inner_laid cells_are q rules owners even

  body_cells : lay.body.cells ≡ length owners_in
  body_cells = cells_count lib fl.body lay.body ss [] place befores afters seen_in [] [] refl lay.body.flow f.body layout.bodies inner_laid cells_are q rules owners even

  pub body_steps : body_net.net.steps ≡ q.net.steps ++ map new_wants news_in
  body_steps = ap (λ (u : Sown). u.steps) body_is

  news_count : length news_in ≡ length ss
  news_count = news_length lib instance bases place lay.body.flow f.body layout.bodies inner_laid 0

  pub long : length body_net.net.steps ≡ input_step
  long =
      let a = ap length body_steps in
      let b_ = length-append q.net.steps (map new_wants news_in) in
      let c = length-map news_in new_wants in
      let d = news_count in
      omega (arith, a, b_, c, d)

  -- ---- inputs and outputs

  abbrev pub seen_out : List Need
  seen_out = (behind_all lib ss stand).names

  abbrev pub calls_out : List Mark
  calls_out = marks_at bases (behind_all lib ss stand).calls

  pub seen_is : body_seen lib f ≡ seen_out
  seen_is = ap (λ (a : Stand). (behind_all lib ss a).names) stand_is

  abbrev pub out_news : List New
  out_news = output_news instance base place calls_out 0 f.outputs seen_out

  abbrev pub told : List New
  told = in_news ++ out_news

  abbrev pub last_net : Sown
  last_net = (with_flow f given place fl lay.body q).net

  abbrev values_now : List (Option Value)
  values_now = input_values instance base place given 0 f.inputs body_net.net.values

  pub last_is : last_net ≡ with_news (view_of values_now body_net.net.rules body_net.net.steps) told
  last_is =
      ap (λ (ns : List (List Need)). with_outputs instance base 0 fl.outputs (with_inputs given instance base 0 f.inputs ns body_net.net)) lay.inputs
      ∙ ap (λ (u : Sown). with_outputs instance base 0 fl.outputs u) (inputs_added instance base place given f.inputs 0 [] body_net.net)
      ∙ ap (λ (ns : List (List Need)). with_outputs instance base 0 ns (with_news (view_of values_now body_net.net.rules body_net.net.steps) in_news)) (lay.outputs ∙ ap (λ (s : List Need). laid.output_needs s f.outputs) seen_is)
      ∙ outputs_added instance base place given calls_out f.outputs 0 seen_out (with_news (view_of values_now body_net.net.rules body_net.net.steps) in_news)
      ∙ news_both (view_of values_now body_net.net.rules body_net.net.steps) in_news out_news

  abbrev pub rules_now : List net.Rule
  rules_now = rules_in ++ map new_means told

  abbrev pub b : Sheet
  b = sheet_of last_net rules_now

  pub values_are_now : last_net.values ≡ values_now
  values_are_now = ap (λ (u : Sown). u.values) last_is

  pub steps_now : last_net.steps ≡ body_net.net.steps ++ map new_wants told
  steps_now = ap (λ (u : Sown). u.steps) last_is

  -- a cell that is none of the inputs'
  value_other : (c : ℕ) → ((m : ℕ) → m < length f.inputs → c ≡ base + m → ⊥) → slice_get b.values c ≡ slice_get body_net.net.values c
  value_other c away =
      ap (λ (os : List (Option Value)). slice_get os c) values_are_now ∙ values_other instance base place given f.inputs 0 body_net.net.values c (λ m lt e. away m lt (omega (arith, e)))

  pub value_kept : (c : ℕ) (o : Option Value) → slice_get q.net.values c ≡ Some o → slice_get b.values c ≡ Some o
  value_kept c o h = let inside = slice_get_within q.net.values c o h in value_other c (λ m lt e. omega (arith, e, inside)) ∙ body_behind.values c o h

  pub longer : length q.net.values ≤ length b.values
  longer = kept_length q.net.values b.values value_kept

  pub entered_now : IsEntered lib b owners_now bases place befores afters base first ss stand lay.body.statements
  entered_now =
      record {
        rules = λ j r h. get_left rules_in (map new_means told) (first + j) r (body_entered.rules j r h);
        steps = λ j w h. ap (λ (ws : List Wants). slice_get ws (first + j)) steps_now ∙ get_left body_net.net.steps (map new_wants told) (first + j) w (body_entered.steps j w h);
        owned = body_entered.owned;
        unset = λ j le lt.
            let many = befores_count in
            value_other (base + j) (λ m l e. omega (arith, e, le, l, many)) ∙ body_entered.unset j le lt;
      }

  pub all_sits : AllSit b owners_now lib bases place first ss stand lay.body.statements
  all_sits =
      all_sit lib b owners_now bases place lay.body.flow f.body layout.bodies inner_laid first (put lib b owners_now bases place befores afters base first ss lay.body.statements seen_in [] [] entered_now refl)

  -- where the steps of inputs and outputs are
  rule_here : (j u : ℕ) (m : New) → u ≡ input_step + j → slice_get told j ≡ Some m → slice_get rules_now u ≡ Some m.means
  rule_here j u m e h =
      let size = body_even.rules_too in
      let l = long in
      rule_at rules_in told j u m (omega (arith, e, size, l)) h

  step_here : (j u : ℕ) (m : New) → u ≡ input_step + j → slice_get told j ≡ Some m → slice_get last_net.steps u ≡ Some (new_wants m)
  step_here j u m e h = let l = long in ap (λ (ws : List Wants). slice_get ws u) steps_now ∙ step_at body_net.net.steps told j u m (omega (arith, e, l)) h

  inputs_put : InputsPut instance base place given lib site rows b owners_now input_step 0 f.inputs [] body_net.net.values
  inputs_put =
      record {
        news = (λ j n e. rule_here j (input_step + j) n refl (get_left in_news out_news j n e), λ j n e. step_here j (input_step + j) n refl (get_left in_news out_news j n e));
        owned = λ j w e.
            ap (slice_get owners_now) (omega arith)
            ∙ body_entered.owned j w (get_left befores (name_owners lib first ss ++ (afters ++ (call_owners lib first ss ++ done_owners lib first ss))) j w e);
        after = λ j lt. ap (λ (os : List (Option Value)). slice_get os (base + (0 + j))) values_are_now;
        unset = λ j lt.
            let many = befores_count in
            let size = body_cells in
            let all_ = length-append befores (name_owners lib first ss ++ (afters ++ (call_owners lib first ss ++ done_owners lib first ss))) in
            ap (λ (os : List (Option Value)). slice_get os (base + (0 + j))) body_values ∙ ap (slice_get (q.net.values ++ replicate lay.body.cells None)) (omega arith)
            ∙ get_right q.net.values (replicate lay.body.cells None) j ∙ get_copy lay.body.cells j None (omega (arith, lt, many, size, all_));
      }

  ins_sit : InputsSit lib site rows b owners_now instance base place given input_step 0 f.inputs []
  ins_sit = inputs_sit instance base place given lib site rows b owners_now f.inputs input_step 0 [] body_net.net.values inputs_put

  pub seen_count : length seen_out ≡ length befores + length (body_given lib ss).keys
  seen_count =
      let a = behind_count lib ss stand in
      let c = inputs_count f.inputs [] in
      let d = befores_count in
      omega (arith, a, c, d)

  out_free : (j : ℕ) → j < length f.outputs → IsFree b owners_now (output_step + j) (base + (length seen_out + j))
  out_free j lt =
      let n = names_count lib first ss in
      let s = seen_count in
      let slot : base + (length seen_out + j) ≡ base + (length befores + (length (name_owners lib first ss) + j)) = omega (arith, n, s) in
      let own : slice_get owners_in (length befores + (length (name_owners lib first ss) + j)) ≡ Some (output_step + j) =
      get_right befores (name_owners lib first ss ++ (afters ++ (call_owners lib first ss ++ done_owners lib first ss))) (length (name_owners lib first ss) + j)
      ∙ get_right (name_owners lib first ss) (afters ++ (call_owners lib first ss ++ done_owners lib first ss)) j
      ∙ get_left afters (call_owners lib first ss ++ done_owners lib first ss) j (output_step + j) (output_owner output_step f.outputs j lt) in (
        ap (slice_get owners_now) slot ∙ entered_now.owned (length befores + (length (name_owners lib first ss) + j)) (output_step + j) own,
        ap (slice_get b.values) slot
            ∙ entered_now.unset (length befores + (length (name_owners lib first ss) + j)) (omega arith)
            (slice_get_within owners_in (length befores + (length (name_owners lib first ss) + j)) (output_step + j) own),
      )

  outs_sit : OutputsSit lib site rows b owners_now instance base place calls_out output_step f.outputs seen_out
  outs_sit =
      outputs_sit instance base place given lib site rows b owners_now calls_out f.outputs output_step 0 seen_out
      (record {
        news = (
          λ j n e. rule_here (length in_news + j) (output_step + j) n (omega arith) (get_right in_news out_news j ∙ e),
          λ j n e. step_here (length in_news + j) (output_step + j) n (omega arith) (get_right in_news out_news j ∙ e),
        );
        free = out_free;
      })

  outs_see : OutputsSee seen_out f.outputs
  outs_see = subst (λ (s : List Need). OutputsSee s f.outputs) seen_is sees.outputs

  -- ---- what has begun

  abbrev pub ins : Given
  ins = inputs_given base 0 f.inputs

  abbrev pub body_out : Given
  body_out = all_given lib bases stand ss

  abbrev pub outs : Given
  outs = outputs_given base (length seen_out) f.outputs

  abbrev pub names_out : Given
  names_out = both_given ins (both_given body_out (both_given outs nothing_given))

  ins_scope : scope_at bases stand place ≡ beyond (start place) ins
  ins_scope = inputs_scope base place [] f.inputs [] 0 refl

  outs_scope : told_scope base place calls_out seen_out ≡ beyond (beyond (start place) ins) body_out
  outs_scope = body_scope lib site rows b owners_now bases place ss stand ∙ ap (λ (s : Scope). beyond s body_out) ins_scope

  abbrev pub news : List New
  news = news_in ++ told

  -- ---- where more may have been added

  module _ (c : Sheet) (theirs : List ℕ) (js : List Instance) (added : Extends b owners_now c theirs) (kept : Kept body_net.instances js) where
    entered_later_is : IsEntered lib c theirs bases place befores afters base first ss stand lay.body.statements
    entered_later_is = entered_later lib b c owners_now theirs bases place befores afters base first ss stand lay.body.statements added entered_now

    all_sits_later : AllSit c theirs lib bases place first ss stand lay.body.statements
    all_sits_later =
        all_sit lib c theirs bases place lay.body.flow f.body layout.bodies inner_laid first (put lib c theirs bases place befores afters base first ss lay.body.statements seen_in [] [] entered_later_is refl)

    ins_sit_later : InputsSit lib site rows c theirs instance base place given input_step 0 f.inputs []
    ins_sit_later = inputs_later lib site rows b c owners_now theirs added instance base place given f.inputs input_step 0 [] ins_sit

    outs_sit_later : OutputsSit lib site rows c theirs instance base place calls_out output_step f.outputs seen_out
    outs_sit_later = outputs_later lib site rows b c owners_now theirs added instance base place calls_out f.outputs output_step seen_out outs_sit

    abbrev Begins : ℕ → net.Form → Work → (ℕ → ℕ → ℕ) → Type 0
    Begins depth form w leaves = HasBegun lib site rows c theirs depth form w leaves

    body_begins : (depth : ℕ) → Begins depth (all ss (beyond (start place) ins) body_out (dones_at base lay.body.statements)) no_work (λ u k. hits u k first ss)
    body_begins depth =
        subst (λ (s : Scope). Begins depth (all ss s body_out (dones_at base lay.body.statements)) no_work (λ u k. hits u k first ss)) ins_scope
        (bodies_begin lib site rows c theirs bases place lay.body.flow f.body layout.bodies ss stand lay.body.statements inner_laid first all_sits_later depth)

    outs_begin : (depth : ℕ) → Begins depth (tells f.outputs (beyond (beyond (start place) ins) body_out) outs) no_work (λ u k. hits u k output_step f.outputs)
    outs_begin depth =
        subst (λ (s : Scope). Begins depth (tells f.outputs s outs) no_work (λ u k. hits u k output_step f.outputs)) outs_scope
        (outputs_begin lib site rows c theirs instance base place calls_out f.outputs seen_out output_step (length seen_out) refl outs_see outs_sit_later depth)

    abbrev pub new_leaves : ℕ → ℕ → ℕ
    new_leaves u k = inputs_leaves lib site rows c theirs instance base place given u k input_step 0 f.inputs [] + (hits u k first ss + hits u k output_step f.outputs)

    abbrev done_cells : List ℕ
    done_cells = map slot_cell ins.names ++ dones_at base lay.body.statements ++ map slot_cell outs.names

    dones_are : done_cells ≡ flow_dones f fl lay.body base
    dones_are =
        let same : base + fl.first_output ≡ base + length seen_out = (let e = lay.first_output in let s = ap length seen_is in omega (arith, e, s)) in
        ap (λ (cs : List ℕ). cs ++ dones_at base lay.body.statements ++ map slot_cell outs.names) (inputs_cells base 0 base f.inputs (omega arith))
        ∙ ap (λ (cs : List ℕ). cells_from base (length f.inputs) ++ dones_at base lay.body.statements ++ cs) (outputs_cells base (length seen_out) (base + fl.first_output) f.outputs same)
        ∙ append_assoc (cells_from base (length f.inputs)) (dones_at base lay.body.statements) (cells_from (base + fl.first_output) (length f.outputs))

    weigh_all : (weight : Work → ℕ) → IsWeight weight → (p r s : Work) → even_works.IsEven p → even_works.IsEven r → even_works.IsEven s → weight p ≡ weight no_work → weight r ≡ weight no_work → weight s ≡ weight no_work
        → weight (both_works p (both_works (counted (length ss) r) (both_works s no_work))) ≡ weight (counted (length ss) no_work)
    weigh_all weight w p r s ep er es hp hr hs =
        let a = w.both p (both_works (counted (length ss) r) (both_works s no_work)) ep in
        let c = w.both (counted (length ss) r) (both_works s no_work) er in
        let d = w.both s no_work es in
        let e = w.more (length ss) r in
        let g = w.more (length ss) no_work in
        let z = w.nothing in
        omega (arith, a, c, d, e, g, z, hp, hr, hs)

    three : (m n o i j k : ℕ) → m ≡ i → n ≡ j → o ≡ k → m + (n + o) ≡ i + (j + k)
    three m n o i j k e g h = omega (arith, e, g, h)

    pub flow_begins : (depth : ℕ) → Begins depth (whole f given place names_out (flow_dones f fl lay.body base)) (counted (length ss) no_work) new_leaves
    flow_begins depth =
        let p = inputs_begin lib site rows c theirs instance base place given f.inputs [] input_step 0 refl sees.inputs ins_sit_later depth in
        let r = body_begins depth in
        let s = outs_begin depth in
        subst (λ (cs : List ℕ). Begins depth (whole f given place names_out cs) (counted (length ss) no_work) new_leaves) dones_are
        (record {
          grown = flow_whole depth f given place ins body_out outs (dones_at base lay.body.statements) p.grown r.grown s.grown;
          weighs = λ weight is_weight.
              weigh_all weight is_weight (work_of lib site rows (rules_of c) (state_of c theirs) p.grown) (work_of lib site rows (rules_of c) (state_of c theirs) r.grown)
              (work_of lib site rows (rules_of c) (state_of c theirs) s.grown) (work_even lib site rows (rules_of c) (state_of c theirs) p.grown) (work_even lib site rows (rules_of c) (state_of c theirs) r.grown)
              (work_even lib site rows (rules_of c) (state_of c theirs) s.grown) (p.weighs weight is_weight) (r.weighs weight is_weight) (s.weighs weight is_weight);
          leaves_are = λ u k. three _ _ _ (inputs_leaves lib site rows c theirs instance base place given u k input_step 0 f.inputs []) (hits u k first ss) (hits u k output_step f.outputs) (p.leaves_are u k) (r.leaves_are u k) (s.leaves_are u k);
          spends = λ task. three _ _ _ 0 0 0 (p.spends task) (r.spends task) (s.spends task);
        })

    -- ---- leaves, by the steps

    pub leaves_are : (u k : ℕ) → new_leaves u k ≡ hits u k first news
    leaves_are u k =
        let a = input_hits instance base place given lib site rows c theirs f.inputs u k input_step 0 [] in
        let c = hits_length u k first ss news_in (sym news_count) in
        let d = hits_length u k output_step f.outputs out_news (sym (output_news_length instance base place calls_out 0 f.outputs seen_out)) in
        let size = news_count in
        let e = hits_both u k first input_step news_in told (omega (arith, size)) in
        let g = hits_both u k input_step output_step in_news out_news refl in
        omega (arith, a, c, d, e, g)

    -- ---- what holds of the steps

    abbrev Here : ℕ → List New → Type 0
    Here u ns = AllStand lib layout js c theirs u ns

    abbrev pub one : Instance
    one = record { body = fl.body; bases = bases; place = place }

    there_now : slice_get js instance ≡ Some one
    there_now = kept instance one (instance_there lib fl.body lay.body ss [] place befores afters seen_in [] [] refl lay.body.flow f.body layout.bodies inner_laid cells_are q rules owners even)

    flow_here : slice_get lib.flows lay.body.flow ≡ Some f
    flow_here = ap (slice_get lib.flows) whole_is.runs.flow_is ∙ flow_there

    fl_here : slice_get layout.flows lay.body.flow ≡ Some fl
    fl_here = ap (slice_get layout.flows) whole_is.runs.flow_is ∙ fl_there

    ins_there : AreThere bases (length c.values) seen_in
    ins_there =
        inputs_there lib layout site rows js c theirs instance base place lay.body f fl one refl refl (record { there = there_now; body_there = lay.there; flow_there = flow_here }) fl_here given f.inputs [] input_step 0 refl
        ins_sit_later tt

    body_stand : Here first news_in
    body_stand =
        statements_stand lib layout js c theirs instance one lay.body f (record { there = there_now; body_there = lay.there; flow_there = flow_here }) inner_laid first 0 all_sits_later ins_there tt refl
        (λ j z e. ap (λ (ys : List Statement). slice_get ys (0 + j)) (ap (body_at f.body) whole_is.runs.path_is) ∙ ap (slice_get ss) (omega arith) ∙ e, λ j z e. ap (slice_get lay.body.statements) (omega arith) ∙ e) (omega arith, omega arith)

    told_stand : Here input_step told
    told_stand =
        stand_both lib layout js c theirs input_step output_step in_news out_news refl
        (inputs_stand lib layout site rows js c theirs instance base place lay.body f fl one refl refl (record { there = there_now; body_there = lay.there; flow_there = flow_here }) fl_here given f.inputs [] input_step 0 refl
        ins_sit_later sees.inputs tt (λ j z e. ap (slice_get f.inputs) (omega arith) ∙ e) (λ j z e. ap (λ (ls : List (List Need)). slice_get ls (0 + j)) lay.inputs ∙ ap (slice_get (laid.input_needs [] f.inputs)) (omega arith) ∙ e))
        (outputs_stand lib layout site rows js c theirs instance base place lay.body f fl one refl refl (record { there = there_now; body_there = lay.there; flow_there = flow_here }) fl_here calls_out f.outputs seen_out
        output_step 0 (let e = lay.first_output in let s = ap length seen_is in omega (arith, e, s)) outs_sit_later outs_see
        (behind_there lib site rows c theirs bases place first ss stand lay.body.statements all_sits_later (omega arith) ins_there) (λ j z e. ap (slice_get f.outputs) (omega arith) ∙ e)
        (λ j z e.
        ap (λ (ls : List (List Need)). slice_get ls (0 + j)) (lay.outputs ∙ ap (λ (s : List Need). laid.output_needs s f.outputs) seen_is) ∙ ap (slice_get (laid.output_needs seen_out f.outputs)) (omega arith) ∙ e))

    pub news_stand : Here first news
    news_stand = let size = news_count in stand_both lib layout js c theirs first input_step news_in told (omega (arith, size)) body_stand told_stand

  -- ---- names

  pub names_are : names_out.names ≡ slots_at bases (see.with_outputs seen_out f.outputs)
  names_are =
      ap (λ (ns : List Slot). ins.names ++ (body_out.names ++ ns)) (append-nil outs.names) ∙ sym (append_assoc ins.names body_out.names outs.names)
      ∙ sym (ap (λ (s : Scope). s.names ++ outs.names) outs_scope) ∙ sym (ap (λ (s : Scope). s.names) (outputs_scope base place calls_out f.outputs seen_out (length seen_out) refl))

  pub names_differ : keys_distinct (slot_keys names_out.names) ≡ true
  names_differ =
      ap (λ (ns : List Slot). keys_distinct (slot_keys ns)) names_are ∙ ap keys_distinct (slots_keys bases (see.with_outputs seen_out f.outputs))
      ∙ subst (λ (s : List Need). keys_distinct (spot_keys (see.with_outputs s f.outputs)) ≡ true) seen_is sees.distinct

  resolved_right : (all_ xs ys : List Slot) → Resolved all_ (xs ++ ys) → Resolved all_ ys
  resolved_right all_ [] ys h = h
  resolved_right all_ (x ∷ xs) ys h = resolved_right all_ xs ys h.1

  pub outs_found : Resolved names_out.names outs.names
  outs_found =
      subst (λ (ns : List Slot). Resolved names_out.names ns) (append-nil outs.names)
      (resolved_right names_out.names body_out.names (outs.names ++ []) (resolved_right names_out.names ins.names (body_out.names ++ (outs.names ++ [])) (self_found names_out.names names_differ)))

  -- ---- what was there stays

  pub flow_behind : Extends (sheet_of q.net rules) owners b owners_now
  flow_behind =
      record {
        rules = λ i r h. get_left rules_in (map new_means told) i r (body_behind.rules i r h);
        steps = λ i w h. ap (λ (ws : List Wants). slice_get ws i) steps_now ∙ get_left body_net.net.steps (map new_wants told) i w (body_behind.steps i w h);
        owners = body_behind.owners;
        values = value_kept;
      }

  pub flow_even : IsEven last_net rules_now owners_now
  flow_even =
      let mid : IsEven (view_of values_now body_net.net.rules body_net.net.steps) rules_in owners_now =
      record { codes = body_even.codes; rules_too = body_even.rules_too; owners_too = body_even.owners_too ∙ sym (values_length instance base place given f.inputs 0 body_net.net.values) } in
      subst (λ (u : Sown). IsEven u rules_now owners_now) (sym last_is) (even_news (view_of values_now body_net.net.rules body_net.net.steps) rules_in owners_now told mid)

  pub flow_codes : last_net.rules ≡ q.net.rules ++ map new_code news
  flow_codes = lists_both new_code q.net.rules last_net.rules body_net.net.rules news_in told (ap (λ (u : Sown). u.rules) body_is) (ap (λ (u : Sown). u.rules) last_is)

  pub flow_steps : last_net.steps ≡ q.net.steps ++ map new_wants news
  flow_steps = lists_both new_wants q.net.steps last_net.steps body_net.net.steps news_in told body_steps steps_now

  pub flow_rules : rules_now ≡ rules ++ map new_means news
  flow_rules = rules_both rules news_in told

  pub flow_instances : Kept q.instances body_net.instances
  flow_instances = instances_kept lib fl.body lay.body ss [] place befores afters seen_in [] [] refl lay.body.flow f.body layout.bodies inner_laid cells_are q rules owners even

  -- ---- the cells that say that all is done, and those of outputs, are there

  pub outs_inside : (j : ℕ) → j < length f.outputs → base + (length seen_out + j) < length b.values
  outs_inside j lt = slice_get_within b.values (base + (length seen_out + j)) None (out_free j lt).1

  ins_inside : (j : ℕ) → j < length f.inputs → base + j < length b.values
  ins_inside j lt =
      let all_ = ap length values_are_now ∙ values_length instance base place given f.inputs 0 body_net.net.values ∙ ap length body_values in
      let both = length-append q.net.values (replicate lay.body.cells None) in
      let many = length-replicate {A = Option Value} lay.body.cells None in
      let size = body_cells in
      let own = length-append befores (name_owners lib first ss ++ (afters ++ (call_owners lib first ss ++ done_owners lib first ss))) in
      let count = befores_count in
      omega (arith, all_, both, many, size, own, count, lt)

  cells_inside : (c n : ℕ) → ((j : ℕ) → j < n → c + j < length b.values) → All (λ (d : ℕ). d < length b.values) (cells_from c n)
  cells_inside c zero h = All-nil (λ (d : ℕ). d < length b.values)
  cells_inside c (suc n) h =
      All-append (λ (d : ℕ). d < length b.values) (cells_from c n) ((c + n) ∷ []) (cells_inside c n (λ j lt. h j (omega (arith, lt))))
      (All-cons (λ (d : ℕ). d < length b.values) (c + n) [] (h n (omega arith)) (All-nil (λ (d : ℕ). d < length b.values)))

  pub dones_inside : All (λ (d : ℕ). d < length b.values) (flow_dones f fl lay.body base)
  dones_inside =
      let same : fl.first_output ≡ length seen_out = lay.first_output ∙ ap length seen_is in
      All-append (λ (d : ℕ). d < length b.values) (cells_from base (length f.inputs)) (dones_at base lay.body.statements ++ cells_from (base + fl.first_output) (length f.outputs)) (cells_inside base (length f.inputs) ins_inside)
      (All-append (λ (d : ℕ). d < length b.values) (dones_at base lay.body.statements) (cells_from (base + fl.first_output) (length f.outputs))
      (dones_within lib b owners_now bases place first ss stand lay.body.statements all_sits (lines_length lib 0 [] [] lay.body.flow f.body layout.bodies inner_laid) base refl)
      (cells_inside (base + fl.first_output) (length f.outputs) (λ j lt. let h = outs_inside j lt in omega (arith, h, same))))
