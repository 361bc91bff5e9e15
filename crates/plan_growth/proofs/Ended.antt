-- The outputs of a call of a task that has ended are in its cells.
use Rattle.std.proofs.Common.{◌≡◌, Bool, false, if◌then◌else◌, is_some, ℕ, zero, suc, ◌+◌, ◌<◌, true, List, [], ◌∷◌, ◌++◌, All, map, length, Option, Some, None, Ok, Err, slice_get, slice_set, option_and_then, arith, sym, ap, ◌∙◌, subst, refl}
use Rattle.std.proofs.lemmas.List.{length-set}
use Rattle.std.proofs.lemmas.Option.{slice_get_within}
use Rattle.wdl_base.specs.declared.answer.Answer.{Answer}
use Rattle.wdl_base.specs.declared.name.Key.{Key}
use Rattle.wdl_value.specs.declared.env.Bind.{Bind}
use Rattle.wdl_value.specs.declared.value.Value.{Value}
use Rattle.wdl_value.specs.declared.value.Value.TheVariants as kind
use Rattle.wdl_value.specs.Fits.{Structs}
use Rattle.wdl_typed.specs.declared.flow.Statement.TheVariants as stmt
use Rattle.wdl_typed.specs.declared.flow.TCall.{TCall}
use Rattle.wdl_typed.specs.declared.flow.Target.{Target}
use Rattle.wdl_typed.specs.declared.flow.Target.TheVariants as target
use Rattle.wdl_typed.specs.declared.task.TDecl.{TDecl}
use Rattle.wdl_typed.specs.declared.task.TaskDef.{TaskDef}
use Rattle.wdl_typed.specs.Bodies.{Library, signature, task_signature}
use Rattle.wdl_typed.specs.Flow.{Known, bound_output, output_keys, signature_keys}
use Rattle.wdl_typed.specs.Requests.{Asked, Tried, bad_status, bind, is_success, named, output_met, outputs_met, tells, tried}
use Rattle.value_net.specs.Nets.{joined, value_at, view_of, with_value}
use Rattle.net_laws.specs.Growing as net
use Rattle.net_laws.specs.Growing.{does, mark_cell, slot_cell}
use Rattle.net_laws.specs.Net.{Cells, Given, Scope, known_in}
use Rattle.net_laws.specs.Planned.{call_names}
use Rattle.plan_layout.specs.declared.layout.StatementLayout.{StatementLayout}
use Rattle.plan_layout.specs.Laid.{Stand}
use Rattle.plan_growth.specs.Begun.{IsFree, base_at, given_by}
use Rattle.plan_growth.specs.Blocks.{with_ended, with_outs}
use Rattle.plan_growth.specs.Entering.{Sown}
use Rattle.plan_growth.specs.Growth.{sheet_of}
use Rattle.plan_growth.specs.Meaning.{Fits, rule_cells}
use Rattle.plan_moves.specs.Telling.{HasOutputs}
use Rattle.plan_growth.proofs.FlowCalls.{output_keys_count}
use Rattle.plan_growth.proofs.Lists.{get_set, get_unset}
use Rattle.plan_growth.proofs.Outer.{all_left, all_right, names_at}
use Rattle.plan_growth.proofs.Runs.{run_slots, slots_run}

-- ---- the values of outputs

abbrev pub outs_values : ℕ → List Bind → List (Option Value) → List (Option Value)
outs_values first [] vs = vs
outs_values first (b ∷ bs) vs = slice_set (outs_values (first + 1) bs vs) first (Some b.value)

outs_net : (first : ℕ) (outs : List Bind) (v : Sown) → with_outs first outs v ≡ view_of (outs_values first outs v.values) v.rules v.steps
outs_net first [] v = refl
outs_net first (b ∷ bs) v = ap (λ (u : Sown). with_value u first b.value) (outs_net (first + 1) bs v)

pub outs_length : (first : ℕ) (outs : List Bind) (vs : List (Option Value)) → length (outs_values first outs vs) ≡ length vs
outs_length first [] vs = refl
outs_length first (b ∷ bs) vs = length-set (outs_values (first + 1) bs vs) first (Some b.value) ∙ outs_length (first + 1) bs vs

pub outs_other : (first : ℕ) (outs : List Bind) (vs : List (Option Value)) (c : ℕ) → ((j : ℕ) → j < length outs → c ≡ first + j → ⊥) → slice_get (outs_values first outs vs) c ≡ slice_get vs c
outs_other first [] vs c away = refl
outs_other first (b ∷ bs) vs c away =
    get_unset (outs_values (first + 1) bs vs) first c (Some b.value) (λ e. away 0 (omega arith) (omega (arith, e)))
    ∙ outs_other (first + 1) bs vs c (λ j lt e. away (suc j) (omega (arith, lt)) (omega (arith, e)))

pub outs_get : (first : ℕ) (outs : List Bind) (vs : List (Option Value)) → ((j : ℕ) → j < length outs → first + j < length vs) → (j : ℕ) (b : Bind) → slice_get outs j ≡ Some b
    → slice_get (outs_values first outs vs) (first + j) ≡ Some (Some b.value)
outs_get first [] vs inside j b is = absurd (let z : ⊥ = cc in z)
outs_get first (x ∷ xs) vs inside zero b is =
    let same : x ≡ b = cc in
    let at : first + 0 ≡ first = omega arith in
    let size = outs_length (first + 1) xs vs in
    let low = inside 0 (omega arith) in
    ap (slice_get (outs_values first (x ∷ xs) vs)) at ∙ get_set (outs_values (first + 1) xs vs) first (Some x.value) (omega (arith, size, low)) ∙ ap (λ (y : Bind). Some (Some y.value)) same
outs_get first (x ∷ xs) vs inside (suc j) b is =
    let at : first + suc j ≡ first + 1 + j = omega arith in
    get_unset (outs_values (first + 1) xs vs) first (first + suc j) (Some x.value) (λ e. omega (arith, e)) ∙ ap (slice_get (outs_values (first + 1) xs vs)) at
    ∙ outs_get (first + 1) xs vs (λ i lt. let h = inside (suc i) (omega (arith, lt)) in omega (arith, h)) j b is

-- ---- outputs have the names of the task

abbrev pub AreNamed : List TDecl → List Bind → Type 0
AreNamed [] [] = Unit {0}
AreNamed [] (b ∷ bs) = ⊥
AreNamed (d ∷ ds) [] = ⊥
AreNamed (d ∷ ds) (b ∷ bs) = (b.key.first ≡ d.name) × AreNamed ds bs

pub named_count : (ds : List TDecl) (bs : List Bind) → AreNamed ds bs → length bs ≡ length ds
named_count [] [] h = refl
named_count [] (b ∷ bs) h = absurd h
named_count (d ∷ ds) [] h = absurd h
named_count (d ∷ ds) (b ∷ bs) h = let rest = named_count ds bs h.1 in omega (arith, rest)

tried_ok : {A B : Type 0} → (r : Tried A) (f : A → Tried B) (b : B) → tried r f ≡ Ok b → (a : A) × (r ≡ Ok a) × (f a ≡ Ok b)
tried_ok (Ok a) f b h = (a, refl, h)
tried_ok (Err e) f b h = absurd (let z : ⊥ = cc in z)

pub met_named : (structs : Structs) (dir : List ℕ) (answer : Answer) (env : List Bind) (ds : List TDecl) (outs : List Bind) → outputs_met structs dir answer env ds ≡ Ok outs → AreNamed ds outs
met_named structs dir answer env [] [] h = tt
met_named structs dir answer env [] (b ∷ bs) h = absurd (let z : ⊥ = cc in z)
met_named structs dir answer env (d ∷ ds) outs h =
    let p = tried_ok (named d.name (output_met structs dir answer env d)) (λ x. tried (outputs_met structs dir answer (env ++ bind d.name x ∷ []) ds) (λ more. Ok (bind d.name x ∷ more))) outs h in
    let q = tried_ok (outputs_met structs dir answer (env ++ bind d.name p.0 ∷ []) ds) (λ more. Ok (bind d.name p.0 ∷ more)) outs p.2 in
    let rest = met_named structs dir answer (env ++ bind d.name p.0 ∷ []) ds q.0 q.1 in
    let same : bind d.name p.0 ∷ q.0 ≡ outs = (let e = q.2 in cc) in
    subst (AreNamed (d ∷ ds)) same (refl, rest)

pub tells_named : (structs : Structs) (task : TaskDef) (a : Asked) (dir : List ℕ) (answer : Answer) (outs : List Bind) → tells structs task a dir answer ≡ Ok outs → AreNamed task.outputs outs
tells_named structs task a dir answer outs h = by_test (is_success a.codes answer.status) h
  where
    by_test : (b : Bool) → (if b then outputs_met structs dir answer a.env task.outputs else Err (bad_status answer.status)) ≡ Ok outs → AreNamed task.outputs outs
    by_test true e = met_named structs dir answer a.env task.outputs outs e
    by_test false e = absurd (let z : ⊥ = cc in z)

-- Their cells show them.
told_names : (cells : Cells) (call : List ℕ) (ds : List TDecl) (outs : List Bind) (c : ℕ) → AreNamed ds outs → ((j : ℕ) (b : Bind) → slice_get outs j ≡ Some b → cells (c + j) ≡ Some b.value)
    → map (bound_output call) outs ≡ map (known_in cells) (run_slots c (output_keys call ds))
told_names cells call [] [] c h at = refl
told_names cells call [] (b ∷ bs) c h at = absurd h
told_names cells call (d ∷ ds) [] c h at = absurd h
told_names cells call (d ∷ ds) (b ∷ bs) c h at =
    let first : cells c ≡ Some b.value = ap cells (omega arith) ∙ at 0 b refl in
    let rest = told_names cells call ds bs (c + 1) h.1 (λ j x is. ap cells (omega arith) ∙ at (suc j) x is) in
    ap (λ (ks : List Known). bound_output call b ∷ ks) rest
    ∙ ap (λ (n : List ℕ). record { key = record { first = call; second = Some n }; value = Some b.value } ∷ map (known_in cells) (run_slots (c + 1) (output_keys call ds))) h.0
    ∙ ap (λ (o : Option Value). record { key = record { first = call; second = Some d.name }; value = o } ∷ map (known_in cells) (run_slots (c + 1) (output_keys call ds))) (sym first)

-- ---- what the cells hold then

module _ (lib : Library) (v : Sown) (rules : List net.Rule) (owners : List ℕ) (t : ℕ) (bases : List ℕ) (s : Scope) (a : Stand) (l : StatementLayout) (x : TCall)
    (first_is : l.first_name ≡ a.next_name) (done_is : l.done ≡ a.next_call) (fits : Fits (call_names lib x) a)
    (free : All (IsFree (sheet_of v rules) owners t) (rule_cells (does (stmt.Call x) s (given_by bases a (call_names lib x)) (base_at bases a + l.done))))
    (number : ℕ) (is_task : x.target ≡ target.Task number) (task : TaskDef) (task_there : slice_get lib.tasks number ≡ Some task) (outs : List Bind) (are_named : AreNamed task.outputs outs) where
  abbrev given : Given
  given = given_by bases a (call_names lib x)

  abbrev base : ℕ
  base = base_at bases a

  abbrev Free : ℕ → Type 0
  Free = IsFree (sheet_of v rules) owners t

  -- the values then
  abbrev pub values_now : List (Option Value)
  values_now = slice_set (outs_values (base + l.first_name) outs v.values) (base + l.done) (Some kind.Absent)

  pub net_now : with_ended (base + l.first_name) (base + l.done) outs v ≡ view_of values_now v.rules v.steps
  net_now = ap (λ (u : Sown). with_value u (base + l.done) kind.Absent) (outs_net (base + l.first_name) outs v)

  pub as_long : length values_now ≡ length v.values
  as_long = length-set (outs_values (base + l.first_name) outs v.values) (base + l.done) (Some kind.Absent) ∙ outs_length (base + l.first_name) outs v.values

  keys_are : (call_names lib x).keys ≡ output_keys x.name task.outputs
  keys_are =
      ap (λ (g : Target). signature_keys x.name (signature lib g)) is_task ∙ ap (λ (o : Option TaskDef). signature_keys x.name (option_and_then (λ (u : TaskDef). Some (task_signature u)) o)) task_there

  count_is : length (call_names lib x).keys ≡ length outs
  count_is = ap length keys_are ∙ output_keys_count x.name task.outputs ∙ sym (named_count task.outputs outs are_named)

  own_names : (j : ℕ) → j < length outs → Free (base + (a.next_name + j))
  own_names j lt =
      names_at Free bases (length a.path) a.next_name (call_names lib x).keys (all_left Free (map slot_cell given.names) (map mark_cell given.calls ++ (base + l.done) ∷ []) free) j (let e = count_is in omega (arith, lt, e))

  own_done : Free (base + l.done)
  own_done = all_right Free (map mark_cell given.calls) ((base + l.done) ∷ []) (all_right Free (map slot_cell given.names) (map mark_cell given.calls ++ (base + l.done) ∷ []) free) 0 0 (omega arith)

  own_name : (j : ℕ) → j < length outs → Free (base + l.first_name + j)
  own_name j lt = let same : base + (a.next_name + j) ≡ base + l.first_name + j = (let e = first_is in omega (arith, e)) in subst Free same (own_names j lt)

  name_inside : (j : ℕ) → j < length outs → base + l.first_name + j < length v.values
  name_inside j lt = slice_get_within v.values (base + l.first_name + j) None (own_name j lt).1

  done_inside : base + l.done < length (outs_values (base + l.first_name) outs v.values)
  done_inside = let e = outs_length (base + l.first_name) outs v.values in let i = slice_get_within v.values (base + l.done) None own_done.1 in omega (arith, e, i)

  -- A cell that is none of the call's is as it was.
  pub others : (c : ℕ) → (Free c → ⊥) → slice_get values_now c ≡ slice_get v.values c
  others c n =
      get_unset (outs_values (base + l.first_name) outs v.values) (base + l.done) c (Some kind.Absent) (λ e. n (subst Free (sym e) own_done))
      ∙ outs_other (base + l.first_name) outs v.values c (λ j lt e. n (subst Free (sym e) (own_name j lt)))

  pub other_owner : (c u : ℕ) → slice_get owners c ≡ Some u → (u ≡ t → ⊥) → slice_get values_now c ≡ slice_get v.values c
  other_owner c u owned n = others c (λ h. n (let same : u ≡ t = (let e = h.0 in cc) in same))

  -- A cell that is set keeps its value.
  pub values_keep : (c : ℕ) (y : Value) → slice_get v.values c ≡ Some (Some y) → slice_get values_now c ≡ Some (Some y)
  values_keep c y is = others c (λ h. let e = h.1 in let z : ⊥ = cc in z) ∙ is

  value_keeps : (c : ℕ) (y : Value) → value_at v.values c ≡ Some y → value_at values_now c ≡ Some y
  value_keeps c y is = by_cell (slice_get v.values c) refl is
    where
      by_cell : (o : Option (Option Value)) → slice_get v.values c ≡ o → joined o ≡ Some y → value_at values_now c ≡ Some y
      by_cell None e h = absurd (let z : ⊥ = cc in z)
      by_cell (Some None) e h = absurd (let z : ⊥ = cc in z)
      by_cell (Some (Some w)) e h = ap joined (values_keep c w e) ∙ h

  -- ---- what the call gives out

  name_now : (j : ℕ) (b : Bind) → slice_get outs j ≡ Some b → value_at values_now (base + a.next_name + j) ≡ Some b.value
  name_now j b is =
      let lt = slice_get_within outs j b is in
      let e = first_is in
      let f = done_is in
      let g = count_is in
      let h = fits.0 in
      let same : base + a.next_name + j ≡ base + l.first_name + j = omega (arith, e) in
      ap (value_at values_now) same
      ∙ ap joined (get_unset (outs_values (base + l.first_name) outs v.values) (base + l.done) (base + l.first_name + j) (Some kind.Absent) (λ z. omega (arith, e, f, g, h, lt, z)))
      ∙ ap joined (outs_get (base + l.first_name) outs v.values name_inside j b is)

  done_now : value_at values_now (base + l.done) ≡ Some kind.Absent
  done_now = ap joined (get_set (outs_values (base + l.first_name) outs v.values) (base + l.done) (Some kind.Absent) done_inside)

  pub has_outputs : HasOutputs (view_of values_now rules v.steps) x given outs
  has_outputs =
      record {
        names =
            told_names (value_at values_now) x.name task.outputs outs (base + a.next_name) are_named name_now
            ∙ ap (λ (ks : List Key). map (known_in (value_at values_now)) (run_slots (base + a.next_name) ks)) (sym keys_are)
            ∙ ap (map (known_in (value_at values_now))) (sym (slots_run bases (length a.path) a.next_name (base + a.next_name) (call_names lib x).keys refl));
        calls =
            let same : base + l.done ≡ base + a.next_call = ap (λ (m : ℕ). base + m) done_is in
            let set : value_at values_now (base + a.next_call) ≡ Some kind.Absent = ap (value_at values_now) (sym same) ∙ done_now in
            ap (λ (o : Option Value). record { call = x.name; ended = is_some o } ∷ []) (sym set);
      }
