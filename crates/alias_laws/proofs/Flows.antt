-- The flows of workflows that main reaches, and of those without aliases that stand in their places, at each depth.
use Rattle.std.proofs.Common.{◌≡◌, ℕ, zero, suc, ◌+◌, ◌≤◌, Bool, true, false, not, ◌&&◌, List, [], ◌∷◌, ◌++◌, append-nil, Option, Some, option_and_then, slice_get, arith, sym, ap, ◌∙◌, subst, refl}
use Rattle.std.specs.List.{list_all}
use Rattle.std.proofs.lemmas.Bool.{and_from, and_parts, false≢true, false_from_ne_true, not-true, not_from_false}
use Rattle.std.proofs.lemmas.Option.{same_Some}
use Rattle.wdl_base.specs.declared.name.Key.{Key}
use Rattle.wdl_base.specs.declared.place.Segment.{Segment}
use Rattle.wdl_value.specs.declared.env.Bind.{Bind}
use Rattle.wdl_value.specs.Tables.{Row}
use Rattle.wdl_typed.specs.declared.flow.FlowDef.{FlowDef}
use Rattle.wdl_typed.specs.declared.flow.TCall.{TCall}
use Rattle.wdl_typed.specs.declared.flow.Target.{Target}
use Rattle.wdl_typed.specs.declared.flow.Target.TheVariants as target
use Rattle.wdl_typed.specs.declared.task.TDecl.{TDecl}
use Rattle.wdl_typed.specs.Bodies.{Library, Signature, all_declared, body_nests, flow_signature, signature}
use Rattle.wdl_typed.specs.Declarations.{decl_names, input_names, inputs_bound, plain_key}
use Rattle.wdl_typed.specs.Flow.{Callee, Ended, Flowing, Known, Names, Run, beginning, called, flow, flow_at, flow_called, flow_ended, flow_run, inputs, nothing, outputs, seeing, signature_keys, statements, together, value_in}
use Rattle.wdl_typed.specs.Kept.{flow_names, flow_typed, inputs_seen}
use Rattle.wdl_typed.specs.Lists.{has_name}
use Rattle.wdl_task.specs.Readiness.{are_given}
use Rattle.flow_laws.specs.Laws.{run_with}
use Rattle.wdl_swaps.specs.declared.swap.Swap.{Swap}
use Rattle.wdl_swaps.specs.Strays.{flow_strays}
use Rattle.cwl_image.specs.Subset.{declared_by}
use Rattle.leaf_image.specs.Inside.{Each, calls_in, exprs_in}
use Rattle.leaf_image.specs.Leaves.{items_of}
use Rattle.leaf_image.specs.Reached.{is_marked, reached}
use Rattle.leaf_image.specs.Replaced.{with_flows}
use Rattle.leaf_image.proofs.Eaches.{each_by, each_with}
use Rattle.flow_soundness.specs.Readiness.{IsLibrary}
use Rattle.flow_soundness.proofs.FlowSound.{Typed, all_taken, body_is_new, callees_sound, inputs_sound, is_typed, seen_sound}
use Rattle.flow_soundness.proofs.NewNames.{fresh_apart, name_left, name_right}
use Rattle.record_laws.proofs.CallLaws.{keys_same, outputs_same as calls_same}
use Rattle.record_laws.proofs.Fine.{all_ok}
use Rattle.record_laws.proofs.FlowFacts.{None_of, all_apart}
use Rattle.record_laws.proofs.Marks.{Reaches, callees_marked, marked_reached, round}
use Rattle.record_laws.proofs.Nested.{Nests, calls_nest}
use Rattle.record_laws.proofs.Scopes.{Fine, IsCalled, IsTyped, all_fine}
use Rattle.cwl_records.specs.Aliases.{Step, scene_of, swapped_call, unaliased, walk_flow}
use Rattle.alias_laws.specs.Laws.{FilesKeepLimits}
use Rattle.cwl_records.specs.Lowered.{unaliased_if, unaliased_where}
use Rattle.alias_laws.proofs.Bodies.{Asked, BodyRan, all_runs}
use Rattle.alias_laws.proofs.Calls.{CallHolds, CleanCall}
use Rattle.alias_laws.proofs.FileLimits.{small_keep}
use Rattle.alias_laws.proofs.Hiding.{hidden_by}
use Rattle.alias_laws.proofs.Naming.{all_among_declared}
use Rattle.alias_laws.proofs.Names.{called_clean, each_name, inputs_ok, name_passes, ok, ok_both, typed_clean}
use Rattle.alias_laws.proofs.Outputs.{outputs_same}
use Rattle.alias_laws.proofs.SameSteps.{SameStep, same_ended, same_step, same_together, told}
use Rattle.alias_laws.proofs.Sights.{Clean, Sees}
use Rattle.alias_laws.proofs.Small.{found_small, inputs_small}
use Rattle.alias_laws.proofs.WalkLaws.{walk_left}
use Rattle.alias_laws.proofs.Within.{all_within}
use Rattle.wdl_base.proofs.Options.{all_at, then_parts}

-- a workflow that is reached stands without its aliases
at_mark : (lib : Library) (fs : List FlowDef) (bs : List Bool) (k : ℕ) (f : FlowDef) → slice_get fs k ≡ Some f → is_marked bs k ≡ true → slice_get (unaliased_where lib fs bs) k ≡ Some (unaliased lib f)
at_mark lib [] bs k f e m = absurd (cc)
at_mark lib (g ∷ fs) [] k f e m = absurd (false≢true m)
at_mark lib (g ∷ fs) (b ∷ bs) zero f e m = by_mark b m
  where
    by_mark : (b : Bool) → b ≡ true → (let o : Option FlowDef = Some (unaliased_if b lib g) in o ≡ Some (unaliased lib f))
    by_mark true m = ap (λ (z : FlowDef). Some (unaliased lib z)) (same_Some _ _ e)
    by_mark false m = absurd (false≢true m)
at_mark lib (g ∷ fs) (b ∷ bs) (suc k) f e m = at_mark lib fs bs k f e m

-- The two have the same values for these outputs, and the same of all else but names and counts.
pub record SameFlow (ds : List TDecl) (f g : Flowing) : Type 0 where
  pub names : Each (λ (d : TDecl). value_in (plain_key d.name) f ≡ value_in (plain_key d.name) g) ds
  pub told : told f ≡ told g

module _ (lib : Library) (main : ℕ) (flows : List FlowDef) (are : flows ≡ unaliased_where lib lib.flows (reached lib.flows main)) (kept : IsLibrary lib) (again : list_all (flow_typed (with_flows lib flows)) flows ≡ true)
    (site : List ℕ) (table : List Row) (limits : FilesKeepLimits lib site table) where
  abbrev now_lib : Library
  now_lib = with_flows lib flows

  abbrev old : Run
  old = run_with lib site table

  abbrev new : Run
  new = run_with now_lib site table

  -- a workflow that main reaches by so many calls, and which nests no deeper than calls may
  pub record Standing (k : ℕ) (f : FlowDef) : Type 0 where
    pub there : slice_get lib.flows k ≡ Some f
    pub round_ : ℕ
    pub levels : ℕ
    pub below : round_ + levels ≤ 24
    pub marked : is_marked (round lib.flows main round_) k ≡ true
    pub nests : body_nests lib.flows levels f.body ≡ true

  pub now_is : (k : ℕ) (f : FlowDef) → Standing k f → slice_get flows k ≡ Some (unaliased lib f)
  now_is k f s =
      ap (λ (fs : List FlowDef). slice_get fs k) are ∙ at_mark lib lib.flows (reached lib.flows main) k f s.there (marked_reached lib.flows main s.round_ k (omega (arith, s.below)) s.marked)

  abbrev pub FlowsAgree : Callee → Callee → Type 0
  FlowsAgree callee other =
      (k : ℕ) (f : FlowDef) → Standing k f → (given : List Bind) → are_given lib.structs f.inputs given ≡ true → all_within given → (place : List Segment) → SameFlow f.outputs (callee k given place) (other k given place)

  -- ---- one workflow

  module _ (depth : ℕ) (other : Callee) (same_callees : FlowsAgree (flow old depth) other) (k : ℕ) (f : FlowDef) (stands : Standing k f) (given : List Bind) (fit : are_given lib.structs f.inputs given ≡ true) (small : all_within given)
      (place : List Segment) where
    abbrev callee : Callee
    callee = flow old depth

    abbrev walked : Step
    walked = walk_flow lib f

    abbrev now : FlowDef
    now = unaliased lib f

    -- the declarations that are gone
    abbrev bad : List ℕ → Bool
    bad n = has_name n (declared_by f.body) && not (has_name n (all_declared walked.kept))

    abbrev hidden : Key → Bool
    hidden = hidden_by bad

    typed_old : Typed lib f
    typed_old = is_typed lib f (all_at (flow_typed lib) lib.flows k f kept.flows stands.there)

    typed_now : Typed now_lib now
    typed_now = is_typed now_lib now (all_at (flow_typed now_lib) flows k now again (now_is k f stands))

    -- ---- names that are not gone

    not_declared : (n : List ℕ) → has_name n (declared_by f.body) ≡ false → bad n ≡ false
    not_declared n h = ap (λ b. b && not (has_name n (all_declared walked.kept))) h

    good : (n : List ℕ) → (has_name n (all_declared f.body) ≡ true → ⊥) → not (bad n) ≡ true
    good n h = not_from_false (bad n) (not_declared n (false_from_ne_true (has_name n (declared_by f.body)) (λ d. h (all_among_declared f.body n d))))

    good_inputs : None_of bad (input_names f.inputs)
    good_inputs = each_name (λ (n : List ℕ). not (bad n)) (input_names f.inputs) (λ n h. good n (λ d. fresh_apart n (input_names f.inputs) (all_declared f.body) typed_old.body_new d h))

    good_outputs : None_of bad (decl_names f.outputs)
    good_outputs =
        each_name (λ (n : List ℕ). not (bad n)) (decl_names f.outputs)
        (λ n h. good n (λ d. fresh_apart n (input_names f.inputs ++ all_declared f.body) (decl_names f.outputs) typed_old.outputs_new h (name_right n (input_names f.inputs) (all_declared f.body) d)))

    good_declared : None_of bad (all_declared walked.kept)
    good_declared = each_name (λ (n : List ℕ). not (bad n)) (all_declared walked.kept) (λ n h. not_from_false (bad n) (left_there n (has_name n (declared_by f.body)) (has_name n (all_declared walked.kept)) h))
      where
        left_there : (n : List ℕ) (a b : Bool) → b ≡ true → (a && not b) ≡ false
        left_there n a false h = absurd (false≢true h)
        left_there n true true h = refl
        left_there n false true h = refl

    good_items : None_of bad (items_of walked.kept)
    good_items =
        each_name (λ (n : List ℕ). not (bad n)) (items_of walked.kept) (λ n h. good n (λ d.
        not_both (has_name n (flow_names f))
        (name_passes (λ (m : List ℕ). not (has_name m (flow_names f))) (items_of f.body) n (all_apart f.body (flow_names f) typed_old.items_new) ((walk_left (scene_of lib f) f.body (inputs_bound f.inputs) []).items n h))
        (name_left n (input_names f.inputs ++ all_declared f.body) (decl_names f.outputs) (name_right n (input_names f.inputs) (all_declared f.body) d))))
      where
        not_both : (b : Bool) → not b ≡ true → b ≡ true → ⊥
        not_both b h j = false≢true (sym (not-true b h) ∙ j)

    first_ok : all_ok (ok bad) (inputs_bound f.inputs)
    first_ok = inputs_ok bad f.inputs good_inputs

    -- ---- what stands in both bodies is typed

    fine_now : Fine now_lib (inputs_bound f.inputs) bad (exprs_in walked.kept) (calls_in walked.kept) typed_now.given
    fine_now =
        all_fine now_lib (inputs_bound f.inputs) bad walked.kept (inputs_seen now) typed_now.given ([], sym (append-nil (inputs_bound f.inputs)), refl) good_declared good_items typed_now.typed

    abbrev none_bad : List ℕ → Bool
    none_bad n = false

    fine_old : Fine lib (inputs_bound f.inputs) none_bad (exprs_in f.body) (calls_in f.body) typed_old.given
    fine_old =
        all_fine lib (inputs_bound f.inputs) none_bad f.body (inputs_seen f) typed_old.given ([], sym (append-nil (inputs_bound f.inputs)), refl)
        (each_name (λ (n : List ℕ). not (none_bad n)) (all_declared f.body) (λ n h. refl)) (each_name (λ (n : List ℕ). not (none_bad n)) (items_of f.body) (λ n h. refl)) typed_old.typed

    -- ---- calls

    abbrev Called : TCall → Type 0
    Called c = Reaches lib.flows main (suc stands.round_) c × Nests lib.flows stands.levels c

    abbrev OldCall : TCall → Type 0
    OldCall = IsCalled lib (inputs_bound f.inputs) none_bad

    abbrev Holds : TCall → Type 0
    Holds = CallHolds hidden old new callee other

    callee_stands : (c : TCall) → Called c → (j : ℕ) (g : FlowDef) → c.target ≡ target.Flow j → slice_get lib.flows j ≡ Some g → Standing j g
    callee_stands c reach j g e i =
        let n = reach.1 j g e i in
        record { there = i; round_ = suc stands.round_; levels = n.0; below = omega (arith, n.1, stands.below); marked = reach.0 j g e i; nests = n.2 }

    -- what holds of a call, by its target
    record AtTarget (c : TCall) (t : Target) : Type 0 where
      pub keys : signature_keys c.name (signature lib t) ≡ signature_keys c.name (signature now_lib t)
      pub runs : (ss : List Swap) (n : Names) (at : List Segment) (args : List Bind) → all_within args → ((s : Signature) → signature lib t ≡ Some s → are_given lib.structs s.inputs args ≡ true)
          → SameStep hidden (called old callee n at c args t) (called new other n at (swapped_call ss c) args t)

    at_flow : (c : TCall) (j : ℕ) (g : FlowDef) → Standing j g → AtTarget c (target.Flow j)
    at_flow c j g one =
        let then_ : FlowDef = unaliased lib g in
        let there_now = now_is j g one in
        let swaps : List Swap = (walk_flow lib g).added in
        let made : Option FlowDef → Option Signature = option_and_then (λ (z : FlowDef). Some (flow_signature z)) in
        record {
          keys = ap (λ (o : Option FlowDef). signature_keys c.name (made o)) one.there ∙ keys_same c.name swaps g.outputs ∙ sym (ap (λ (o : Option FlowDef). signature_keys c.name (made o)) there_now);
          runs = λ ss n at args within given_all.
              let a : Flowing = callee j args at in
              let b : Flowing = other j args at in
              let same = same_callees j g one args (given_all (flow_signature g) (ap made one.there)) within at in
              subst (λ (o : Option FlowDef). SameStep hidden (flow_called callee n at c.name args j o) (flow_called other n at c.name args j (slice_get flows j))) (sym one.there)
              (subst (λ (o : Option FlowDef). SameStep hidden (flow_ended c.name g.outputs a) (flow_called other n at c.name args j o)) (sym there_now)
              (same_ended hidden c.name g.outputs then_.outputs a b (calls_same c.name swaps a b g.outputs same.names) same.told));
        }

    at_target : (c : TCall) (t : Target) (s : Signature) → signature lib t ≡ Some s → ((j : ℕ) (g : FlowDef) → t ≡ target.Flow j → slice_get lib.flows j ≡ Some g → Standing j g) → AtTarget c t
    at_target c (target.Task j) s e reach = record {
      keys = refl;
      runs = λ ss n at args within given_all. same_step hidden (called old callee n at c args (target.Task j)) (called new other n at (swapped_call ss c) args (target.Task j)) refl;
    }
    at_target c (target.Flow j) s e reach =
        let p = then_parts (λ (z : FlowDef). Some (flow_signature z)) (slice_get lib.flows j) s e in
        at_flow c j p.0 (reach j p.0 refl p.1)

    call_holds : (c : TCall) → OldCall c → Called c → Holds c
    call_holds c a reach =
        let t = at_target c c.target a.target a.is (callee_stands c reach) in
        record { keys = t.keys; runs = t.runs }

    calls_hold : Each Holds (calls_in f.body)
    calls_hold =
        each_with OldCall Called Holds call_holds (calls_in f.body) fine_old.calls
        (each_with (Reaches lib.flows main (suc stands.round_)) (Nests lib.flows stands.levels) Called (λ c p q. (p, q)) (calls_in f.body)
        (callees_marked lib.flows main stands.round_ k f stands.there stands.marked) (calls_nest lib.flows stands.levels f.body stands.nests))

    -- ---- inputs, the body and outputs

    abbrev taken_in : Flowing
    taken_in = inputs given f.inputs (beginning place)

    begin_sees : Sees hidden (declared_by f.body) (inputs_bound f.inputs) [] taken_in.names taken_in.names
    begin_sees = record {
      others = λ key shown. refl;
      swaps = tt;
      small = λ key x lone none h. found_small taken_in.names (inputs_small given small f.inputs (beginning place)) key x h;
      files = small_keep taken_in.names (inputs_small given small f.inputs (beginning place));
    }

    asked : Asked lib flows site table kept limits depth other (declared_by f.body) (flow_strays f) bad not_declared (calls_in f.body) (declared_by f.body) walked.kept
    asked = record {
      calls = calls_hold;
      exprs = each_by (IsTyped now_lib (inputs_bound f.inputs) bad) (Clean hidden) (typed_clean bad now_lib (inputs_bound f.inputs) first_ok) (exprs_in walked.kept) fine_now.exprs;
      args = each_by (IsCalled now_lib (inputs_bound f.inputs) bad) (CleanCall hidden) (called_clean bad now_lib (inputs_bound f.inputs) first_ok) (calls_in walked.kept) fine_now.calls;
      gone = λ n h out. and_from (has_name n (declared_by f.body)) (not (has_name n (all_declared walked.kept))) h (not_from_false (has_name n (all_declared walked.kept)) out);
    }

    abbrev made : Flowing
    made = statements old callee f.body (seeing (beginning place) taken_in)

    abbrev made_now : Flowing
    made_now = statements new other now.body (seeing (beginning place) taken_in)

    body_ran : BodyRan lib flows site table kept limits depth other (declared_by f.body) (flow_strays f) bad not_declared (inputs_bound f.inputs ++ typed_old.given.names) walked.added taken_in.names taken_in.names made made_now
    body_ran =
        let r =
        all_runs lib flows site table kept limits depth other (declared_by f.body) (flow_strays f) bad not_declared f.body (inputs_seen f) typed_old.given (inputs_bound f.inputs) [] (flow_names f) (input_names f.inputs) refl typed_old.typed
        (body_is_new lib f typed_old) asked (λ n h. h) taken_in.names taken_in.names taken_in.calls place (inputs_sound lib f typed_old old refl callee kept (callees_sound old kept depth) given fit place) begin_sees in
        record { same = record { names = r.same.names; calls = r.same.calls; told = r.same.told }; sees = r.sees }

    abbrev outputs_at : FlowDef → List Known → List Ended → Flowing
    outputs_at g names calls = outputs g.outputs (record { names = names; calls = calls; place = place })

    told_same : SameStep hidden (outputs_at f (taken_in.names ++ made.names) (taken_in.calls ++ made.calls)) (outputs_at now (taken_in.names ++ made_now.names) (taken_in.calls ++ made_now.calls))
    told_same =
        subst (λ (cs : List Ended). SameStep hidden (outputs_at f (taken_in.names ++ made.names) (taken_in.calls ++ made.calls)) (outputs_at now (taken_in.names ++ made_now.names) (taken_in.calls ++ cs))) body_ran.same.calls
        (outputs_same lib.structs bad (declared_by f.body) walked.added f.outputs (inputs_bound f.inputs ++ typed_old.given.names) (inputs_bound f.inputs ++ typed_now.given.names) (input_names f.inputs ++ all_declared f.body) typed_old.outputs_are typed_now.outputs_are
        (ok_both bad (inputs_bound f.inputs) typed_now.given.names first_ok fine_now.names) good_outputs (all_taken lib f typed_old) typed_old.outputs_new (taken_in.names ++ made.names) (taken_in.names ++ made_now.names) (taken_in.calls ++ made.calls) place
        (seen_sound lib f typed_old old refl callee kept (callees_sound old kept depth) given fit place) body_ran.sees)

    all_same : SameStep hidden (flow_run old callee f given (beginning place)) (flow_run new other now given (beginning place))
    all_same =
        let a : Flowing = outputs_at f (taken_in.names ++ made.names) (taken_in.calls ++ made.calls) in
        let b : Flowing = outputs_at now (taken_in.names ++ made_now.names) (taken_in.calls ++ made_now.calls) in
        same_together hidden taken_in (together made (together a nothing)) taken_in (together made_now (together b nothing)) (same_step hidden taken_in taken_in refl)
        (same_together hidden made (together a nothing) made_now (together b nothing) body_ran.same (same_together hidden a nothing b nothing told_same (same_step hidden nothing nothing refl)))

    names_found : (ds : List TDecl) → None_of bad (decl_names ds)
        → Each (λ (d : TDecl). value_in (plain_key d.name) (flow_run old callee f given (beginning place)) ≡ value_in (plain_key d.name) (flow_run new other now given (beginning place))) ds
    names_found [] h = tt
    names_found (d ∷ ds) h =
        let p = and_parts (not (bad d.name)) (list_all (λ (n : List ℕ). not (bad n)) (decl_names ds)) h in
        (all_same.names (plain_key d.name) (not-true (bad d.name) p.0), names_found ds p.1)

    pub one_flow : SameFlow f.outputs (flow_run old callee f given (beginning place)) (flow_run new other now given (beginning place))
    one_flow = record { names = names_found f.outputs good_outputs; told = all_same.told }

  -- ---- all depths

  same_itself : (ds : List TDecl) (f : Flowing) → SameFlow ds f f
  same_itself ds f = record { names = go ds; told = refl }
    where
      go : (ds : List TDecl) → Each (λ (d : TDecl). value_in (plain_key d.name) f ≡ value_in (plain_key d.name) f) ds
      go [] = tt
      go (d ∷ ds) = (refl, go ds)

  pub all_depths : (depth : ℕ) → FlowsAgree (flow old depth) (flow new depth)
  all_depths zero k f stands given fit small place = same_itself f.outputs nothing
  all_depths (suc depth) k f stands given fit small place =
      subst (λ (o : Option FlowDef). SameFlow f.outputs (flow_at old (flow old depth) o given place) (flow_at new (flow new depth) (slice_get flows k) given place)) (sym stands.there)
      (subst (λ (o : Option FlowDef). SameFlow f.outputs (flow_run old (flow old depth) f given (beginning place)) (flow_at new (flow new depth) o given place)) (sym (now_is k f stands))
      (one_flow depth (flow new depth) (all_depths depth) k f stands given fit small place))
