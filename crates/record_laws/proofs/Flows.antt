-- The flows of workflows that main reaches, and those of what stands in their places, at each depth.
use Rattle.std.proofs.Common.{◌≡◌, ℕ, zero, suc, ◌+◌, ◌≤◌, Bool, true, cond, not, ◌&&◌, List, [], ◌∷◌, ◌++◌, append-nil, map, Option, Some, None, option_and_then, Ok, Err, slice_get, arith, sym, ap, ◌∙◌, subst, refl}
use Rattle.std.specs.List.{list_all}
use Rattle.std.proofs.lemmas.Bool.{false≢true, and_from, and_parts, not-true}
use Rattle.std.proofs.lemmas.List.Folds.{list_all-append}
use Rattle.std.proofs.lemmas.Option.{same_Some}
use Rattle.wdl_base.specs.declared.name.Key.{Key}
use Rattle.wdl_base.specs.declared.place.Segment.{Segment}
use Rattle.wdl_value.specs.declared.env.Bind.{Bind}
use Rattle.wdl_value.specs.declared.ty.Ty.{Ty}
use Rattle.wdl_value.specs.declared.value.Value.{Value}
use Rattle.wdl_value.specs.Tables.{Row}
use Rattle.wdl_typed.specs.declared.expr.TExpr.{TExpr}
use Rattle.wdl_typed.specs.declared.expr.TField.{TField}
use Rattle.wdl_typed.specs.declared.flow.FlowDef.{FlowDef}
use Rattle.wdl_typed.specs.declared.flow.TCall.{TCall}
use Rattle.wdl_typed.specs.declared.flow.Target.{Target}
use Rattle.wdl_typed.specs.declared.flow.Target.TheVariants as target
use Rattle.wdl_typed.specs.declared.scope.Bound.{Bound}
use Rattle.wdl_typed.specs.declared.task.TDecl.{TDecl}
use Rattle.wdl_typed.specs.declared.task.TInput.{TInput}
use Rattle.wdl_typed.specs.Bodies.{Library, Signature, all_given, arg_names, args_typed, body_nests, flow_signature, input_type, signature}
use Rattle.wdl_typed.specs.Declarations.{bound, decl_names, decls_typed, in_body, inputs_bound, plain_key}
use Rattle.wdl_typed.specs.Flow.{Callee, Ended, Flowing, Known, Names, Run, Runner, Sight, args_known, args_met, beginning, call_place, called, declaration, env_of, failing_at, flow, flow_at, flow_called, flow_run, has_ended, in_turn, inputs, missing, nothing, outputs, seeing, signature_keys, statements, task_called, together, value_in, with_args, with_fault}
use Rattle.wdl_typed.specs.Kept.{flow_typed, inputs_seen}
use Rattle.wdl_typed.specs.KnownTypes.{is_written}
use Rattle.wdl_typed.specs.Lists.{has_name}
use Rattle.wdl_typed.specs.Requests.{Tried}
use Rattle.wdl_typed.specs.Scope.{lookup, type_in}
use Rattle.wdl_typed.specs.Typing.{is_type}
use Rattle.flow_laws.specs.Laws.{run_with}
use Rattle.wdl_swaps.specs.Agreement.{is_fine}
use Rattle.wdl_swaps.specs.Swaps.{swapped, swapped_decl}
use Rattle.leaf_image.specs.declared.leaf.Leaf.{Leaf}
use Rattle.leaf_image.specs.Agreement.{CallAgrees, RunsAgree, sight}
use Rattle.leaf_image.specs.Inside.{Each, calls_in, exprs_in}
use Rattle.leaf_image.specs.Reached.{is_marked}
use Rattle.leaf_image.specs.Records.{Callee as LeafCallee, Setting, all_args, all_inputs, callee_of, expanded, expanded_call, expanded_flow, inputs_at, is_own, is_record_of, leaves_at, own_of, setting_of, swaps_of}
use Rattle.leaf_image.specs.Replaced.{Replaced, with_flows}
use Rattle.leaf_image.proofs.Bodies.{bodies_agree}
use Rattle.leaf_image.proofs.Eaches.{each_by, each_mapped, each_passes, each_with}
use Rattle.leaf_image.proofs.InsideLaws.{calls_expanded, declared_expanded, exprs_expanded, items_expanded}
use Rattle.leaf_image.proofs.Runs.{AllAgree, declaration_agrees, turns_agree}
use Rattle.record_laws.proofs.Args.{ArgsMet, ArgsSame, all_agree}
use Rattle.record_laws.proofs.Bound.{some_typed}
use Rattle.record_laws.proofs.CallLaws.{SameFlow, alike_same, ended_same, keys_same, named_met, record_named, task_same}
use Rattle.record_laws.proofs.Fine.{all_ok, expr_fine, left}
use Rattle.record_laws.proofs.FlowFacts.{HasLeaves, IsFlow, None_of, gone_from, has_leaves, input_typed, is_flow, no_leaf_typed}
use Rattle.record_laws.proofs.Giving.{Alike, Fitting, GivenAgrees, given_agrees}
use Rattle.record_laws.proofs.InputRuns.{Same, all_run, all_there, inputs_known}
use Rattle.record_laws.proofs.LeafNames.{leaf_names}
use Rattle.record_laws.proofs.Lookups.{found_before}
use Rattle.record_laws.proofs.Marks.{Reaches, callees_marked, marked_reached, round}
use Rattle.record_laws.proofs.Nested.{Nests, calls_nest}
use Rattle.record_laws.proofs.Pairing.{AllThere, Both, Paired, agrees, paired_more, places, seen}
use Rattle.record_laws.proofs.Places.{MembersDiffer, OfRecord}
use Rattle.record_laws.proofs.Scopes.{Fine, IsCalled, IsTyped, all_fine}
use Rattle.record_laws.proofs.Tables.{At, IsReplaced, flow_at_mark}
use Rattle.wdl_base.proofs.Options.{all_at, then_parts}

module _ (lib : Library) (main : ℕ) (r : Replaced) (replaced : IsReplaced lib main r) (typed_all : list_all (flow_typed lib) lib.flows ≡ true)
    (again_all : list_all (flow_typed (with_flows lib r.flows)) r.flows ≡ true) (differ : MembersDiffer lib.structs) (site : List ℕ) (table : List Row) where
  abbrev now_lib : Library
  now_lib = with_flows lib r.flows

  abbrev old : Run
  old = run_with lib site table

  abbrev new : Run
  new = run_with now_lib site table

  -- a workflow that main reaches by so many calls, and which nests no deeper than calls may
  pub record Standing (k : ℕ) (f : FlowDef) : Type 0 where
    pub there : slice_get lib.flows k ≡ Some f
    pub round_ : ℕ
    pub levels : ℕ
    pub below : round_ + levels ≤ 24
    pub marked : is_marked (round lib.flows main round_) k ≡ true
    pub nests : body_nests lib.flows levels f.body ≡ true

  abbrev AtFlow : ℕ → FlowDef → Type 0
  AtFlow = At lib.structs lib.flows r.leaves r.leaves r.flows

  abbrev at_flow : (k : ℕ) (f : FlowDef) → Standing k f → AtFlow k f
  at_flow k f s = flow_at_mark lib main r replaced k f s.there (marked_reached lib.flows main s.round_ k (omega (arith, s.below)) s.marked)

  abbrev now_of : FlowDef → List Leaf → FlowDef
  now_of f ls = expanded_flow lib.flows r.leaves ls f

  -- each struct input is given
  abbrev pub Present : List TInput → List Bind → Type 0
  Present is given = (n : List ℕ) → is_record_of is n ≡ true → (x : Value) × (lookup given (plain_key n) ≡ Some x)

  abbrev pub FlowsAgree : Callee → Callee → Type 0
  FlowsAgree callee other = (k : ℕ) (f : FlowDef) → Standing k f → (a : AtFlow k f) (given now : List Bind) → Alike lib.structs f.inputs a.own given now → Present f.inputs given
      → (place : List Segment) → SameFlow f.outputs (callee k given place) (other k now place)

  -- ---- one workflow

  module _ (callee other : Callee) (same_callees : FlowsAgree callee other) (k : ℕ) (f : FlowDef) (stands : Standing k f) (ls : List Leaf) (flow_ok : IsFlow lib f) (has : HasLeaves lib.structs f ls)
      (flow_now : IsFlow now_lib (now_of f ls)) (first last : List Known) (paired : Paired f.inputs ls (env_of first) (env_of last)) (there : AllThere ls (env_of first) (env_of last))
      (record_known : (n : List ℕ) → is_record_of f.inputs n ≡ true → (x : Value) × (lookup (env_of first) (plain_key n) ≡ Some x) × Fitting lib.structs f.inputs ls n x) where
    abbrev is : List TInput
    is = f.inputs

    abbrev x : Setting
    x = setting_of lib.flows r.leaves ls f

    abbrev bad_before : List ℕ → Bool
    bad_before n = has_name n (leaf_names ls)

    abbrev bad_now : List ℕ → Bool
    bad_now = is_record_of is

    abbrev FineBefore : TExpr → Type 0
    FineBefore = IsTyped lib (inputs_bound is) bad_before

    abbrev FineNow : TExpr → Type 0
    FineNow = IsTyped now_lib (inputs_bound (all_inputs ls is)) bad_now

    fine_before : Fine lib (inputs_bound is) bad_before (exprs_in f.body) (calls_in f.body) flow_ok.given
    fine_before = all_fine lib (inputs_bound is) bad_before f.body (inputs_seen f) flow_ok.given ([], sym (append-nil (inputs_bound is)), refl) has.new_declared has.new_items flow_ok.body

    fine_now : Fine now_lib (inputs_bound (all_inputs ls is)) bad_now (exprs_in (map (expanded x) f.body)) (calls_in (map (expanded x) f.body)) flow_now.given
    fine_now =
        all_fine now_lib (inputs_bound (all_inputs ls is)) bad_now (map (expanded x) f.body) (inputs_seen (now_of f ls)) flow_now.given ([], sym (append-nil (inputs_bound (all_inputs ls is))), refl)
        (ap (list_all (λ (n : List ℕ). not (bad_now n))) (declared_expanded x f.body) ∙ has.own_declared) (ap (list_all (λ (n : List ℕ). not (bad_now n))) (items_expanded x f.body) ∙ has.own_items) flow_now.body

    ok_more : (ok : Key → Bool) (names front more : List Bound) → names ≡ front ++ more → all_ok ok front → list_all (λ (b : Bound). ok b.key) more ≡ true → all_ok ok names
    ok_more ok names front more e h j =
        ap (list_all (λ (b : Bound). ok b.key)) e ∙ list_all-append (λ (b : Bound). ok b.key) front more ∙ and_from (list_all (λ (b : Bound). ok b.key) front) (list_all (λ (b : Bound). ok b.key) more) h j

    one_fine : (e : TExpr) → FineBefore e → FineNow (swapped (swaps_of ls) e) → is_fine (swaps_of ls) (seen ls) (is_own is) e ≡ true
    one_fine e a b =
        expr_fine is ls lib.structs a.names b.names (ok_more (seen ls) a.names (inputs_bound is) a.scope.0 a.scope.1 has.old_ok a.scope.2)
        (ok_more (left is) b.names (inputs_bound (all_inputs ls is)) b.scope.0 b.scope.1 has.now_ok b.scope.2) e a.ty b.ty a.typed b.typed

    exprs_fine : list_all (is_fine (swaps_of ls) (seen ls) (is_own is)) (exprs_in f.body) ≡ true
    exprs_fine =
        each_passes (is_fine (swaps_of ls) (seen ls) (is_own is)) (exprs_in f.body)
        (each_with FineBefore (λ e. FineNow (swapped (swaps_of ls) e)) (λ e. is_fine (swaps_of ls) (seen ls) (is_own is) e ≡ true) one_fine (exprs_in f.body) fine_before.exprs
        (each_mapped FineNow (swapped (swaps_of ls)) (exprs_in f.body) (subst (Each FineNow) (exprs_expanded x f.body) fine_now.exprs)))

    paired_at : (rest : List Known) → Paired is ls (env_of (first ++ rest)) (env_of (last ++ rest))
    paired_at rest = paired_more is ls first last rest paired there

    known_at : (rest : List Known) (n : List ℕ) → is_record_of is n ≡ true → (y : Value) × (lookup (env_of (first ++ rest)) (plain_key n) ≡ Some y) × Fitting lib.structs is ls n y
    known_at rest n h = let p = record_known n h in (p.0, found_before first rest (plain_key n) p.0 p.1, p.2)

    -- ---- calls

    abbrev CalledBefore : TCall → Type 0
    CalledBefore = IsCalled lib (inputs_bound is) bad_before

    abbrev CalledNow : TCall → Type 0
    CalledNow = IsCalled now_lib (inputs_bound (all_inputs ls is)) bad_now

    abbrev with_at : Run → Callee → Names → List Segment → TCall → Target → Tried (List Bind) → Flowing
    with_at run g n place c t (Ok as_) = called run g n place c as_ t
    with_at run g n place c t (Err e) = with_fault (failing_at place e) (missing n)

    module _ (c : TCall) (before : List Bound) (after : List Bound) (scope : (more : List Bound) × (before ≡ inputs_bound is ++ more) × (all_ok (seen ls) more)) (ok_now : all_ok (left is) after) where
      abbrev args_at : Target → List (TField TExpr)
      args_at t = all_args (own_of ls f) (callee_of lib.flows r.leaves t) c.args

      -- what holds of a call by its target
      pub record AtTarget (t : Target) : Type 0 where
        pub keys : signature_keys c.name (signature lib t) ≡ signature_keys c.name (signature now_lib t)
        pub known : (rest : List Known) → args_known (first ++ rest) c.args ≡ args_known (last ++ rest) (args_at t)
        pub gives : (n : Names) (rest : List Known) (place : List Segment)
            → with_at old callee n place c t (args_met (env_of (first ++ rest)) c.args) ≡ with_at new other n place (expanded_call x c) t (args_met (env_of (last ++ rest)) (args_at t))

      ok_before : all_ok (seen ls) before
      ok_before = ok_more (seen ls) before (inputs_bound is) scope.0 scope.1 has.old_ok scope.2

      typed_as : (n : List ℕ) (t : Ty) → is_record_of is n ≡ true → input_type is n ≡ Some t → type_in before (plain_key n) ≡ Some t
      typed_as n t h e = ap (λ (bs : List Bound). type_in bs (plain_key n)) scope.1 ∙ input_typed is scope.0 n t e

      no_records : (n : List ℕ) (A : Type 0) → is_record_of [] n ≡ true → A
      no_records n A h = absurd (false≢true h)

      task_met : (n : Names) (place : List Segment) (j : ℕ) (o q : Tried (List Bind)) → ArgsSame lib.structs [] [] o q
          → with_at old callee n place c (target.Task j) o ≡ with_at new other n place (expanded_call x c) (target.Task j) q
      task_met n place j (Ok bs) (Ok cs) h =
          task_same lib r.flows site table n place c.name bs (slice_get lib.tasks j) ∙ ap (λ (zs : List Bind). task_called new n place c.name zs (slice_get lib.tasks j)) (sym (alike_same lib.structs h))
      task_met n place j (Ok bs) (Err g) h = absurd h
      task_met n place j (Err g) (Ok cs) h = absurd h
      task_met n place j (Err g) (Err w) h = ap (λ z. with_fault (failing_at place z) (missing n)) h

      at_task : (j : ℕ) (s now : Signature) → signature lib (target.Task j) ≡ Some s → args_typed lib.structs before s.inputs c.args ≡ true
          → args_typed lib.structs after now.inputs (args_at (target.Task j)) ≡ true → AtTarget (target.Task j)
      at_task j s now e typed again = record {
        keys = refl;
        known = λ rest. (agree rest).known;
        gives = λ n rest place. task_met n place j (args_met (env_of (first ++ rest)) c.args) (args_met (env_of (last ++ rest)) (args_at (target.Task j))) (agree rest).met;
      }
        where
          agree : (rest : List Known) → ArgsMet lib.structs [] [] (first ++ rest) (last ++ rest) c.args (args_at (target.Task j))
          agree rest =
              all_agree lib.structs is ls has.fine (first ++ rest) (last ++ rest) (paired_at rest) (known_at rest) before after ok_before ok_now typed_as [] [] tt s.inputs now.inputs
              (λ n t h e. no_records n (input_type [] n ≡ Some t) h) (λ n t e. refl) (λ n h. no_records n (input_type now.inputs n ≡ None) h) c.args typed again

      -- ---- a call of a workflow

      module _ (j : ℕ) (g : FlowDef) (called_one : Standing j g) where
        abbrev at_one : AtFlow j g
        at_one = at_flow j g called_one

        leaves_one : HasLeaves lib.structs g at_one.own
        leaves_one = has_leaves lib g at_one.own differ (is_flow lib g (all_at (flow_typed lib) lib.flows j g typed_all called_one.there)) at_one.are

        callee_is : (let made : LeafCallee = record { inputs = g.inputs; leaves = at_one.own } in made) ≡ callee_of lib.flows r.leaves (target.Flow j)
        callee_is =
            ap (λ (o : Option FlowDef). let made : LeafCallee = record { inputs = inputs_at o; leaves = at_one.own } in made) (sym called_one.there)
            ∙ ap (λ (o : Option (List Leaf)). let made : LeafCallee = record { inputs = inputs_at (slice_get lib.flows j); leaves = leaves_at o } in made) (sym at_one.there)

        flow_gives : (n : Names) (place : List Segment) (bs cs : List Bind) → SameFlow g.outputs (callee j bs place) (other j cs place)
            → flow_called callee n place c.name bs j (slice_get lib.flows j) ≡ flow_called other n place c.name cs j (slice_get r.flows j)
        flow_gives n place bs cs h =
            ap (flow_called callee n place c.name bs j) called_one.there
            ∙ ended_same c.name (swaps_of at_one.own) g.outputs (callee j bs place) (other j cs place) h
            ∙ sym (ap (flow_called other n place c.name cs j) at_one.now_is)

        flow_met : (n : Names) (place : List Segment) (o q : Tried (List Bind)) → ((bs : List Bind) → o ≡ Ok bs → Present g.inputs bs) → ArgsSame lib.structs g.inputs at_one.own o q
            → with_at old callee n place c (target.Flow j) o ≡ with_at new other n place (expanded_call x c) (target.Flow j) q
        flow_met n place (Ok bs) (Ok cs) p h = flow_gives n place bs cs (same_callees j g called_one at_one bs cs h (p bs refl) place)
        flow_met n place (Ok bs) (Err w) p h = absurd h
        flow_met n place (Err w) (Ok cs) p h = absurd h
        flow_met n place (Err w) (Err z) p h = ap (λ z. with_fault (failing_at place z) (missing n)) h

        at_one_flow : args_typed lib.structs before g.inputs c.args ≡ true → all_given g.inputs (arg_names c.args) ≡ true
            → args_typed lib.structs after (all_inputs at_one.own g.inputs) (args_at (target.Flow j)) ≡ true → AtTarget (target.Flow j)
        at_one_flow typed given again = record {
          keys =
              ap (λ (o : Option FlowDef). signature_keys c.name (option_and_then (λ f. Some (flow_signature f)) o)) called_one.there
              ∙ keys_same c.name (swaps_of at_one.own) g.outputs
              ∙ sym (ap (λ (o : Option FlowDef). signature_keys c.name (option_and_then (λ f. Some (flow_signature f)) o)) at_one.now_is);
          known = λ rest. (agree rest).known;
          gives = λ n rest place. flow_met n place (args_met (env_of (first ++ rest)) c.args) (args_met (env_of (last ++ rest)) (args_at (target.Flow j)))
              (λ bs e m h. named_met (env_of (first ++ rest)) c.args bs e m (record_named g.inputs (arg_names c.args) given m h)) (agree rest).met;
        }
          where
            agree : (rest : List Known) → ArgsMet lib.structs g.inputs at_one.own (first ++ rest) (last ++ rest) c.args (args_at (target.Flow j))
            agree rest =
                subst (λ (z : LeafCallee). ArgsMet lib.structs g.inputs at_one.own (first ++ rest) (last ++ rest) c.args (all_args (own_of ls f) z c.args)) callee_is
                (all_agree lib.structs is ls has.fine (first ++ rest) (last ++ rest) (paired_at rest) (known_at rest) before after ok_before ok_now typed_as g.inputs at_one.own leaves_one.of g.inputs
                (all_inputs at_one.own g.inputs) (λ n t h e. e) (no_leaf_typed at_one.own g.inputs leaves_one.new_inputs) (gone_from g.inputs (all_inputs at_one.own g.inputs) leaves_one.stay) c.args typed
                (subst (λ (z : LeafCallee). args_typed lib.structs after (all_inputs at_one.own g.inputs) (all_args (own_of ls f) z c.args) ≡ true) (sym callee_is) again))

      at_target : (t : Target) (s now : Signature) → signature lib t ≡ Some s → signature now_lib t ≡ Some now → args_typed lib.structs before s.inputs c.args ≡ true → all_given s.inputs (arg_names c.args) ≡ true
          → args_typed lib.structs after now.inputs (args_at t) ≡ true → ((j : ℕ) (g : FlowDef) → t ≡ target.Flow j → slice_get lib.flows j ≡ Some g → Standing j g) → AtTarget t
      at_target (target.Task j) s now e i typed given again reach = at_task j s now e typed again
      at_target (target.Flow j) s now e i typed given again reach =
          let p = then_parts (λ (f : FlowDef). Some (flow_signature f)) (slice_get lib.flows j) s e in
          let g : FlowDef = p.0 in
          let one : Standing j g = reach j g refl p.1 in
          let was : flow_signature g ≡ s = same_Some _ _ p.2 in
          let is_now : flow_signature (now_of g (at_flow j g one).own) ≡ now = same_Some _ _ (sym (ap (option_and_then (λ f. Some (flow_signature f))) (at_flow j g one).now_is) ∙ i) in
          at_one_flow j g one (ap (λ (z : Signature). args_typed lib.structs before z.inputs c.args) was ∙ typed) (ap (λ (z : Signature). all_given z.inputs (arg_names c.args)) was ∙ given)
          (ap (λ (z : Signature). args_typed lib.structs after z.inputs (args_at (target.Flow j))) is_now ∙ again)

    abbrev Called : TCall → Type 0
    Called c = Reaches lib.flows main (suc stands.round_) c × Nests lib.flows stands.levels c

    call_agrees : (c : TCall) → CalledBefore c → CalledNow (expanded_call x c) → Called c → CallAgrees old new callee other x first last c
    call_agrees c a b reach =
        let t =
        at_target c a.names b.names a.scope (ok_more (left is) b.names (inputs_bound (all_inputs ls is)) b.scope.0 b.scope.1 has.now_ok b.scope.2) c.target a.target b.target a.is b.is a.args a.given b.args
        (λ j g e i. let n = reach.1 j g e i in record {
          there = i;
          round_ = suc stands.round_;
          levels = n.0;
          below = omega (arith, n.1, stands.below);
          marked = reach.0 j g e i;
          nests = n.2;
        }) in
        record {
          keys = t.keys;
          runs = λ n rest calls place.
              let at : List Segment = call_place (sight first rest calls place) c.name in
              ap (λ b. cond (b && list_all (has_ended calls) c.after) (with_args old callee n at c (args_met (env_of (first ++ rest)) c.args)) (missing n)) (t.known rest)
              ∙ ap (λ (z : Flowing). cond (args_known (last ++ rest) (expanded_call x c).args && list_all (has_ended calls) c.after) z (missing n)) (t.gives n rest at);
        }

    calls_agree : Each (CallAgrees old new callee other x first last) (calls_in f.body)
    calls_agree =
        each_with (λ c. CalledBefore c × CalledNow (expanded_call x c)) Called (CallAgrees old new callee other x first last) (λ c p q. call_agrees c p.0 p.1 q) (calls_in f.body)
        (each_with CalledBefore (λ c. CalledNow (expanded_call x c)) (λ c. CalledBefore c × CalledNow (expanded_call x c)) (λ c p q. (p, q)) (calls_in f.body) fine_before.calls
        (each_mapped CalledNow (expanded_call x) (calls_in f.body) (subst (Each CalledNow) (calls_expanded x f.body) fine_now.calls)))
        (each_with (Reaches lib.flows main (suc stands.round_)) (Nests lib.flows stands.levels) Called (λ c p q. (p, q)) (calls_in f.body)
        (callees_marked lib.flows main stands.round_ k f stands.there stands.marked) (calls_nest lib.flows stands.levels f.body stands.nests))

    -- ---- the body and the outputs

    body_agrees : RunsAgree first last (statements old callee f.body) (statements new other (now_of f ls).body)
    body_agrees =
        bodies_agree old new callee other x first last (seen ls) (is_own is) f.body (record {
          values = λ rest. agrees is ls has.fine (env_of (first ++ rest)) (env_of (last ++ rest)) (paired_at rest);
          places = λ rest. places is ls has.fine (env_of (first ++ rest)) (env_of (last ++ rest)) (paired_at rest);
          fine = exprs_fine;
          calls = calls_agree;
        })

    abbrev declares : List TDecl → List Runner
    declares ds = map (λ (d : TDecl) (s : Sight). declaration s d.name d.value) ds

    outputs_run : (ds : List TDecl) (nb mb : List Bound) → all_ok (seen ls) nb → all_ok (left is) mb → None_of bad_before (decl_names ds) → None_of bad_now (decl_names ds)
        → decls_typed (in_body lib.structs) lib.structs nb ds ≡ true → decls_typed (in_body lib.structs) lib.structs mb (map (swapped_decl (swaps_of ls)) ds) ≡ true
        → AllAgree first last (declares ds) (declares (map (swapped_decl (swaps_of ls)) ds))
    outputs_run [] nb mb ob om n m t u = tt
    outputs_run (d ∷ ds) nb mb ob om n m t u =
        let p = and_parts (is_written lib.structs d.ty && is_type (in_body lib.structs nb d.value) d.ty) (decls_typed (in_body lib.structs) lib.structs (nb ++ bound d.name d.ty ∷ []) ds) t in
        let q =
        and_parts (is_written lib.structs d.ty && is_type (in_body lib.structs mb (swapped (swaps_of ls) d.value)) d.ty)
        (decls_typed (in_body lib.structs) lib.structs (mb ++ bound d.name d.ty ∷ []) (map (swapped_decl (swaps_of ls)) ds)) u in
        let v = some_typed (in_body lib.structs nb d.value) d.ty (and_parts (is_written lib.structs d.ty) (is_type (in_body lib.structs nb d.value) d.ty) p.0).1 in
        let w =
        some_typed (in_body lib.structs mb (swapped (swaps_of ls) d.value)) d.ty (and_parts (is_written lib.structs d.ty) (is_type (in_body lib.structs mb (swapped (swaps_of ls) d.value)) d.ty) q.0).1 in
        let n2 = and_parts (not (bad_before d.name)) (list_all (λ (z : List ℕ). not (bad_before z)) (decl_names ds)) n in
        let m2 = and_parts (not (bad_now d.name)) (list_all (λ (z : List ℕ). not (bad_now z)) (decl_names ds)) m in (
          declaration_agrees first last (swaps_of ls) (seen ls) (is_own is) (λ rest. agrees is ls has.fine (env_of (first ++ rest)) (env_of (last ++ rest)) (paired_at rest))
              (λ rest. places is ls has.fine (env_of (first ++ rest)) (env_of (last ++ rest)) (paired_at rest)) d.name d.value (expr_fine is ls lib.structs nb mb ob om d.value v.0 w.0 v.1 w.1),
          outputs_run ds (nb ++ bound d.name d.ty ∷ []) (mb ++ bound d.name d.ty ∷ []) (ok_more (seen ls) (nb ++ bound d.name d.ty ∷ []) nb (bound d.name d.ty ∷ []) refl ob (and_from (seen ls (plain_key d.name)) true n2.0 refl))
              (ok_more (left is) (mb ++ bound d.name d.ty ∷ []) mb (bound d.name d.ty ∷ []) refl om (and_from (left is (plain_key d.name)) true m2.0 refl)) n2.1 m2.1 p.1 q.1,
        )

    outputs_agree : RunsAgree first last (outputs f.outputs) (outputs (now_of f ls).outputs)
    outputs_agree =
        turns_agree first last (declares f.outputs) (declares (now_of f ls).outputs)
        (outputs_run f.outputs (inputs_bound is ++ flow_ok.given.names) (inputs_bound (all_inputs ls is) ++ flow_now.given.names)
        (ok_more (seen ls) (inputs_bound is ++ flow_ok.given.names) (inputs_bound is) flow_ok.given.names refl has.old_ok fine_before.names)
        (ok_more (left is) (inputs_bound (all_inputs ls is) ++ flow_now.given.names) (inputs_bound (all_inputs ls is)) flow_now.given.names refl has.now_ok fine_now.names)
        has.new_outputs has.own_outputs flow_ok.outputs flow_now.outputs)

    -- what comes behind the inputs is the same
    pub rest_agrees : (calls : List Ended) (place : List Segment)
        → in_turn (statements old callee f.body ∷ outputs f.outputs ∷ []) (record { names = first; calls = calls; place = place })
        ≡ in_turn (statements new other (now_of f ls).body ∷ outputs (now_of f ls).outputs ∷ []) (record { names = last; calls = calls; place = place })
    rest_agrees calls place =
        let before : List Runner = statements old callee f.body ∷ outputs f.outputs ∷ [] in
        let after : List Runner = statements new other (now_of f ls).body ∷ outputs (now_of f ls).outputs ∷ [] in
        ap (λ (ks : List Known). in_turn before (record { names = ks; calls = calls; place = place })) (sym (append-nil first))
        ∙ turns_agree first last before after (body_agrees, (outputs_agree, tt)) [] calls place
        ∙ ap (λ (ks : List Known). in_turn after (record { names = ks; calls = calls; place = place })) (append-nil last)

    pub names_agree : (rest : List Known) (ds : List TDecl) → None_of bad_before (decl_names ds) → None_of bad_now (decl_names ds)
        → Each (λ (d : TDecl). lookup (env_of (first ++ rest)) (plain_key d.name) ≡ lookup (env_of (last ++ rest)) (plain_key d.name)) ds
    names_agree rest [] n m = tt
    names_agree rest (d ∷ ds) n m =
        let p = and_parts (not (bad_before d.name)) (list_all (λ (z : List ℕ). not (bad_before z)) (decl_names ds)) n in
        let q = and_parts (not (bad_now d.name)) (list_all (λ (z : List ℕ). not (bad_now z)) (decl_names ds)) m in
        (sym ((paired_at rest).others (plain_key d.name) (not-true (bad_now d.name) q.0) (not-true (bad_before d.name) p.0)), names_agree rest ds p.1 q.1)

  -- ---- a workflow from its inputs on

  module _ (callee other : Callee) (same_callees : FlowsAgree callee other) (k : ℕ) (f : FlowDef) (stands : Standing k f) (a : AtFlow k f) (given now : List Bind)
      (alike : Alike lib.structs f.inputs a.own given now) (present : Present f.inputs given) (place : List Segment) where
    flow_ok : IsFlow lib f
    flow_ok = is_flow lib f (all_at (flow_typed lib) lib.flows k f typed_all stands.there)

    flow_now : IsFlow now_lib (now_of f a.own)
    flow_now = is_flow now_lib (now_of f a.own) (all_at (flow_typed now_lib) r.flows k (now_of f a.own) again_all a.now_is)

    has : HasLeaves lib.structs f a.own
    has = has_leaves lib f a.own differ flow_ok a.are

    agree : GivenAgrees lib.structs f.inputs a.own given now
    agree = given_agrees lib.structs f.inputs a.own has.distinct has.of alike

    abbrev before : Flowing
    before = inputs given f.inputs (beginning place)

    abbrev after : Flowing
    after = inputs now (all_inputs a.own f.inputs) (beginning place)

    nothing_known : Paired f.inputs a.own [] []
    nothing_known = record { others = λ key own leaf. refl; leaves = each_by (λ (l : Leaf). OfRecord lib.structs f.inputs l.input l.path l.ty) (λ (l : Leaf). Both l.path None None) (λ l o. tt) a.own has.of }

    started : Same lib.structs f.inputs a.own has.fine has.distinct place given now agree present [] [] before after
    started = all_run lib.structs f.inputs a.own has.fine has.distinct place given now agree present f.inputs has.inputs has.each_new [] [] [] [] [] [] nothing_known refl refl flow_ok.inputs flow_now.inputs

    record_known : (n : List ℕ) → is_record_of f.inputs n ≡ true → (x : Value) × (lookup (env_of before.names) (plain_key n) ≡ Some x) × Fitting lib.structs f.inputs a.own n x
    record_known n h =
        let p = present n h in
        (p.0, inputs_known given f.inputs (beginning place) n h p.0 p.1, agree.records n p.0 h p.1)

    there : AllThere a.own (env_of before.names) (env_of after.names)
    there =
        all_there a.own (env_of before.names) (env_of after.names) started.paired.leaves
        (each_by (λ (l : Leaf). OfRecord lib.structs f.inputs l.input l.path l.ty) (λ (l : Leaf). (x : Value) × (lookup (env_of before.names) (plain_key l.input) ≡ Some x))
        (λ l o. let p = record_known l.input o.record_is in (p.0, p.1)) a.own has.of)

    abbrev rest_before : Flowing
    rest_before = in_turn (statements old callee f.body ∷ outputs f.outputs ∷ []) (seeing (beginning place) before)

    abbrev rest_after : Flowing
    rest_after = in_turn (statements new other (now_of f a.own).body ∷ outputs (now_of f a.own).outputs ∷ []) (seeing (beginning place) after)

    rest_same : rest_before ≡ rest_after
    rest_same =
        rest_agrees callee other same_callees k f stands a.own flow_ok has flow_now before.names after.names started.paired there record_known before.calls place
        ∙ ap (λ (cs : List Ended). in_turn (statements new other (now_of f a.own).body ∷ outputs (now_of f a.own).outputs ∷ []) (record { names = after.names; calls = cs; place = place })) started.calls

    pub one_flow : SameFlow f.outputs (flow_run old callee f given (beginning place)) (flow_run new other (now_of f a.own) now (beginning place))
    one_flow = record {
      names = subst (λ (z : Flowing). Each (λ (d : TDecl). value_in (plain_key d.name) (together before rest_before) ≡ value_in (plain_key d.name) (together after z)) f.outputs) rest_same
          (names_agree callee other same_callees k f stands a.own flow_ok has flow_now before.names after.names started.paired there record_known rest_before.names f.outputs has.new_outputs has.own_outputs);
      jobs = ap (λ z. z ++ rest_before.jobs) started.jobs ∙ ap (λ (z : Flowing). after.jobs ++ z.jobs) rest_same;
      codes = ap (λ z. z ++ rest_before.codes) started.codes ∙ ap (λ (z : Flowing). after.codes ++ z.codes) rest_same;
      faults = ap (λ z. z ++ rest_before.faults) started.faults ∙ ap (λ (z : Flowing). after.faults ++ z.faults) rest_same;
      waits = ap (λ z. z ++ rest_before.waits) started.waits ∙ ap (λ (z : Flowing). after.waits ++ z.waits) rest_same;
      count = ap (λ z. z + rest_before.count) started.count ∙ ap (λ (z : Flowing). after.count + z.count) rest_same;
    }

  -- ---- all depths

  same_itself : (ds : List TDecl) (f : Flowing) → SameFlow ds f f
  same_itself ds f = record { names = go ds; jobs = refl; codes = refl; faults = refl; waits = refl; count = refl }
    where
      go : (ds : List TDecl) → Each (λ (d : TDecl). value_in (plain_key d.name) f ≡ value_in (plain_key d.name) f) ds
      go [] = tt
      go (d ∷ ds) = (refl, go ds)

  pub all_depths : (depth : ℕ) → FlowsAgree (flow old depth) (flow new depth)
  all_depths zero k f stands a given now alike present place = same_itself f.outputs nothing
  all_depths (suc depth) k f stands a given now alike present place =
      subst (λ (o : Option FlowDef). SameFlow f.outputs (flow_at old (flow old depth) o given place) (flow_at new (flow new depth) (slice_get r.flows k) now place)) (sym stands.there)
      (subst (λ (o : Option FlowDef). SameFlow f.outputs (flow_run old (flow old depth) f given (beginning place)) (flow_at new (flow new depth) o now place)) (sym a.now_is)
      (one_flow (flow old depth) (flow new depth) (all_depths depth) k f stands a given now alike present place))
