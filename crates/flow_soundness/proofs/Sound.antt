-- Soundness of flows: each name that statements give out with a value has one that fits its type.
use Rattle.std.proofs.Common.{◌≡◌, ℕ, zero, suc, ◌+◌, Bool, true, false, cond, not, ◌&&◌, List, [], ◌∷◌, ◌++◌, map, Option, Some, None, option_and_then, Ok, Err, append-nil, sym, ap, ◌∙◌, subst, refl}
use Rattle.std.specs.List.{list_all, slice_get}
use Rattle.std.proofs.lemmas.Bool.{false≢true, and_parts}
use Rattle.wdl_base.specs.declared.answer.Answer.{Answer}
use Rattle.wdl_base.specs.declared.name.Key.{Key}
use Rattle.wdl_base.specs.declared.place.Segment.{Segment}
use Rattle.wdl_base.specs.declared.place.Segment.TheVariants as segment
use Rattle.wdl_value.specs.declared.env.Bind.{Bind}
use Rattle.wdl_value.specs.declared.ty.Ty.{Ty, Ty-F, out-Ty, roll-Ty, roll-out-Ty}
use Rattle.wdl_value.specs.declared.ty.Ty.TheVariants as ty
use Rattle.wdl_value.specs.declared.ty.Ty.TheOpen as type
use Rattle.wdl_value.specs.declared.value.Value.{Value, Value-F, out-Value}
use Rattle.wdl_value.specs.declared.value.Value.TheOpen as value
use Rattle.wdl_value.specs.Fits.{Structs, fits, takes, takes_at, takes_step}
use Rattle.wdl_value.specs.Keyed.{keyed}
use Rattle.wdl_value.specs.Kinds.{is_bool}
use Rattle.wdl_value.specs.Outcome.{Outcome}
use Rattle.wdl_value.specs.Parts.{bool_in, items_at, items_in}
use Rattle.wdl_value.specs.Tables.{answer_at}
use Rattle.wdl_value.proofs.FitsForms.{a_list, all_fit}
use Rattle.wdl_value.proofs.FitsLemmas.{takes_out, tests}
use Rattle.wdl_typed.specs.declared.expr.TExpr.{TExpr}
use Rattle.wdl_typed.specs.declared.flow.FlowDef.{FlowDef}
use Rattle.wdl_typed.specs.declared.flow.Statement.{Statement, Statement-F, fold-Statement, map-Statement, roll-Statement, ind-Statement, fold-roll-Statement}
use Rattle.wdl_typed.specs.declared.flow.Statement.TheOpen as layer
use Rattle.wdl_typed.specs.declared.flow.TCall.{TCall}
use Rattle.wdl_typed.specs.declared.flow.Target.{Target}
use Rattle.wdl_typed.specs.declared.flow.Target.TheVariants as target
use Rattle.wdl_typed.specs.declared.scope.Bound.{Bound}
use Rattle.wdl_typed.specs.declared.task.TaskDef.{TaskDef}
use Rattle.wdl_typed.specs.Bodies.{Differing, Giving, Library, Seen, Signature, all_declared, all_given, all_seen, arg_names, args_typed, body_gives, body_step, call_by, call_step, declared, flow_signature, gives, if_over, items_differ, items_step, joined, names_step, optional, output_bound, retyped, scatter_over, signature, statement_step as typed_step, task_signature, with_item}
use Rattle.wdl_typed.specs.Declarations.{bound, in_body, plain_key, task_typed}
use Rattle.wdl_typed.specs.Evaluation.{value_of}
use Rattle.wdl_typed.specs.Flow as flow
use Rattle.wdl_typed.specs.Flow.{Callee, Flowing, Names, Part, Run, Runner, Sight, all_known, args_known, args_met, asked, attempted, attempts, body_names, body_run, call_of, called, concluded, each_item, env_of, has_ended, in_turn, item_sight, missing, run_of_part, scatter_run, scattered, seeing, statement_step, with_args}
use Rattle.wdl_typed.specs.KnownTypes.{is_written}
use Rattle.wdl_typed.specs.Lists.{are_distinct, has_name}
use Rattle.wdl_typed.specs.Requests.{Asked, Tried, asks, bad_status, before, is_success, job_dir, tells}
use Rattle.wdl_typed.specs.Scope.{is_among, same_key, type_in}
use Rattle.wdl_typed.specs.Typing.{is_type}
use Rattle.wdl_names.specs.Fresh.{fresh}
use Rattle.wdl_task.specs.Readiness.{are_given}
use Rattle.wdl_task.proofs.TaskLaws.{told_fits}
use Rattle.flow_soundness.specs.Readiness.{Agrees, IsLibrary, IsNew, are_among}
use Rattle.flow_soundness.proofs.Args.{OutputsFit, args_are_given, outputs_agree}
use Rattle.flow_soundness.proofs.Fitting.{agrees_both, agrees_one, declaration_agrees, value_fits}
use Rattle.flow_soundness.proofs.GivenKeys.{all_gives_keys, when_some}
use Rattle.wdl_flow.proofs.GivenNames.{bodies_same}
use Rattle.wdl_flow.proofs.MarkLemmas.{same_key-true}
use Rattle.flow_soundness.proofs.NewNames.{all_keys_declared, fresh_apart, keys_of, name_right, type_among}
use Rattle.flow_soundness.proofs.Newness.{given_apart, given_declared, head_new, new_inside, tail_new}
use Rattle.flow_soundness.proofs.Shapes.{AllAgree, absent_agrees, gathered_agrees, missing_agrees, optional_agrees, told_agrees}
use Rattle.wdl_base.proofs.Options.{all_at, then_parts}
use Rattle.flow_soundness.proofs.Fitting.{is_type-some}

-- an array with `+` has an item
not_empty : (structs : Structs) (x : Value) (t : Ty) → fits structs x (ty.Array t true) ≡ true → out-Value x ≡ value.List [] → ⊥
not_empty structs x t h e =
    let p = and_parts (takes structs x (ty.Array t true)) (keyed x) h in
    false≢true (
    sym (takes_out structs x (ty.Array t true)
    ∙ ap (λ (m : Value-F Value). takes_step structs (tests structs m) (ty.Array t true)) e
    ∙ ap (takes_at structs (tests structs (value.List []))) (ty.outs-Array t true))
    ∙ p.0
    )

-- what workflows that are called give fits
abbrev pub CalleesSound : Library → Callee → Type 0
CalleesSound lib callee =
    (k : ℕ) (f : FlowDef) (given : List Bind) (place : List Segment) → slice_get lib.flows k ≡ Some f → are_given lib.structs f.inputs given ≡ true
    → OutputsFit lib.structs f.outputs (callee k given place).names

module _ (r : Run) (callee : Callee) (kept : IsLibrary r.library) (callees : CalleesSound r.library callee) where
  abbrev structs : Structs
  structs = r.library.structs

  abbrev part : Statement → Part
  part = fold-Statement Part (statement_step r callee)

  abbrev run : Statement → Runner
  run st = run_of_part (part st)

  -- ---- calls of tasks

  module _ (n : Names) (place : List Segment) (t : TaskDef) (call : List ℕ) (given : List Bind) (a : Asked) (typed : task_typed structs t ≡ true)
      (fit : are_given structs t.inputs given ≡ true) (asks_is : asks t given ≡ Ok a) where
    abbrev Fine : Flowing → Type 0
    Fine f = Agrees structs (map (output_bound call) t.outputs) f.names

    concluded_fine : (attempt : ℕ) (answer : Answer) (o : Tried (List Bind)) → tells structs t a (job_dir r.site place attempt) answer ≡ o → Fine (concluded n place call o)
    concluded_fine attempt answer (Ok outs) e = told_agrees structs call t.outputs outs (told_fits structs t given a (job_dir r.site place attempt) answer outs typed fit asks_is e)
    concluded_fine attempt answer (Err f) e = missing_agrees structs (map (output_bound call) t.outputs) n.keys

    attempted_fine : (attempt : ℕ) (last : Bool) (later : Flowing) (o : Option Answer) → Fine later → Fine (attempted r n place t call a attempt last later o)
    attempted_fine attempt last later None h = missing_agrees structs (map (output_bound call) t.outputs) n.keys
    attempted_fine attempt last later (Some answer) h = by_success (is_success a.codes answer.status)
      where
        by_last : (b : Bool) → Fine (cond b (flow.with_fault (flow.failing_at place (bad_status answer.status)) (missing n)) later)
        by_last true = missing_agrees structs (map (output_bound call) t.outputs) n.keys
        by_last false = h

        by_success : (b : Bool)
            → Fine (cond b (concluded n place call (tells structs t a (job_dir r.site place attempt) answer))
            (cond last (flow.with_fault (flow.failing_at place (bad_status answer.status)) (missing n)) later))
        by_success true = concluded_fine attempt answer (tells structs t a (job_dir r.site place attempt) answer) refl
        by_success false = by_last last

    attempts_fine : (left attempt : ℕ) → Fine (attempts r n place t call a left attempt)
    attempts_fine zero attempt =
        attempted_fine attempt true (missing n) (answer_at r.table place attempt) (missing_agrees structs (map (output_bound call) t.outputs) n.keys)
    attempts_fine (suc left) attempt =
        attempted_fine attempt false (attempts r n place t call a left (attempt + 1)) (answer_at r.table place attempt) (attempts_fine left (attempt + 1))

  asked_fine : (n : Names) (place : List Segment) (t : TaskDef) (call : List ℕ) (given : List Bind) → task_typed structs t ≡ true → are_given structs t.inputs given ≡ true
      → (o : Tried Asked) → asks t given ≡ o → Agrees structs (map (output_bound call) t.outputs) (asked r n place t call o).names
  asked_fine n place t call given typed fit (Ok a) e = attempts_fine n place t call given a typed fit e a.retries 0
  asked_fine n place t call given typed fit (Err f) e = missing_agrees structs (map (output_bound call) t.outputs) n.keys

  -- ---- calls

  called_fine : (n : Names) (place : List Segment) (c : TCall) (args : List Bind) (t : Target) (s : Signature) → signature r.library t ≡ Some s → are_given structs s.inputs args ≡ true
      → Agrees structs (map (output_bound c.name) s.outputs) (called r callee n place c args t).names
  called_fine n place c args (target.Task k) s h fit = by_task (slice_get r.library.tasks k) refl h
    where
      by_task : (o : Option TaskDef) → slice_get r.library.tasks k ≡ o → option_and_then (λ t. Some (task_signature t)) o ≡ Some s
          → Agrees structs (map (output_bound c.name) s.outputs) (flow.task_called r n place c.name args o).names
      by_task None e h = absurd (cc)
      by_task (Some t) e h =
          let same : task_signature t ≡ s = cc in
          subst (λ (z : Signature). Agrees structs (map (output_bound c.name) z.outputs) (asked r n place t c.name (asks t args)).names) same
          (asked_fine n place t c.name args (all_at (task_typed structs) r.library.tasks k t kept.tasks e) (ap (λ (z : Signature). are_given structs z.inputs args) same ∙ fit) (asks t args) refl)
  called_fine n place c args (target.Flow k) s h fit = by_flow (slice_get r.library.flows k) refl h
    where
      by_flow : (o : Option FlowDef) → slice_get r.library.flows k ≡ o → option_and_then (λ f. Some (flow_signature f)) o ≡ Some s
          → Agrees structs (map (output_bound c.name) s.outputs) (flow.flow_called callee n place c.name args k o).names
      by_flow None e h = absurd (cc)
      by_flow (Some f) e h =
          let same : flow_signature f ≡ s = cc in
          subst (λ (z : Signature). Agrees structs (map (output_bound c.name) z.outputs) (flow.flow_ended c.name f.outputs (callee k args place)).names) same
          (outputs_agree structs c.name f.outputs (callee k args place).names (callees k f args place e (ap (λ (z : Signature). are_given structs z.inputs args) same ∙ fit)))

  call_fine : (n : Names) (c : TCall) (seen given : Seen) (s : Sight) → call_step r.library c seen ≡ Some given → Agrees structs seen.names s.names
      → Agrees structs given.names (call_of r callee n c s).names
  call_fine n c seen given s h agrees =
      let p = then_parts (call_by structs c seen) (signature r.library c.target) given h in
      let q = when_some _ _ given p.2 in
      let d = and_parts (args_typed structs seen.names p.0.inputs c.args && are_distinct (arg_names c.args) && all_given p.0.inputs (arg_names c.args)) (all_seen seen.calls c.after) q.0 in
      let e = and_parts (args_typed structs seen.names p.0.inputs c.args && are_distinct (arg_names c.args)) (all_given p.0.inputs (arg_names c.args)) d.0 in
      let f = and_parts (args_typed structs seen.names p.0.inputs c.args) (are_distinct (arg_names c.args)) e.0 in
      ap_names q.1 (by_begin p.0 p.1 f.0 e.1 (args_known s.names c.args && list_all (has_ended s.calls) c.after) refl)
    where
      ap_names : {a b : Seen} → a ≡ b → Agrees structs a.names (call_of r callee n c s).names → Agrees structs b.names (call_of r callee n c s).names
      ap_names same g = subst (λ (z : Seen). Agrees structs z.names (call_of r callee n c s).names) same g

      by_args : (sg : Signature) → signature r.library c.target ≡ Some sg → args_typed structs seen.names sg.inputs c.args ≡ true → all_given sg.inputs (arg_names c.args) ≡ true
          → args_known s.names c.args ≡ true → (o : Tried (List Bind)) → args_met (env_of s.names) c.args ≡ o
          → Agrees structs (map (output_bound c.name) sg.outputs) (with_args r callee n (flow.call_place s c.name) c o).names
      by_args sg is typed all known (Ok args) e =
          called_fine n (flow.call_place s c.name) c args c.target sg is (args_are_given structs sg.inputs seen.names s.names c.args args typed all agrees known e)
      by_args sg is typed all known (Err f) e = missing_agrees structs (map (output_bound c.name) sg.outputs) n.keys

      by_begin : (sg : Signature) → signature r.library c.target ≡ Some sg → args_typed structs seen.names sg.inputs c.args ≡ true → all_given sg.inputs (arg_names c.args) ≡ true
          → (b : Bool) → (args_known s.names c.args && list_all (has_ended s.calls) c.after) ≡ b
          → Agrees structs (map (output_bound c.name) sg.outputs) (cond b (with_args r callee n (flow.call_place s c.name) c (args_met (env_of s.names) c.args)) (missing n)).names
      by_begin sg is typed all true e = by_args sg is typed all (and_parts (args_known s.names c.args) (list_all (has_ended s.calls) c.after) e).0 (args_met (env_of s.names) c.args) refl
      by_begin sg is typed all false e = missing_agrees structs (map (output_bound c.name) sg.outputs) n.keys

  -- ---- statements

  abbrev pub Sound : Statement → Type 0
  Sound st =
      (seen given : Seen) (s : Sight) (all taken : List (List ℕ)) → gives r.library st seen ≡ Some given → Agrees structs seen.names s.names → IsNew all taken seen (st ∷ [])
      → Agrees structs given.names (run st s).names

  abbrev Kept : Type 0
  Kept = (st : Statement) × Sound st

  abbrev plain : Statement-F Kept → Statement-F Statement
  plain = map-Statement Kept Statement (λ (k : Kept). k.0)

  abbrev firsts : List Kept → List Statement
  firsts = map (λ (k : Kept). k.0)

  abbrev runs : List Statement → List Runner
  runs ss = map run_of_part (map part ss)

  body_fine : (ks : List Kept) (seen given : Seen) (s : Sight) (all taken : List (List ℕ)) → body_gives r.library (firsts ks) seen ≡ Some given → Agrees structs seen.names s.names
      → IsNew all taken seen (firsts ks) → Agrees structs given.names (in_turn (runs (firsts ks)) s).names
  body_fine [] seen given s all taken h agrees new = λ key x k. absurd (cc)
  body_fine (k ∷ ks) seen given s all taken h agrees new =
      let p = then_parts (λ first. option_and_then (λ rest. Some (joined first rest)) (body_gives r.library (firsts ks) (joined seen first))) (gives r.library k.0 seen) given h in
      let q = then_parts (λ rest. Some (joined p.0 rest)) (body_gives r.library (firsts ks) (joined seen p.0)) given p.2 in
      let same : joined p.0 q.0 ≡ given = cc in
      let here = k.1 seen p.0 s all taken p.1 agrees (head_new r.library all taken seen k.0 (firsts ks) new) in
      let tail = tail_new r.library all taken seen k.0 (firsts ks) p.0 p.1 new in
      let seen_there = agrees_both structs seen.names p.0.names s.names (run k.0 s).names agrees here (given_apart r.library all taken seen k.0 (firsts ks) p.0 p.1 new) in
      let there = body_fine ks (joined seen p.0) q.0 (seeing s (run k.0 s)) all (taken ++ declared k.0) q.1 seen_there tail in
      subst (λ (z : Seen). Agrees structs z.names (in_turn (runs (firsts (k ∷ ks))) s).names) same
      (agrees_both structs p.0.names q.0.names (run k.0 s).names (in_turn (runs (firsts ks)) (seeing s (run k.0 s))).names here there (later p.0 p.1 q.0 q.1 tail))
    where
      later : (first : Seen) → gives r.library k.0 seen ≡ Some first → (rest : Seen) → body_gives r.library (firsts ks) (joined seen first) ≡ Some rest → IsNew all (taken ++ declared k.0) (joined seen first) (firsts ks)
          → (key : Key) (t : Ty) → type_in rest.names key ≡ Some t → type_in first.names key ≡ None
      later first g rest b tail key t e = by_type (type_in first.names key) refl
        where
          by_type : (o : Option Ty) → type_in first.names key ≡ o → type_in first.names key ≡ None
          by_type None e = e
          by_type (Some u) f =
              let there = all_keys_declared r.library.tasks r.library.flows (firsts ks) key
              (ap (is_among key) (sym (all_gives_keys r.library (firsts ks) (joined seen first) rest b)) ∙ type_among rest.names key t e) in
              absurd (fresh_apart key.first (taken ++ declared k.0) (all_declared (firsts ks)) tail.declared_new there
              (name_right key.first taken (declared k.0) (given_declared r.library all taken seen k.0 (firsts ks) first g key u f)))

  -- ---- blocks

  -- the keys that a body's flow gives out are those of its types
  body_keys : (ks : List Kept) (seen given : Seen) → body_gives r.library (firsts ks) seen ≡ Some given → keys_of given.names ≡ (body_names (map part (firsts ks))).keys
  body_keys ks seen given h = all_gives_keys r.library (firsts ks) seen given h ∙ ap (λ (m : Names). m.keys) (sym (bodies_same r callee (firsts ks)))

  items_fine : (ks : List Kept) (seen given : Seen) (s : Sight) (all taken : List (List ℕ)) (k : ℕ) (item : List ℕ) (t : Ty) → body_gives r.library (firsts ks) (with_item seen item t) ≡ Some given
      → Agrees structs seen.names s.names → ((key : Key) (u : Ty) → type_in (bound item t ∷ []) key ≡ Some u → type_in seen.names key ≡ None)
      → IsNew (item ∷ all) (taken ++ item ∷ []) (with_item seen item t) (firsts ks) → (i : ℕ) (xs : List Value) → all_fit structs xs t ≡ true
      → AllAgree structs given.names (each_item (body_run (map part (firsts ks))) s k item i xs)
  items_fine ks seen given s all taken k item t h agrees apart new i [] fit = tt
  items_fine ks seen given s all taken k item t h agrees apart new i (x ∷ xs) fit =
      let p = and_parts (fits structs x t) (all_fit structs xs t) fit in (
        body_fine ks (with_item seen item t) given (item_sight s k item i x) (item ∷ all) (taken ++ item ∷ []) h
            (agrees_both structs seen.names (bound item t ∷ []) s.names (record { key = plain_key item; value = Some x } ∷ []) agrees
            (agrees_one structs (bound item t) (Some x) (λ y e. let same : x ≡ y = cc in subst (λ (z : Value). fits structs z t ≡ true) same p.0)) apart) new,
        items_fine ks seen given s all taken k item t h agrees apart new (i + 1) xs p.1,
      )

  -- what a block declares is new
  record LayerNew (all taken : List (List ℕ)) (seen : Seen) (y : Statement-F Kept) : Type 0 where
    pub seen_taken : (key : Key) (t : Ty) → type_in seen.names key ≡ Some t → has_name key.first taken ≡ true
    pub taken_all : are_among all taken
    pub declared_all : are_among all (names_step (map-Statement Statement (List (List ℕ)) declared (plain y)))
    pub declared_new : fresh taken (names_step (map-Statement Statement (List (List ℕ)) declared (plain y))) ≡ true
    pub items_new : items_step (map-Statement Statement Differing (fold-Statement Differing items_step) (plain y)) all ≡ true

  layer_new : (all taken : List (List ℕ)) (seen : Seen) (y : Statement-F Kept) → IsNew all taken seen (roll-Statement (plain y) ∷ []) → LayerNew all taken seen y
  layer_new all taken seen y n =
      let names = fold-roll-Statement (List (List ℕ)) names_step (plain y) in
      let alone = append-nil (declared (roll-Statement (plain y))) ∙ names in
      let differ = fold-roll-Statement Differing items_step (plain y) in
      record {
        seen_taken = n.seen_taken;
        taken_all = n.taken_all;
        declared_all = subst (are_among all) alone n.declared_all;
        declared_new = sym (ap (fresh taken) alone) ∙ n.declared_new;
        items_new = sym (ap (λ (d : Differing). d all) differ) ∙ (and_parts (fold-Statement Differing items_step (roll-Statement (plain y)) all) true n.items_new).0;
      }

  -- nothing is new yet
  none_new : (all taken : List (List ℕ)) (seen : Seen) → ((key : Key) (t : Ty) → type_in seen.names key ≡ Some t → has_name key.first taken ≡ true) → are_among all taken → IsNew all taken seen []
  none_new all taken seen f g = record {
    seen_taken = f;
    taken_all = g;
    declared_all = λ name h. absurd (false≢true h);
    declared_new = refl;
    items_new = refl;
  }

  -- ---- scatters

  module _ (ks : List Kept) (seen given sb : Seen) (s : Sight) (all taken : List (List ℕ)) (k : ℕ) (item : List ℕ) (over : TExpr) (t : Ty) (some : Bool)
      (typed : in_body structs seen.names over ≡ Some (ty.Array t some)) (inside : body_gives r.library (firsts ks) (with_item seen item t) ≡ Some sb)
      (agrees : Agrees structs seen.names s.names) (before_it : IsNew all taken seen []) (item_out : has_name item all ≡ false)
      (items_new : items_differ (firsts ks) (item ∷ all) ≡ true) (declared_all : are_among all (all_declared (firsts ks))) (declared_new : fresh taken (all_declared (firsts ks)) ≡ true) where
    abbrev names : Names
    names = body_names (map part (firsts ks))

    abbrev outside : List Bound
    outside = map (λ (b : Bound). record { key = b.key; ty = ty.Array b.ty some }) sb.names

    item_apart : (key : Key) (u : Ty) → type_in (bound item t ∷ []) key ≡ Some u → type_in seen.names key ≡ None
    item_apart key u h = by_test (same_key (plain_key item) key) refl h
      where
        by_type : same_key (plain_key item) key ≡ true → (o : Option Ty) → type_in seen.names key ≡ o → type_in seen.names key ≡ None
        by_type e None g = g
        by_type e (Some w) g =
            let first : item ≡ key.first = ap (λ (j : Key). j.first) (same_key-true (plain_key item) key e) in
            absurd (false≢true (sym item_out ∙ ap (λ z. has_name z all) first ∙ before_it.taken_all key.first (before_it.seen_taken key w g)))

        by_test : (b : Bool) → same_key (plain_key item) key ≡ b → cond b (Some t) None ≡ Some u → type_in seen.names key ≡ None
        by_test true e h = by_type e (type_in seen.names key) refl
        by_test false e h = absurd (cc)

    pub inside_new : IsNew (item ∷ all) (taken ++ item ∷ []) (with_item seen item t) (firsts ks)
    inside_new = new_inside all taken seen item t (firsts ks) item_out items_new before_it declared_all declared_new

    over_items : (x : Value) → all_known s.names over ≡ true → value_of (before (env_of s.names)) over ≡ Ok x → all_fit structs (items_in x) t ≡ true
    over_items x known h =
        let l = a_list structs x t some (value_fits structs seen.names s.names over (ty.Array t some) x typed agrees known h) in
        ap (λ (y : Value-F Value). all_fit structs (items_at y) t) l.2 ∙ l.3

    over_some : (x : Value) → all_known s.names over ≡ true → value_of (before (env_of s.names)) over ≡ Ok x → items_in x ≡ [] → some ≡ false
    over_some x known h none = by_some some refl
      where
        by_some : (b : Bool) → some ≡ b → b ≡ false
        by_some false e = refl
        by_some true e =
            let fit = subst (λ (c : Bool). fits structs x (ty.Array t c) ≡ true) e (value_fits structs seen.names s.names over (ty.Array t some) x typed agrees known h) in
            let l = a_list structs x t true fit in
            let same : l.0 ≡ [] = sym (ap items_at l.2) ∙ none in
            absurd (not_empty structs x t fit (l.2 ∙ ap value.List same))

    no_items : (body : Runner) (xs : List Value) → each_item body s k item 0 xs ≡ [] → xs ≡ []
    no_items body [] h = refl
    no_items body (x ∷ xs) h = absurd (cc)

    scattered_fine : all_known s.names over ≡ true → (o : Outcome Value) → value_of (before (env_of s.names)) over ≡ o
        → Agrees structs outside (scattered names (body_run (map part (firsts ks))) s k item o).names
    scattered_fine known (Ok x) h =
        gathered_agrees structs some sb.names names.keys (each_item (body_run (map part (firsts ks))) s k item 0 (items_in x)) (body_keys ks (with_item seen item t) sb inside)
        (items_fine ks seen sb s all taken k item t inside agrees item_apart inside_new 0 (items_in x) (over_items x known h))
        (λ none. over_some x known h (no_items (body_run (map part (firsts ks))) (items_in x) none))
    scattered_fine known (Err c) h = missing_agrees structs outside names.keys

    pub scatter_fine : Agrees structs outside (scatter_run names (body_run (map part (firsts ks))) k item over s).names
    scatter_fine = by_known (all_known s.names over) refl
      where
        by_known : (b : Bool) → all_known s.names over ≡ b
            → Agrees structs outside (cond b (scattered names (body_run (map part (firsts ks))) s k item (value_of (before (env_of s.names)) over)) (missing names)).names
        by_known true e = scattered_fine e (value_of (before (env_of s.names)) over) refl
        by_known false e = missing_agrees structs outside names.keys

  -- ---- conditions

  if_fine : (ks : List Kept) (seen sb : Seen) (s : Sight) (all taken : List (List ℕ)) (k : ℕ) (c : TExpr) → body_gives r.library (firsts ks) seen ≡ Some sb
      → Agrees structs seen.names s.names → IsNew all taken seen (firsts ks)
      → Agrees structs (map (λ (b : Bound). record { key = b.key; ty = optional b.ty }) sb.names) (flow.if_run (body_names (map part (firsts ks))) (body_run (map part (firsts ks))) k c s).names
  if_fine ks seen sb s all taken k c inside agrees new = by_known (all_known s.names c)
    where
      by_value : (b : Bool) → Agrees structs (map (λ (b : Bound). record { key = b.key; ty = optional b.ty }) sb.names) (flow.chosen (body_names (map part (firsts ks))) (body_run (map part (firsts ks))) s k b).names
      by_value true =
          optional_agrees structs sb.names (in_turn (runs (firsts ks)) (flow.inside s (segment.If k))).names (body_fine ks seen sb (flow.inside s (segment.If k)) all taken inside agrees new)
      by_value false = absent_agrees structs sb.names (body_names (map part (firsts ks))).keys (body_keys ks seen sb inside)

      by_outcome : (o : Outcome Value) → Agrees structs (map (λ (b : Bound). record { key = b.key; ty = optional b.ty }) sb.names) (flow.conditional (body_names (map part (firsts ks))) (body_run (map part (firsts ks))) s k o).names
      by_outcome (Ok x) = by_value (bool_in x)
      by_outcome (Err e) = missing_agrees structs (map (λ (b : Bound). record { key = b.key; ty = optional b.ty }) sb.names) (body_names (map part (firsts ks))).keys

      by_known : (b : Bool) → Agrees structs (map (λ (b : Bound). record { key = b.key; ty = optional b.ty }) sb.names)
          (cond b (flow.conditional (body_names (map part (firsts ks))) (body_run (map part (firsts ks))) s k (value_of (before (env_of s.names)) c)) (missing (body_names (map part (firsts ks))))).names
      by_known true = by_outcome (value_of (before (env_of s.names)) c)
      by_known false = missing_agrees structs (map (λ (b : Bound). record { key = b.key; ty = optional b.ty }) sb.names) (body_names (map part (firsts ks))).keys

  -- ---- each form

  not_true : (b : Bool) → not b ≡ true → b ≡ false
  not_true true h = absurd (false≢true h)
  not_true false h = refl

  layer_fine : (y : Statement-F Kept) (seen given : Seen) (s : Sight) (all taken : List (List ℕ)) → typed_step r.library (map-Statement Statement Giving (gives r.library) (plain y)) seen ≡ Some given
      → Agrees structs seen.names s.names → LayerNew all taken seen y → Agrees structs given.names (run_of_part (statement_step r callee (map-Statement Statement Part part (plain y))) s).names
  layer_fine (layer.Decl d) seen given s all taken h agrees new =
      let p = when_some _ _ given h in
      let q = and_parts (is_written structs d.ty) (is_type (in_body structs seen.names d.value) d.ty) p.0 in
      subst (λ (z : Seen). Agrees structs z.names (flow.declaration s d.name d.value).names) p.1
      (declaration_agrees structs seen.names s d.name d.value d.ty (is_type-some (in_body structs seen.names d.value) d.ty q.1) agrees)
  layer_fine (layer.Call c) seen given s all taken h agrees new =
      call_fine (record { keys = flow.signature_keys c.name (signature r.library c.target); calls = c.name ∷ [] }) c seen given s h agrees
  layer_fine (layer.Scatter b) seen given s all taken h agrees new =
      let p = then_parts (λ t. scatter_over b.item (body_step (map (gives r.library) (firsts b.body))) seen (out-Ty t)) (in_body structs seen.names b.over) given h in
      by_type p.0 p.1 (out-Ty p.0) refl p.2
    where
      by_type : (t : Ty) → in_body structs seen.names b.over ≡ Some t → (z : Ty-F Ty) → out-Ty t ≡ z → scatter_over b.item (body_step (map (gives r.library) (firsts b.body))) seen z ≡ Some given
          → Agrees structs given.names (scatter_run (body_names (map part (firsts b.body))) (body_run (map part (firsts b.body))) b.number b.item b.over s).names
      by_type t typed (type.Array u some) e h =
          let q = then_parts (λ g. Some (retyped (λ w. ty.Array w some) g)) (body_step (map (gives r.library) (firsts b.body)) (with_item seen b.item u)) given h in
          let same : retyped (λ w. ty.Array w some) q.0 ≡ given = cc in
          let array : t ≡ ty.Array u some = sym (roll-out-Ty t) ∙ ap roll-Ty e ∙ ty.rolls-Array u some in
          let n = and_parts (not (has_name b.item all)) (items_differ (firsts b.body) (b.item ∷ all)) new.items_new in
          subst (λ (z : Seen). Agrees structs z.names (scatter_run (body_names (map part (firsts b.body))) (body_run (map part (firsts b.body))) b.number b.item b.over s).names) same
          (scatter_fine b.body seen given q.0 s all taken b.number b.item b.over u some (typed ∙ ap (λ z. Some z) array) q.1 agrees
          (none_new all taken seen new.seen_taken new.taken_all) (not_true (has_name b.item all) n.0) n.1 new.declared_all new.declared_new)
      by_type t typed z e h = absurd (cc)
  layer_fine (layer.If b) seen given s all taken h agrees new =
      let p = then_parts (if_over (body_step (map (gives r.library) (firsts b.body))) seen) (in_body structs seen.names b.cond) given h in
      by_test (is_bool p.0) p.2
    where
      by_test : (t : Bool) → cond t (option_and_then (λ g. Some (retyped optional g)) (body_step (map (gives r.library) (firsts b.body)) seen)) None ≡ Some given
          → Agrees structs given.names (flow.if_run (body_names (map part (firsts b.body))) (body_run (map part (firsts b.body))) b.number b.cond s).names
      by_test true h =
          let q = then_parts (λ g. Some (retyped optional g)) (body_step (map (gives r.library) (firsts b.body)) seen) given h in
          let same : retyped optional q.0 ≡ given = cc in
          subst (λ (z : Seen). Agrees structs z.names (flow.if_run (body_names (map part (firsts b.body))) (body_run (map part (firsts b.body))) b.number b.cond s).names) same
          (if_fine b.body seen q.0 s all taken b.number b.cond q.1 agrees (record {
            seen_taken = new.seen_taken;
            taken_all = new.taken_all;
            declared_all = new.declared_all;
            declared_new = new.declared_new;
            items_new = new.items_new;
          }))
      by_test false h = absurd (cc)

  pub sound : (st : Statement) → Sound st
  sound = ind-Statement Sound (λ x y is. subst (λ (z : Statement-F Statement). Sound (roll-Statement z)) is (λ seen given s all taken h agrees new.
      let typed = sym (ap (λ (g : Giving). g seen) (fold-roll-Statement Giving (typed_step r.library) (plain y))) ∙ h in
      subst (λ (p : Part). Agrees structs given.names (run_of_part p s).names) (sym (fold-roll-Statement Part (statement_step r callee) (plain y)))
      (layer_fine y seen given s all taken typed agrees (layer_new all taken seen y new))))

  abbrev known_sound : (ss : List Statement) → List Kept
  known_sound [] = []
  known_sound (st ∷ ss) = (st, sound st) ∷ known_sound ss

  firsts_same : (ss : List Statement) → firsts (known_sound ss) ≡ ss
  firsts_same [] = refl
  firsts_same (st ∷ ss) = ap (λ zs. st ∷ zs) (firsts_same ss)

  pub body_sound : (ss : List Statement) (seen given : Seen) (s : Sight) (all taken : List (List ℕ)) → body_gives r.library ss seen ≡ Some given → Agrees structs seen.names s.names
      → IsNew all taken seen ss → Agrees structs given.names (in_turn (runs ss) s).names
  body_sound ss seen given s all taken h agrees new =
      subst (λ (zs : List Statement). body_gives r.library zs seen ≡ Some given → IsNew all taken seen zs → Agrees structs given.names (in_turn (runs zs) s).names) (firsts_same ss)
      (λ g n. body_fine (known_sound ss) seen given s all taken g agrees n) h new
