-- Calls of tasks and of workflows, over a table and over one that answers more.
use Rattle.std.proofs.Common.{◌≡◌, ℕ, true, ◌&&◌, List, [], ◌∷◌, map, Option, Some, None, option_and_then, slice_get, Ok, Err, sym, ap, ◌∙◌, subst, refl}
use Rattle.std.specs.List.{list_all}
use Rattle.std.proofs.lemmas.Bool.{and_from, and_parts}
use Rattle.wdl_base.specs.declared.name.Key.{Key}
use Rattle.wdl_base.specs.declared.place.Segment.{Segment}
use Rattle.wdl_value.specs.declared.env.Bind.{Bind}
use Rattle.wdl_value.specs.declared.value.Value.{Value}
use Rattle.wdl_value.specs.Outcome.{Outcome}
use Rattle.wdl_value.specs.Tables.{Row}
use Rattle.wdl_typed.specs.declared.expr.TExpr.{TExpr}
use Rattle.wdl_typed.specs.declared.expr.TField.{TField}
use Rattle.wdl_typed.specs.declared.flow.FlowDef.{FlowDef}
use Rattle.wdl_typed.specs.declared.flow.TCall.{TCall}
use Rattle.wdl_typed.specs.declared.flow.Target.{Target}
use Rattle.wdl_typed.specs.declared.flow.Target.TheVariants as target
use Rattle.wdl_typed.specs.declared.task.TDecl.{TDecl}
use Rattle.wdl_typed.specs.declared.task.TaskDef.{TaskDef}
use Rattle.wdl_typed.specs.Bodies.{Library, flow_signature, signature, task_signature}
use Rattle.wdl_typed.specs.Declarations.{plain_key}
use Rattle.wdl_typed.specs.Evaluation.{value_of}
use Rattle.wdl_typed.specs.Flow.{Callee, Flowing, Known, Names, Runner, Sight, all_known, arg_bind, args_known, args_met, call_of, call_place, called, env_of, failing_at, flow_called, flow_ended, has_ended, is_clean, missing, named_arg, output_keys, output_of, signature_keys, task_called, with_args, with_fault}
use Rattle.wdl_typed.specs.Requests.{Tried, asks, before, tried}
use Rattle.flow_laws.specs.Below.{AnswersStay, IsBelow, Stays}
use Rattle.flow_laws.specs.Laws.{run_with}
use Rattle.flow_laws.proofs.Agree.{value_same}
use Rattle.flow_laws.proofs.Attempts.{asked_gives, asked_same, asked_under}
use Rattle.flow_laws.proofs.Guarded.{fresh_stays, guarded_good}
use Rattle.flow_laws.proofs.KnownNames.{NamesStay, keys_of, known_agree, known_expr_stays}
use Rattle.flow_laws.proofs.Runners.{Good, sight}
use Rattle.flow_laws.proofs.Under.{Gives, Under, all_ended_stay, missing_gives, under_itself}
use Rattle.wdl_typed.specs.Scope.{lookup}

-- What one callee gives is below what the other one gives.
abbrev pub CalleesBelow : Callee → Callee → Type 0
CalleesBelow c d = (k : ℕ) (args : List Bind) (place : List Segment) → IsBelow (c k args place) (d k args place)

-- ---- arguments

module _ (ks ls : List Known) (stay : (key : Key) → Stays (lookup (env_of ks) key) (lookup (env_of ls) key)) where
  pub args_stay : (as_ : List (TField TExpr)) → args_known ks as_ ≡ true → args_known ls as_ ≡ true
  args_stay [] h = refl
  args_stay (a ∷ as_) h =
      let p = and_parts (all_known ks a.value) (args_known ks as_) h in
      and_from (all_known ls a.value) (args_known ls as_) (known_expr_stays ks ls stay a.value p.0) (args_stay as_ p.1)

  pub args_same : (as_ : List (TField TExpr)) → args_known ks as_ ≡ true → args_met (env_of ks) as_ ≡ args_met (env_of ls) as_
  args_same [] h = refl
  args_same (a ∷ as_) h =
      let p = and_parts (all_known ks a.value) (args_known ks as_) h in
      ap (λ (r : Outcome Value). tried (named_arg a.name r) (λ x. tried (args_met (env_of ks) as_) (λ rest. Ok (arg_bind a.name x ∷ rest))))
      (value_same (env_of ks) (env_of ls) a.value (known_agree ks ls stay a.value p.0))
      ∙ ap (λ (r : Tried (List Bind)). tried (named_arg a.name (value_of (before (env_of ls)) a.value)) (λ x. tried r (λ rest. Ok (arg_bind a.name x ∷ rest)))) (args_same as_ p.1)

-- ---- calls of tasks

module _ (lib : Library) (site : List ℕ) (n : Names) (place : List Segment) (call : List ℕ) (args : List Bind) (calls : n.calls ≡ call ∷ []) where
  task_gives : (table : List Row) (o : Option TaskDef) → n.keys ≡ signature_keys call (option_and_then (λ t. Some (task_signature t)) o) → Gives n (task_called (run_with lib site table) n place call args o)
  task_gives table None keys = missing_gives n
  task_gives table (Some t) keys = asked_gives lib site n place t call keys calls table (asks t args)

  task_under : (a b : List Row) → AnswersStay a b → (o : Option TaskDef) → n.keys ≡ signature_keys call (option_and_then (λ t. Some (task_signature t)) o)
      → Under (task_called (run_with lib site a) n place call args o) (task_called (run_with lib site b) n place call args o)
  task_under a b stay None keys = under_itself (missing n)
  task_under a b stay (Some t) keys = asked_under lib site n place t call keys calls a b stay (asks t args)

  task_same : (a b : List Row) → AnswersStay a b → (o : Option TaskDef) → n.keys ≡ signature_keys call (option_and_then (λ t. Some (task_signature t)) o)
      → is_clean (task_called (run_with lib site a) n place call args o) ≡ true → task_called (run_with lib site a) n place call args o ≡ task_called (run_with lib site b) n place call args o
  task_same a b stay None keys h = refl
  task_same a b stay (Some t) keys h = asked_same lib site n place t call keys calls a b stay (asks t args) h

-- ---- calls of workflows

pub flow_keys : (call : List ℕ) (names : List Known) (ds : List TDecl) → keys_of (map (output_of names call) ds) ≡ output_keys call ds
flow_keys call names [] = refl
flow_keys call names (d ∷ ds) = ap (λ (ks : List Key). record { first = call; second = Some d.name } ∷ ks) (flow_keys call names ds)

flow_names_stay : (call : List ℕ) (f g : Flowing) → IsBelow f g → (ds : List TDecl) → NamesStay (map (output_of f.names call) ds) (map (output_of g.names call) ds)
flow_names_stay call f g h [] = tt
flow_names_stay call f g h (d ∷ ds) = (record { key = refl; value = h.names (plain_key d.name) }, flow_names_stay call f g h ds)

module _ (n : Names) (place : List Segment) (call : List ℕ) (args : List Bind) (k : ℕ) (calls : n.calls ≡ call ∷ []) where
  callee_gives : (c : Callee) (o : Option FlowDef) → n.keys ≡ signature_keys call (option_and_then (λ f. Some (flow_signature f)) o) → Gives n (flow_called c n place call args k o)
  callee_gives c None keys = missing_gives n
  callee_gives c (Some f) keys = record { keys = flow_keys call (c k args place).names f.outputs ∙ sym keys; calls = sym calls }

  callee_under : (c d : Callee) → CalleesBelow c d → (o : Option FlowDef) → Under (flow_called c n place call args k o) (flow_called d n place call args k o)
  callee_under c d below None = under_itself (missing n)
  callee_under c d below (Some f) =
      let h = below k args place in
      record {
        names = flow_names_stay call (c k args place) (d k args place) h f.outputs;
        calls = (record { call = refl; ended = λ e. ap is_clean (sym (h.clean e)) ∙ e }, tt);
        jobs = h.jobs;
        size = h.size;
        faults = h.faults;
        count = h.count;
      }

  callee_same : (c d : Callee) → CalleesBelow c d → (o : Option FlowDef) → is_clean (flow_called c n place call args k o) ≡ true → flow_called c n place call args k o ≡ flow_called d n place call args k o
  callee_same c d below None h = refl
  callee_same c d below (Some f) h = ap (flow_ended call f.outputs) ((below k args place).clean h)

-- ---- calls

module _ (lib : Library) (site : List ℕ) (a b : List Row) (stay : AnswersStay a b) (f g : Callee) (below : CalleesBelow f g) (c : TCall) where
  abbrev pub call_names : Names
  call_names = record { keys = signature_keys c.name (signature lib c.target); calls = c.name ∷ [] }

  called_gives : (table : List Row) (h : Callee) (place : List Segment) (args : List Bind) (t : Target) (n : Names) → n.keys ≡ signature_keys c.name (signature lib t) → n.calls ≡ c.name ∷ [] → Gives n (called (run_with lib site table) h n place c args t)
  called_gives table h place args (target.Task k) n keys calls = task_gives lib site n place c.name args calls table (slice_get lib.tasks k) keys
  called_gives table h place args (target.Flow k) n keys calls = callee_gives n place c.name args k calls h (slice_get lib.flows k) keys

  called_under : (place : List Segment) (args : List Bind) (t : Target) (n : Names) → n.keys ≡ signature_keys c.name (signature lib t) → n.calls ≡ c.name ∷ [] → Under (called (run_with lib site a) f n place c args t) (called (run_with lib site b) g n place c args t)
  called_under place args (target.Task k) n keys calls = task_under lib site n place c.name args calls a b stay (slice_get lib.tasks k) keys
  called_under place args (target.Flow k) n keys calls = callee_under n place c.name args k calls f g below (slice_get lib.flows k)

  called_same : (place : List Segment) (args : List Bind) (t : Target) (n : Names) → n.keys ≡ signature_keys c.name (signature lib t) → n.calls ≡ c.name ∷ []
      → is_clean (called (run_with lib site a) f n place c args t) ≡ true → called (run_with lib site a) f n place c args t ≡ called (run_with lib site b) g n place c args t
  called_same place args (target.Task k) n keys calls h = task_same lib site n place c.name args calls a b stay (slice_get lib.tasks k) keys h
  called_same place args (target.Flow k) n keys calls h = callee_same n place c.name args k calls f g below (slice_get lib.flows k) h

  args_give : (table : List Row) (h : Callee) (place : List Segment) (r : Tried (List Bind)) → Gives call_names (with_args (run_with lib site table) h call_names place c r)
  args_give table h place (Ok args) = called_gives table h place args c.target call_names refl refl
  args_give table h place (Err e) = let m = missing_gives call_names in record { keys = m.keys; calls = m.calls }

  args_under : (place : List Segment) (r : Tried (List Bind)) → Under (with_args (run_with lib site a) f call_names place c r) (with_args (run_with lib site b) g call_names place c r)
  args_under place (Ok args) = called_under place args c.target call_names refl refl
  args_under place (Err e) = under_itself (with_fault (failing_at place e) (missing call_names))

  args_clean : (place : List Segment) (r : Tried (List Bind)) → is_clean (with_args (run_with lib site a) f call_names place c r) ≡ true
      → with_args (run_with lib site a) f call_names place c r ≡ with_args (run_with lib site b) g call_names place c r
  args_clean place (Ok args) h = called_same place args c.target call_names refl refl h
  args_clean place (Err e) h = refl

  abbrev asking : List Row → Callee → Runner
  asking table h s = with_args (run_with lib site table) h call_names (call_place s c.name) c (args_met (env_of s.names) c.args)

  pub call_good : (taken : List (List ℕ)) → Good taken call_names (call_of (run_with lib site a) f call_names c) (call_of (run_with lib site b) g call_names c)
  call_good taken =
      guarded_good taken call_names (λ (s : Sight). args_known s.names c.args && list_all (has_ended s.calls) c.after) (asking a f) (asking b g)
      (λ s. args_give a f (call_place s c.name) (args_met (env_of s.names) c.args))
      (λ s. args_give b g (call_place s c.name) (args_met (env_of s.names) c.args))
      (λ p ks ls cs ds u v free h.
      let parts = and_parts (args_known ks c.args) (list_all (has_ended cs) c.after) h in
      and_from (args_known ls c.args) (list_all (has_ended ds) c.after) (args_stay ks ls (fresh_stays taken call_names.keys ks ls u free) c.args parts.0) (all_ended_stay cs ds v c.after parts.1))
      (λ p ks ls cs ds u v free h.
      let parts = and_parts (args_known ks c.args) (list_all (has_ended cs) c.after) h in
      let place = call_place (sight p ks cs) c.name in
      subst (λ (r : Tried (List Bind)). Under (asking a f (sight p ks cs)) (with_args (run_with lib site b) g call_names place c r))
      (args_same ks ls (fresh_stays taken call_names.keys ks ls u free) c.args parts.0) (args_under place (args_met (env_of ks) c.args)))
      (λ s h. args_clean (call_place s c.name) (args_met (env_of s.names) c.args) h)
