-- Calls of tasks that are the same but for their names and spans give the same, at each place and over the same answers.
use Rattle.std.proofs.Common.{◌≡◌, ℕ, zero, suc, ◌+◌, Bool, true, false, ◌&&◌, List, [], ◌∷◌, Option, Some, None, option_and_then, Ok, Err, slice_get, if◌then◌else◌, sym, ap, ◌∙◌, refl}
use Rattle.std.specs.List.{list_all}
use Rattle.std.specs.Str.{bytes_eq}
use Rattle.std.proofs.lemmas.Bool.{false≢true, and_parts}
use Rattle.std.proofs.lemmas.Slice.Eq.{bytes_eq-Decides}
use Rattle.wdl_base.specs.declared.answer.Answer.{Answer}
use Rattle.wdl_base.specs.declared.name.Key.{Key}
use Rattle.wdl_base.specs.declared.place.Segment.{Segment}
use Rattle.wdl_value.specs.declared.env.Bind.{Bind}
use Rattle.wdl_value.specs.Tables.{Row, answer_at}
use Rattle.wdl_typed.specs.declared.expr.TExpr.{TExpr}
use Rattle.wdl_typed.specs.declared.expr.TField.{TField}
use Rattle.wdl_typed.specs.declared.flow.TCall.{TCall}
use Rattle.wdl_typed.specs.declared.flow.Target.{Target}
use Rattle.wdl_typed.specs.declared.flow.Target.TheVariants as target
use Rattle.wdl_typed.specs.declared.task.TaskDef.{TaskDef}
use Rattle.wdl_typed.specs.Bodies.{Library, signature, task_signature}
use Rattle.wdl_typed.specs.Flow.{Callee, Flowing, Names, Run, Sight, args_known, args_met, asked, attempted, attempts, call_of, call_part, call_place, called, concluded, env_of, failing_at, has_ended, missing, output_keys, part, signature_keys, task_called, with_args, with_fault, with_jobs}
use Rattle.wdl_typed.specs.Requests.{Asked, Tried, asks, bad_status, is_success, job_dir, request, tells}
use Rattle.flow_laws.specs.Laws.{run_with}
use Rattle.wdl_same.specs.Exprs.{same_fields}
use Rattle.wdl_same.specs.Forms.{same_call, same_names, same_target}
use Rattle.wdl_same.specs.Partners.{is_partner, same_called, same_partners}
use Rattle.wdl_same.proofs.Equal.{args_equal}
use Rattle.wdl_same.proofs.Plain.{names_equal, plain_task, task_plain}
use Rattle.wdl_same.proofs.Paired.{partner_called}
use Rattle.wdl_same.proofs.PlainTasks.{asks_same, keys_unseen, tells_same}

-- Both name tasks, which are the same.
abbrev called_alike : List TaskDef → List TaskDef → Target → Target → Bool
called_alike tasks others (target.Task k) (target.Task j) = same_called (slice_get tasks k) (slice_get others j)
called_alike tasks others t u = false

module _ (a b : Library) (same : a.structs ≡ b.structs) (site : List ℕ) (table : List Row) where
  abbrev left : Run
  left = run_with a site table

  abbrev right : Run
  right = run_with b site table

  -- ---- attempts

  attempted_same : (n : Names) (place : List Segment) (t u : TaskDef) → plain_task t ≡ plain_task u → (call : List ℕ) (x : Asked) (k : ℕ) (last : Bool) (f g : Flowing) → f ≡ g
      → (o : Option Answer) → attempted left n place t call x k last f o ≡ attempted right n place u call x k last g o
  attempted_same n place t u e call x k last f g h None = refl
  attempted_same n place t u e call x k last f g h (Some answer) =
      let failed = with_fault (failing_at place (bad_status answer.status)) (missing n) in
      ap (λ (z : Tried (List Bind)). if is_success x.codes answer.status then concluded n place call z else (if last then failed else f))
      (tells_same x (job_dir site place k) answer a.structs b.structs same t u e)
      ∙ ap (λ (z : Flowing). if is_success x.codes answer.status then concluded n place call (tells b.structs u x (job_dir site place k) answer) else (if last then failed else z)) h

  attempts_same : (n : Names) (place : List Segment) (t u : TaskDef) → plain_task t ≡ plain_task u → (call : List ℕ) (x : Asked) (more k : ℕ)
      → attempts left n place t call x more k ≡ attempts right n place u call x more k
  attempts_same n place t u e call x zero k =
      ap (with_jobs (request site place k x ∷ []) (x.codes ∷ []))
      (attempted_same n place t u e call x k true (missing n) (missing n) refl (answer_at table place k))
  attempts_same n place t u e call x (suc more) k =
      ap (with_jobs (request site place k x ∷ []) (x.codes ∷ []))
      (attempted_same n place t u e call x k false (attempts left n place t call x more (k + 1)) (attempts right n place u call x more (k + 1))
      (attempts_same n place t u e call x more (k + 1)) (answer_at table place k))

  -- ---- tasks

  asked_same : (n : Names) (place : List Segment) (t u : TaskDef) → plain_task t ≡ plain_task u → (call : List ℕ) (o : Tried Asked)
      → asked left n place t call o ≡ asked right n place u call o
  asked_same n place t u e call (Ok x) = attempts_same n place t u e call x x.retries 0
  asked_same n place t u e call (Err x) = refl

  task_called_same : (n : Names) (place : List Segment) (call : List ℕ) (args : List Bind) (o p : Option TaskDef) → same_called o p ≡ true
      → task_called left n place call args o ≡ task_called right n place call args p
  task_called_same n place call args None p h = absurd (false≢true h)
  task_called_same n place call args (Some t) None h = absurd (false≢true h)
  task_called_same n place call args (Some t) (Some u) h =
      let e = task_plain t u h in
      asked_same n place t u e call (asks t args) ∙ ap (asked right n place u call) (asks_same t u e args)

  -- the names of the outputs
  abbrev outputs_at : List ℕ → Option TaskDef → List Key
  outputs_at call o = signature_keys call (option_and_then (λ (t : TaskDef). Some (task_signature t)) o)

  outputs_same : (call : List ℕ) (o p : Option TaskDef) → same_called o p ≡ true → outputs_at call o ≡ outputs_at call p
  outputs_same call None p h = absurd (false≢true h)
  outputs_same call (Some t) None h = absurd (false≢true h)
  outputs_same call (Some t) (Some u) h =
      sym (keys_unseen call t.outputs) ∙ ap (λ (w : TaskDef). output_keys call w.outputs) (task_plain t u h) ∙ keys_unseen call u.outputs

  -- ---- calls

  module _ (f g : Callee) where
    called_same : (n : Names) (place : List Segment) (c d : TCall) → c.name ≡ d.name → (args : List Bind) (t u : Target) → called_alike a.tasks b.tasks t u ≡ true
        → called left f n place c args t ≡ called right g n place d args u
    called_same n place c d e args (target.Task k) (target.Task j) h =
        task_called_same n place c.name args (slice_get a.tasks k) (slice_get b.tasks j) h
        ∙ ap (λ (name : List ℕ). task_called right n place name args (slice_get b.tasks j)) e
    called_same n place c d e args (target.Task k) (target.Flow j) h = absurd (false≢true h)
    called_same n place c d e args (target.Flow k) (target.Task j) h = absurd (false≢true h)
    called_same n place c d e args (target.Flow k) (target.Flow j) h = absurd (false≢true h)

    with_args_same : (n : Names) (place : List Segment) (c d : TCall) → c.name ≡ d.name → called_alike a.tasks b.tasks c.target d.target ≡ true → (o : Tried (List Bind))
        → with_args left f n place c o ≡ with_args right g n place d o
    with_args_same n place c d e h (Ok args) = called_same n place c d e args c.target d.target h
    with_args_same n place c d e h (Err x) = refl

    -- what a call of that name gives, with these arguments, behind these calls
    abbrev calling : Names → TCall → List ℕ → List (TField TExpr) → List (List ℕ) → Sight → Flowing
    calling n d name args after s =
        if args_known s.names args && list_all (has_ended s.calls) after
        then with_args right g n (call_place s name) d (args_met (env_of s.names) args) else missing n

    run_same : (n : Names) (c d : TCall) → c.name ≡ d.name → c.args ≡ d.args → c.after ≡ d.after → called_alike a.tasks b.tasks c.target d.target ≡ true
        → (s : Sight) → call_of left f n c s ≡ call_of right g n d s
    run_same n c d name args after h s =
        ap (λ (x : Flowing). if args_known s.names c.args && list_all (has_ended s.calls) c.after then x else missing n)
        (with_args_same n (call_place s c.name) c d name h (args_met (env_of s.names) c.args))
        ∙ ap (λ (x : List ℕ). calling n d x c.args c.after s) name
        ∙ ap (λ (x : List (TField TExpr)). calling n d d.name x c.after s) args
        ∙ ap (λ (x : List (List ℕ)). calling n d d.name d.args x s) after

    -- the names that a call gives out
    abbrev given_out : Library → List ℕ → Target → Names
    given_out lib name t = record { keys = signature_keys name (signature lib t); calls = name ∷ [] }

    given_out_same : (name : List ℕ) (t u : Target) → called_alike a.tasks b.tasks t u ≡ true → given_out a name t ≡ given_out b name u
    given_out_same name (target.Task k) (target.Task j) h =
        ap (λ (ks : List Key). record { keys = ks; calls = name ∷ [] }) (outputs_same name (slice_get a.tasks k) (slice_get b.tasks j) h)
    given_out_same name (target.Task k) (target.Flow j) h = absurd (false≢true h)
    given_out_same name (target.Flow k) (target.Task j) h = absurd (false≢true h)
    given_out_same name (target.Flow k) (target.Flow j) h = absurd (false≢true h)

    -- ---- by their partners

    module _ (partners owners : List (Option ℕ)) (sound : same_partners b.tasks a.tasks partners ≡ true) where
      targets_alike : (t u : Target) → same_target partners owners t u ≡ true → called_alike a.tasks b.tasks t u ≡ true
      targets_alike (target.Task k) (target.Task j) h = partner_called b.tasks a.tasks partners sound k j (and_parts (is_partner partners k j) (is_partner owners j k) h).0
      targets_alike (target.Task k) (target.Flow j) h = absurd (false≢true h)
      targets_alike (target.Flow k) (target.Task j) h = absurd (false≢true h)
      targets_alike (target.Flow k) (target.Flow j) h = absurd (false≢true h)

      pub call_same : (c d : TCall) → same_call partners owners c d ≡ true
          → call_part left f c (given_out a c.name c.target) ≡ call_part right g d (given_out b d.name d.target)
      call_same c d h =
          let names = bytes_eq c.name d.name in
          let x = and_parts (names && same_names c.after d.after && same_fields c.args d.args) (same_target partners owners c.target d.target) h in
          let y = and_parts (names && same_names c.after d.after) (same_fields c.args d.args) x.0 in
          let z = and_parts names (same_names c.after d.after) y.0 in
          let name = (bytes_eq-Decides c.name d.name).0 z.0 in
          let are_alike = targets_alike c.target d.target x.1 in
          let n = given_out a c.name c.target in
          ap (part n) (λ i s. run_same n c d name (args_equal c.args d.args y.1) (names_equal c.after d.after z.1) are_alike s i)
          ∙ ap (λ (m : Names). part m (call_of right g m d))
          (given_out_same c.name c.target d.target are_alike ∙ ap (λ (q : List ℕ). given_out b q d.target) name)
