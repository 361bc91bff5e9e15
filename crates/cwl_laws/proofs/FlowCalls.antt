-- A call of a workflow and the step that is its image.
use Rattle.std.proofs.Common.{◌≡◌, ℕ, inl, inr, Bool, true, false, cond, ◌&&◌, ◌||◌, List, [], ◌∷◌, ◌++◌, map, Option, Some, None, option_and_then, Contains, sym, ap, ◌∙◌, subst, refl}
use Rattle.std.specs.List.{list_all}
use Rattle.std.specs.Str.{bytes_eq}
use Rattle.std.proofs.lemmas.Bool.{false≢true}
use Rattle.std.proofs.lemmas.Slice.Eq.{bytes_eq-Decides}
use Rattle.wdl_base.specs.declared.name.Key.{Key}
use Rattle.wdl_base.specs.declared.place.Segment.{Segment}
use Rattle.wdl_value.specs.declared.env.Bind.{Bind}
use Rattle.wdl_value.specs.declared.value.Value.{Value}
use Rattle.wdl_value.specs.Fits.{Structs}
use Rattle.wdl_typed.specs.declared.flow.FlowDef.{FlowDef}
use Rattle.wdl_typed.specs.declared.flow.TCall.{TCall}
use Rattle.wdl_typed.specs.declared.scope.Bound.{Bound}
use Rattle.wdl_typed.specs.declared.task.TDecl.{TDecl}
use Rattle.wdl_typed.specs.Bodies.{flow_signature, signature}
use Rattle.wdl_typed.specs.Declarations.{decl_names, plain_key}
use Rattle.wdl_typed.specs.Flow.{Callee, Flowing, Known, Names, Run, Sight, args_met, call_of, call_place, called, env_of, failing_at, flow_called, flow_ended, has_ended, missing, output_keys, output_of, with_args, with_fault}
use Rattle.wdl_typed.specs.Lists.{has_name}
use Rattle.wdl_typed.specs.Requests.{Tried}
use Rattle.wdl_typed.specs.Scope.{lookup}
use Rattle.flow_laws.proofs.Under.{Gives}
use Rattle.cwl_model.specs.Means.{Meaning, Named, Running, all_taken, are_typed, are_within, flow_gives, given_outputs, incomplete, known_at_last, running, step_means, value_at, wired_means}
use Rattle.cwl_model.specs.Rounds.{Linked}
use Rattle.cwl_model.proofs.Rounds.{first_is, later_is, or_else}
use Rattle.cwl_image.specs.Image.{Scope, Targets, call_draft, call_output, cwl_in, signature_outputs, step_of}
use Rattle.cwl_laws.specs.Laws.{Agrees, Fit, Given, Shows, Simulates, all_running, as_running, has_key}
use Rattle.cwl_laws.specs.Premises.{AreGiven, FlowsAgree}
use Rattle.cwl_laws.specs.Tools.{IsFlowCall, ground_of}
use Rattle.cwl_laws.proofs.Blocks.{running_flow}
use Rattle.cwl_laws.proofs.Bodies.{bound_lookup}
use Rattle.cwl_laws.proofs.Calls.{args_meet, args_past, args_typed}
use Rattle.cwl_laws.proofs.Reading.{MetBy, args_are_known, args_are_met, args_are_wired, args_object}
use Rattle.cwl_laws.proofs.TaskCalls.{bind_of, binds_at, call_own}
use Rattle.cwl_laws.proofs.Workflows.{named_among}
use Rattle.flow_laws.proofs.Called.{flow_keys as ended_keys}

-- ---- what the callee gives, as the call's outputs

abbrev out_key : List ℕ → List ℕ → Key
out_key call name = record { first = call; second = Some name }

ended_at : (names : List Known) (call : List ℕ) (ds : List TDecl) (name : List ℕ) (x : Value) → lookup (env_of names) (plain_key name) ≡ Some x → has_name name (decl_names ds) ≡ true
    → lookup (env_of (map (output_of names call) ds)) (out_key call name) ≡ Some x
ended_at names call [] name x e h = absurd (false≢true h)
ended_at names call (d ∷ ds) name x e h =
    bound_lookup (out_key call d.name) (lookup (env_of names) (plain_key d.name)) (env_of (map (output_of names call) ds)) (out_key call name)
    ∙ ap (λ b. or_else (cond (b && bytes_eq d.name name) (lookup (env_of names) (plain_key d.name)) None) (lookup (env_of (map (output_of names call) ds)) (out_key call name))) ((bytes_eq-Decides call call).1 refl)
    ∙ by_test (λ k. ended_at names call ds name x e k) (bytes_eq d.name name) refl h
  where
    by_test : (has_name name (decl_names ds) ≡ true → lookup (env_of (map (output_of names call) ds)) (out_key call name) ≡ Some x) → (b : Bool) → bytes_eq d.name name ≡ b → (b || has_name name (decl_names ds)) ≡ true
        → or_else (cond b (lookup (env_of names) (plain_key d.name)) None) (lookup (env_of (map (output_of names call) ds)) (out_key call name)) ≡ Some x
    by_test rest true s k =
        ap (λ o. or_else o (lookup (env_of (map (output_of names call) ds)) (out_key call name))) (ap (λ (n : List ℕ). lookup (env_of names) (plain_key n)) ((bytes_eq-Decides d.name name).0 s) ∙ e)
    by_test rest false s k = rest k

listed_at : (ds : List TDecl) (names : List Known) (ns : List Named) → AreGiven ds names ns → (name : List ℕ) (x : Value) → lookup (env_of names) (plain_key name) ≡ Some x → has_name name (decl_names ds) ≡ true
    → value_at ns name ≡ Some x
listed_at [] names [] g name x e h = absurd (false≢true h)
listed_at [] names (n ∷ ns) g name x e h = absurd g
listed_at (d ∷ ds) names [] g name x e h = absurd g
listed_at (d ∷ ds) names (n ∷ ns) g name x e h =
    ap (λ (i : List ℕ). cond (bytes_eq i name) (Some n.value) (value_at ns name)) g.0 ∙ by_test (λ k. listed_at ds names ns g.3 name x e k) (bytes_eq d.name name) refl h
  where
    by_test : (has_name name (decl_names ds) ≡ true → value_at ns name ≡ Some x) → (b : Bool) → bytes_eq d.name name ≡ b → (b || has_name name (decl_names ds)) ≡ true → cond b (Some n.value) (value_at ns name) ≡ Some x
    by_test rest true s k = sym (ap (λ (m : List ℕ). lookup (env_of names) (plain_key m)) (sym ((bytes_eq-Decides d.name name).0 s)) ∙ g.1) ∙ e
    by_test rest false s k = rest k

outs_given : (call : List ℕ) (all : List TDecl) (names : List Known) (ms : List Named) → AreGiven all names ms → (ds : List TDecl) (ns : List Named) → ((d : TDecl) → Contains ds d → has_name d.name (decl_names all) ≡ true)
    → AreGiven ds names ns → Given (map (call_output call) ds) (map (output_of names call) all) ms
outs_given call all names ms whole [] ns within g = tt
outs_given call all names ms whole (d ∷ ds) [] within g = absurd g
outs_given call all names ms whole (d ∷ ds) (n ∷ ns) within g =
    let c = within d (first_is d ds) in (
      (n.value, ended_at names call all d.name n.value g.1 c, listed_at all names ms whole d.name n.value g.1 c, g.2),
      outs_given call all names ms whole ds ns (λ e i. within e (later_is d ds e i)) g.3,
    )

-- What a callee gives, as the call gives it.
pub ended_agrees : (call : List ℕ) (outs : List TDecl) (f : Flowing) (m : Meaning) → FlowsAgree outs f m → Agrees (map (call_output call) outs) (flow_ended call outs f) m
ended_agrees call outs f m a =
    record {
      clean = a.clean;
      jobs = λ h. a.jobs h;
      given = λ h.
          let r = a.outputs h in
          subst (λ (o : Option (List Named)). Given (map (call_output call) outs) (map (output_of f.names call) outs) (given_outputs o)) (sym r.1)
          (outs_given call outs f.names r.0 r.2 outs r.0 (λ d c. named_among outs d c) r.2);
    }

-- ---- calls

module _ (r : Run) (callee : Callee) (n : Names) (seen : List Bound) (scope : Scope) (processes : Targets) (c : TCall) (k : ℕ) (f : FlowDef)
    (keys : n.keys ≡ output_keys c.name f.outputs) (calls : n.calls ≡ c.name ∷ []) (is : IsFlowCall r callee seen scope processes c k f) where
  abbrev structs : Structs
  structs = r.library.structs

  outs_are : (call_draft r.library processes c).outs ≡ map (call_output c.name) f.outputs
  outs_are =
      ap (λ g. signature_outputs c.name (signature r.library g)) is.target
      ∙ ap (λ o. signature_outputs c.name (option_and_then (λ u. Some (flow_signature u)) o)) is.flow

  flow_gives_keys : (place : List Segment) (args : List Bind) → Gives n (called r callee n place c args c.target)
  flow_gives_keys place args =
      subst (λ g. Gives n (called r callee n place c args g)) (sym is.target)
      (subst (λ o. Gives n (flow_called callee n place c.name args k o)) (sym is.flow)
      (record { keys = ended_keys c.name (callee k args place).names f.outputs ∙ sym keys; calls = sym calls }))

  call_agrees : (s : Sight) (kn : List Linked) → Fit r.library.structs seen s.names → Shows scope s.names kn
      → Agrees (map (call_output c.name) f.outputs) (call_of r callee n c s) (step_means s.place kn (as_running (ground_of r) (step_of (call_draft r.library processes c) scope)))
  call_agrees s kn fit shows =
      subst (λ (h : Flowing). Agrees (map (call_output c.name) f.outputs) h (step_means s.place kn (as_running (ground_of r) (step_of (call_draft r.library processes c) scope)))) (sym run_is)
      (subst (Agrees (map (call_output c.name) f.outputs) (with_args r callee n (call_place s c.name) c (args_met (env_of s.names) c.args))) (sym means_is)
      (by_met (args_met (env_of s.names) c.args) (args_are_met structs seen scope f.inputs s.names kn fit shows c.args is.call.args)))
    where
      object : List Named
      object = args_object structs seen scope f.inputs s.names kn fit shows c.args is.call.args

      typed : are_typed object (map cwl_in f.inputs) ≡ true
      typed = args_typed structs seen scope f.inputs s.names kn fit shows is.call.inputs_differ is.call.inputs c.args is.call.args is.call.args_given

      run_is : call_of r callee n c s ≡ with_args r callee n (call_place s c.name) c (args_met (env_of s.names) c.args)
      run_is =
          ap (λ b. cond (b && list_all (has_ended s.calls) c.after) (with_args r callee n (call_place s c.name) c (args_met (env_of s.names) c.args)) (missing n)) (args_are_known structs seen scope f.inputs s.names kn fit shows c.args is.call.args)
          ∙ ap (λ a. cond (list_all (has_ended s.calls) a) (with_args r callee n (call_place s c.name) c (args_met (env_of s.names) c.args)) (missing n)) is.call.after

      means_is : step_means s.place kn (as_running (ground_of r) (step_of (call_draft r.library processes c) scope)) ≡ running (ground_of r) (processes c.target) true (call_place s c.name) object
      means_is =
          ap (wired_means s.place (as_running (ground_of r) (step_of (call_draft r.library processes c) scope))) (args_are_wired structs seen scope f.inputs s.names kn fit shows c.args is.call.args)
          ∙ ap (λ w. running (ground_of r) (processes c.target) true (s.place ++ w ∷ []) object) is.call.place

      by_met : (o : Tried (List Bind)) → MetBy structs seen scope f.inputs s.names kn fit shows o object
          → Agrees (map (call_output c.name) f.outputs) (with_args r callee n (call_place s c.name) c o) (running (ground_of r) (processes c.target) true (call_place s c.name) object)
      by_met o (inl h) =
          subst (λ (q : Tried (List Bind)). Agrees (map (call_output c.name) f.outputs) (with_args r callee n (call_place s c.name) c q) (running (ground_of r) (processes c.target) true (call_place s c.name) object)) (sym h.1)
          (subst (λ g. Agrees (map (call_output c.name) f.outputs) (called r callee n (call_place s c.name) c (map bind_of object) g) (running (ground_of r) (processes c.target) true (call_place s c.name) object)) (sym is.target)
          (subst (λ q. Agrees (map (call_output c.name) f.outputs) (flow_called callee n (call_place s c.name) c.name (map bind_of object) k q) (running (ground_of r) (processes c.target) true (call_place s c.name) object)) (sym is.flow)
          (ended_agrees c.name f.outputs (callee k (map bind_of object) (call_place s c.name)) (running (ground_of r) (processes c.target) true (call_place s c.name) object)
          (is.agrees (map bind_of object) object (call_place s c.name) (binds_at object)
          (args_meet structs seen scope f.inputs s.names kn fit shows is.call.inputs_differ is.call.inputs c.args is.call.args is.call.args_given h.0)))))
      by_met o (inr h) =
          subst (λ (q : Tried (List Bind)). Agrees (map (call_output c.name) f.outputs) (with_args r callee n (call_place s c.name) c q) (running (ground_of r) (processes c.target) true (call_place s c.name) object)) (sym h.1.1)
          (subst (Agrees (map (call_output c.name) f.outputs) (with_fault (failing_at (call_place s c.name) h.1.0) (missing n))) (sym stuck)
          (record { clean = refl; jobs = λ e. absurd (false≢true e); given = λ e. absurd (false≢true e) }))
        where
          past : are_within (all_taken object (map cwl_in f.inputs)) ≡ false
          past = args_past structs seen scope f.inputs s.names kn fit shows is.call.inputs_differ is.call.inputs c.args is.call.args is.call.args_given is.call.args_differ h.0

          whole : Meaning
          whole =
              flow_gives true is.outs (known_at_last (call_place s c.name) (all_running (ground_of r) is.steps) (all_taken object (map cwl_in f.inputs)))
              (map (step_means (call_place s c.name) (known_at_last (call_place s c.name) (all_running (ground_of r) is.steps) (all_taken object (map cwl_in f.inputs)))) (all_running (ground_of r) is.steps))

          stuck : running (ground_of r) (processes c.target) true (call_place s c.name) object ≡ incomplete
          stuck =
              ap (λ p. running (ground_of r) p true (call_place s c.name) object) is.process
              ∙ ap (λ (g : Running). g true (call_place s c.name) object) (running_flow (ground_of r) (map cwl_in f.inputs) is.outs is.steps)
              ∙ ap (λ b. cond (b && (false || are_within (all_taken object (map cwl_in f.inputs)))) whole incomplete) typed
              ∙ ap (λ b. cond b whole incomplete) past

  -- A call of a workflow agrees with its step.
  pub flow_call_simulates : Simulates (ground_of r) structs seen scope (call_of r callee n c) (call_draft r.library processes c)
  flow_call_simulates =
      record {
        own = λ s key h. call_own r callee n c f.outputs keys flow_gives_keys s key (ap (λ os. has_key os key) (sym outs_are) ∙ h);
        agrees = λ s kn fit shows new items.
            subst (λ os. Agrees os (call_of r callee n c s) (step_means s.place kn (as_running (ground_of r) (step_of (call_draft r.library processes c) scope)))) (sym outs_are) (call_agrees s kn fit shows);
      }
