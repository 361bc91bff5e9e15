-- A task call and a step that runs its tool, once the inputs and the command are known.
use Rattle.std.proofs.Common.{◌≡◌, ◌<◌, ℕ, zero, Bool, true, false, cond, ◌&&◌, List, [], ◌∷◌, ◌++◌, map, Option, Some, None, option_and_then, Ok, Err, Contains, ◌⊎◌, inl, inr, sym, ap, ◌∙◌, subst, refl}
use Rattle.std.specs.Str.{bytes_eq}
use Rattle.std.proofs.lemmas.Bool.{false≢true}
use Rattle.std.proofs.lemmas.Slice.Eq.{bytes_eq-Decides}
use Rattle.std.proofs.lemmas.Option.{same_Some}
use Rattle.wdl_base.specs.declared.answer.Answer.{Answer}
use Rattle.wdl_base.specs.declared.place.Segment.{Segment}
use Rattle.wdl_value.specs.declared.env.Bind.{Bind}
use Rattle.wdl_value.specs.declared.value.Value.{Value, out-Value}
use Rattle.wdl_value.specs.declared.value.Value.TheVariants as v
use Rattle.wdl_value.specs.Outcome.{Outcome}
use Rattle.wdl_value.specs.Tables.{answer_at}
use Rattle.wdl_typed.specs.declared.task.TDecl.{TDecl}
use Rattle.wdl_typed.specs.declared.task.TaskDef.{TaskDef}
use Rattle.wdl_typed.specs.Flow.{Flowing, Names, Run, attempted, attempts, bound_output, concluded, env_of, failing_at, missing, with_fault, with_jobs}
use Rattle.wdl_typed.specs.Requests.{Asked, Tried, bad_status, bind, is_success, job_dir, named as called, output_met, outputs_met, request, tried}
use Rattle.wdl_typed.specs.Scope.{lookup, same_key}
use Rattle.cwl_model.specs.declared.tool.Tool.{Tool}
use Rattle.cwl_model.specs.declared.tool.ToolOut.{ToolOut}
use Rattle.cwl_model.specs.declared.ty.CwlTy.{fold-roll-CwlTy}
use Rattle.cwl_model.specs.declared.ty.CwlTy.TheVariants as cwl
use Rattle.cwl_model.specs.declared.ty.CwlTy.TheOpen as type
use Rattle.cwl_model.specs.Means as means
use Rattle.cwl_model.specs.Means.{Meaning, Named, Test, file_at, files_at, has_type, named, told, tool_run, typed_at, value_at}
use Rattle.cwl_model.proofs.Rounds.{first_is, first_or_later, later_is, none_is}
use Rattle.cwl_image.specs.Image.{Output, call_output}
use Rattle.cwl_laws.specs.Laws.{Agrees, Given}
use Rattle.cwl_laws.specs.Tools.{AreStatuses, IsFile, SameOutputs, SameValue, ground_of}

-- ---- what an answer tells

-- the outputs of both, or none of both
abbrev pub ToldAgree : List Output → List ℕ → Tried (List Bind) → Option (List Named) → Type 0
ToldAgree outs call (Ok bs) (Some ns) = Given outs (map (bound_output call) bs) ns
ToldAgree outs call (Err f) None = Unit {0}
ToldAgree outs call (Ok bs) None = ⊥
ToldAgree outs call (Err f) (Some ns) = ⊥

module _ (r : Run) (n : Names) (place : List Segment) (t : TaskDef) (call : List ℕ) (a : Asked) (tool : Tool) (outs : List Output)
    (no_retries : a.retries ≡ zero) (small : AreStatuses r.table)
    (success : (status : ℕ) → status < 256 → is_success a.codes status ≡ means.is_success tool.codes status)
    (tell : (answer : Answer) → ToldAgree outs call (outputs_met r.library.structs (job_dir r.site place 0) answer a.env t.outputs) (files_at (ground_of r) place answer tool.outputs)) where
  abbrev One : Flowing → Flowing
  One f = with_jobs (request r.site place 0 a ∷ []) (a.codes ∷ []) f

  abbrev Of : Option (List Named) → Meaning
  Of o = record { outputs = o; jobs = record { place = place; command = a.command } ∷ [] }

  concluded_agrees : (o : Tried (List Bind)) (p : Option (List Named)) → ToldAgree outs call o p → Agrees outs (One (concluded n place call o)) (Of p)
  concluded_agrees (Ok bs) (Some ns) h = record { clean = refl; jobs = λ e. refl; given = λ e. h }
  concluded_agrees (Err f) None h = record { clean = refl; jobs = λ e. absurd (false≢true e); given = λ e. absurd (false≢true e) }
  concluded_agrees (Ok bs) None h = absurd h
  concluded_agrees (Err f) (Some ns) h = absurd h

  answered_agrees : (o : Option Answer) → answer_at r.table place 0 ≡ o → Agrees outs (One (attempted r n place t call a 0 true (missing n) o)) (Of (told (ground_of r) tool place o))
  answered_agrees None e = record { clean = refl; jobs = λ e. absurd (false≢true e); given = λ e. absurd (false≢true e) }
  answered_agrees (Some answer) e =
      subst (λ b. Agrees outs (One (attempted r n place t call a 0 true (missing n) (Some answer))) (Of (cond b (files_at (ground_of r) place answer tool.outputs) None))) (success answer.status (small place 0 answer e))
      (by_success (is_success a.codes answer.status))
    where
      by_success : (b : Bool)
          → Agrees outs
          (One (cond b (concluded n place call (cond b (outputs_met r.library.structs (job_dir r.site place 0) answer a.env t.outputs) (Err (bad_status answer.status))))
          (with_fault (failing_at place (bad_status answer.status)) (missing n))))
          (Of (cond b (files_at (ground_of r) place answer tool.outputs) None))
      by_success true = concluded_agrees (outputs_met r.library.structs (job_dir r.site place 0) answer a.env t.outputs) (files_at (ground_of r) place answer tool.outputs) (tell answer)
      by_success false = record { clean = refl; jobs = λ e. absurd (false≢true e); given = λ e. absurd (false≢true e) }

  pub attempts_agree : Agrees outs (attempts r n place t call a a.retries 0) (tool_run (ground_of r) tool place (Some a.command))
  attempts_agree =
      subst (λ k. Agrees outs (attempts r n place t call a k 0) (tool_run (ground_of r) tool place (Some a.command))) (sym no_retries)
      (answered_agrees (answer_at r.table place 0) refl)

-- ---- outputs one by one

file_typed : (path : List ℕ) → has_type cwl.File (v.File path) ≡ true
file_typed path =
    ap (λ u. has_type u (v.File path)) (sym cwl.rolls-File)
    ∙ ap (λ (p : Test). p (v.File path)) (fold-roll-CwlTy Test (λ t x. typed_at t x (out-Value x)) type.File)
    ∙ ap (typed_at type.File (v.File path)) (v.outs-File path)

-- the same names with the same files
abbrev Alike : List Bind → List Named → Type 0
Alike [] [] = Unit {0}
Alike [] (m ∷ ns) = ⊥
Alike (b ∷ bs) [] = ⊥
Alike (b ∷ bs) (m ∷ ns) = (b.key.first ≡ m.id) × (b.value ≡ m.value) × IsFile b.value × Alike bs ns

module _ (call : List ℕ) where
  abbrev Found : List Bind → List Named → List ℕ → Type 0
  Found bs ns name =
      (x : Value) × (lookup (env_of (map (bound_output call) bs)) (record { first = call; second = Some name }) ≡ Some x) × (value_at ns name ≡ Some x) × IsFile x

  alike_at : (bs : List Bind) (ns : List Named) → Alike bs ns → (name : List ℕ) → Contains (map (λ (m : Named). m.id) ns) name → Found bs ns name
  alike_at [] [] h name c = absurd (none_is name c)
  alike_at [] (m ∷ ns) h name c = absurd h
  alike_at (b ∷ bs) [] h name c = absurd h
  alike_at (b ∷ bs) (m ∷ ns) h name c = by_test (λ d. alike_at bs ns h.3 name d) (bytes_eq m.id name) refl (first_or_later m.id (map (λ (m : Named). m.id) ns) name c)
    where
      key_is : (w : Bool) → bytes_eq m.id name ≡ w → same_key (record { first = call; second = Some b.key.first }) (record { first = call; second = Some name }) ≡ w
      key_is w e = ap (λ u. u && bytes_eq b.key.first name) ((bytes_eq-Decides call call).1 refl) ∙ ap (λ u. bytes_eq u name) h.0 ∙ e

      by_test : (Contains (map (λ (m : Named). m.id) ns) name → Found bs ns name) → (w : Bool) → bytes_eq m.id name ≡ w → (m.id ≡ name) ⊎ Contains (map (λ (m : Named). m.id) ns) name
          → Found (b ∷ bs) (m ∷ ns) name
      by_test rest true e d = (
        b.value,
        ap (λ w. cond w (Some b.value) (lookup (env_of (map (bound_output call) bs)) (record { first = call; second = Some name }))) (key_is true e),
        ap (λ w. cond w (Some m.value) (value_at ns name)) e ∙ ap (λ y. Some y) (sym h.1),
        h.2,
      )
      by_test rest false e (inl s) = absurd (false≢true (sym e ∙ (bytes_eq-Decides m.id name).1 s))
      by_test rest false e (inr d) =
          let q = rest d in (
            q.0,
            ap (λ w. cond w (Some b.value) (lookup (env_of (map (bound_output call) bs)) (record { first = call; second = Some name }))) (key_is false e) ∙ q.1,
            ap (λ w. cond w (Some m.value) (value_at ns name)) e ∙ q.2,
            q.3,
          )

  module _ (r : Run) (place : List Segment) (answer : Answer) where
    abbrev Both : Tried (List Bind) → Option (List Named) → Type 0
    Both (Ok bs) (Some ns) = Alike bs ns
    Both (Err f) None = Unit {0}
    Both (Ok bs) None = ⊥
    Both (Err f) (Some ns) = ⊥

    outputs_both : (ds : List TDecl) (os : List ToolOut) → SameOutputs r place ds os → (env : List Bind)
        → Both (outputs_met r.library.structs (job_dir r.site place 0) answer env ds) (files_at (ground_of r) place answer os)
    outputs_both [] [] h env = tt
    outputs_both [] (o ∷ os) h env = absurd h
    outputs_both (d ∷ ds) [] h env = absurd h
    outputs_both (d ∷ ds) (o ∷ os) h env =
        by_file (λ e. outputs_both ds os h.1 e) (output_met r.library.structs (job_dir r.site place 0) answer env d) (file_at (ground_of r) place answer o.origin) refl (h.0.met answer env)
      where
        more : List Bind → Value → Tried (List Bind)
        more env x =
            tried (outputs_met r.library.structs (job_dir r.site place 0) answer (env ++ bind d.name x ∷ []) ds) (λ bs. Ok (bind d.name x ∷ bs))

        joined : (x : Value) → IsFile x → (q : Tried (List Bind)) (p : Option (List Named)) → Both q p
            → Both (tried q (λ bs. Ok (bind d.name x ∷ bs))) (option_and_then (λ ns. Some (named o.id x ∷ ns)) p)
        joined x file (Ok bs) (Some ns) a = (sym h.0.name, refl, file, a)
        joined x file (Err f) None a = tt
        joined x file (Ok bs) None a = absurd a
        joined x file (Err f) (Some ns) a = absurd a

        by_file : ((e : List Bind) → Both (outputs_met r.library.structs (job_dir r.site place 0) answer e ds) (files_at (ground_of r) place answer os)) → (q : Outcome Value) (w : Option Value)
            → file_at (ground_of r) place answer o.origin ≡ w → SameValue q w
            → Both (tried (called d.name q) (more env)) (option_and_then (λ x. option_and_then (λ ns. Some (named o.id x ∷ ns)) (files_at (ground_of r) place answer os)) w)
        by_file rest (Err c) None e same = tt
        by_file rest (Ok y) (Some x) e same =
            subst (λ z. Both (more env z) (option_and_then (λ ns. Some (named o.id x ∷ ns)) (files_at (ground_of r) place answer os))) (sym same)
            (joined x (h.0.file answer x e) (outputs_met r.library.structs (job_dir r.site place 0) answer (env ++ bind d.name x ∷ []) ds) (files_at (ground_of r) place answer os) (rest (env ++ bind d.name x ∷ [])))
        by_file rest (Ok y) None e same = absurd same
        by_file rest (Err c) (Some x) e same = absurd same

    files_ids : (os : List ToolOut) (ns : List Named) → files_at (ground_of r) place answer os ≡ Some ns → map (λ (m : Named). m.id) ns ≡ map (λ (o : ToolOut). o.id) os
    files_ids [] ns e = ap (map (λ (m : Named). m.id)) (same_Some _ _ (sym e))
    files_ids (o ∷ os) ns e = by_file (file_at (ground_of r) place answer o.origin) (files_at (ground_of r) place answer os) e (files_ids os)
      where
        by_file : (w : Option Value) (p : Option (List Named)) → option_and_then (λ x. option_and_then (λ ns. Some (named o.id x ∷ ns)) p) w ≡ Some ns
            → ((ms : List Named) → p ≡ Some ms → map (λ (m : Named). m.id) ms ≡ map (λ (o : ToolOut). o.id) os)
            → map (λ (m : Named). m.id) ns ≡ o.id ∷ map (λ (o : ToolOut). o.id) os
        by_file None p h rest = cc
        by_file (Some x) None h rest = cc
        by_file (Some x) (Some ms) h rest = ap (map (λ (m : Named). m.id)) (sym (same_Some _ _ h)) ∙ ap (λ is. o.id ∷ is) (rest ms refl)

    given_files : (ds : List TDecl) (os : List ToolOut) → SameOutputs r place ds os → (bs : List Bind) (ns : List Named) → Alike bs ns
        → ((name : List ℕ) → Contains (map (λ (o : ToolOut). o.id) os) name → Contains (map (λ (m : Named). m.id) ns) name)
        → Given (map (call_output call) ds) (map (bound_output call) bs) ns
    given_files [] [] h bs ns a within = tt
    given_files [] (o ∷ os) h bs ns a within = absurd h
    given_files (d ∷ ds) [] h bs ns a within = absurd h
    given_files (d ∷ ds) (o ∷ os) h bs ns a within =
        let there : Contains (map (λ (m : Named). m.id) ns) d.name =
        subst (λ w. Contains (map (λ (m : Named). m.id) ns) w) h.0.name (within o.id (first_is o.id (map (λ (o : ToolOut). o.id) os))) in
        let q = alike_at bs ns a d.name there in (
          (q.0, q.1, q.2, ap (λ u. has_type u q.0) h.0.ty ∙ ap (has_type cwl.File) q.3.1 ∙ file_typed q.3.0),
          given_files ds os h.1 bs ns a (λ w c. within w (later_is o.id (map (λ (o : ToolOut). o.id) os) w c)),
        )

    -- What an answer tells a task is what it tells its tool.
    pub told_agree : (ds : List TDecl) (os : List ToolOut) → SameOutputs r place ds os → (env : List Bind)
        → ToldAgree (map (call_output call) ds) call (outputs_met r.library.structs (job_dir r.site place 0) answer env ds) (files_at (ground_of r) place answer os)
    told_agree ds os h env = by_both (outputs_met r.library.structs (job_dir r.site place 0) answer env ds) (files_at (ground_of r) place answer os) refl (outputs_both ds os h env)
      where
        by_both : (q : Tried (List Bind)) (p : Option (List Named)) → files_at (ground_of r) place answer os ≡ p → Both q p → ToldAgree (map (call_output call) ds) call q p
        by_both (Ok bs) (Some ns) e a = given_files ds os h bs ns a (λ name c. subst (λ (is : List (List ℕ)). Contains is name) (sym (files_ids os ns e)) c)
        by_both (Err f) None e a = tt
        by_both (Ok bs) None e a = absurd a
        by_both (Err f) (Some ns) e a = absurd a
