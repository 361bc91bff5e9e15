-- Calls whose arguments have chains in the places of names.
use Rattle.std.proofs.Common.{◌≡◌, ℕ, Bool, true, false, cond, ◌&&◌, List, [], ◌∷◌, Some, Ok, Err, sym, ap, ◌∙◌, subst, refl}
use Rattle.std.specs.List.{list_all}
use Rattle.std.proofs.lemmas.Bool.{and_parts}
use Rattle.std.proofs.lemmas.Option.{same_Some}
use Rattle.wdl_base.specs.declared.name.Key.{Key}
use Rattle.wdl_base.specs.declared.place.Segment.{Segment}
use Rattle.wdl_value.specs.declared.env.Bind.{Bind}
use Rattle.wdl_value.specs.declared.value.Value.{Value}
use Rattle.wdl_value.specs.Outcome.{Outcome}
use Rattle.wdl_typed.specs.declared.expr.TExpr.{TExpr}
use Rattle.wdl_typed.specs.declared.expr.TField.{TField}
use Rattle.wdl_typed.specs.declared.flow.TCall.{TCall}
use Rattle.wdl_typed.specs.declared.scope.Bound.{Bound}
use Rattle.wdl_typed.specs.Bodies.{Seen, Signature, all_given, all_seen, arg_names, args_typed, call_by, call_step, signature}
use Rattle.wdl_typed.specs.Evaluation.{value_of}
use Rattle.wdl_typed.specs.Flow.{Callee, Ended, Known, Names, Run, all_known, arg_bind, args_known, args_met, call_of, call_place, called, env_of, failing_at, has_ended, missing, named_arg, signature_keys, with_args}
use Rattle.wdl_typed.specs.Lists.{are_distinct}
use Rattle.wdl_typed.specs.Requests.{Tried, before, tried}
use Rattle.wdl_task.specs.Readiness.{are_given}
use Rattle.wdl_swaps.specs.declared.swap.Swap.{Swap}
use Rattle.wdl_swaps.specs.Swaps.{swapped, swapped_args}
use Rattle.leaf_image.specs.Inside.{Each}
use Rattle.flow_soundness.specs.Readiness.{Agrees}
use Rattle.flow_soundness.proofs.Args.{args_are_given}
use Rattle.flow_soundness.proofs.GivenKeys.{when_some}
use Rattle.cwl_records.specs.Aliases.{swapped_call}
use Rattle.alias_laws.proofs.SameSteps.{SameStep, same_fault, same_missing, same_names}
use Rattle.alias_laws.proofs.Sights.{Clean, Sees, known_same, value_same}
use Rattle.alias_laws.proofs.Within.{all_within, args_within}
use Rattle.wdl_base.proofs.Options.{then_parts}

module _ (hidden : Key → Bool) where
  -- no hidden name stands in the arguments
  abbrev pub CleanArgs : List (TField TExpr) → Type 0
  CleanArgs = Each (λ (a : TField TExpr). Clean hidden a.value)

  abbrev pub CleanCall : TCall → Type 0
  CleanCall c = CleanArgs c.args

  -- ---- arguments

  module _ (declared : List (List ℕ)) (bounds : List Bound) (ss : List Swap) (old now : List Known) (sees : Sees hidden declared bounds ss old now) where
    args_known_same : (as_ : List (TField TExpr)) → CleanArgs (swapped_args ss as_) → args_known old as_ ≡ args_known now (swapped_args ss as_)
    args_known_same [] h = refl
    args_known_same (a ∷ as_) h =
        ap (λ b. b && args_known old as_) (known_same hidden declared bounds ss old now sees a.value h.0) ∙ ap (λ b. all_known now (swapped ss a.value) && b) (args_known_same as_ h.1)

    args_met_same : (as_ : List (TField TExpr)) → CleanArgs (swapped_args ss as_) → args_met (env_of old) as_ ≡ args_met (env_of now) (swapped_args ss as_)
    args_met_same [] h = refl
    args_met_same (a ∷ as_) h =
        ap (λ (o : Outcome Value). tried (named_arg a.name o) (λ x. tried (args_met (env_of old) as_) (λ more. Ok (arg_bind a.name x ∷ more)))) (value_same hidden declared bounds ss old now sees a.value h.0)
        ∙ ap (λ (r : Tried (List Bind)). tried (named_arg a.name (value_of (before (env_of now)) (swapped ss a.value))) (λ x. tried r (λ more. Ok (arg_bind a.name x ∷ more)))) (args_met_same as_ h.1)

  -- ---- calls

  module _ (r q : Run) (callee other : Callee) where
    -- The call gives out the same names, and what is called gives the same for arguments that are given and keep the limits.
    pub record CallHolds (c : TCall) : Type 0 where
      pub keys : signature_keys c.name (signature r.library c.target) ≡ signature_keys c.name (signature q.library c.target)
      pub runs : (ss : List Swap) (n : Names) (place : List Segment) (args : List Bind) → all_within args
          → ((s : Signature) → signature r.library c.target ≡ Some s → are_given r.library.structs s.inputs args ≡ true)
          → SameStep hidden (called r callee n place c args c.target) (called q other n place (swapped_call ss c) args c.target)

    module _ (c : TCall) (holds : CallHolds c) (n : Names) (seen given : Seen) (typed : call_step r.library c seen ≡ Some given) (declared : List (List ℕ)) (ss : List Swap) (old now : List Known)
        (sees : Sees hidden declared seen.names ss old now) (sound : Agrees r.library.structs seen.names old) (clean : CleanArgs (swapped_args ss c.args)) (calls : List Ended) (place : List Segment) where
      abbrev at : List Segment
      at = call_place (record { names = old; calls = calls; place = place }) c.name

      -- the arguments of a call that is well typed are given
      are_all_given : (args : List Bind) → args_known old c.args ≡ true → args_met (env_of old) c.args ≡ Ok args → (s : Signature) → signature r.library c.target ≡ Some s → are_given r.library.structs s.inputs args ≡ true
      are_all_given args known met s is =
          let p = then_parts (call_by r.library.structs c seen) (signature r.library c.target) given typed in
          let same : p.0 ≡ s = same_Some _ _ (sym p.1 ∙ is) in
          let k = when_some _ _ given p.2 in
          let d = and_parts (args_typed r.library.structs seen.names p.0.inputs c.args && are_distinct (arg_names c.args) && all_given p.0.inputs (arg_names c.args)) (all_seen seen.calls c.after) k.0 in
          let e = and_parts (args_typed r.library.structs seen.names p.0.inputs c.args && are_distinct (arg_names c.args)) (all_given p.0.inputs (arg_names c.args)) d.0 in
          let f = and_parts (args_typed r.library.structs seen.names p.0.inputs c.args) (are_distinct (arg_names c.args)) e.0 in
          subst (λ (z : Signature). are_given r.library.structs z.inputs args ≡ true) same (args_are_given r.library.structs p.0.inputs seen.names old c.args args f.0 e.1 sound known met)

      by_args : args_known old c.args ≡ true → (o : Tried (List Bind)) → args_met (env_of old) c.args ≡ o → SameStep hidden (with_args r callee n at c o) (with_args q other n at (swapped_call ss c) o)
      by_args known (Ok args) e = holds.runs ss n at args (args_within (env_of old) c.args args e) (are_all_given args known e)
      by_args known (Err f) e = same_fault hidden (failing_at at f) (missing n) (missing n) (same_missing hidden n n (same_names hidden n n refl))

      by_begin : (b : Bool) → (args_known old c.args && list_all (has_ended calls) c.after) ≡ b
          → SameStep hidden (cond b (with_args r callee n at c (args_met (env_of old) c.args)) (missing n)) (cond b (with_args q other n at (swapped_call ss c) (args_met (env_of old) c.args)) (missing n))
      by_begin true e = by_args (and_parts (args_known old c.args) (list_all (has_ended calls) c.after) e).0 (args_met (env_of old) c.args) refl
      by_begin false e = same_missing hidden n n (same_names hidden n n refl)

      -- what is given is the same
      pub call_same : SameStep hidden (call_of r callee n c (record { names = old; calls = calls; place = place })) (call_of q other n (swapped_call ss c) (record { names = now; calls = calls; place = place }))
      call_same =
          let now_is : cond (args_known old c.args && list_all (has_ended calls) c.after) (with_args q other n at (swapped_call ss c) (args_met (env_of old) c.args)) (missing n)
          ≡ call_of q other n (swapped_call ss c) (record { names = now; calls = calls; place = place }) =
          ap (λ b. cond (b && list_all (has_ended calls) c.after) (with_args q other n at (swapped_call ss c) (args_met (env_of old) c.args)) (missing n)) (args_known_same declared seen.names ss old now sees c.args clean)
          ∙ ap (λ (o : Tried (List Bind)). cond (args_known now (swapped_args ss c.args) && list_all (has_ended calls) c.after) (with_args q other n at (swapped_call ss c) o) (missing n))
          (args_met_same declared seen.names ss old now sees c.args clean) in
          subst (SameStep hidden (call_of r callee n c (record { names = old; calls = calls; place = place }))) now_is (by_begin (args_known old c.args && list_all (has_ended calls) c.after) refl)
