-- Arguments, one after the other.
use Rattle.std.proofs.Common.{◌≡◌, ℕ, ◌+◌, ◌<◌, ◌≤◌, List, [], ◌∷◌, ◌++◌, drop, length, get_or, Ok, Err, append_assoc, append-nil, sym, ap, ◌∙◌, subst, refl}
use Rattle.std.proofs.lemmas.List.{drop_all}
use Rattle.wdl_value.specs.declared.env.Bind.{Bind}
use Rattle.wdl_value.specs.declared.value.Value.{Value}
use Rattle.wdl_typed.specs.declared.expr.TExpr.{TExpr}
use Rattle.wdl_typed.specs.declared.expr.TField.{TField}
use Rattle.wdl_typed.specs.Evaluation.{value_of}
use Rattle.wdl_typed.specs.Flow.{arg_bind, args_met, named_arg}
use Rattle.wdl_typed.specs.Requests.{Tried, before, tried}
use Rattle.wdl_eval.specs.Ready.{IsReady}
use Rattle.wdl_task.proofs.Loops.{cut}
use Rattle.flow_soundness.specs.Readiness.{AreArgsReady}

none_before : (o : Tried (List Bind)) → tried o (λ more. Ok ([] ++ more)) ≡ o
none_before (Ok more) = refl
none_before (Err e) = refl

pushed : (o : Tried (List Bind)) (done : List Bind) (b : Bind) → tried o (λ more. Ok ((done ++ b ∷ []) ++ more)) ≡ tried (tried o (λ more. Ok (b ∷ more))) (λ more. Ok (done ++ more))
pushed (Ok more) done b = ap (λ z. Ok z) (append_assoc done (b ∷ []) more)
pushed (Err e) done b = refl

module _ (env : List Bind) (args : List (TField TExpr)) where
  -- So many arguments are taken, with these binds.
  pub record Taking (i : ℕ) (done : List Bind) : Type 0 where
    pub met : tried (args_met env (drop i args)) (λ more. Ok (done ++ more)) ≡ args_met env args
    pub ready : AreArgsReady env (drop i args)

  pub taking_begins : AreArgsReady env args → Taking 0 []
  taking_begins ready = record { met = none_before (args_met env args); ready = ready }

  pub taking_ends : (i : ℕ) (done : List Bind) → length args ≤ i → Taking i done → args_met env args ≡ Ok done
  taking_ends i done end t =
      sym t.met
      ∙ ap (λ (as_ : List (TField TExpr)). tried (args_met env as_) (λ more. Ok (done ++ more))) (drop_all i args end)
      ∙ ap (λ z. Ok z) (append-nil done)

  module _ (i : ℕ) (a : TField TExpr) (done : List Bind) (at : a ≡ get_or args i a) (below : i < length args) (t : Taking i done) where
    abbrev later : List (TField TExpr)
    later = drop (i + 1) args

    ready_parts : AreArgsReady env (a ∷ later)
    ready_parts = subst (λ (as_ : List (TField TExpr)). AreArgsReady env as_) (cut args i a at below) t.ready

    pub taken_ready : IsReady a.value env
    taken_ready = ready_parts.0

    whole : tried (args_met env (a ∷ later)) (λ more. Ok (done ++ more)) ≡ args_met env args
    whole = sym (ap (λ (as_ : List (TField TExpr)). tried (args_met env as_) (λ more. Ok (done ++ more))) (cut args i a at below)) ∙ t.met

    pub taking_goes : (x : Value) → named_arg a.name (value_of (before env) a.value) ≡ Ok x → Taking (i + 1) (done ++ arg_bind a.name x ∷ [])
    taking_goes x h = record {
      met =
          pushed (args_met env later) done (arg_bind a.name x)
          ∙ ap (λ (o : Tried Value). tried (tried o (λ y. tried (args_met env later) (λ more. Ok (arg_bind a.name y ∷ more)))) (λ more. Ok (done ++ more))) (sym h)
          ∙ whole;
      ready = ready_parts.1;
    }
