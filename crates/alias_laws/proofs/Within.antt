-- Which values keep the limits of values: what expressions give, arguments, and the items of lists.
use Rattle.std.proofs.Common.{◌≡◌, true, List, [], ◌∷◌, Some, None, Ok, Err, subst, refl}
use Rattle.std.specs.List.{list_all}
use Rattle.std.proofs.lemmas.Bool.{and_from}
use Rattle.wdl_value.specs.declared.env.Bind.{Bind}
use Rattle.wdl_value.specs.declared.value.Value.{Value}
use Rattle.wdl_value.specs.declared.value.Value.TheVariants as v
use Rattle.wdl_value.specs.Limits.{is_within}
use Rattle.wdl_value.specs.Outcome.{Outcome}
use Rattle.wdl_typed.specs.declared.expr.TExpr.{TExpr}
use Rattle.wdl_typed.specs.declared.expr.TField.{TField}
use Rattle.wdl_typed.specs.Evaluation.{Met, settled, value_met, value_of}
use Rattle.wdl_typed.specs.Flow.{arg_bind, args_met, named_arg}
use Rattle.wdl_typed.specs.Requests.{Tried, before, tried}
use Rattle.wdl_eval.proofs.MemberLimits.{given_within}
use Rattle.cwl_laws.proofs.Starts.{absent_within}

settled_within : (r : Met Value) → ((y : Value) → r ≡ Ok y → is_within y ≡ true) → (x : Value) → settled r ≡ Ok x → is_within x ≡ true
settled_within (Ok y) h x e = let same : y ≡ x = cc in subst (λ (z : Value). is_within z ≡ true) same (h y refl)
settled_within (Err (Some c)) h x e = absurd (cc)
settled_within (Err None) h x e = let same : v.Absent ≡ x = cc in subst (λ (z : Value). is_within z ≡ true) same absent_within

-- what an expression gives
pub value_within : (env : List Bind) (e : TExpr) (x : Value) → value_of (before env) e ≡ Ok x → is_within x ≡ true
value_within env e x h = settled_within (value_met (before env) e) (given_within (before env) e) x h

abbrev pub all_within : List Bind → Type 0
all_within bs = list_all (λ (b : Bind). is_within b.value) bs ≡ true

-- what arguments give
pub args_within : (env : List Bind) (as_ : List (TField TExpr)) (bs : List Bind) → args_met env as_ ≡ Ok bs → all_within bs
args_within env [] bs h = let same : (let none : List Bind = [] in none) ≡ bs = cc in subst all_within same refl
args_within env (a ∷ as_) bs h = by_value (λ more e. args_within env as_ more e) (value_of (before env) a.value) refl h
  where
    by_rest : (x : Value) → is_within x ≡ true → (r : Tried (List Bind)) → args_met env as_ ≡ r → ((more : List Bind) → args_met env as_ ≡ Ok more → all_within more)
        → tried r (λ more. Ok (arg_bind a.name x ∷ more)) ≡ Ok bs → all_within bs
    by_rest x own (Ok more) e rest h =
        let same : (arg_bind a.name x ∷ more) ≡ bs = cc in
        subst all_within same (and_from (is_within x) (list_all (λ (b : Bind). is_within b.value) more) own (rest more e))
    by_rest x own (Err f) e rest h = absurd (cc)

    by_value : ((more : List Bind) → args_met env as_ ≡ Ok more → all_within more) → (o : Outcome Value) → value_of (before env) a.value ≡ o → tried (named_arg a.name o) (λ x. tried (args_met env as_) (λ more. Ok (arg_bind a.name x ∷ more))) ≡ Ok bs → all_within bs
    by_value rest (Ok x) e h = by_rest x (value_within env a.value x e) (args_met env as_) refl rest h
    by_value rest (Err c) e h = absurd (cc)
