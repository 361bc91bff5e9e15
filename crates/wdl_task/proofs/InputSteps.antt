-- Inputs, one after another.
use Rattle.std.proofs.Common.{◌≡◌, ℕ, ◌+◌, ◌≤◌, ◌<◌, Bool, true, false, cond, List, [], ◌∷◌, ◌++◌, drop, length, get_or, Option, Some, Ok, Err, sym, ap, ◌∙◌, subst, refl, arith}
use Rattle.wdl_base.specs.declared.name.Key.{Key}
use Rattle.wdl_value.specs.declared.env.Bind.{Bind}
use Rattle.wdl_value.specs.declared.value.Value.{Value}
use Rattle.wdl_typed.specs.declared.expr.TExpr.{TExpr}
use Rattle.wdl_typed.specs.declared.task.TInput.{TInput}
use Rattle.wdl_typed.specs.Declarations.{plain_key}
use Rattle.wdl_typed.specs.KnownTypes.{is_some}
use Rattle.wdl_typed.specs.Requests.{Tried, bind, default_value, named, tried, with_inputs}
use Rattle.wdl_typed.specs.Scope.{lookup, same_key}
use Rattle.wdl_task.specs.Counts.{default_count, default_counts, left_out_count}
use Rattle.wdl_task.specs.Readiness.{AreInputsReady}
use Rattle.wdl_task.proofs.Loops.{cut}

-- an input, and those after it
pub inputs_step : (i : TInput) (is : List TInput) (env : List Bind) → with_inputs (i ∷ is) env ≡ tried (with_inputs (i ∷ []) env) (with_inputs is)
inputs_step i is env = by_test (is_some (lookup env (plain_key i.name))) (named i.name (default_value env i.value))
  where
    by_test : (b : Bool) (d : Tried Value) → cond b (with_inputs is env) (tried d (λ x. with_inputs is (env ++ bind i.name x ∷ [])))
        ≡ tried (cond b (Ok env) (tried d (λ x. Ok (env ++ bind i.name x ∷ [])))) (with_inputs is)
    by_test true d = refl
    by_test false (Ok x) = refl
    by_test false (Err e) = refl

abbrev Keeps : List Bind → List Bind → Type 0
Keeps env more = (key : Key) → is_some (lookup env key) ≡ true → is_some (lookup more key) ≡ true

some_kept : (env more : List Bind) → Keeps env (env ++ more)
some_kept [] more key h = cc
some_kept (b ∷ bs) more key h = by_test (same_key b.key key) h (some_kept bs more key)
  where
    by_test : (s : Bool) → is_some (cond s (Some b.value) (lookup bs key)) ≡ true → (is_some (lookup bs key) ≡ true → is_some (lookup (bs ++ more) key) ≡ true) → is_some (cond s (Some b.value) (lookup (bs ++ more) key)) ≡ true
    by_test true h rest = refl
    by_test false h rest = rest h

-- With more names no more defaults are left out.
counts_fall : (is : List TInput) (env more : List Bind) → Keeps env more → default_counts more is ≤ default_counts env is
counts_fall [] env more k = omega arith
counts_fall (i ∷ is) env more k =
    let one = by_test (is_some (lookup env (plain_key i.name))) (is_some (lookup more (plain_key i.name))) (k (plain_key i.name)) in
    let rest = counts_fall is env more k in
    omega arith
  where
    by_test : (a b : Bool) → (a ≡ true → b ≡ true) → left_out_count b i.value ≤ left_out_count a i.value
    by_test true true h = omega arith
    by_test true false h = let e = h refl in absurd (cc)
    by_test false true h = by_value i.value
      where
        by_value : (o : Option TExpr) → 0 ≤ default_count o
        by_value o = omega arith
    by_test false false h = omega arith

input_keeps : (i : TInput) (env more : List Bind) → with_inputs (i ∷ []) env ≡ Ok more → Keeps env more
input_keeps i env more h = by_test (is_some (lookup env (plain_key i.name))) (named i.name (default_value env i.value)) h
  where
    by_test : (b : Bool) (d : Tried Value) → cond b (Ok env) (tried d (λ x. Ok (env ++ bind i.name x ∷ []))) ≡ Ok more → Keeps env more
    by_test true d e = let same : env ≡ more = cc in subst (λ (z : List Bind). Keeps env z) same (λ key k. k)
    by_test false (Ok x) e = let same : (env ++ bind i.name x ∷ []) ≡ more = cc in subst (λ (z : List Bind). Keeps env z) same (some_kept env (bind i.name x ∷ []))
    by_test false (Err e) h = absurd (cc)

-- So many inputs are taken; the names that are there, and the steps.
pub record InputsLeft (inputs : List TInput) (start : List Bind) (begun : ℕ) (k : ℕ) (env : List Bind) (steps : ℕ) : Type 0 where
  pub ready : AreInputsReady (drop k inputs) env
  pub value : with_inputs (drop k inputs) env ≡ with_inputs inputs start
  pub counted : steps + default_counts env (drop k inputs) ≤ begun + default_counts start inputs

module _ (inputs : List TInput) (start : List Bind) (begun k : ℕ) (env : List Bind) (steps : ℕ) (i : TInput) (at : i ≡ get_or inputs k i) (below : k < length inputs)
    (left : InputsLeft inputs start begun k env steps) where
  abbrev later : List TInput
  later = drop (k + 1) inputs

  inputs_ready : AreInputsReady (i ∷ later) env
  inputs_ready = subst (λ (is : List TInput). AreInputsReady is env) (cut inputs k i at below) left.ready

  whole : tried (with_inputs (i ∷ []) env) (with_inputs later) ≡ with_inputs inputs start
  whole = sym (inputs_step i later env) ∙ ap (λ (is : List TInput). with_inputs is env) (sym (cut inputs k i at below)) ∙ left.value

  pub input_next : (more : List Bind) (now : ℕ) → with_inputs (i ∷ []) env ≡ Ok more → now ≤ steps + default_counts env (i ∷ []) → InputsLeft inputs start begun (k + 1) more now
  input_next more now h n = record {
    ready = inputs_ready.1 more h;
    value = sym (ap (λ (o : Tried (List Bind)). tried o (with_inputs later)) h) ∙ whole;
    counted =
        let total : steps + default_counts env (i ∷ later) ≤ begun + default_counts start inputs = subst (λ (is : List TInput). steps + default_counts env is ≤ begun + default_counts start inputs) (cut inputs k i at below) left.counted in
        let fall = counts_fall later env more (input_keeps i env more h) in
        omega arith;
  }
