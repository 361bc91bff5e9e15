-- What is picked holds the values of the names of an expression.
use Rattle.std.proofs.Common.{◌≡◌, Bool, true, false, cond, ◌||◌, List, [], ◌∷◌, ◌++◌, Option, Some, None, sym, ap, ◌∙◌, subst, refl}
use Rattle.std.specs.List.{list_all}
use Rattle.std.proofs.lemmas.Bool.{false≢true, and_parts}
use Rattle.wdl_base.specs.declared.name.Key.{Key}
use Rattle.wdl_value.specs.declared.env.Bind.{Bind}
use Rattle.wdl_value.specs.declared.value.Value.{Value}
use Rattle.wdl_typed.specs.declared.expr.TExpr.{TExpr}
use Rattle.wdl_typed.specs.Evaluation.{value_of}
use Rattle.wdl_typed.specs.Flow.{all_known, bound_by, is_known}
use Rattle.wdl_typed.specs.KnownTypes.{is_some}
use Rattle.wdl_typed.specs.Requests.{before}
use Rattle.wdl_typed.specs.Scope.{is_among, lookup, names_of, same_key, type_in}
use Rattle.wdl_eval.specs.Ready.{IsGiven, IsReady}
use Rattle.wdl_plain.specs.declared.known.Known.{Known}
use Rattle.wdl_plain.specs.Referring.{pick, picks}
use Rattle.wdl_plain.specs.Views.{env_in, knowns_of}
use Rattle.flow_soundness.proofs.NewNames.{same_key-refl}
use Rattle.wdl_plain.proofs.Alike.{Agree, values_alike}
use Rattle.wdl_flow.proofs.MarkLemmas.{same_key-true}
use Rattle.wdl_task.proofs.Fit.{value_kept as lookup_front, value_later as lookup_back}

module _ (ks : List Known) where
  abbrev full : List Bind
  full = env_in ks

  -- what was picked so far has the values of the names
  abbrev Sound : List Bind → Type 0
  Sound env = (key : Key) (x : Value) → lookup env key ≡ Some x → lookup full key ≡ Some x

  pick_sound : (env : List Bind) (key : Key) → Sound env → Sound (pick ks env key)
  pick_sound env key s = by_there (is_some (lookup env key)) refl
    where
      by_key : (other : Key) (x : Value) → lookup full key ≡ Some x → (y : Value) (b : Bool) → same_key key other ≡ b → cond b (Some x) None ≡ Some y → lookup full other ≡ Some y
      by_key other x h y true e k = let same : x ≡ y = cc in ap (lookup full) (sym (same_key-true key other e)) ∙ h ∙ ap (λ z. Some z) same
      by_key other x h y false e k = absurd (cc)

      later : (o : Option Value) → lookup full key ≡ o → (other : Key) (y : Value) → lookup env other ≡ None → lookup (bound_by key o) other ≡ Some y → lookup full other ≡ Some y
      later None h other y n k = absurd (cc)
      later (Some x) h other y n k = by_key other x h y (same_key key other) refl k

      by_front : (o : Option Value) → lookup full key ≡ o → (other : Key) (y : Value) (p : Option Value) → lookup env other ≡ p → lookup (env ++ bound_by key o) other ≡ Some y → lookup full other ≡ Some y
      by_front o h other y (Some z) e k = let front = lookup_front env (bound_by key o) other z e in let same : z ≡ y = cc in s other y (e ∙ ap (λ w. Some w) same)
      by_front o h other y None e k = later o h other y e (sym (lookup_back env (bound_by key o) other e) ∙ k)

      by_there : (b : Bool) → is_some (lookup env key) ≡ b → Sound (cond b env (env ++ bound_by key (lookup full key)))
      by_there true e = s
      by_there false e = λ other y k. by_front (lookup full key) refl other y (lookup env other) refl k

  picks_sound : (keys : List Key) (env : List Bind) → Sound env → Sound (picks ks env keys)
  picks_sound [] env s = s
  picks_sound (key ∷ keys) env s = picks_sound keys (pick ks env key) (pick_sound env key s)

  -- what was picked stays
  abbrev Has : List Bind → Key → Type 0
  Has env key = is_some (lookup env key) ≡ true

  some_of : (o : Option Value) → is_some o ≡ true → (x : Value) × (o ≡ Some x)
  some_of (Some x) h = (x, refl)
  some_of None h = absurd (false≢true h)

  pick_keeps : (env : List Bind) (key other : Key) → Has env other → Has (pick ks env key) other
  pick_keeps env key other h = by_there (is_some (lookup env key))
    where
      by_there : (b : Bool) → Has (cond b env (env ++ bound_by key (lookup full key))) other
      by_there true = h
      by_there false = let p = some_of (lookup env other) h in ap is_some (lookup_front env (bound_by key (lookup full key)) other p.0 p.1)

  picks_keep : (keys : List Key) (env : List Bind) (other : Key) → Has env other → Has (picks ks env keys) other
  picks_keep [] env other h = h
  picks_keep (key ∷ keys) env other h = picks_keep keys (pick ks env key) other (pick_keeps env key other h)

  pick_has : (env : List Bind) (key : Key) → is_known (knowns_of ks) key ≡ true → Has (pick ks env key) key
  pick_has env key known = by_there (is_some (lookup env key)) refl
    where
      at_value : (x : Value) → lookup env key ≡ None → Has (env ++ bound_by key (Some x)) key
      at_value x n = ap is_some (lookup_back env (bound_by key (Some x)) key n) ∙ ap (λ b. is_some (cond b (Some x) (let none : Option Value = None in none))) (same_key-refl key)

      none_of : (o : Option Value) → is_some o ≡ false → o ≡ None
      none_of None h = refl
      none_of (Some x) h = absurd (false≢true (sym h))

      by_there : (b : Bool) → is_some (lookup env key) ≡ b → Has (cond b env (env ++ bound_by key (lookup full key))) key
      by_there true e = e
      by_there false e =
          let p = some_of (lookup full key) known in
          subst (λ (o : Option Value). Has (env ++ bound_by key o) key) (sym p.1) (at_value p.0 (none_of (lookup env key) e))

  picks_have : (keys : List Key) (env : List Bind) → list_all (is_known (knowns_of ks)) keys ≡ true → (key : Key) → is_among key keys ≡ true → Has (picks ks env keys) key
  picks_have [] env known key h = absurd (false≢true h)
  picks_have (k ∷ keys) env known key h =
      let p = and_parts (is_known (knowns_of ks) k) (list_all (is_known (knowns_of ks)) keys) known in
      by_test (same_key k key) refl h p.0 (picks_have keys (pick ks env k) p.1 key)
    where
      by_test : (b : Bool) → same_key k key ≡ b → (b || is_among key keys) ≡ true → is_known (knowns_of ks) k ≡ true
          → (is_among key keys ≡ true → Has (picks ks (pick ks env k) keys) key) → Has (picks ks (pick ks env k) keys) key
      by_test true e h own rest =
          picks_keep keys (pick ks env k) key (subst (λ (j : Key). Has (pick ks env k) j) (same_key-true k key e) (pick_has env k own))
      by_test false e h own rest = rest h

  -- the names of an expression that are all known have the same values
  pub picked_agrees : (keys : List Key) → list_all (is_known (knowns_of ks)) keys ≡ true → Agree (picks ks [] keys) full keys
  picked_agrees keys known key h =
      let has = picks_have keys [] known key h in
      let p = some_of (lookup (picks ks [] keys) key) has in
      let sound = picks_sound keys [] (λ other x k. absurd (cc)) in
      p.1 ∙ sym (sound key p.0 p.1)

  pub picked_value : (e : TExpr) → all_known (knowns_of ks) e ≡ true → value_of (before (picks ks [] (names_of e))) e ≡ value_of (before full) e
  picked_value e known = values_alike (picks ks [] (names_of e)) full e (picked_agrees (names_of e) known)

  pub picked_ready : (e : TExpr) → all_known (knowns_of ks) e ≡ true → IsReady e full → IsReady e (picks ks [] (names_of e))
  picked_ready e known r = record {
    context = r.context;
    placeholder = r.placeholder;
    ty = r.ty;
    typed = r.typed;
    fitting = λ key h. subst (λ (o : Option Value). IsGiven r.context.structs (type_in r.context.names key) o) (sym (picked_agrees (names_of e) known key h)) (r.fitting key h);
  }
