-- The inputs of a task that is kept: those given fit, and the defaults of the others may be evaluated.
use Rattle.std.proofs.Common.{◌≡◌, ℕ, Bool, true, false, cond, not, ◌&&◌, ◌||◌, List, [], ◌∷◌, ◌++◌, Option, Some, None, Ok, Err, append_assoc, sym, ap, ◌∙◌, subst, refl}
use Rattle.std.specs.List.{list_all}
use Rattle.std.specs.Str.{bytes_eq}
use Rattle.std.proofs.lemmas.Bool.{false≢true, and_parts}
use Rattle.std.proofs.lemmas.Slice.Eq.{bytes_eq-Decides}
use Rattle.wdl_base.specs.declared.name.Key.{Key}
use Rattle.wdl_value.specs.declared.env.Bind.{Bind}
use Rattle.wdl_value.specs.declared.ty.Ty.{Ty, out-Ty}
use Rattle.wdl_value.specs.declared.value.Value.{Value}
use Rattle.wdl_value.specs.declared.value.Value.TheVariants as v
use Rattle.wdl_value.specs.Bare.{is_optional}
use Rattle.wdl_value.specs.Fits.{Structs, fits}
use Rattle.wdl_value.specs.Outcome.{Outcome}
use Rattle.wdl_value.proofs.SameTypeLemmas.{same_type-true}
use Rattle.wdl_typed.specs.declared.expr.TExpr.{TExpr}
use Rattle.wdl_typed.specs.declared.scope.Bound.{Bound}
use Rattle.wdl_typed.specs.declared.task.TInput.{TInput}
use Rattle.wdl_typed.specs.Bodies.{is_required}
use Rattle.wdl_typed.specs.Declarations.{bound, context, default_typed, inputs_bound, inputs_typed, plain_key}
use Rattle.wdl_typed.specs.Evaluation.{Met, Setting, settled, value_met, value_of}
use Rattle.wdl_typed.specs.Journal.{is_given}
use Rattle.wdl_typed.specs.KnownTypes.{is_some, is_written}
use Rattle.wdl_typed.specs.Requests.{before, bind, default_value, named, tried, with_inputs}
use Rattle.wdl_typed.specs.Scope.{lookup, names_of, same_key, same_second, type_in}
use Rattle.wdl_typed.specs.Typing.{Context, is_type, type_of}
use Rattle.wdl_eval.specs.Laws.{IsMet}
use Rattle.wdl_eval.proofs.Sound.{values_are_sound}
use Rattle.wdl_task.specs.Readiness.{AreInputsReady, IsDefaultReady, is_for}
use Rattle.wdl_task.proofs.LandedFits.{absent_at}
use Rattle.wdl_task.proofs.Fit.{Fit, FitsSome, append_none, fitting, given_next, made_next, ready}

-- ---- keys

second_true : (a b : Option (List ℕ)) → same_second a b ≡ true → a ≡ b
second_true None None h = refl
second_true (Some s) (Some t) h = ap (λ z. Some z) ((bytes_eq-Decides s t).0 h)
second_true None (Some t) h = absurd (false≢true h)
second_true (Some s) None h = absurd (false≢true h)

pub same_key-true : (j k : Key) → same_key j k ≡ true → j ≡ k
same_key-true j k h =
    let p = and_parts (bytes_eq j.first k.first) (same_second j.second k.second) h in
    let key : List ℕ → Option (List ℕ) → Key = λ f o. record { first = f; second = o } in
    ap (λ f. key f j.second) ((bytes_eq-Decides j.first k.first).0 p.0) ∙ ap (λ o. key k.first o) (second_true j.second k.second p.1)

module _ (structs : Structs) (is : List TInput) where
  bind_typed : (js : List TInput) (b : Bind) → is_for structs js b ≡ true → FitsSome structs (type_in (inputs_bound js) b.key) b.value
  bind_typed [] b h = absurd (false≢true h)
  bind_typed (j ∷ js) b h = by_test (same_key b.key (plain_key j.name)) refl (same_key (plain_key j.name) b.key) refl h (bind_typed js b)
    where
      by_test : (s : Bool) → same_key b.key (plain_key j.name) ≡ s → (r : Bool) → same_key (plain_key j.name) b.key ≡ r
          → cond s (fits structs b.value j.ty) (is_for structs js b) ≡ true → (is_for structs js b ≡ true → FitsSome structs (type_in (inputs_bound js) b.key) b.value)
          → FitsSome structs (cond r (Some j.ty) (type_in (inputs_bound js) b.key)) b.value
      by_test true e true k h rest = h
      by_test false e false k h rest = rest h
      by_test true e false k h rest =
          let same = same_key-true b.key (plain_key j.name) e in
          absurd (false≢true (sym k ∙ ap (λ z. same_key z b.key) (sym same) ∙ ap (same_key b.key) same ∙ e))
      by_test false e true k h rest =
          let same = same_key-true (plain_key j.name) b.key k in
          absurd (false≢true (sym e ∙ ap (λ z. same_key z (plain_key j.name)) (sym same) ∙ ap (same_key (plain_key j.name)) same ∙ k))

  -- a value that is given fits the type of its name
  pub given_fits : (given : List Bind) → list_all (is_for structs is) given ≡ true → (key : Key) (x : Value) → lookup given key ≡ Some x → FitsSome structs (type_in (inputs_bound is) key) x
  given_fits [] h key x k = absurd (cc)
  given_fits (b ∷ bs) h key x k =
      let p = and_parts (is_for structs is b) (list_all (is_for structs is) bs) h in
      by_test (same_key b.key key) refl k (given_fits bs p.1 key x) (bind_typed is b p.0)
    where
      by_test : (s : Bool) → same_key b.key key ≡ s → cond s (Some b.value) (lookup bs key) ≡ Some x
          → (lookup bs key ≡ Some x → FitsSome structs (type_in (inputs_bound is) key) x) → FitsSome structs (type_in (inputs_bound is) b.key) b.value → FitsSome structs (type_in (inputs_bound is) key) x
      by_test true e k rest own =
          let same : b.value ≡ x = cc in
          subst (λ (y : Value). FitsSome structs (type_in (inputs_bound is) key) y) same (subst (λ (z : Key). FitsSome structs (type_in (inputs_bound is) z) b.value) (same_key-true b.key key e) own)
      by_test false e k rest own = rest k

-- ---- values of expressions

settled_met : (P : Value → Type 0) (r : Met Value) (x : Value) → IsMet P r → settled r ≡ Ok x → P x
settled_met P (Ok a) x h e = let same : a ≡ x = cc in subst P same h
settled_met P (Err (Some c)) x h e = absurd (cc)
settled_met P (Err None) x h e = absurd h

module _ (structs : Structs) where
  -- a well-typed expression has a value that fits, if it has one
  pub value_fits_type : (names rest : List Bound) (outputs placeholder : Bool) (s : Setting) (e : TExpr) (t : Ty) (x : Value)
      → type_of (record { structs = structs; names = names; outputs = outputs }) e placeholder ≡ Some t → Fit structs names rest s.env → value_of s e ≡ Ok x → fits structs x t ≡ true
  value_fits_type names rest outputs placeholder s e t x typed f h =
      let c : Context = record { structs = structs; names = names; outputs = outputs } in
      settled_met (λ y. fits structs y t ≡ true) (value_met s e) x (values_are_sound c placeholder s e t typed (fitting structs names rest s.env outputs (names_of e) f)) h

  pub is_type-some : (o : Option Ty) (t : Ty) → is_type o t ≡ true → o ≡ Some t
  is_type-some (Some u) t h = ap (λ z. Some z) (same_type-true u t h)
  is_type-some None t h = absurd (false≢true h)

-- ---- defaults

module _ (structs : Structs) where
  optional_by : (b : Bool) → not (not b) ≡ true → b ≡ true
  optional_by true h = refl
  optional_by false h = h

  default_fits : (names rest : List Bound) (env : List Bind) (o : Option TExpr) (t : Ty) (x : Value) → default_typed structs names t o ≡ true
      → not (not (is_some o) && not (is_optional (out-Ty t))) ≡ true → Fit structs names rest env → default_value env o ≡ Ok x → fits structs x t ≡ true
  default_fits names rest env (Some e) t x typed needed f h =
      value_fits_type structs names rest false false (before env) e t x (is_type-some structs (type_of (context structs names) e false) t typed) f h
  default_fits names rest env None t x typed needed f h =
      let same : v.Absent ≡ x = cc in
      subst (λ (y : Value). fits structs y t ≡ true) same (absent_at structs t (optional_by (is_optional (out-Ty t)) needed))

  default_ready : (names rest : List Bound) (env : List Bind) (o : Option TExpr) (t : Ty) → default_typed structs names t o ≡ true → Fit structs names rest env → IsDefaultReady o env
  default_ready names rest env None t typed f = tt
  default_ready names rest env (Some e) t typed f =
      ready structs names rest env false false e t (is_type-some structs (type_of (context structs names) e false) t typed) f

-- ---- the inputs one after another

pub named_ok : {A : Type 0} (name : List ℕ) (o : Outcome A) (a : A) → named name o ≡ Ok a → o ≡ Ok a
named_ok name (Ok b) a h = cc
named_ok name (Err c) a h = absurd (cc)

either_left : (a b : Bool) → (a || b) ≡ true → b ≡ false → a ≡ true
either_left true b h k = refl
either_left false b h k = absurd (false≢true (sym k ∙ h))

abbrev pub Keeps : List Bind → List Bind → Type 0
Keeps given env = (key : Key) → lookup env key ≡ None → lookup given key ≡ None

lookup_front : (env more : List Bind) (key : Key) → lookup (env ++ more) key ≡ None → lookup env key ≡ None
lookup_front [] more key h = refl
lookup_front (b ∷ bs) more key h = by_test (same_key b.key key) h (lookup_front bs more key)
  where
    by_test : (s : Bool) → cond s (Some b.value) (lookup (bs ++ more) key) ≡ None → (lookup (bs ++ more) key ≡ None → lookup bs key ≡ None) → cond s (Some b.value) (lookup bs key) ≡ None
    by_test true h rest = h
    by_test false h rest = rest h

found_step : (i : TInput) (js : List TInput) (env : List Bind) (x : Value) → lookup env (plain_key i.name) ≡ Some x → with_inputs (i ∷ js) env ≡ with_inputs js env
found_step i js env x e =
    ap (λ (o : Option Value). cond (is_some o) (with_inputs js env) (tried (named i.name (default_value env i.value)) (λ y. with_inputs js (env ++ bind i.name y ∷ [])))) e

left_step : (i : TInput) (js : List TInput) (env more : List Bind) → lookup env (plain_key i.name) ≡ None → with_inputs (i ∷ js) env ≡ Ok more
    → (x : Value) × (default_value env i.value ≡ Ok x) × (with_inputs js (env ++ bind i.name x ∷ []) ≡ Ok more)
left_step i js env more e h =
    by_default (default_value env i.value) refl
    (sym (ap (λ (o : Option Value). cond (is_some o) (with_inputs js env) (tried (named i.name (default_value env i.value)) (λ y. with_inputs js (env ++ bind i.name y ∷ [])))) e) ∙ h)
  where
    by_default : (d : Outcome Value) → default_value env i.value ≡ d → tried (named i.name d) (λ y. with_inputs js (env ++ bind i.name y ∷ [])) ≡ Ok more
        → (x : Value) × (default_value env i.value ≡ Ok x) × (with_inputs js (env ++ bind i.name x ∷ []) ≡ Ok more)
    by_default (Ok x) k g = (x, k, g)
    by_default (Err c) k g = absurd (cc)

module _ (structs : Structs) (given : List Bind) where
  -- The inputs may be taken, and what is then at hand fits.
  abbrev pub Law : List Bound → List TInput → List Bind → Type 0
  Law names is env = AreInputsReady is env × ((more : List Bind) → with_inputs is env ≡ Ok more → Fit structs (names ++ inputs_bound is) [] more)

  pub inputs_law : (names : List Bound) (is : List TInput) (env : List Bind) → inputs_typed structs names is ≡ true → list_all (is_given given) is ≡ true
      → Keeps given env → Fit structs names (inputs_bound is) env → Law names is env
  inputs_law names [] env typed needs kept f = (
    tt,
    λ more h. let same : env ≡ more = cc in
        subst (λ (bs : List Bound). Fit structs bs [] more) (sym (append_none names)) (subst (λ (z : List Bind). Fit structs names [] z) same f),
  )
  inputs_law names (i ∷ is) env typed needs kept f =
      let p = and_parts (is_written structs i.ty && default_typed structs names i.ty i.value) (inputs_typed structs (names ++ bound i.name i.ty ∷ []) is) typed in
      let q = and_parts (is_written structs i.ty) (default_typed structs names i.ty i.value) p.0 in
      let n = and_parts (is_given given i) (list_all (is_given given) is) needs in
      by_value (lookup env (plain_key i.name)) refl q.1 n.0
      (λ (after : List Bind) (k : Keeps given after) (g : Fit structs (names ++ bound i.name i.ty ∷ []) (inputs_bound is) after).
      inputs_law (names ++ bound i.name i.ty ∷ []) is after p.1 n.1 k g)
    where
      Rest : Type 0
      Rest = (after : List Bind) → Keeps given after → Fit structs (names ++ bound i.name i.ty ∷ []) (inputs_bound is) after → Law (names ++ bound i.name i.ty ∷ []) is after

      at_end : (more : List Bind) → Fit structs ((names ++ bound i.name i.ty ∷ []) ++ inputs_bound is) [] more → Fit structs (names ++ bound i.name i.ty ∷ inputs_bound is) [] more
      at_end more g = subst (λ (bs : List Bound). Fit structs bs [] more) (append_assoc names (bound i.name i.ty ∷ []) (inputs_bound is)) g

      made : default_typed structs names i.ty i.value ≡ true → is_given given i ≡ true → lookup env (plain_key i.name) ≡ None → Rest
          → (x : Value) → default_value env i.value ≡ Ok x → Law (names ++ bound i.name i.ty ∷ []) is (env ++ bind i.name x ∷ [])
      made typed needed e rest x d =
          let absent = ap is_some (kept (plain_key i.name) e) in
          let fit = default_fits structs names (bound i.name i.ty ∷ inputs_bound is) env i.value i.ty x typed
          (either_left (not (is_required i)) (is_some (lookup given (plain_key i.name))) needed absent) f d in
          rest (env ++ bind i.name x ∷ []) (λ key h. kept key (lookup_front env (bind i.name x ∷ []) key h))
          (made_next structs names (inputs_bound is) (bound i.name i.ty) env x fit f)

      by_value : (o : Option Value) → lookup env (plain_key i.name) ≡ o → default_typed structs names i.ty i.value ≡ true → is_given given i ≡ true → Rest → Law names (i ∷ is) env
      by_value (Some x) e typed needed rest =
          let law = rest env kept (given_next structs names (inputs_bound is) (bound i.name i.ty) env x e (same_key-true (plain_key i.name)) f) in (
            (
              λ h. absurd (false≢true (sym h ∙ ap is_some e)),
              λ more h. let step = found_step i [] env x e in let same : env ≡ more = cc in subst (λ (z : List Bind). AreInputsReady is z) same law.0,
            ),
            λ more h. at_end more (law.1 more (sym (found_step i is env x e) ∙ h)),
          )
      by_value None e typed needed rest = (
        (
          λ h. default_ready structs names (bound i.name i.ty ∷ inputs_bound is) env i.value i.ty typed f,
          λ more h. let s = left_step i [] env more e h in let end = s.2 in let same : (env ++ bind i.name s.0 ∷ []) ≡ more = cc in
              subst (λ (z : List Bind). AreInputsReady is z) same (made typed needed e rest s.0 s.1).0,
        ),
        λ more h. let s = left_step i is env more e h in at_end more ((made typed needed e rest s.0 s.1).1 more s.2),
      )
