-- Names with values that fit, one name after another.
use Rattle.std.proofs.Common.{◌≡◌, Bool, true, false, cond, List, [], ◌∷◌, ◌++◌, Option, Some, None, append_assoc, sym, ap, ◌∙◌, subst, refl}
use Rattle.wdl_base.specs.declared.name.Key.{Key}
use Rattle.wdl_value.specs.declared.env.Bind.{Bind}
use Rattle.wdl_value.specs.declared.ty.Ty.{Ty}
use Rattle.wdl_value.specs.declared.value.Value.{Value}
use Rattle.wdl_value.specs.Fits.{Structs, fits}
use Rattle.wdl_typed.specs.declared.expr.TExpr.{TExpr}
use Rattle.wdl_typed.specs.declared.scope.Bound.{Bound}
use Rattle.wdl_typed.specs.Scope.{lookup, names_of, same_key, type_in}
use Rattle.wdl_typed.specs.Typing.{type_of}
use Rattle.wdl_eval.specs.Ready.{FitsNames, IsGiven, IsReady}
use Rattle.wdl_task.specs.Soundness.{HasAll}

pub append_none : {A : Type 0} (xs : List A) → xs ++ [] ≡ xs
append_none [] = refl
append_none (x ∷ xs) = ap (λ ys. x ∷ ys) (append_none xs)

-- ---- look-ups in longer lists

pub type_kept : (names more : List Bound) (key : Key) (t : Ty) → type_in names key ≡ Some t → type_in (names ++ more) key ≡ Some t
type_kept [] more key t h = absurd (cc)
type_kept (b ∷ bs) more key t h = by_test (same_key b.key key) h (type_kept bs more key t)
  where
    by_test : (s : Bool) → cond s (Some b.ty) (type_in bs key) ≡ Some t → (type_in bs key ≡ Some t → type_in (bs ++ more) key ≡ Some t) → cond s (Some b.ty) (type_in (bs ++ more) key) ≡ Some t
    by_test true h rest = h
    by_test false h rest = rest h

pub type_later : (names more : List Bound) (key : Key) → type_in names key ≡ None → type_in (names ++ more) key ≡ type_in more key
type_later [] more key h = refl
type_later (b ∷ bs) more key h = by_test (same_key b.key key) h (type_later bs more key)
  where
    by_test : (s : Bool) → cond s (Some b.ty) (type_in bs key) ≡ None → (type_in bs key ≡ None → type_in (bs ++ more) key ≡ type_in more key) → cond s (Some b.ty) (type_in (bs ++ more) key) ≡ type_in more key
    by_test true h rest = absurd (cc)
    by_test false h rest = rest h

pub value_kept : (env more : List Bind) (key : Key) (x : Value) → lookup env key ≡ Some x → lookup (env ++ more) key ≡ Some x
value_kept [] more key x h = absurd (cc)
value_kept (b ∷ bs) more key x h = by_test (same_key b.key key) h (value_kept bs more key x)
  where
    by_test : (s : Bool) → cond s (Some b.value) (lookup bs key) ≡ Some x → (lookup bs key ≡ Some x → lookup (bs ++ more) key ≡ Some x) → cond s (Some b.value) (lookup (bs ++ more) key) ≡ Some x
    by_test true h rest = h
    by_test false h rest = rest h

pub value_later : (env more : List Bind) (key : Key) → lookup env key ≡ None → lookup (env ++ more) key ≡ lookup more key
value_later [] more key h = refl
value_later (b ∷ bs) more key h = by_test (same_key b.key key) h (value_later bs more key)
  where
    by_test : (s : Bool) → cond s (Some b.value) (lookup bs key) ≡ None → (lookup bs key ≡ None → lookup (bs ++ more) key ≡ lookup more key) → cond s (Some b.value) (lookup (bs ++ more) key) ≡ lookup more key
    by_test true h rest = absurd (cc)
    by_test false h rest = rest h

-- ---- names that have values

module _ (structs : Structs) where
  -- the value fits the type, which is there
  abbrev pub FitsSome : Option Ty → Value → Type 0
  FitsSome None x = ⊥
  FitsSome (Some t) x = fits structs x t ≡ true

  -- The first names have values; each value fits the type that its name has among all.
  pub record Fit (names rest : List Bound) (env : List Bind) : Type 0 where
    pub covered : (key : Key) (t : Ty) → type_in names key ≡ Some t → (x : Value) × (lookup env key ≡ Some x)
    pub within : (key : Key) (x : Value) → lookup env key ≡ Some x → FitsSome (type_in (names ++ rest) key) x

  abbrev one : Bound → List Bound
  one b = b ∷ []

  abbrev bind_of : Bound → Value → Bind
  bind_of b x = record { key = b.key; value = x }

  -- with a name that has a value already
  pub given_next : (names rest : List Bound) (b : Bound) (env : List Bind) (x : Value) → lookup env b.key ≡ Some x
      → ((key : Key) → same_key b.key key ≡ true → b.key ≡ key) → Fit names (b ∷ rest) env → Fit (names ++ one b) rest env
  given_next names rest b env x here same f = record {
    covered = λ key t h. by_type key t (type_in names key) refl h;
    within = λ key y h. subst (λ (bs : List Bound). FitsSome (type_in bs key) y) (sym (append_assoc names (one b) rest)) (f.within key y h);
  }
    where
      by_key : (key : Key) (t : Ty) (s : Bool) → same_key b.key key ≡ s → cond s (Some b.ty) None ≡ Some t → (y : Value) × (lookup env key ≡ Some y)
      by_key key t true e h = (x, ap (lookup env) (sym (same key e)) ∙ here)
      by_key key t false e h = absurd (cc)

      by_type : (key : Key) (t : Ty) (o : Option Ty) → type_in names key ≡ o → type_in (names ++ one b) key ≡ Some t → (y : Value) × (lookup env key ≡ Some y)
      by_type key t (Some u) e h = f.covered key u e
      by_type key t None e h = by_key key t (same_key b.key key) refl (sym (type_later names (one b) key e) ∙ h)

  -- with a name that has a new value
  pub made_next : (names rest : List Bound) (b : Bound) (env : List Bind) (x : Value) → fits structs x b.ty ≡ true
      → Fit names (b ∷ rest) env → Fit (names ++ one b) rest (env ++ bind_of b x ∷ [])
  made_next names rest b env x fitting f = record {
    covered = λ key t h. by_type key t (type_in names key) refl h;
    within = λ key y h. subst (λ (bs : List Bound). FitsSome (type_in bs key) y) (sym (append_assoc names (one b) rest)) (by_value key y (lookup env key) refl h);
  }
    where
      by_key : (key : Key) (t : Ty) (s : Bool) → same_key b.key key ≡ s → cond s (Some b.ty) None ≡ Some t → (y : Value) × (cond s (Some x) None ≡ Some y)
      by_key key t true e h = (x, refl)
      by_key key t false e h = absurd (cc)

      by_env : (key : Key) (t : Ty) → type_in names key ≡ None → type_in (names ++ one b) key ≡ Some t → (o : Option Value) → lookup env key ≡ o → (y : Value) × (lookup (env ++ bind_of b x ∷ []) key ≡ Some y)
      by_env key t n h (Some y) e = (y, value_kept env (bind_of b x ∷ []) key y e)
      by_env key t n h None e =
          let p = by_key key t (same_key b.key key) refl (sym (type_later names (one b) key n) ∙ h) in
          (p.0, value_later env (bind_of b x ∷ []) key e ∙ p.1)

      by_type : (key : Key) (t : Ty) (o : Option Ty) → type_in names key ≡ o → type_in (names ++ one b) key ≡ Some t → (y : Value) × (lookup (env ++ bind_of b x ∷ []) key ≡ Some y)
      by_type key t (Some u) e h = let p = f.covered key u e in (p.0, value_kept env (bind_of b x ∷ []) key p.0 p.1)
      by_type key t None e h = by_env key t e h (lookup env key) refl

      -- the new value's type is that of its own name
      at_new : (key : Key) (y : Value) (s : Bool) → same_key b.key key ≡ s → cond s (Some x) None ≡ Some y → FitsSome (cond s (Some b.ty) (type_in rest key)) y
      at_new key y true e h = let same : x ≡ y = cc in subst (λ (z : Value). fits structs z b.ty ≡ true) same fitting
      at_new key y false e h = absurd (cc)

      new_name : (key : Key) → lookup env key ≡ None → (o : Option Ty) → type_in names key ≡ o → type_in names key ≡ None
      new_name key e (Some u) k = let p = f.covered key u k in absurd (cc)
      new_name key e None k = k

      by_value : (key : Key) (y : Value) (o : Option Value) → lookup env key ≡ o → lookup (env ++ bind_of b x ∷ []) key ≡ Some y → FitsSome (type_in (names ++ b ∷ rest) key) y
      by_value key y (Some z) e h =
          let kept = value_kept env (bind_of b x ∷ []) key z e in
          let same : z ≡ y = cc in
          subst (λ (w : Value). FitsSome (type_in (names ++ b ∷ rest) key) w) same (f.within key z e)
      by_value key y None e h =
          subst (λ (o : Option Ty). FitsSome o y) (sym (type_later names (b ∷ rest) key (new_name key e (type_in names key) refl)))
          (at_new key y (same_key b.key key) refl (sym (value_later env (bind_of b x ∷ []) key e) ∙ h))

  -- with more names to come
  pub fit_more : (names more : List Bound) (env : List Bind) → Fit names [] env → Fit names more env
  fit_more names more env f = record {
    covered = f.covered;
    within = λ key x h. by_type key x (type_in names key) refl (subst (λ (bs : List Bound). FitsSome (type_in bs key) x) (append_none names) (f.within key x h));
  }
    where
      by_type : (key : Key) (x : Value) (o : Option Ty) → type_in names key ≡ o → FitsSome (type_in names key) x → FitsSome (type_in (names ++ more) key) x
      by_type key x (Some u) e h =
          let fit : FitsSome (Some u) x = subst (λ (o : Option Ty). FitsSome o x) e h in
          subst (λ (o : Option Ty). FitsSome o x) (sym (type_kept names more key u e)) fit
      by_type key x None e h = absurd (subst (λ (o : Option Ty). FitsSome o x) e h)

  -- Each name has a value that fits.
  pub has_all : (names rest : List Bound) (env : List Bind) → Fit names rest env → HasAll structs names env
  has_all names rest env f key = by_type (type_in names key) refl
    where
      by_value : (u : Ty) → type_in names key ≡ Some u → (x : Value) → lookup env key ≡ Some x → IsGiven structs (Some u) (lookup env key)
      by_value u k x e =
          let fit : FitsSome (Some u) x = subst (λ (o : Option Ty). FitsSome o x) (type_kept names rest key u k) (f.within key x e) in
          subst (λ (o : Option Value). IsGiven structs (Some u) o) (sym e) fit

      by_type : (o : Option Ty) → type_in names key ≡ o → IsGiven structs o (lookup env key)
      by_type None k = tt
      by_type (Some u) k = let p = f.covered key u k in by_value u k p.0 p.1

  -- the names that have values fit
  pub fitting : (names rest : List Bound) (env : List Bind) (outputs : Bool) (ks : List Key) → Fit names rest env
      → FitsNames (record { structs = structs; names = names; outputs = outputs }) env ks
  fitting names rest env outputs ks f key h = has_all names rest env f key

  -- what is well typed over them may be evaluated
  pub ready : (names rest : List Bound) (env : List Bind) (outputs placeholder : Bool) (e : TExpr) (t : Ty)
      → type_of (record { structs = structs; names = names; outputs = outputs }) e placeholder ≡ Some t → Fit names rest env → IsReady e env
  ready names rest env outputs placeholder e t typed f = record {
    context = record { structs = structs; names = names; outputs = outputs };
    placeholder = placeholder;
    ty = t;
    typed = typed;
    fitting = fitting names rest env outputs (names_of e) f;
  }
