-- Expressions over names whose values fit.
use Rattle.std.proofs.Common.{◌≡◌, ℕ, Bool, true, false, cond, ◌||◌, List, [], ◌∷◌, ◌++◌, Option, Some, None, Ok, Err, sym, ap, ◌∙◌, subst, refl}
use Rattle.std.specs.List.{list_all}
use Rattle.std.proofs.lemmas.Bool.{false≢true, and_parts}
use Rattle.wdl_base.specs.declared.name.Key.{Key}
use Rattle.wdl_value.specs.declared.ty.Ty.{Ty}
use Rattle.wdl_value.specs.declared.value.Value.{Value}
use Rattle.wdl_value.specs.Fits.{Structs, fits}
use Rattle.wdl_value.specs.Outcome.{Outcome}
use Rattle.wdl_value.proofs.SameTypeLemmas.{same_type-true}
use Rattle.wdl_typed.specs.declared.expr.TExpr.{TExpr}
use Rattle.wdl_typed.specs.declared.scope.Bound.{Bound}
use Rattle.wdl_typed.specs.Declarations.{bound, context, in_body}
use Rattle.wdl_typed.specs.Evaluation.{Met, settled, value_met, value_of}
use Rattle.wdl_typed.specs.Flow.{Known, Sight, all_known, bound_by, declaration, declared_as, env_of, is_known, known as known_as, named}
use Rattle.wdl_typed.specs.KnownTypes.{is_some}
use Rattle.wdl_typed.specs.Requests.{before}
use Rattle.wdl_typed.specs.Scope.{is_among, lookup, names_of, same_key, type_in}
use Rattle.wdl_typed.specs.Typing.{is_type}
use Rattle.wdl_eval.specs.Laws.{IsMet}
use Rattle.wdl_eval.specs.Ready.{FitsNames, IsGiven}
use Rattle.wdl_eval.proofs.Sound.{values_are_sound}
use Rattle.flow_soundness.specs.Readiness.{Agrees, FitsSome, IsDeclReady}
use Rattle.wdl_flow.proofs.MarkLemmas.{same_key-true}
use Rattle.wdl_task.proofs.Fit.{type_kept as type_front, value_kept as lookup_front, value_later as lookup_back, type_later as type_back}

-- ---- lists of names

pub all_among : (p : Key → Bool) (keys : List Key) (key : Key) → list_all p keys ≡ true → is_among key keys ≡ true → p key ≡ true
all_among p [] key h m = absurd (false≢true m)
all_among p (k ∷ ks) key h m =
    let q = and_parts (p k) (list_all p ks) h in
    by_test (same_key k key) refl m q.0 (all_among p ks key q.1)
  where
    by_test : (b : Bool) → same_key k key ≡ b → (b || is_among key ks) ≡ true → p k ≡ true → (is_among key ks ≡ true → p key ≡ true) → p key ≡ true
    by_test true e m own rest = sym (ap p (same_key-true k key e)) ∙ own
    by_test false e m own rest = rest m

pub some_of : {A : Type 0} (o : Option A) → is_some o ≡ true → (x : A) × (o ≡ Some x)
some_of (Some x) h = (x, refl)
some_of None h = absurd (false≢true h)

pub is_type-some : (o : Option Ty) (t : Ty) → is_type o t ≡ true → o ≡ Some t
is_type-some (Some u) t h = ap (λ z. Some z) (same_type-true u t h)
is_type-some None t h = absurd (false≢true h)

pub env_both : (ks ls : List Known) → env_of (ks ++ ls) ≡ env_of ks ++ env_of ls
env_both [] ls = refl
env_both (k ∷ ks) ls = by_value k.value (env_both ks ls)
  where
    by_value : (o : Option Value) → env_of (ks ++ ls) ≡ env_of ks ++ env_of ls → bound_by k.key o ++ env_of (ks ++ ls) ≡ (bound_by k.key o ++ env_of ks) ++ env_of ls
    by_value None rest = rest
    by_value (Some x) rest = ap (λ bs. record { key = k.key; value = x } ∷ bs) rest

-- ---- names that agree with their types

module _ (structs : Structs) where
  fits_some : (o : Option Ty) (x : Value) → FitsSome structs o x → (t : Ty) × (o ≡ Some t) × (fits structs x t ≡ true)
  fits_some None x h = absurd h
  fits_some (Some t) x h = (t, refl, h)

  -- with new names behind the others
  pub agrees_both : (names more : List Bound) (ks ls : List Known) → Agrees structs names ks → Agrees structs more ls
      → ((key : Key) (t : Ty) → type_in more key ≡ Some t → type_in names key ≡ None) → Agrees structs (names ++ more) (ks ++ ls)
  agrees_both names more ks ls f g new key x h = by_front (lookup (env_of ks) key) refl (sym (ap (λ env. lookup env key) (env_both ks ls)) ∙ h)
    where
      by_front : (o : Option Value) → lookup (env_of ks) key ≡ o → lookup (env_of ks ++ env_of ls) key ≡ Some x → FitsSome structs (type_in (names ++ more) key) x
      by_front (Some y) e k =
          let front = lookup_front (env_of ks) (env_of ls) key y e in
          let same : y ≡ x = cc in
          let p = fits_some (type_in names key) x (f key x (e ∙ ap (λ z. Some z) same)) in
          subst (λ (o : Option Ty). FitsSome structs o x) (sym (type_front names more key p.0 p.1)) p.2
      by_front None e k =
          let p = fits_some (type_in more key) x (g key x (sym (lookup_back (env_of ks) (env_of ls) key e) ∙ k)) in
          subst (λ (o : Option Ty). FitsSome structs o x) (sym (type_back names more key (new key p.0 p.1) ∙ p.1)) p.2

  -- the names of an expression that are all known have values that fit
  pub names_fit : (names : List Bound) (ks : List Known) (e : TExpr) → Agrees structs names ks → all_known ks e ≡ true → FitsNames (context structs names) (env_of ks) (names_of e)
  names_fit names ks e f known key h = by_type (type_in names key) refl
    where
      by_type : (o : Option Ty) → type_in names key ≡ o → IsGiven structs o (lookup (env_of ks) key)
      by_type None k = tt
      by_type (Some t) k =
          let p = some_of (lookup (env_of ks) key) (all_among (is_known ks) (names_of e) key known h) in
          let fit : FitsSome structs (Some t) p.0 = subst (λ (o : Option Ty). FitsSome structs o p.0) k (f key p.0 p.1) in
          subst (λ (o : Option Value). IsGiven structs (Some t) o) (sym p.1) fit

  pub decl_ready : (names : List Bound) (s : Sight) (e : TExpr) (t : Ty) → in_body structs names e ≡ Some t → Agrees structs names s.names → IsDeclReady e s
  decl_ready names s e t typed f known = record {
    context = context structs names;
    placeholder = false;
    ty = t;
    typed = typed;
    fitting = names_fit names s.names e f known;
  }

  met_ok : (t : Ty) (r : Met Value) (x : Value) → IsMet (λ y. fits structs y t ≡ true) r → settled r ≡ Ok x → fits structs x t ≡ true
  met_ok t (Ok a) x h e = let same : a ≡ x = cc in subst (λ (y : Value). fits structs y t ≡ true) same h
  met_ok t (Err (Some c)) x h e = absurd (cc)
  met_ok t (Err None) x h e = absurd h

  -- its value fits its type
  pub value_fits : (names : List Bound) (ks : List Known) (e : TExpr) (t : Ty) (x : Value) → in_body structs names e ≡ Some t → Agrees structs names ks → all_known ks e ≡ true
      → value_of (before (env_of ks)) e ≡ Ok x → fits structs x t ≡ true
  value_fits names ks e t x typed f known h =
      met_ok t (value_met (before (env_of ks)) e) x (values_are_sound (context structs names) false (before (env_of ks)) e t typed (names_fit names ks e f known)) h

  -- ---- one name

  pub agrees_one : (b : Bound) (o : Option Value) → ((x : Value) → o ≡ Some x → fits structs x b.ty ≡ true) → Agrees structs (b ∷ []) (record { key = b.key; value = o } ∷ [])
  agrees_one b None f key x h = absurd (cc)
  agrees_one b (Some y) f key x h = by_test (same_key b.key key) refl h
    where
      by_test : (s : Bool) → same_key b.key key ≡ s → cond s (Some y) None ≡ Some x → FitsSome structs (cond s (Some b.ty) None) x
      by_test true e k = f x k
      by_test false e k = absurd (cc)

  pub declaration_agrees : (names : List Bound) (s : Sight) (name : List ℕ) (e : TExpr) (t : Ty) → in_body structs names e ≡ Some t → Agrees structs names s.names
      → Agrees structs (bound name t ∷ []) (declaration s name e).names
  declaration_agrees names s name e t typed f = by_known (all_known s.names e) refl
    where
      by_value : (o : Outcome Value) → value_of (before (env_of s.names)) e ≡ o → all_known s.names e ≡ true → Agrees structs (bound name t ∷ []) (declared_as s.place name o).names
      by_value (Ok y) h known = agrees_one (bound name t) (Some y) (λ x k. let same : y ≡ x = cc in subst (λ (z : Value). fits structs z t ≡ true) same (value_fits names s.names e t y typed f known h))
      by_value (Err c) h known = agrees_one (bound name t) None (λ x k. absurd (cc))

      by_known : (b : Bool) → all_known s.names e ≡ b
          → Agrees structs (bound name t ∷ []) (cond b (declared_as s.place name (value_of (before (env_of s.names)) e)) (named (known_as name None))).names
      by_known true h = by_value (value_of (before (env_of s.names)) e) refl h
      by_known false h = agrees_one (bound name t) None (λ x k. absurd (cc))
