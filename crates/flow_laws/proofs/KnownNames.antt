-- Names that stay known, name by name, and what that says of an environment.
use Rattle.std.proofs.Common.{◌≡◌, ℕ, Bool, true, false, cond, not, List, [], ◌∷◌, ◌++◌, Option, Some, None, sym, ap, ◌∙◌, subst, refl}
use Rattle.std.specs.List.{list_all}
use Rattle.std.proofs.lemmas.Bool.{false≢true, and_parts, and_from, not-true, or_left, or_right}
use Rattle.wdl_base.specs.declared.name.Key.{Key}
use Rattle.wdl_value.specs.declared.value.Value.{Value}
use Rattle.wdl_typed.specs.declared.expr.TExpr.{TExpr}
use Rattle.wdl_typed.specs.Flow.{Ended, Known, all_known, bound_by, env_of, is_known}
use Rattle.wdl_typed.specs.Journal.{keys_distinct}
use Rattle.wdl_typed.specs.KnownTypes.{is_some}
use Rattle.wdl_typed.specs.Scope.{is_among, lookup, names_of, same_key}
use Rattle.flow_laws.specs.Below.{Stays}
use Rattle.flow_laws.proofs.Agree.{Agree}
use Rattle.flow_laws.proofs.Keys.{key_same}

abbrev pub keys_of : List Known → List Key
keys_of [] = []
keys_of (k ∷ ks) = k.key ∷ keys_of ks

abbrev pub calls_of : List Ended → List (List ℕ)
calls_of [] = []
calls_of (c ∷ cs) = c.call ∷ calls_of cs

-- ---- names

-- the same keys in the same order; what has a value keeps it
pub record NameStays (k l : Known) : Type 0 where
  pub key : k.key ≡ l.key
  pub value : Stays k.value l.value

abbrev pub NamesStay : List Known → List Known → Type 0
NamesStay [] [] = Unit {0}
NamesStay [] (l ∷ ls) = ⊥
NamesStay (k ∷ ks) [] = ⊥
NamesStay (k ∷ ks) (l ∷ ls) = NameStays k l × NamesStay ks ls

pub names_stay_same : (ks : List Known) → NamesStay ks ks
names_stay_same [] = tt
names_stay_same (k ∷ ks) = (record { key = refl; value = λ x h. h }, names_stay_same ks)

pub names_stay_both : (ks ls ms ns : List Known) → NamesStay ks ls → NamesStay ms ns → NamesStay (ks ++ ms) (ls ++ ns)
names_stay_both [] [] ms ns h j = j
names_stay_both [] (l ∷ ls) ms ns h j = absurd h
names_stay_both (k ∷ ks) [] ms ns h j = absurd h
names_stay_both (k ∷ ks) (l ∷ ls) ms ns h j = (h.0, names_stay_both ks ls ms ns h.1 j)

-- ---- what is looked up

found_first : (k : Known) (x : Value) (ks : List Known) (key : Key) → k.value ≡ Some x → same_key k.key key ≡ true → lookup (bound_by k.key k.value ++ env_of ks) key ≡ Some x
found_first k x ks key e h = subst (λ o. lookup (bound_by k.key o ++ env_of ks) key ≡ Some x) (sym e) (ap (λ b. cond b (Some x) (lookup (env_of ks) key)) h)

pub passed_over : (k : Key) (o : Option Value) (ks : List Known) (key : Key) → same_key k key ≡ false → lookup (bound_by k o ++ env_of ks) key ≡ lookup (env_of ks) key
passed_over k None ks key h = refl
passed_over k (Some x) ks key h = ap (λ b. cond b (Some x) (lookup (env_of ks) key)) h

-- a key that has a value is one of the keys
pub known_among : (ks : List Known) (key : Key) (x : Value) → lookup (env_of ks) key ≡ Some x → is_among key (keys_of ks) ≡ true
known_among [] key x h = cc
known_among (k ∷ ks) key x h = by_key (known_among ks key x) (same_key k.key key) refl
  where
    by_key : (lookup (env_of ks) key ≡ Some x → is_among key (keys_of ks) ≡ true) → (b : Bool) → same_key k.key key ≡ b → is_among key (k.key ∷ keys_of ks) ≡ true
    by_key rest true e = or_left (same_key k.key key) (is_among key (keys_of ks)) e
    by_key rest false e = or_right (same_key k.key key) (is_among key (keys_of ks)) (rest (sym (passed_over k.key k.value ks key e) ∙ h))

-- Where keys differ, what is looked up stays.
pub lookup_stays : (ks ls : List Known) → NamesStay ks ls → keys_distinct (keys_of ks) ≡ true → (key : Key) → Stays (lookup (env_of ks) key) (lookup (env_of ls) key)
lookup_stays [] [] h d key x e = e
lookup_stays [] (l ∷ ls) h d key x e = absurd h
lookup_stays (k ∷ ks) [] h d key x e = absurd h
lookup_stays (k ∷ ks) (l ∷ ls) h d key x e =
    by_key (lookup_stays ks ls h.1 (and_parts (not (is_among k.key (keys_of ks))) (keys_distinct (keys_of ks)) d).1 key x) (same_key k.key key) refl
  where
    here : same_key k.key key ≡ true → (o : Option Value) → k.value ≡ o → lookup (bound_by l.key l.value ++ env_of ls) key ≡ Some x
    here s (Some y) v =
        let same : y ≡ x = some_same (sym (found_first k y ks key v s) ∙ e) in
        found_first l x ls key (h.0.value x (v ∙ ap Some same)) (ap (λ j. same_key j key) (sym h.0.key) ∙ s)
      where
        some_same : {A : Type 0} {a b : A} → Some a ≡ Some b → a ≡ b
        some_same h = cc
    here s None v =
        let later : lookup (env_of ks) key ≡ Some x = sym (ap (λ o. lookup (bound_by k.key o ++ env_of ks) key) v) ∙ e in
        let among : is_among k.key (keys_of ks) ≡ true = subst (λ j. is_among j (keys_of ks) ≡ true) (sym (key_same k.key key s)) (known_among ks key x later) in
        let apart = not-true (is_among k.key (keys_of ks)) (and_parts (not (is_among k.key (keys_of ks))) (keys_distinct (keys_of ks)) d).0 in
        absurd (false≢true (sym apart ∙ among))

    by_key : (lookup (env_of ks) key ≡ Some x → lookup (env_of ls) key ≡ Some x) → (b : Bool) → same_key k.key key ≡ b → lookup (bound_by l.key l.value ++ env_of ls) key ≡ Some x
    by_key rest true s = here s k.value refl
    by_key rest false s =
        passed_over l.key l.value ls key (ap (λ j. same_key j key) (sym h.0.key) ∙ s) ∙ rest (sym (passed_over k.key k.value ks key s) ∙ e)

-- ---- expressions whose names are known

module _ (ks ls : List Known) (stay : (key : Key) → Stays (lookup (env_of ks) key) (lookup (env_of ls) key)) where
  pub known_stays : (key : Key) → is_known ks key ≡ true → is_known ls key ≡ true
  known_stays key h = by_value (lookup (env_of ks) key) refl
    where
      by_value : (o : Option Value) → lookup (env_of ks) key ≡ o → is_known ls key ≡ true
      by_value (Some x) e = ap is_some (stay key x e)
      by_value None e = absurd (false≢true (sym (ap is_some e) ∙ h))

  pub all_stay : (names : List Key) → list_all (is_known ks) names ≡ true → list_all (is_known ls) names ≡ true
  all_stay [] h = refl
  all_stay (n ∷ names) h =
      let p = and_parts (is_known ks n) (list_all (is_known ks) names) h in
      and_from (is_known ls n) (list_all (is_known ls) names) (known_stays n p.0) (all_stay names p.1)

  agree_at : (key : Key) (o : Option Value) → lookup (env_of ks) key ≡ o → is_known ks key ≡ true → lookup (env_of ks) key ≡ lookup (env_of ls) key
  agree_at key (Some x) e h = e ∙ sym (stay key x e)
  agree_at key None e h = absurd (false≢true (sym (ap is_some e) ∙ h))

  agree_all : (names : List Key) → list_all (is_known ks) names ≡ true → Agree (env_of ks) (env_of ls) names
  agree_all [] h = tt
  agree_all (n ∷ names) h =
      let p = and_parts (is_known ks n) (list_all (is_known ks) names) h in
      (agree_at n (lookup (env_of ks) n) refl p.0, agree_all names p.1)

  pub known_expr_stays : (e : TExpr) → all_known ks e ≡ true → all_known ls e ≡ true
  known_expr_stays e h = all_stay (names_of e) h

  pub known_agree : (e : TExpr) → all_known ks e ≡ true → Agree (env_of ks) (env_of ls) (names_of e)
  known_agree e h = agree_all (names_of e) h
