-- The inputs of a task call, and what its tool takes.
use Rattle.std.proofs.Common.{◌≡◌, ℕ, ◌⊎◌, inl, inr, Bool, true, false, cond, not, ◌&&◌, ◌||◌, List, [], ◌∷◌, ◌++◌, map, Option, Some, None, Ok, Err, Contains, sym, ap, ◌∙◌, subst, refl}
use Rattle.std.specs.Str.{bytes_eq}
use Rattle.std.proofs.lemmas.Bool.{false≢true, and_parts, or_left, or_right}
use Rattle.std.proofs.lemmas.Slice.Eq.{bytes_eq-Decides}
use Rattle.wdl_base.specs.declared.fault.EvalCode.TheVariants.{TooLarge}
use Rattle.wdl_value.specs.declared.env.Bind.{Bind}
use Rattle.wdl_value.specs.declared.value.Value.{Value}
use Rattle.wdl_value.specs.declared.value.Value.TheVariants as v
use Rattle.wdl_value.specs.Limits.{is_within}
use Rattle.wdl_value.specs.Outcome.{Outcome}
use Rattle.wdl_typed.specs.declared.expr.TExpr.{TExpr}
use Rattle.wdl_typed.specs.declared.task.TInput.{TInput}
use Rattle.wdl_value.specs.Fits.{Structs}
use Rattle.wdl_typed.specs.Declarations.{input_names, plain_key}
use Rattle.wdl_typed.specs.KnownTypes.{is_some}
use Rattle.wdl_typed.specs.Lists.{are_distinct, has_name}
use Rattle.wdl_typed.specs.Requests.{Failing, Tried, bind, default_value, named as called, tried, with_inputs}
use Rattle.wdl_typed.specs.Scope.{lookup, same_key}
use Rattle.cwl_model.specs.Means.{Named, all_taken, are_within, given_or, value_at}
use Rattle.cwl_model.proofs.Rounds.{first_is, first_or_later, later_is, none_is, or_else}
use Rattle.cwl_image.specs.Image.{cwl_in, literal, preset_of}
use Rattle.cwl_laws.specs.Tools.{input_value}
use Rattle.cwl_laws.proofs.Starts.{AllMeet, LeftOut, absent_within}

binds_append : (bs cs : List Bind) (name : List ℕ) → lookup (bs ++ cs) (plain_key name) ≡ or_else (lookup bs (plain_key name)) (lookup cs (plain_key name))
binds_append [] cs name = refl
binds_append (b ∷ bs) cs name = split (binds_append bs cs name) (same_key b.key (plain_key name))
  where
    split : lookup (bs ++ cs) (plain_key name) ≡ or_else (lookup bs (plain_key name)) (lookup cs (plain_key name)) → (w : Bool)
        → cond w (Some b.value) (lookup (bs ++ cs) (plain_key name)) ≡ or_else (cond w (Some b.value) (lookup bs (plain_key name))) (lookup cs (plain_key name))
    split e true = refl
    split e false = e

-- what is bound stays bound, with its value
abbrev pub Stays : List Bind → List Bind → Type 0
Stays env more = (name : List ℕ) (x : Value) → lookup env (plain_key name) ≡ Some x → lookup more (plain_key name) ≡ Some x

stays_append : (env more : List Bind) → Stays env (env ++ more)
stays_append env more name x h = binds_append env more name ∙ ap (λ o. or_else o (lookup more (plain_key name))) h

name_known : (is : List TInput) (j : TInput) → Contains is j → has_name j.name (input_names is) ≡ true
name_known [] j c = absurd (none_is j c)
name_known (i ∷ is) j c = by_case (λ d. name_known is j d) (first_or_later i is j c)
  where
    by_case : (Contains is j → has_name j.name (input_names is) ≡ true) → (i ≡ j) ⊎ Contains is j → (bytes_eq i.name j.name || has_name j.name (input_names is)) ≡ true
    by_case rest (inl e) = or_left (bytes_eq i.name j.name) (has_name j.name (input_names is)) ((bytes_eq-Decides i.name j.name).1 (ap (λ (z : TInput). z.name) e))
    by_case rest (inr d) = or_right (bytes_eq i.name j.name) (has_name j.name (input_names is)) (rest d)

-- No later input has the name.
pub name_apart : (i : TInput) (is : List TInput) → not (has_name i.name (input_names is)) ≡ true → (j : TInput) → Contains is j → bytes_eq i.name j.name ≡ false
name_apart i is h j c = by_test (bytes_eq i.name j.name) refl
  where
    by_test : (b : Bool) → bytes_eq i.name j.name ≡ b → b ≡ false
    by_test false e = refl
    by_test true e = absurd (false≢true (sym (ap not (name_known is j c)) ∙ subst (λ (n : List ℕ). not (has_name n (input_names is)) ≡ true) ((bytes_eq-Decides i.name j.name).0 e) h))

module _ (structs : Structs) (object : List Named) where
  -- each input has the value that the tool takes, or one passes a limit
  abbrev pub Bound : List TInput → List Bind → Tried (List Bind) → Type 0
  Bound is env o =
      ((are_within (all_taken object (map cwl_in is)) ≡ true)
      × ((last : List Bind) × (o ≡ Ok last) × Stays env last × ((i : TInput) → Contains is i → lookup last (plain_key i.name) ≡ Some (input_value object i))))
      ⊎ ((are_within (all_taken object (map cwl_in is)) ≡ false) × ((f : Failing) × (o ≡ Err f)))

  pub inputs_bound : (is : List TInput) (env : List Bind) → AllMeet structs object is → are_distinct (input_names is) ≡ true → ((i : TInput) → Contains is i → lookup env (plain_key i.name) ≡ value_at object i.name)
      → Bound is env (with_inputs is env)
  inputs_bound [] env h d same = inl (refl, (env, refl, (λ name x e. e), (λ i c. absurd (none_is i c))))
  inputs_bound (i ∷ is) env h d same =
      by_value (value_at object i.name) refl (inputs_bound is env h.1 apart.1 (λ j c. same j (later_is i is j c)))
      (λ x e. inputs_bound is (env ++ bind i.name x ∷ []) h.1 apart.1 (λ j c. later x j c))
    where
      apart : (not (has_name i.name (input_names is)) ≡ true) × (are_distinct (input_names is) ≡ true)
      apart = and_parts (not (has_name i.name (input_names is))) (are_distinct (input_names is)) d

      mine : lookup env (plain_key i.name) ≡ value_at object i.name
      mine = same i (first_is i is)

      later : (x : Value) (j : TInput) → Contains is j → lookup (env ++ bind i.name x ∷ []) (plain_key j.name) ≡ value_at object j.name
      later x j c =
          binds_append env (bind i.name x ∷ []) j.name
          ∙ ap (λ w. or_else (lookup env (plain_key j.name)) (cond (w && true) (Some x) None)) (name_apart i is apart.0 j c)
          ∙ or_none (lookup env (plain_key j.name)) ∙ same j (later_is i is j c)
        where
          or_none : (o : Option Value) → or_else o None ≡ o
          or_none (Some y) = refl
          or_none None = refl

      added : (x : Value) → lookup env (plain_key i.name) ≡ None → lookup (env ++ bind i.name x ∷ []) (plain_key i.name) ≡ Some x
      added x e =
          binds_append env (bind i.name x ∷ []) i.name ∙ ap (λ o. or_else o (cond (bytes_eq i.name i.name && true) (Some x) None)) e
          ∙ ap (λ w. cond (w && true) (Some x) None) ((bytes_eq-Decides i.name i.name).1 refl)

      -- one input that has its value, and the rest
      with_one : (start : List Bind) (o : Tried (List Bind)) → Stays env start → lookup start (plain_key i.name) ≡ Some (input_value object i) → is_within (input_value object i) ≡ true
          → Bound is start o → Bound (i ∷ is) env o
      with_one start o stays own within (inl r) =
          inl (
            ap (λ w. w && are_within (all_taken object (map cwl_in is))) within ∙ r.0,
            (
              r.1.0,
              r.1.1,
              (λ name x e. r.1.2 name x (stays name x e)),
              (λ j c. by_case j (first_or_later i is j c)),
            ),
          )
        where
          by_case : (j : TInput) → (i ≡ j) ⊎ Contains is j → lookup r.1.0 (plain_key j.name) ≡ Some (input_value object j)
          by_case j (inl e) = subst (λ (q : TInput). lookup r.1.0 (plain_key q.name) ≡ Some (input_value object q)) e (r.1.2 i.name (input_value object i) own)
          by_case j (inr c) = r.1.3 j c
      with_one start o stays own within (inr r) = inr (ap (λ w. w && are_within (all_taken object (map cwl_in is))) within ∙ r.0, r.1)

      left_out : (o : Option TExpr) → value_at object i.name ≡ None → LeftOut structs i o → i.value ≡ o
          → ((x : Value) (e : Unit {0}) → Bound is (env ++ bind i.name x ∷ []) (with_inputs is (env ++ bind i.name x ∷ [])))
          → Bound (i ∷ is) env (tried (called i.name (default_value env o)) (λ x. with_inputs is (env ++ bind i.name x ∷ [])))
      left_out None e l q rest =
          let value_is : input_value object i ≡ v.Absent = ap (λ w. given_or w (preset_of i.value)) e ∙ ap (λ w. given_or None (preset_of w)) q in
          with_one (env ++ bind i.name v.Absent ∷ []) (with_inputs is (env ++ bind i.name v.Absent ∷ [])) (stays_append env (bind i.name v.Absent ∷ []))
          (added v.Absent (mine ∙ e) ∙ ap (λ x. Some x) (sym value_is)) (ap is_within value_is ∙ absent_within) (rest v.Absent tt)
      left_out (Some t) e l q rest =
          let value_is : input_value object i ≡ literal t = ap (λ w. given_or w (preset_of i.value)) e ∙ ap (λ w. given_or None (preset_of w)) q in
          subst (λ (o : Outcome Value). Bound (i ∷ is) env (tried (called i.name o) (λ x. with_inputs is (env ++ bind i.name x ∷ [])))) (sym (l.1 env)) (by_limit value_is (is_within (literal t)) refl)
        where
          by_limit : input_value object i ≡ literal t → (w : Bool) → is_within (literal t) ≡ w
              → Bound (i ∷ is) env (tried (called i.name (cond w (Ok (literal t)) (Err TooLarge))) (λ x. with_inputs is (env ++ bind i.name x ∷ [])))
          by_limit value_is true w =
              with_one (env ++ bind i.name (literal t) ∷ []) (with_inputs is (env ++ bind i.name (literal t) ∷ [])) (stays_append env (bind i.name (literal t) ∷ []))
              (added (literal t) (mine ∙ e) ∙ ap (λ x. Some x) (sym value_is)) (ap is_within value_is ∙ w) (rest (literal t) tt)
          by_limit value_is false w = inr (ap (λ u. u && are_within (all_taken object (map cwl_in is))) (ap is_within value_is ∙ w), (_, refl))

      by_value : (o : Option Value) → value_at object i.name ≡ o → Bound is env (with_inputs is env)
          → ((x : Value) (e : Unit {0}) → Bound is (env ++ bind i.name x ∷ []) (with_inputs is (env ++ bind i.name x ∷ []))) → Bound (i ∷ is) env (with_inputs (i ∷ is) env)
      by_value None e here rest =
          subst (λ w. Bound (i ∷ is) env (cond w (with_inputs is env) (tried (called i.name (default_value env i.value)) (λ x. with_inputs is (env ++ bind i.name x ∷ [])))))
          (sym (ap is_some (mine ∙ e))) (left_out i.value e (h.0.left e) refl rest)
      by_value (Some x) e here rest =
          let m = h.0.given x e in
          let value_is : input_value object i ≡ x = ap (λ w. given_or w (preset_of i.value)) e ∙ m.2 in
          subst (λ w. Bound (i ∷ is) env (cond w (with_inputs is env) (tried (called i.name (default_value env i.value)) (λ x. with_inputs is (env ++ bind i.name x ∷ [])))))
          (sym (ap is_some (mine ∙ e)))
          (with_one env (with_inputs is env) (λ name y q. q) (mine ∙ e ∙ ap (λ y. Some y) (sym value_is)) (ap is_within value_is ∙ m.1) here)
