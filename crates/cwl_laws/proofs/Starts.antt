-- The inputs of a workflow, and what its body sees at its beginning.
use Rattle.std.proofs.Common.{◌≡◌, ℕ, nat_le, ◌⊎◌, inl, inr, Bool, true, false, cond, ◌&&◌, List, [], ◌∷◌, ◌++◌, map, Option, Some, None, Ok, Err, Contains, sym, ap, ◌∙◌, subst, refl}
use Rattle.std.specs.List.{list_all}
use Rattle.std.specs.Str.{bytes_eq}
use Rattle.std.proofs.lemmas.Bool.{false≢true, and_from, and_parts}
use Rattle.std.proofs.lemmas.Slice.Eq.{bytes_eq-Decides}
use Rattle.std.proofs.lemmas.Option.{none-some, same_Some}
use Rattle.wdl_base.specs.declared.fault.EvalCode.TheVariants.{TooLarge}
use Rattle.wdl_base.specs.declared.name.Key.{Key}
use Rattle.wdl_value.specs.declared.env.Bind.{Bind}
use Rattle.wdl_value.specs.declared.value.Value.{Value, fold-roll-Value}
use Rattle.wdl_value.specs.declared.value.Value.TheVariants as v
use Rattle.wdl_value.specs.declared.value.Value.TheOpen as value
use Rattle.wdl_value.specs.Fits.{Structs, fits}
use Rattle.wdl_value.specs.Limits.{is_short, is_within, limited, short_step}
use Rattle.wdl_value.specs.Parts.{is_undefined}
use Rattle.wdl_value.specs.Size.{size, size_step}
use Rattle.wdl_typed.specs.declared.expr.TExpr.{TExpr}
use Rattle.wdl_typed.specs.declared.task.TInput.{TInput}
use Rattle.wdl_value.specs.declared.ty.Ty.{Ty}
use Rattle.wdl_typed.specs.Declarations.{inputs_bound, plain_key}
use Rattle.wdl_typed.specs.Evaluation.{value_of}
use Rattle.wdl_typed.specs.Flow as flow
use Rattle.wdl_typed.specs.Flow.{Flowing, Sight, declaration, declared_as, default_of, env_of, is_clean, is_known, known, seeing, together}
use Rattle.wdl_typed.specs.Requests.{before}
use Rattle.wdl_typed.specs.Scope.{lookup, names_of, same_key, type_in}
use Rattle.cwl_model.specs.declared.process.Link.TheVariants as link
use Rattle.cwl_model.specs.Means.{Named, all_taken, are_typed, are_within, given_or, has_type, input_links, value_at}
use Rattle.cwl_model.specs.Rounds.{known_value}
use Rattle.cwl_model.proofs.Rounds.{first_is, first_or_later, later_is, none_is}
use Rattle.cwl_image.specs.Image.{Linkage, cwl_in, input_linkage, linkage_at, literal, preset_of, type_of}
use Rattle.cwl_laws.specs.Laws.{Fit, Shown, Shows}
use Rattle.cwl_laws.specs.Premises.{AreInputs, AreMet, IsInput, IsMet, IsPreset, input_names_with}
use Rattle.cwl_laws.specs.Tools.{input_value}
use Rattle.cwl_laws.proofs.Bodies.{clean_together}
use Rattle.cwl_laws.proofs.Objects.{absent_is, given_same}
use Rattle.wdl_flow.proofs.MarkLemmas.{same_key-true as key_same}

pub and_true : (b : Bool) → (b && true) ≡ b
and_true true = refl
and_true false = refl

pub absent_within : is_within v.Absent ≡ true
absent_within =
    and_from (nat_le (size v.Absent) 4194304) (is_short v.Absent)
    (ap (λ n. nat_le n 4194304) (ap size (sym v.rolls-Absent) ∙ fold-roll-Value ℕ size_step value.Absent))
    (ap is_short (sym v.rolls-Absent) ∙ fold-roll-Value Bool short_step value.Absent)

-- ---- inputs

abbrev pub LeftOut : Structs → TInput → Option TExpr → Type 0
LeftOut structs i None = (has_type (type_of i.ty) v.Absent ≡ true) × (fits structs v.Absent i.ty ≡ true)
LeftOut structs i (Some e) =
    (names_of e ≡ []) × ((env : List Bind) → value_of (before env) e ≡ limited (literal e)) × (has_type (type_of i.ty) (literal e) ≡ true) × (fits structs (literal e) i.ty ≡ true)

-- A value that is given is of the input's type and within the limits, and no null in the place of a default; an input that is left
-- out has a literal as its default, or may be null.
pub record Meets (structs : Structs) (object : List Named) (i : TInput) : Type 0 where
  pub given : (x : Value) → value_at object i.name ≡ Some x → (has_type (type_of i.ty) x ≡ true) × (is_within x ≡ true) × (given_or (Some x) (preset_of i.value) ≡ x) × (fits structs x i.ty ≡ true)
  pub left : value_at object i.name ≡ None → LeftOut structs i i.value

abbrev pub AllMeet : Structs → List Named → List TInput → Type 0
AllMeet structs object [] = Unit {0}
AllMeet structs object (i ∷ is) = Meets structs object i × AllMeet structs object is

-- A value that fits an input is none that its default stands for.
pub preset_kept : (structs : Structs) (i : TInput) → IsInput structs i → (x : Value) → fits structs x i.ty ≡ true → given_or (Some x) (preset_of i.value) ≡ x
preset_kept structs i is x ok = kept i.value is.preset
  where
    kept : (o : Option TExpr) → IsPreset structs i o → given_or (Some x) (preset_of o) ≡ x
    kept None p = given_same x
    kept (Some e) p = by_test (is_undefined x) refl
      where
        by_test : (b : Bool) → is_undefined x ≡ b → cond b (literal e) x ≡ x
        by_test true u = absurd (false≢true (sym p.3 ∙ ap (λ y. fits structs y i.ty) (sym (absent_is x u)) ∙ ok))
        by_test false u = refl

module _ (structs : Structs) (object : List Named) where
  meets : (i : TInput) → IsInput structs i → IsMet structs object i → Meets structs object i
  meets i is met =
      record {
        given = λ x e. let g = met.given x e in (is.typed x g.0, g.1, preset_kept structs i is x g.0, g.0);
        left = λ e. left_out i.value is.preset (met.left e);
      }
    where
      left_out : (o : Option TExpr) → IsPreset structs i o → (o ≡ None → fits structs v.Absent i.ty ≡ true) → LeftOut structs i o
      left_out None p h = (is.typed v.Absent (h refl), h refl)
      left_out (Some e) p h = (p.0, p.1, is.typed (literal e) p.2, p.2)

  pub all_meet : (is : List TInput) → AreInputs structs is → AreMet structs object is → AllMeet structs object is
  all_meet [] h m = tt
  all_meet (i ∷ is) h m = (meets i h.0 m.0, all_meet is h.1 m.1)

-- The value of each input fits it.
pub each_fits : (structs : Structs) (object : List Named) (is : List TInput) → AllMeet structs object is → (i : TInput) → Contains is i → fits structs (input_value object i) i.ty ≡ true
each_fits structs object [] h i c = absurd (none_is i c)
each_fits structs object (j ∷ is) h i c = by_case (λ d. each_fits structs object is h.1 i d) (first_or_later j is i c)
  where
    left_out : (o : Option TExpr) → j.value ≡ o → value_at object j.name ≡ None → LeftOut structs j o → fits structs (input_value object j) j.ty ≡ true
    left_out None q e l = ap (λ x. fits structs x j.ty) (ap (λ w. given_or w (preset_of j.value)) e ∙ ap (λ w. given_or None (preset_of w)) q) ∙ l.1
    left_out (Some t) q e l = ap (λ x. fits structs x j.ty) (ap (λ w. given_or w (preset_of j.value)) e ∙ ap (λ w. given_or None (preset_of w)) q) ∙ l.3

    here : (o : Option Value) → value_at object j.name ≡ o → fits structs (input_value object j) j.ty ≡ true
    here None e = left_out j.value refl e (h.0.left e)
    here (Some x) e = let g = h.0.given x e in ap (λ y. fits structs y j.ty) (ap (λ w. given_or w (preset_of j.value)) e ∙ g.2) ∙ g.3

    by_case : (Contains is i → fits structs (input_value object i) i.ty ≡ true) → (j ≡ i) ⊎ Contains is i → fits structs (input_value object i) i.ty ≡ true
    by_case rest (inl e) = subst (λ (z : TInput). fits structs (input_value object z) z.ty ≡ true) e (here (value_at object j.name) refl)
    by_case rest (inr d) = rest d

pub record InputAgrees (structs : Structs) (object : List Named) (i : TInput) (f : Flowing) : Type 0 where
  pub clean : is_clean f ≡ is_within (input_value object i)
  pub is : is_clean f ≡ true → f ≡ flow.named (known i.name (Some (input_value object i)))
  pub typed : has_type (type_of i.ty) (input_value object i) ≡ true
  pub fit : fits structs (input_value object i) i.ty ≡ true

module _ (structs : Structs) (object : List Named) (given : List Bind) (same : (name : List ℕ) → lookup given (plain_key name) ≡ value_at object name) where
  input_agrees : (s : Sight) (i : TInput) → Meets structs object i → InputAgrees structs object i (flow.input_of s i (lookup given (plain_key i.name)))
  input_agrees s i meets = subst (λ o. InputAgrees structs object i (flow.input_of s i o)) (sym (same i.name)) (by_value (value_at object i.name) refl)
    where
      left_out : (o : Option TExpr) → value_at object i.name ≡ None → LeftOut structs i o → i.value ≡ o → InputAgrees structs object i (default_of s i.name o)
      left_out None e h d =
          let value_is : input_value object i ≡ v.Absent = ap (λ w. given_or w (preset_of i.value)) e ∙ ap (λ w. given_or None (preset_of w)) d in
          record {
            clean = sym (ap is_within value_is ∙ absent_within);
            is = λ c. ap (λ x. flow.named (known i.name (Some x))) (sym value_is);
            typed = ap (has_type (type_of i.ty)) value_is ∙ h.0;
            fit = ap (λ x. fits structs x i.ty) value_is ∙ h.1;
          }
      left_out (Some x) e h d =
          let value_is : input_value object i ≡ literal x = ap (λ w. given_or w (preset_of i.value)) e ∙ ap (λ w. given_or None (preset_of w)) d in
          let run_is : declaration s i.name x ≡ declared_as s.place i.name (limited (literal x)) =
          ap (λ names. cond (list_all (is_known s.names) names) (declared_as s.place i.name (value_of (before (env_of s.names)) x)) (flow.named (known i.name None))) h.0
          ∙ ap (declared_as s.place i.name) (h.1 (env_of s.names)) in
          subst (InputAgrees structs object i) (sym run_is) (by_limit value_is h.2 h.3 (is_within (literal x)) refl)
        where
          by_limit : input_value object i ≡ literal x → has_type (type_of i.ty) (literal x) ≡ true → fits structs (literal x) i.ty ≡ true → (b : Bool) → is_within (literal x) ≡ b
              → InputAgrees structs object i (declared_as s.place i.name (cond b (Ok (literal x)) (Err TooLarge)))
          by_limit value_is t u true w =
              record {
                clean = sym (ap is_within value_is ∙ w);
                is = λ c. ap (λ y. flow.named (known i.name (Some y))) (sym value_is);
                typed = ap (has_type (type_of i.ty)) value_is ∙ t;
                fit = ap (λ y. fits structs y i.ty) value_is ∙ u;
              }
          by_limit value_is t u false w =
              record {
                clean = sym (ap is_within value_is ∙ w);
                is = λ c. absurd (false≢true c);
                typed = ap (has_type (type_of i.ty)) value_is ∙ t;
                fit = ap (λ y. fits structs y i.ty) value_is ∙ u;
              }

      by_value : (o : Option Value) → value_at object i.name ≡ o → InputAgrees structs object i (flow.input_of s i o)
      by_value None e = left_out i.value e (meets.left e) refl
      by_value (Some x) e =
          let h = meets.given x e in
          let value_is : input_value object i ≡ x = ap (λ w. given_or w (preset_of i.value)) e ∙ h.2 in
          record {
            fit = ap (λ y. fits structs y i.ty) value_is ∙ h.3;
            clean = sym (ap is_within value_is ∙ h.1);
            is = λ c. ap (λ y. flow.named (known i.name (Some y))) (sym value_is);
            typed = ap (has_type (type_of i.ty)) value_is ∙ h.0;
          }

  pub record InputsAgree (is : List TInput) (f : Flowing) : Type 0 where
    pub clean : is_clean f ≡ are_within (all_taken object (map cwl_in is))
    pub names : is_clean f ≡ true → f.names ≡ input_names_with (input_value object) is
    pub jobs : is_clean f ≡ true → f.jobs ≡ []
    pub typed : are_typed object (map cwl_in is) ≡ true
    pub fit : (i : TInput) → Contains is i → fits structs (input_value object i) i.ty ≡ true

  pub inputs_agree : (is : List TInput) (s : Sight) → AllMeet structs object is → InputsAgree is (flow.inputs given is s)
  inputs_agree [] s h = record { clean = refl; names = λ c. refl; jobs = λ c. refl; typed = refl; fit = λ i c. absurd (none_is i c) }
  inputs_agree (i ∷ is) s h =
      both (flow.input_of s i (lookup given (plain_key i.name))) (input_agrees s i h.0)
      (inputs_agree is (seeing s (flow.input_of s i (lookup given (plain_key i.name)))) h.1)
    where
      both : (f : Flowing) → InputAgrees structs object i f → InputsAgree is (flow.inputs given is (seeing s f)) → InputsAgree (i ∷ is) (together f (flow.inputs given is (seeing s f)))
      both f a r =
          let rest = flow.inputs given is (seeing s f) in
          record {
            clean = clean_together f rest ∙ ap (λ b. b && is_clean rest) a.clean ∙ ap (λ b. is_within (input_value object i) && b) r.clean;
            names = λ c.
                let p = and_parts (is_clean f) (is_clean rest) (sym (clean_together f rest) ∙ c) in
                ap (λ (z : Flowing). z.names ++ rest.names) (a.is p.0) ∙ ap (λ ks. known i.name (Some (input_value object i)) ∷ ks) (r.names p.1);
            jobs = λ c.
                let p = and_parts (is_clean f) (is_clean rest) (sym (clean_together f rest) ∙ c) in
                ap (λ (z : Flowing). z.jobs ++ rest.jobs) (a.is p.0) ∙ r.jobs p.1;
            typed = and_from (has_type (type_of i.ty) (input_value object i)) (are_typed object (map cwl_in is)) a.typed r.typed;
            fit = λ j c. by_case j a.fit r.fit (first_or_later i is j c);
          }
        where
          by_case : (j : TInput) → fits structs (input_value object i) i.ty ≡ true → ((k : TInput) → Contains is k → fits structs (input_value object k) k.ty ≡ true) → (i ≡ j) ⊎ Contains is j
              → fits structs (input_value object j) j.ty ≡ true
          by_case j here rest (inl e) = subst (λ (q : TInput). fits structs (input_value object q) q.ty ≡ true) e here
          by_case j here rest (inr c) = rest j c

  -- ---- what the body sees at its beginning

  pub start_fit : (is : List TInput) → ((i : TInput) → Contains is i → fits structs (input_value object i) i.ty ≡ true) → Fit structs (inputs_bound is) (input_names_with (input_value object) is)
  start_fit [] h key x e = absurd (none-some _ e)
  start_fit (i ∷ is) h key x e = by_test (h i (first_is i is)) (start_fit is (λ j c. h j (later_is i is j c)) key x) (same_key (plain_key i.name) key) e
    where
      by_test : fits structs (input_value object i) i.ty ≡ true
          → (lookup (env_of (input_names_with (input_value object) is)) key ≡ Some x → (t : Ty) × (type_in (inputs_bound is) key ≡ Some t) × (fits structs x t ≡ true)) → (b : Bool)
          → cond b (Some (input_value object i)) (lookup (env_of (input_names_with (input_value object) is)) key) ≡ Some x → (t : Ty) × (cond b (Some i.ty) (type_in (inputs_bound is) key) ≡ Some t) × (fits structs x t ≡ true)
      by_test here rest true q = (i.ty, refl, ap (λ y. fits structs y i.ty) (sym (same_Some _ _ q)) ∙ here)
      by_test here rest false q = rest q

  abbrev FoundIn : List TInput → Key → Linkage → Type 0
  FoundIn is key l =
      (j : TInput) × (input_linkage j ≡ l) × (plain_key j.name ≡ key) × (lookup (env_of (input_names_with (input_value object) is)) key ≡ Some (input_value object j))
      × (known_value (input_links (all_taken object (map cwl_in is))) (link.Input j.name) ≡ Some (input_value object j)) × (has_type (type_of j.ty) (input_value object j) ≡ true)

  input_found : (is : List TInput) → are_typed object (map cwl_in is) ≡ true → (key : Key) (l : Linkage) → linkage_at (map input_linkage is) key ≡ Some l → FoundIn is key l
  input_found [] t key l h = absurd (none-some _ h)
  input_found (i ∷ is) t key l h =
      let p = and_parts (has_type (type_of i.ty) (input_value object i)) (are_typed object (map cwl_in is)) t in
      by_test p.0 (λ e. input_found is p.1 key l e) (same_key (plain_key i.name) key) refl h
    where
      by_test : has_type (type_of i.ty) (input_value object i) ≡ true → (linkage_at (map input_linkage is) key ≡ Some l → FoundIn is key l) → (b : Bool) → same_key (plain_key i.name) key ≡ b
          → cond b (Some (input_linkage i)) (linkage_at (map input_linkage is) key) ≡ Some l → FoundIn (i ∷ is) key l
      by_test t rest true e q = (
        i,
        same_Some _ _ q,
        key_same (plain_key i.name) key e,
        ap (λ b. cond b (Some (input_value object i)) (lookup (env_of (input_names_with (input_value object) is)) key)) e,
        ap (λ b. cond b (Some (input_value object i)) (known_value (input_links (all_taken object (map cwl_in is))) (link.Input i.name))) ((bytes_eq-Decides i.name i.name).1 refl),
        t,
      )
      by_test t rest false e q =
          let r = rest q in
          let other : bytes_eq i.name r.0.name ≡ false = sym (and_true (bytes_eq i.name r.0.name)) ∙ ap (same_key (plain_key i.name)) r.2 ∙ e in (
            r.0,
            r.1,
            r.2,
            ap (λ b. cond b (Some (input_value object i)) (lookup (env_of (input_names_with (input_value object) is)) key)) e ∙ r.3,
            ap (λ b. cond b (Some (input_value object i)) (known_value (input_links (all_taken object (map cwl_in is))) (link.Input r.0.name))) other ∙ r.4,
            r.5,
          )

  pub start_shows : (is : List TInput) → are_typed object (map cwl_in is) ≡ true → Shows (map input_linkage is) (input_names_with (input_value object) is) (input_links (all_taken object (map cwl_in is)))
  start_shows is t key l h =
      let r = input_found is t key l h in
      subst (λ (z : Linkage). Shown (input_names_with (input_value object) is) (input_links (all_taken object (map cwl_in is))) z) r.1
      (input_value object r.0, ap (λ k. lookup (env_of (input_names_with (input_value object) is)) k) r.2 ∙ r.3, r.4, r.5)
