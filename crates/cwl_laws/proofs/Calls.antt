-- What a call gives for the inputs of its target.
use Rattle.std.proofs.Common.{◌≡◌, ℕ, ◌⊎◌, inl, inr, Bool, true, false, cond, not, ◌&&◌, ◌||◌, List, [], ◌∷◌, map, Option, Some, None, Contains, sym, ap, ◌∙◌, subst, refl}
use Rattle.std.specs.Str.{bytes_eq}
use Rattle.std.proofs.lemmas.Bool.{false≢true, and_from, and_parts}
use Rattle.std.proofs.lemmas.Slice.Eq.{bytes_eq-Decides}
use Rattle.std.proofs.lemmas.Option.{none-some, same_Some}
use Rattle.wdl_value.specs.declared.ty.Ty.{Ty, Ty-F, out-Ty, roll-Ty, roll-out-Ty}
use Rattle.wdl_value.specs.declared.ty.Ty.TheVariants as ty
use Rattle.wdl_value.specs.declared.ty.Ty.TheOpen as type
use Rattle.wdl_value.specs.declared.value.Value.{Value}
use Rattle.wdl_value.specs.declared.value.Value.TheVariants as v
use Rattle.wdl_value.specs.Bare.{is_optional}
use Rattle.wdl_value.specs.Fits.{Structs, fits}
use Rattle.wdl_value.specs.Limits.{is_within}
use Rattle.wdl_value.proofs.FitsForms.{absent_fits}
use Rattle.wdl_typed.specs.declared.expr.TExpr.{TExpr}
use Rattle.wdl_typed.specs.declared.expr.TField.{TField}
use Rattle.wdl_typed.specs.declared.scope.Bound.{Bound}
use Rattle.wdl_typed.specs.declared.task.TInput.{TInput}
use Rattle.wdl_typed.specs.Bodies.{all_given, arg_names, input_type, is_required}
use Rattle.wdl_typed.specs.Declarations.{input_names}
use Rattle.wdl_typed.specs.Flow.{Known}
use Rattle.wdl_typed.specs.KnownTypes.{is_some}
use Rattle.wdl_typed.specs.Lists.{are_distinct, has_name}
use Rattle.cwl_model.specs.Means.{Named, all_taken, are_typed, are_within, given_or, has_type, value_at}
use Rattle.cwl_model.specs.Rounds.{Linked}
use Rattle.cwl_model.proofs.Rounds.{first_is, first_or_later, later_is, none_is}
use Rattle.cwl_image.specs.Image.{Scope, cwl_in, literal, preset_of, type_of}
use Rattle.cwl_laws.specs.Laws.{Fit, Shows}
use Rattle.cwl_laws.specs.Premises.{AreArgs, AreInputs, AreMet, IsInput, IsPreset}
use Rattle.cwl_laws.specs.Tools.{input_value}
use Rattle.cwl_laws.proofs.Inputs.{name_apart}
use Rattle.cwl_laws.proofs.Objects.{value_in}
use Rattle.cwl_laws.proofs.Reading.{arg_fit, args_object}
use Rattle.cwl_laws.proofs.Starts.{preset_kept}

-- ---- types of inputs

-- Of inputs whose names differ, each has its own type by its name.
pub own_type : (is : List TInput) (i : TInput) → are_distinct (input_names is) ≡ true → Contains is i → input_type is i.name ≡ Some i.ty
own_type [] i d c = absurd (none_is i c)
own_type (j ∷ is) i d c =
    let p = and_parts (not (has_name j.name (input_names is))) (are_distinct (input_names is)) d in
    by_case (λ k. own_type is i p.1 k) (name_apart j is p.0 i) (first_or_later j is i c)
  where
    by_case : (Contains is i → input_type is i.name ≡ Some i.ty) → (Contains is i → bytes_eq j.name i.name ≡ false) → (j ≡ i) ⊎ Contains is i → cond (bytes_eq j.name i.name) (Some j.ty) (input_type is i.name) ≡ Some i.ty
    by_case rest apart (inl e) =
        ap (λ b. cond b (Some j.ty) (input_type is i.name)) ((bytes_eq-Decides j.name i.name).1 (ap (λ (z : TInput). z.name) e)) ∙ ap (λ (z : TInput). Some z.ty) e
    by_case rest apart (inr k) = ap (λ b. cond b (Some j.ty) (input_type is i.name)) (apart k) ∙ rest k

-- ---- what is left out

optional_absent : (structs : Structs) (t : Ty) → is_optional (out-Ty t) ≡ true → fits structs v.Absent t ≡ true
optional_absent structs t h = by_layer (out-Ty t) refl h
  where
    by_layer : (z : Ty-F Ty) → out-Ty t ≡ z → is_optional z ≡ true → fits structs v.Absent t ≡ true
    by_layer (type.Opt u) e h = subst (λ (w : Ty). fits structs v.Absent w ≡ true) (sym (sym (roll-out-Ty t) ∙ ap roll-Ty e ∙ ty.rolls-Opt u)) (absent_fits structs u)
    by_layer z e h = absurd (false≢true h)

-- An input that need not be given and has no default takes null.
pub left_absent : (structs : Structs) (i : TInput) → not (is_required i) ≡ true → i.value ≡ None → fits structs v.Absent i.ty ≡ true
left_absent structs i h e = optional_absent structs i.ty (turned (is_some i.value) (is_optional (out-Ty i.ty)) (ap is_some e) h)
  where
    turned : (a b : Bool) → a ≡ false → not (not a && not b) ≡ true → b ≡ true
    turned true b q h = absurd (false≢true (sym q))
    turned false true q h = refl
    turned false false q h = absurd (false≢true h)

required_not : (is : List TInput) (given : List (List ℕ)) → all_given is given ≡ true → (i : TInput) → Contains is i → has_name i.name given ≡ false → not (is_required i) ≡ true
required_not [] given h i c n = absurd (none_is i c)
required_not (j ∷ is) given h i c n =
    let p = and_parts (not (is_required j) || has_name j.name given) (all_given is given) h in
    by_case p.0 (λ k. required_not is given p.1 i k n) (first_or_later j is i c)
  where
    left_of : (a b : Bool) → (a || b) ≡ true → b ≡ false → a ≡ true
    left_of true b h n = refl
    left_of false b h n = absurd (false≢true (sym n ∙ h))

    by_case : (not (is_required j) || has_name j.name given) ≡ true → (Contains is i → not (is_required i) ≡ true) → (j ≡ i) ⊎ Contains is i → not (is_required i) ≡ true
    by_case here rest (inl e) =
        left_of (not (is_required i)) (has_name i.name given) (subst (λ (z : TInput). (not (is_required z) || has_name z.name given) ≡ true) e here) n
    by_case here rest (inr k) = rest k

-- ---- the object of a call

module _ (structs : Structs) (bounds : List Bound) (scope : Scope) (inputs : List TInput) (names : List Known) (known : List Linked) (fit : Fit structs bounds names) (shows : Shows scope names known)
    (differ : are_distinct (input_names inputs) ≡ true) (are : AreInputs structs inputs) where
  abbrev object : (as_ : List (TField TExpr)) → AreArgs structs bounds scope inputs as_ → List Named
  object = args_object structs bounds scope inputs names known fit shows

  -- An argument's value fits the input of its name.
  abbrev FitsName : List ℕ → Value → Type 0
  FitsName name x = (t : Ty) × (input_type inputs name ≡ Some t) × (fits structs x t ≡ true)

  arg_fits : (as_ : List (TField TExpr)) (h : AreArgs structs bounds scope inputs as_) (name : List ℕ) (x : Value) → value_at (object as_ h) name ≡ Some x → FitsName name x
  arg_fits [] h name x e = absurd (none-some _ e)
  arg_fits (a ∷ as_) h name x e = by_test (λ q. arg_fits as_ h.1 name x q) (bytes_eq a.name name) refl e
    where
      by_test : (value_at (object as_ h.1) name ≡ Some x → FitsName name x) → (b : Bool) → bytes_eq a.name name ≡ b → cond b (Some (value_in names h.0.key)) (value_at (object as_ h.1) name) ≡ Some x → FitsName name x
      by_test rest true s q = (
        h.0.ty,
        subst (λ (n : List ℕ). input_type inputs n ≡ Some h.0.ty) ((bytes_eq-Decides a.name name).0 s) h.0.input,
        ap (λ y. fits structs y h.0.ty) (sym (same_Some _ _ q)) ∙ h.0.reads.fit (value_in names h.0.key) (arg_fit structs bounds scope inputs names known fit shows a h.0),
      )
      by_test rest false s q = rest q

  input_fits : (as_ : List (TField TExpr)) (h : AreArgs structs bounds scope inputs as_) (i : TInput) → Contains inputs i → (x : Value) → value_at (object as_ h) i.name ≡ Some x → fits structs x i.ty ≡ true
  input_fits as_ h i c x e =
      let f = arg_fits as_ h i.name x e in
      ap (fits structs x) (same_Some _ _ (sym (own_type inputs i differ c) ∙ f.1)) ∙ f.2

  not_among : (as_ : List (TField TExpr)) (h : AreArgs structs bounds scope inputs as_) (name : List ℕ) → value_at (object as_ h) name ≡ None → has_name name (arg_names as_) ≡ false
  not_among [] h name e = refl
  not_among (a ∷ as_) h name e = by_test (λ q. not_among as_ h.1 name q) (bytes_eq a.name name) e
    where
      by_test : (value_at (object as_ h.1) name ≡ None → has_name name (arg_names as_) ≡ false) → (b : Bool) → cond b (Some (value_in names h.0.key)) (value_at (object as_ h.1) name) ≡ None → (b || has_name name (arg_names as_)) ≡ false
      by_test rest true q = absurd (none-some _ (sym q))
      by_test rest false q = rest q

  among_known : (as_ : List (TField TExpr)) (h : AreArgs structs bounds scope inputs as_) (name : List ℕ) (x : Value) → value_at (object as_ h) name ≡ Some x → has_name name (arg_names as_) ≡ true
  among_known [] h name x e = absurd (none-some _ e)
  among_known (a ∷ as_) h name x e = by_test (λ q. among_known as_ h.1 name x q) (bytes_eq a.name name) e
    where
      by_test : (value_at (object as_ h.1) name ≡ Some x → has_name name (arg_names as_) ≡ true) → (b : Bool) → cond b (Some (value_in names h.0.key)) (value_at (object as_ h.1) name) ≡ Some x → (b || has_name name (arg_names as_)) ≡ true
      by_test rest true q = refl
      by_test rest false q = rest q

  -- an input that is given or left out as is allowed, limits aside
  abbrev Takes : List Named → TInput → Type 0
  Takes ns i = ((x : Value) → value_at ns i.name ≡ Some x → fits structs x i.ty ≡ true) × (value_at ns i.name ≡ None → i.value ≡ None → fits structs v.Absent i.ty ≡ true)

  value_typed : (ns : List Named) (i : TInput) → IsInput structs i → Takes ns i → has_type (type_of i.ty) (input_value ns i) ≡ true
  value_typed ns i is t = by_value (value_at ns i.name) refl
    where
      left_out : (o : Option TExpr) → i.value ≡ o → value_at ns i.name ≡ None → has_type (type_of i.ty) (given_or None (preset_of o)) ≡ true
      left_out None q e = is.typed v.Absent (t.1 e q)
      left_out (Some d) q e = is.typed (literal d) (subst (IsPreset structs i) q is.preset).2

      by_value : (o : Option Value) → value_at ns i.name ≡ o → has_type (type_of i.ty) (given_or o (preset_of i.value)) ≡ true
      by_value None e = left_out i.value refl e
      by_value (Some x) e = ap (has_type (type_of i.ty)) (preset_kept structs i is x (t.0 x e)) ∙ is.typed x (t.0 x e)

  all_typed : (ns : List Named) (is : List TInput) → AreInputs structs is → ((i : TInput) → Contains is i → Takes ns i) → are_typed ns (map cwl_in is) ≡ true
  all_typed ns [] h t = refl
  all_typed ns (i ∷ is) h t =
      and_from (has_type (type_of i.ty) (input_value ns i)) (are_typed ns (map cwl_in is)) (value_typed ns i h.0 (t i (first_is i is))) (all_typed ns is h.1 (λ j c. t j (later_is i is j c)))

  all_met : (ns : List Named) (is : List TInput) → ((i : TInput) → Contains is i → Takes ns i) → ((name : List ℕ) (x : Value) → value_at ns name ≡ Some x → is_within x ≡ true) → AreMet structs ns is
  all_met ns [] t w = tt
  all_met ns (i ∷ is) t w =
      let h = t i (first_is i is) in
      (record { given = λ x e. (h.0 x e, w i.name x e); left = h.1 }, all_met ns is (λ j c. t j (later_is i is j c)) w)

  within_each : (ns : List Named) (name : List ℕ) (x : Value) → are_within ns ≡ true → value_at ns name ≡ Some x → is_within x ≡ true
  within_each [] name x w e = absurd (none-some _ e)
  within_each (n ∷ ns) name x w e =
      let p = and_parts (is_within n.value) (are_within ns) w in
      by_test (λ q. within_each ns name x p.1 q) p.0 (bytes_eq n.id name) e
    where
      by_test : (value_at ns name ≡ Some x → is_within x ≡ true) → is_within n.value ≡ true → (b : Bool) → cond b (Some n.value) (value_at ns name) ≡ Some x → is_within x ≡ true
      by_test rest here true q = ap is_within (sym (same_Some _ _ q)) ∙ here
      by_test rest here false q = rest q

  -- what a tool or a flow takes of an argument is its value
  taken_within : (ns : List Named) (is : List TInput) → AreInputs structs is → are_within (all_taken ns (map cwl_in is)) ≡ true → (name : List ℕ) (t : Ty) (x : Value) → input_type is name ≡ Some t
      → value_at ns name ≡ Some x → ((i : TInput) → Contains is i → bytes_eq i.name name ≡ true → fits structs x i.ty ≡ true) → is_within x ≡ true
  taken_within ns [] h w name t x e q f = absurd (none-some _ e)
  taken_within ns (i ∷ is) h w name t x e q f =
      let p = and_parts (is_within (input_value ns i)) (are_within (all_taken ns (map cwl_in is))) w in
      by_test (λ k. taken_within ns is h.1 p.1 name t x k q (λ j c s. f j (later_is i is j c) s)) p.0 (bytes_eq i.name name) refl e
    where
      by_test : (input_type is name ≡ Some t → is_within x ≡ true) → is_within (input_value ns i) ≡ true → (b : Bool) → bytes_eq i.name name ≡ b → cond b (Some i.ty) (input_type is name) ≡ Some t → is_within x ≡ true
      by_test rest here true s k =
          let value : value_at ns i.name ≡ Some x = ap (value_at ns) ((bytes_eq-Decides i.name name).0 s) ∙ q in
          let kept : input_value ns i ≡ x = ap (λ o. given_or o (preset_of i.value)) value ∙ preset_kept structs i h.0 x (f i (first_is i is) s) in
          ap is_within (sym kept) ∙ here
      by_test rest here false s k = rest k

  module _ (as_ : List (TField TExpr)) (h : AreArgs structs bounds scope inputs as_) (given : all_given inputs (arg_names as_) ≡ true) where
    takes : (i : TInput) → Contains inputs i → Takes (object as_ h) i
    takes i c = (
      (λ x e. input_fits as_ h i c x e),
      (λ e q. left_absent structs i (required_not inputs (arg_names as_) given i c (not_among as_ h i.name e)) q),
    )

    pub args_typed : are_typed (object as_ h) (map cwl_in inputs) ≡ true
    args_typed = all_typed (object as_ h) inputs are takes

    pub args_meet : are_within (object as_ h) ≡ true → AreMet structs (object as_ h) inputs
    args_meet w = all_met (object as_ h) inputs takes (λ name x e. within_each (object as_ h) name x w e)

    -- each entry of the object is what is given under its name
    entries_within : are_within (all_taken (object as_ h) (map cwl_in inputs)) ≡ true → (bs : List (TField TExpr)) (k : AreArgs structs bounds scope inputs bs) → are_distinct (arg_names bs) ≡ true
        → ((name : List ℕ) (x : Value) → value_at (object bs k) name ≡ Some x → value_at (object as_ h) name ≡ Some x) → are_within (object bs k) ≡ true
    entries_within w [] k d inside = refl
    entries_within w (b ∷ bs) k d inside =
        let p = and_parts (not (has_name b.name (arg_names bs))) (are_distinct (arg_names bs)) d in
        let own : value_at (object as_ h) b.name ≡ Some (value_in names k.0.key) =
        inside b.name (value_in names k.0.key) (ap (λ c. cond c (Some (value_in names k.0.key)) (value_at (object bs k.1) b.name)) ((bytes_eq-Decides b.name b.name).1 refl)) in
        and_from (is_within (value_in names k.0.key)) (are_within (object bs k.1))
        (taken_within (object as_ h) inputs are w b.name k.0.ty (value_in names k.0.key) k.0.input own
        (λ i c s. input_fits as_ h i c (value_in names k.0.key) (ap (value_at (object as_ h)) ((bytes_eq-Decides i.name b.name).0 s) ∙ own)))
        (entries_within w bs k.1 p.1 (λ name x e. inside name x (ap (λ c. cond c (Some (value_in names k.0.key)) (value_at (object bs k.1) name)) (apart p.0 name x e) ∙ e)))
      where
        apart : not (has_name b.name (arg_names bs)) ≡ true → (name : List ℕ) (x : Value) → value_at (object bs k.1) name ≡ Some x → bytes_eq b.name name ≡ false
        apart n name x e = by_test (bytes_eq b.name name) refl
          where
            by_test : (c : Bool) → bytes_eq b.name name ≡ c → c ≡ false
            by_test false s = refl
            by_test true s =
                absurd (false≢true (sym (ap not (among_known bs k.1 name x e)) ∙ subst (λ (m : List ℕ). not (has_name m (arg_names bs)) ≡ true) ((bytes_eq-Decides b.name name).0 s) n))

    -- An argument past a limit is past it for the target too.
    pub args_past : are_distinct (arg_names as_) ≡ true → are_within (object as_ h) ≡ false → are_within (all_taken (object as_ h) (map cwl_in inputs)) ≡ false
    args_past d past = by_test (are_within (all_taken (object as_ h) (map cwl_in inputs))) refl
      where
        by_test : (b : Bool) → are_within (all_taken (object as_ h) (map cwl_in inputs)) ≡ b → b ≡ false
        by_test false e = refl
        by_test true e = absurd (false≢true (sym past ∙ entries_within e as_ h d (λ name x q. q)))
