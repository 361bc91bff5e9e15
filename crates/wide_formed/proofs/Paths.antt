-- The values at the ends of the paths of leaves, and the types of records.
use Rattle.std.proofs.Common.{◌≡◌, ℕ, zero, suc, ◌⊎◌, inl, inr, Bool, true, List, [], ◌∷◌, ◌++◌, map, Option, Some, None, option_and_then, Contains, sym, ap, ◌∙◌, subst, refl}
use Rattle.std.specs.List.{list_all}
use Rattle.std.proofs.lemmas.Bool.{false≢true, and_from, and_parts}
use Rattle.std.proofs.lemmas.List.{append-nil, append_assoc}
use Rattle.wdl_value.specs.declared.ty.Member.{Member}
use Rattle.wdl_value.specs.declared.ty.Ty.{Ty, Ty-F, fold-roll-Ty, out-Ty}
use Rattle.wdl_value.specs.declared.ty.Ty.TheVariants as ty
use Rattle.wdl_value.specs.declared.ty.Ty.TheOpen as type
use Rattle.wdl_value.specs.declared.value.Value.{Value, out-Value}
use Rattle.wdl_value.specs.Fits.{Structs, fits, members_of}
use Rattle.wdl_value.specs.Limits.{is_within}
use Rattle.wdl_typed.specs.KnownTypes.{are_structs, is_shallow, members_structs, some_structs, structs_of, structs_step}
use Rattle.cwl_model.specs.Means.{Test, has_type}
use Rattle.cwl_model.proofs.Rounds.{first_is, first_or_later, later_is, none_is}
use Rattle.cwl_model.specs.declared.ty.CwlTy.{CwlTy}
use Rattle.cwl_image.specs.Expressions.{is_simple}
use Rattle.cwl_image.specs.Image.{type_of}
use Rattle.cwl_laws.proofs.Casts.{fits_typed}
use Rattle.leaf_image.specs.declared.leaf.Place.{Place}
use Rattle.leaf_image.specs.Leaves.{all_places, place, places_at, some_places, struct_places}
use Rattle.cwl_records.specs.declared.wide.FieldTy.{FieldTy, fold-roll-FieldTy}
use Rattle.cwl_records.specs.declared.wide.FieldTy.TheOpen as layer
use Rattle.cwl_records.specs.declared.wide.FieldTy.TheVariants as field
use Rattle.cwl_records.specs.declared.wide.RecordField.{RecordField}
use Rattle.cwl_records.specs.Wide.{field_of, field_step, fields_typed, has_field_type, is_record, record_typed, some_typed, tests_of, through}
use Rattle.cwl_records.specs.Wrapping.{all_fields, field_ty, some_fields, struct_field}
use Rattle.wide_formed.proofs.Elements.{either, on_left, on_right}
use Rattle.wide_formed.proofs.Fields.{no_struct, struct_of}
use Rattle.wdl_eval.proofs.Indices.{made as typed_by}
use Rattle.cwl_records.proofs.FieldLaws.{deeper as field_deeper}
use Rattle.struct_leaves.proofs.PlaceLaws.{at_zero as no_places}

pub a_struct_type : (t : Ty) (s : List ℕ) → out-Ty t ≡ type.Struct s → t ≡ ty.Struct s
a_struct_type t s e = typed_by t (type.Struct s) e ∙ ty.rolls-Struct s

-- ---- places

-- A place among those of members is behind one of them.
pub among : (f : List (List ℕ) → Ty → List Place) (path : List (List ℕ)) (ms : List Member) (p : Place) → Contains (all_places f path ms) p
    → (m : Member) × Contains ms m × Contains (f (path ++ m.name ∷ []) m.ty) p
among f path [] p c = absurd (none_is p c)
among f path (m ∷ ms) p c = by_side (either (f (path ++ m.name ∷ []) m.ty) (all_places f path ms) p c) (among f path ms p)
  where
    by_side : Contains (f (path ++ m.name ∷ []) m.ty) p ⊎ Contains (all_places f path ms) p
        → (Contains (all_places f path ms) p → (n : Member) × Contains ms n × Contains (f (path ++ n.name ∷ []) n.ty) p)
        → (n : Member) × Contains (m ∷ ms) n × Contains (f (path ++ n.name ∷ []) n.ty) p
    by_side (inl a) rest = (m, first_is m ms, a)
    by_side (inr b) rest = let r = rest b in (r.0, later_is m ms r.0 r.1, r.2)

behind : (f : List (List ℕ) → Ty → List Place) (path : List (List ℕ)) (ms : List Member) (m : Member) (p : Place) → Contains ms m → Contains (f (path ++ m.name ∷ []) m.ty) p
    → Contains (all_places f path ms) p
behind f path [] m p c h = absurd (none_is m c)
behind f path (n ∷ ms) m p c h = by_case (first_or_later n ms m c) (λ d. behind f path ms m p d h)
  where
    by_case : (n ≡ m) ⊎ Contains ms m → (Contains ms m → Contains (all_places f path ms) p) → Contains (f (path ++ n.name ∷ []) n.ty ++ all_places f path ms) p
    by_case (inl e) rest = on_left (f (path ++ n.name ∷ []) n.ty) (all_places f path ms) p (subst (λ (z : Member). Contains (f (path ++ z.name ∷ []) z.ty) p) (sym e) h)
    by_case (inr d) rest = on_right (f (path ++ n.name ∷ []) n.ty) (all_places f path ms) p (rest d)

pub deeper : (structs : Structs) (n : ℕ) (input : List ℕ) (path : List (List ℕ)) (t : Ty)
    → places_at structs (suc n) input path t ≡ struct_places structs (places_at structs n input) input path t (out-Ty t)
unfolding places_at
deeper structs n input path t = refl

-- The value at the end of a path is there, fits the place's type, and keeps the limits where the whole does.
pub record IsReached (structs : Structs) (path : List (List ℕ)) (x : Value) (p : Place) : Type 0 where
  pub rest : List (List ℕ)
  pub whole : p.path ≡ path ++ rest
  pub value : Value
  pub is : through rest x ≡ Some value
  pub fit : fits structs value p.ty ≡ true
  pub within : is_within x ≡ true → is_within value ≡ true

module _ (structs : Structs) (known : are_structs structs ≡ true) (input : List ℕ) where
  abbrev Reaches : ℕ → Type 0
  Reaches n =
      (path : List (List ℕ)) (t : Ty) (x : Value) → fits structs x t ≡ true → (p : Place) → Contains (places_at structs n input path t) p → IsReached structs path x p

  reached_behind : (n : ℕ) → Reaches n → (path : List (List ℕ)) (t : Ty) (x : Value) → fits structs x t ≡ true → (p : Place) (z : Ty-F Ty) → out-Ty t ≡ z
      → Contains (struct_places structs (places_at structs n input) input path t z) p → IsReached structs path x p
  reached_behind n deep path t x fit p (type.Struct s) e c = by_members (members_of structs s) refl c
    where
      by_members : (o : Option (List Member)) → members_of structs s ≡ o → Contains (some_places (places_at structs n input) path o) p → IsReached structs path x p
      by_members None m d = absurd (none_is p d)
      by_members (Some ms) m d =
          let r = among (places_at structs n input) path ms p d in
          let whole = struct_of structs known x s ms m (subst (λ (u : Ty). fits structs x u ≡ true) (a_struct_type t s e) fit) in
          let own = whole.members r.0 r.1 in
          let q = deep (path ++ r.0.name ∷ []) r.0.ty own.value own.fit p r.2 in
          record {
            rest = r.0.name ∷ q.rest;
            whole = q.whole ∙ append_assoc path (r.0.name ∷ []) q.rest;
            value = q.value;
            is = ap (option_and_then (through q.rest)) own.is ∙ q.is;
            fit = q.fit;
            within = λ w. q.within (own.within w);
          }
  reached_behind n deep path t x fit p z e c = at_end (first_or_later (place input path t) [] p c)
    where
      at_end : (place input path t ≡ p) ⊎ Contains [] p → IsReached structs path x p
      at_end (inl q) =
          record {
            rest = [];
            whole = ap (λ (r : Place). r.path) (sym q) ∙ sym (append-nil path);
            value = x;
            is = refl;
            fit = subst (λ (r : Place). fits structs x r.ty ≡ true) q fit;
            within = λ w. w;
          }
      at_end (inr d) = absurd (none_is p d)

  pub reached : (n : ℕ) → Reaches n
  reached zero path t x fit p c = absurd (none_is p (subst (λ (ps : List Place). Contains ps p) (no_places structs input path t) c))
  reached (suc n) path t x fit p c =
      reached_behind n (reached n) path t x fit p (out-Ty t) refl (subst (λ (ps : List Place). Contains ps p) (deeper structs n input path t) c)

-- ---- how deep structs lead

named_in : (ms : List Member) (m : Member) (s : List ℕ) → Contains ms m → out-Ty m.ty ≡ type.Struct s → Contains (members_structs ms) s
named_in [] m s c e = absurd (none_is m c)
named_in (n ∷ ms) m s c e = by_case (first_or_later n ms m c) (λ d. named_in ms m s d e)
  where
    own : structs_of m.ty ≡ s ∷ []
    own = ap structs_of (typed_by m.ty (type.Struct s) e) ∙ fold-roll-Ty (List (List ℕ)) structs_step (type.Struct s)

    by_case : (n ≡ m) ⊎ Contains ms m → (Contains ms m → Contains (members_structs ms) s) → Contains (structs_of n.ty ++ members_structs ms) s
    by_case (inl q) rest =
        on_left (structs_of n.ty) (members_structs ms) s (subst (λ (z : Member). Contains (structs_of z.ty) s) (sym q) (subst (λ (ns : List (List ℕ)). Contains ns s) (sym own) (first_is s [])))
    by_case (inr d) rest = on_right (structs_of n.ty) (members_structs ms) s (rest d)

pub all_at : {A : Type 0} (f : A → Bool) (xs : List A) → list_all f xs ≡ true → (x : A) → Contains xs x → f x ≡ true
all_at f [] h x c = absurd (none_is x c)
all_at f (y ∷ xs) h x c = let p = and_parts (f y) (list_all f xs) h in by_case p.0 (first_or_later y xs x c) (all_at f xs p.1 x)
  where
    by_case : f y ≡ true → (y ≡ x) ⊎ Contains xs x → (Contains xs x → f x ≡ true) → f x ≡ true
    by_case k (inl e) rest = subst (λ z. f z ≡ true) e k
    by_case k (inr d) rest = rest d

-- At this level the type is no struct, or one that leads through fewer structs.
abbrev IsDeep : Structs → ℕ → Ty → Type 0
IsDeep structs zero t = ⊥
IsDeep structs (suc n) t = (s : List ℕ) → out-Ty t ≡ type.Struct s → is_shallow n structs s ≡ true

never_shallow : (structs : Structs) (s : List ℕ) → is_shallow 0 structs s ≡ true → ⊥
unfolding is_shallow
never_shallow structs s h = false≢true h

shallower : (structs : Structs) (n : ℕ) (s : List ℕ) → is_shallow (suc n) structs s ≡ list_all (is_shallow n structs) (some_structs (members_of structs s))
unfolding is_shallow
shallower structs n s = refl

members_deep : (structs : Structs) (n : ℕ) (s : List ℕ) (ms : List Member) → members_of structs s ≡ Some ms → is_shallow n structs s ≡ true → (m : Member) → Contains ms m → IsDeep structs n m.ty
members_deep structs zero s ms e h m c = absurd (never_shallow structs s h)
members_deep structs (suc n) s ms e h m c =
    λ t k. all_at (is_shallow n structs) (members_structs ms) (sym (shallower structs n s ∙ ap (λ o. list_all (is_shallow n structs) (some_structs o)) e) ∙ h) t (named_in ms m t c k)

-- ---- types of fields

one_typed : (u : CwlTy) (x : Value) → has_field_type (field.One u) x ≡ has_type u x
one_typed u x = ap (λ (f : FieldTy). has_field_type f x) (sym (field.rolls-One u)) ∙ ap (λ (f : Test). f x) (fold-roll-FieldTy Test field_step (layer.One u))

tests_are : (fs : List (RecordField FieldTy)) → map (λ (f : RecordField FieldTy). record { name = f.name; ty = has_field_type f.ty }) fs ≡ tests_of fs
tests_are [] = refl
tests_are (f ∷ fs) = ap (λ ts. record { name = f.name; ty = has_field_type f.ty } ∷ ts) (tests_are fs)

fields_typed_as : (fs : List (RecordField FieldTy)) (x : Value) → has_field_type (field.Fields fs) x ≡ record_typed (tests_of fs) x
fields_typed_as fs x =
    ap (λ (f : FieldTy). has_field_type f x) (sym (field.rolls-Fields fs)) ∙ ap (λ (f : Test). f x) (fold-roll-FieldTy Test field_step (layer.Fields fs))
    ∙ ap (λ ts. record_typed ts x) (tests_are fs)

each_typed : (f : Ty → FieldTy) (x : Value) (ms : List Member) → ((m : Member) → Contains ms m → some_typed (has_field_type (f m.ty)) (field_of m.name x) ≡ true)
    → fields_typed (tests_of (all_fields f ms)) x ≡ true
each_typed f x [] h = refl
each_typed f x (m ∷ ms) h =
    and_from (some_typed (has_field_type (f m.ty)) (field_of m.name x)) (fields_typed (tests_of (all_fields f ms)) x) (h m (first_is m ms)) (each_typed f x ms (λ n c. h n (later_is m ms n c)))

module _ (structs : Structs) (known : are_structs structs ≡ true) (input : List ℕ) where
  -- what stands at the ends of all paths behind a type has a type of CWL
  abbrev AreSimple : ℕ → List (List ℕ) → Ty → Type 0
  AreSimple n path t = (p : Place) → Contains (places_at structs n input path t) p → is_simple p.ty ≡ true

  abbrev Types : ℕ → Type 0
  Types n = (path : List (List ℕ)) (t : Ty) (x : Value) → fits structs x t ≡ true → IsDeep structs n t → AreSimple n path t → has_field_type (field_ty structs n t) x ≡ true

  -- the record of the members of a struct
  struct_typed : (n : ℕ) → Types n → (path : List (List ℕ)) (s : List ℕ) (x : Value) → fits structs x (ty.Struct s) ≡ true → is_shallow n structs s ≡ true
      → ((p : Place) → Contains (some_places (places_at structs n input) path (members_of structs s)) p → is_simple p.ty ≡ true)
      → (ms : List Member) → members_of structs s ≡ Some ms → record_typed (tests_of (some_fields (field_ty structs n) (members_of structs s))) x ≡ true
  struct_typed n deep path s x fit shallow simple ms e =
      let whole = struct_of structs known x s ms e fit in
      ap (λ o. record_typed (tests_of (some_fields (field_ty structs n) o)) x) e
      ∙ and_from (is_record (out-Value x)) (fields_typed (tests_of (all_fields (field_ty structs n) ms)) x) (ap is_record whole.is)
      (each_typed (field_ty structs n) x ms (λ m c.
      let own = whole.members m c in
      ap (some_typed (has_field_type (field_ty structs n m.ty))) own.is
      ∙ deep (path ++ m.name ∷ []) m.ty own.value own.fit (members_deep structs n s ms e shallow m c)
      (λ p d. simple p (subst (λ o. Contains (some_places (places_at structs n input) path o) p) (sym e) (behind (places_at structs n input) path ms m p c d)))))

  unknown_struct : (s : List ℕ) (x : Value) → members_of structs s ≡ None → fits structs x (ty.Struct s) ≡ true → ⊥
  unknown_struct s x e h = no_struct structs x s e h

  typed_behind : (n : ℕ) → Types n → (path : List (List ℕ)) (t : Ty) (x : Value) → fits structs x t ≡ true → ((s : List ℕ) → out-Ty t ≡ type.Struct s → is_shallow n structs s ≡ true)
      → (z : Ty-F Ty) → out-Ty t ≡ z → ((p : Place) → Contains (struct_places structs (places_at structs n input) input path t z) p → is_simple p.ty ≡ true)
      → has_field_type (struct_field structs (field_ty structs n) t z) x ≡ true
  typed_behind n deep path t x fit shallow (type.Struct s) e simple =
      let own = subst (λ (u : Ty). fits structs x u ≡ true) (a_struct_type t s e) fit in
      fields_typed_as (some_fields (field_ty structs n) (members_of structs s)) x ∙ by_members own (members_of structs s) refl
    where
      by_members : fits structs x (ty.Struct s) ≡ true → (o : Option (List Member)) → members_of structs s ≡ o → record_typed (tests_of (some_fields (field_ty structs n) (members_of structs s))) x ≡ true
      by_members own None m = absurd (unknown_struct s x m own)
      by_members own (Some ms) m = struct_typed n deep path s x own (shallow s e) simple ms m
  typed_behind n deep path t x fit shallow z e simple = one_typed (type_of t) x ∙ fits_typed structs t (simple (place input path t) (first_is (place input path t) [])) x fit

  pub typed : (n : ℕ) → Types n
  typed zero path t x fit deep simple = absurd deep
  typed (suc n) path t x fit deep simple =
      ap (λ (f : FieldTy). has_field_type f x) (field_deeper structs n t)
      ∙ typed_behind n (typed n) path t x fit deep (out-Ty t) refl (λ p c. simple p (subst (λ (ps : List Place). Contains ps p) (sym (deeper structs n input path t)) c))

  -- A value of a struct is of the record's type.
  pub record_is : (n : ℕ) (s : List ℕ) (x : Value) → fits structs x (ty.Struct s) ≡ true → is_shallow n structs s ≡ true → AreSimple (suc n) [] (ty.Struct s) → (ms : List Member) → members_of structs s ≡ Some ms
      → record_typed (tests_of (some_fields (field_ty structs n) (members_of structs s))) x ≡ true
  record_is n s x fit shallow simple ms e =
      struct_typed n (typed n) [] s x fit shallow
      (λ p c. simple p (subst (λ (ps : List Place). Contains ps p) (sym (deeper structs n input [] (ty.Struct s) ∙ ap (struct_places structs (places_at structs n input) input [] (ty.Struct s)) (ty.outs-Struct s))) c)) ms e
