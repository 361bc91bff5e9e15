-- The members of values that fit a struct.
use Rattle.std.proofs.Common.{◌≡◌, ◌≤◌, ◌+◌, ℕ, nat_le, ◌⊎◌, inl, inr, Bool, true, false, cond, not, ◌&&◌, ◌||◌, List, [], ◌∷◌, Some, None, Contains, arith, sym, ap, ◌∙◌, subst, refl, length}
use Rattle.std.specs.Str.{bytes_eq}
use Rattle.std.proofs.lemmas.Bool.{false≢true, and_from, and_parts, le-leb, leb-true, not-true}
use Rattle.std.proofs.lemmas.Option.{none-some, same_Some}
use Rattle.wdl_value.specs.declared.ty.Member.{Member}
use Rattle.wdl_value.specs.declared.ty.StructDef.{StructDef}
use Rattle.wdl_value.specs.declared.ty.Ty.{Ty, Ty-F}
use Rattle.wdl_value.specs.declared.ty.Ty.TheVariants as ty
use Rattle.wdl_value.specs.declared.ty.Ty.TheOpen as type
use Rattle.wdl_value.specs.declared.value.Field.{Field}
use Rattle.wdl_value.specs.declared.value.Value.{Value, Value-F, fold_out-Value, map-Value, out-Value}
use Rattle.wdl_value.specs.declared.value.Value.TheOpen as layer
use Rattle.wdl_value.specs.Bare.{is_optional}
use Rattle.wdl_value.specs.Fits.{Structs, fields_fit_some, fits, is_absent, members_of, takes, takes_at}
use Rattle.wdl_value.specs.Keyed.{keyed}
use Rattle.wdl_value.proofs.FitsLemmas.{takes_out, tests}
use Rattle.wdl_value.specs.Limits.{fields_are_short, is_short, is_within, short_step}
use Rattle.wdl_value.specs.Size.{size, size_field_list, size_step}
use Rattle.wdl_typed.specs.KnownTypes.{all_structs, are_structs, are_written, is_shallow, is_struct, member_names, struct_names}
use Rattle.wdl_typed.specs.Lists.{are_distinct, has_name}
use Rattle.wdl_eval.proofs.StructForms.{a_struct, members_fit}
use Rattle.cwl_model.proofs.Rounds.{first_or_later, none_is}
use Rattle.cwl_records.specs.Wide.{field_at, field_in, field_of}
use Rattle.wide_formed.proofs.Elements.{apart, mapped, same_bytes}
use Rattle.flow_soundness.proofs.Args.{differ as turned}

-- ---- structs

module _ (structs : Structs) where
  -- Members of a struct have different names, and lead through few structs.
  struct_is : (ds : List StructDef) (name : List ℕ) (ms : List Member) → all_structs structs ds ≡ true → members_of ds name ≡ Some ms
      → (are_distinct (member_names ms) ≡ true) × (is_shallow 32 structs name ≡ true)
  struct_is [] name ms h e = absurd (none-some _ e)
  struct_is (d ∷ ds) name ms h e =
      let p = and_parts (is_struct structs d) (all_structs structs ds) h in
      let q = and_parts (are_distinct (member_names d.members) && are_written structs d.members) (is_shallow 32 structs d.name) p.0 in
      let r = and_parts (are_distinct (member_names d.members)) (are_written structs d.members) q.0 in
      by_test (bytes_eq d.name name) refl e r.0 q.1 (struct_is ds name ms p.1)
    where
      by_test : (b : Bool) → bytes_eq d.name name ≡ b → cond b (Some d.members) (members_of ds name) ≡ Some ms → are_distinct (member_names d.members) ≡ true → is_shallow 32 structs d.name ≡ true
          → (members_of ds name ≡ Some ms → (are_distinct (member_names ms) ≡ true) × (is_shallow 32 structs name ≡ true)) → (are_distinct (member_names ms) ≡ true) × (is_shallow 32 structs name ≡ true)
      by_test true s k a b rest = (
        subst (λ (z : List Member). are_distinct (member_names z) ≡ true) (same_Some _ _ k) a,
        subst (λ (n : List ℕ). is_shallow 32 structs n ≡ true) (same_bytes d.name name s) b,
      )
      by_test false s k a b rest = rest k

  pub known_struct : are_structs structs ≡ true → (name : List ℕ) (ms : List Member) → members_of structs name ≡ Some ms
      → (are_distinct (member_names ms) ≡ true) × (is_shallow 32 structs name ≡ true)
  known_struct h name ms e = struct_is structs name ms (and_parts (are_distinct (struct_names structs)) (all_structs structs structs) h).1 e

-- ---- fields

-- a part of these fields
abbrev IsPart : List (Field Value) → Value → Type 0
IsPart fs y = (size y ≤ size_field_list fs) × (fields_are_short fs ≡ true → is_short y ≡ true)

first_part : (f : Field Value) (fs : List (Field Value)) → IsPart (f ∷ fs) f.value
first_part f fs = (below (length f.name) (size f.value) (size_field_list fs), λ h. (and_parts (is_short f.value) (fields_are_short fs) h).0)
  where
    below : (a b c : ℕ) → b ≤ a + b + c
    below a b c = omega arith

later_part : (f : Field Value) (fs : List (Field Value)) (y : Value) → IsPart fs y → IsPart (f ∷ fs) y
later_part f fs y h = (
  below (length f.name) (size f.value) (size_field_list fs) (size y) h.0,
  λ k. h.1 (and_parts (is_short f.value) (fields_are_short fs) k).1,
)
  where
    below : (a b c n : ℕ) → n ≤ c → n ≤ a + b + c
    below a b c n h = omega (arith, h)

part_within : (x : Value) (name : List ℕ) (fs : List (Field Value)) → out-Value x ≡ layer.Struct name fs → (y : Value) → IsPart fs y → is_within x ≡ true → is_within y ≡ true
part_within x name fs e y h w =
    let p = and_parts (nat_le (size x) 4194304) (is_short x) w in
    let whole : size x ≡ 1 + (length name + size_field_list fs) = fold_out-Value ℕ size_step x ∙ ap (λ z. size_step (map-Value Value ℕ size z)) e in
    let short : fields_are_short fs ≡ true = sym (fold_out-Value Bool short_step x ∙ ap (λ z. short_step (map-Value Value Bool is_short z)) e) ∙ p.1 in
    and_from (nat_le (size y) 4194304) (is_short y)
    (le-leb (size y) 4194304 (least (size y) (length name) (size_field_list fs) 4194304 h.0 (subst (λ (n : ℕ). n ≤ 4194304) whole (leb-true (size x) 4194304 p.0)))) (h.1 short)
  where
    least : (a l b n : ℕ) → a ≤ b → 1 + (l + b) ≤ n → a ≤ n
    least a l b n h k = omega (arith, h, k)

module _ (structs : Structs) where
  -- the value of a member
  pub record IsField (fs : List (Field Value)) (m : Member) : Type 0 where
    pub value : Value
    pub is : field_in fs m.name ≡ Some value
    pub fit : fits structs value m.ty ≡ true
    pub part : IsPart fs value

  field_found : (fs : List (Field Value)) (ms : List Member) → members_fit structs fs ms ≡ true → are_distinct (member_names ms) ≡ true → (m : Member) → Contains ms m → IsField fs m
  field_found fs [] h d m c = absurd (none_is m c)
  field_found [] (n ∷ ms) h d m c = absurd (false≢true h)
  field_found (f ∷ fs) (n ∷ ms) h d m c =
      let p = and_parts (bytes_eq f.name n.name && fits structs f.value n.ty) (members_fit structs fs ms) h in
      let q = and_parts (bytes_eq f.name n.name) (fits structs f.value n.ty) p.0 in
      let a = and_parts (not (has_name n.name (member_names ms))) (are_distinct (member_names ms)) d in
      by_case q.0 q.1 (not-true (has_name n.name (member_names ms)) a.0) (first_or_later n ms m c) (field_found fs ms p.1 a.1 m)
    where
      by_case : bytes_eq f.name n.name ≡ true → fits structs f.value n.ty ≡ true → has_name n.name (member_names ms) ≡ false → (n ≡ m) ⊎ Contains ms m → (Contains ms m → IsField fs m) → IsField (f ∷ fs) m
      by_case s t new (inl e) rest =
          record {
            value = f.value;
            is = ap (λ b. cond b (Some f.value) (field_in fs m.name)) (subst (λ (z : Member). bytes_eq f.name z.name ≡ true) e s);
            fit = subst (λ (z : Member). fits structs f.value z.ty ≡ true) e t;
            part = first_part f fs;
          }
      by_case s t new (inr e) rest =
          let r = rest e in
          let other : bytes_eq f.name m.name ≡ false =
          ap (λ k. bytes_eq k m.name) (same_bytes f.name n.name s) ∙ turned m.name n.name (apart (member_names ms) n.name new m.name (mapped (λ (z : Member). z.name) ms m e)) in
          record { value = r.value; is = ap (λ b. cond b (Some f.value) (field_in fs m.name)) other ∙ r.is; fit = r.fit; part = later_part f fs r.value r.part }

  -- a member of a value
  pub record HasMember (x : Value) (m : Member) : Type 0 where
    pub value : Value
    pub is : field_of m.name x ≡ Some value
    pub fit : fits structs value m.ty ≡ true
    pub within : is_within x ≡ true → is_within value ≡ true

  -- A value that fits a struct is one, and has each member.
  pub record IsStruct (x : Value) (ms : List Member) : Type 0 where
    pub name : List ℕ
    pub fields : List (Field Value)
    pub is : out-Value x ≡ layer.Struct name fields
    pub fit : members_fit structs fields ms ≡ true
    pub members : (m : Member) → Contains ms m → HasMember x m

  pub struct_of : are_structs structs ≡ true → (x : Value) (s : List ℕ) (ms : List Member) → members_of structs s ≡ Some ms → fits structs x (ty.Struct s) ≡ true → IsStruct x ms
  struct_of known x s ms e h =
      let p = a_struct structs x s ms e h in
      record {
        name = p.0;
        fields = p.1;
        is = p.2;
        fit = p.3;
        members = λ m c.
            let r = field_found p.1 ms p.3 (known_struct structs known s ms e).0 m c in
            record { value = r.value; is = ap (field_at m.name) p.2 ∙ r.is; fit = r.fit; within = part_within x p.0 p.1 p.2 r.value r.part };
      }

  -- No value fits a struct that is not known.
  abbrev takes_struct : Value-F Value → Ty-F Ty → Bool
  takes_struct l z = is_absent (tests structs l) && is_optional z || takes_at structs (tests structs l) z

  none_taken : (s : List ℕ) → members_of structs s ≡ None → (l : Value-F Value) → takes_struct l (type.Struct s) ≡ true → ⊥
  none_taken s e (layer.Struct m fs) h =
      let q = and_parts (bytes_eq m s) (fields_fit_some _ (members_of structs s)) h in
      false≢true (sym (ap (fields_fit_some _) e) ∙ q.1)
  none_taken s e l h = false≢true h

  pub no_struct : (x : Value) (s : List ℕ) → members_of structs s ≡ None → fits structs x (ty.Struct s) ≡ true → ⊥
  no_struct x s e h =
      let p = and_parts (takes structs x (ty.Struct s)) (keyed x) h in
      none_taken s e (out-Value x) (sym (takes_out structs x (ty.Struct s) ∙ ap (takes_struct (out-Value x)) (ty.outs-Struct s)) ∙ p.0)
