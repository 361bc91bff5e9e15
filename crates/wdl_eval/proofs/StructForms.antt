-- The values that fit a struct, and how they are made.
use Rattle.std.proofs.Common.{◌≡◌, Bool, true, false, ◌&&◌, ◌||◌, List, [], ◌∷◌, Some, sym, ap, ◌∙◌, refl}
use Rattle.std.specs.Str.{bytes_eq}
use Rattle.std.proofs.lemmas.Bool.{false≢true, and_parts, and_from}
use Rattle.std.proofs.lemmas.Slice.Eq.{bytes_eq-Decides}
use Rattle.wdl_value.specs.declared.ty.Member.{Member}
use Rattle.wdl_value.specs.declared.ty.Ty.{Ty, Ty-F}
use Rattle.wdl_value.specs.declared.ty.Ty.TheVariants as ty
use Rattle.wdl_value.specs.declared.ty.Ty.TheOpen as type
use Rattle.wdl_value.specs.declared.value.Field.{Field}
use Rattle.wdl_value.specs.declared.value.Value.{Value, Value-F, out-Value, map-Value}
use Rattle.wdl_value.specs.declared.value.Value.TheVariants as v
use Rattle.wdl_value.specs.declared.value.Value.TheOpen as layer
use Rattle.wdl_value.specs.Bare.{is_optional}
use Rattle.wdl_value.specs.Fits.{Structs, fields_fit_some, fits, is_absent, members_of, takes, takes_at, takes_fields, takes_step}
use Rattle.wdl_value.specs.Keyed.{keyed, keyed_fields, keyed_out, keyed_step}
use Rattle.wdl_value.proofs.FitsLemmas.{tests, takes_out}

module _ (structs : Structs) where
  -- the fields have the members' names in order, and fit their types
  abbrev pub members_fit : List (Field Value) → List Member → Bool
  members_fit [] [] = true
  members_fit [] (m ∷ ms) = false
  members_fit (f ∷ fs) [] = false
  members_fit (f ∷ fs) (m ∷ ms) = bytes_eq f.name m.name && fits structs f.value m.ty && members_fit fs ms

  members_parts : (fs : List (Field Value)) (ms : List Member) → members_fit fs ms ≡ true → (takes_fields structs fs ms ≡ true) × (keyed_fields fs ≡ true)
  members_parts [] [] h = (refl, refl)
  members_parts [] (m ∷ ms) h = absurd (false≢true h)
  members_parts (f ∷ fs) [] h = absurd (false≢true h)
  members_parts (f ∷ fs) (m ∷ ms) h =
      let p = and_parts (bytes_eq f.name m.name && fits structs f.value m.ty) (members_fit fs ms) h in
      let q = and_parts (bytes_eq f.name m.name) (fits structs f.value m.ty) p.0 in
      let k = and_parts (takes structs f.value m.ty) (keyed f.value) q.1 in
      let r = members_parts fs ms p.1 in
      (and_from _ _ (and_from _ _ q.0 k.0) r.0, and_from _ _ k.1 r.1)

  members_from : (fs : List (Field Value)) (ms : List Member) → takes_fields structs fs ms ≡ true → keyed_fields fs ≡ true → members_fit fs ms ≡ true
  members_from [] [] h k = refl
  members_from [] (m ∷ ms) h k = absurd (false≢true h)
  members_from (f ∷ fs) [] h k = absurd (false≢true h)
  members_from (f ∷ fs) (m ∷ ms) h k =
      let p = and_parts (bytes_eq f.name m.name && takes structs f.value m.ty) (takes_fields structs fs ms) h in
      let q = and_parts (bytes_eq f.name m.name) (takes structs f.value m.ty) p.0 in
      let n = and_parts (keyed f.value) (keyed_fields fs) k in
      and_from (bytes_eq f.name m.name && fits structs f.value m.ty) (members_fit fs ms)
      (and_from (bytes_eq f.name m.name) (fits structs f.value m.ty) q.0 (and_from (takes structs f.value m.ty) (keyed f.value) q.1 n.0))
      (members_from fs ms p.1 n.1)

  -- at a struct type, by the layers of both
  abbrev takes_struct : Value-F Value → Ty-F Ty → Bool
  takes_struct l z = is_absent (tests structs l) && is_optional z || takes_at structs (tests structs l) z

  at_struct : (x : Value) (name : _) (l : Value-F Value) → out-Value x ≡ l → takes structs x (ty.Struct name) ≡ takes_struct l (type.Struct name)
  at_struct x name l is =
      takes_out structs x (ty.Struct name)
      ∙ ap (λ (m : Value-F Value). takes_step structs (tests structs m) (ty.Struct name)) is
      ∙ ap (takes_struct l) (ty.outs-Struct name)

  pub struct_fits : (name : _) (fs : List (Field Value)) (ms : List Member) → members_of structs name ≡ Some ms → members_fit fs ms ≡ true → fits structs (v.Struct name fs) (ty.Struct name) ≡ true
  struct_fits name fs ms e h =
      let p = members_parts fs ms h in
      let is = v.outs-Struct name fs in
      let some : fields_fit_some _ (members_of structs name) ≡ true = ap (fields_fit_some _) e ∙ p.0 in
      and_from (takes structs (v.Struct name fs) (ty.Struct name)) (keyed (v.Struct name fs))
      (at_struct (v.Struct name fs) name (layer.Struct name fs) is ∙ and_from (bytes_eq name name) _ ((bytes_eq-Decides name name).1 refl) some)
      (keyed_out (v.Struct name fs) ∙ ap (λ m. keyed_step (v.Struct name fs) (map-Value Value Bool keyed m)) is ∙ p.1)

  pub a_struct : (x : Value) (name : _) (ms : List Member) → members_of structs name ≡ Some ms → fits structs x (ty.Struct name) ≡ true
      → (m : _) × (fs : List (Field Value)) × (out-Value x ≡ layer.Struct m fs) × (members_fit fs ms ≡ true)
  a_struct x name ms e h =
      let p = and_parts (takes structs x (ty.Struct name)) (keyed x) h in
      by_layer (out-Value x) refl (sym (at_struct x name (out-Value x) refl) ∙ p.0) p.1
    where
      by_layer : (l : Value-F Value) → out-Value x ≡ l → takes_struct l (type.Struct name) ≡ true → keyed x ≡ true → (m : _) × (fs : List (Field Value)) × (out-Value x ≡ layer.Struct m fs) × (members_fit fs ms ≡ true)
      by_layer (layer.Struct m fs) is h k =
          let q = and_parts (bytes_eq m name) (fields_fit_some _ (members_of structs name)) h in
          (m, fs, is, members_from fs ms (sym (ap (fields_fit_some _) e) ∙ q.1) (sym (keyed_out x ∙ ap (λ m. keyed_step x (map-Value Value Bool keyed m)) is) ∙ k))
      by_layer l is h k = absurd (false≢true h)
