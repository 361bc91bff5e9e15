-- Struct literals.
use Rattle.std.proofs.Common.{◌≡◌, Bool, true, ◌&&◌, List, [], ◌∷◌, map, Option, Some, None, Ok, ap, refl}
use Rattle.std.specs.Str.{bytes_eq}
use Rattle.std.proofs.lemmas.Bool.{false≢true, and_parts, and_from}
use Rattle.wdl_base.specs.declared.name.Key.{Key}
use Rattle.wdl_value.specs.declared.ty.Member.{Member}
use Rattle.wdl_value.specs.declared.ty.Ty.{Ty}
use Rattle.wdl_value.specs.declared.ty.Ty.TheVariants as ty
use Rattle.wdl_value.specs.declared.value.Field.{Field}
use Rattle.wdl_value.specs.declared.value.Value.{Value}
use Rattle.wdl_value.specs.declared.value.Value.TheVariants as v
use Rattle.wdl_value.specs.Fits.{fits, members_of}
use Rattle.wdl_value.proofs.SameTypeLemmas.{same_type-true}
use Rattle.wdl_typed.specs.declared.expr.TExpr.{TExpr}
use Rattle.wdl_typed.specs.declared.expr.TField.{TField}
use Rattle.wdl_typed.specs.Evaluation.{Setting, then_, value_met}
use Rattle.wdl_typed.specs.Scope.{field_names, names_of}
use Rattle.wdl_typed.specs.Typing.{Context, Typing, fields_have, fields_in, is_type, struct_type, type_of, when}
use Rattle.wdl_eval.specs.Laws.{IsMet}
use Rattle.wdl_eval.specs.Nodes.{fields_met}
use Rattle.wdl_eval.specs.Ready.{FitsNames}
use Rattle.wdl_eval.proofs.Known.{Known, fields}
use Rattle.wdl_eval.proofs.Names.{left_names, right_names}
use Rattle.wdl_eval.proofs.Steps.{Fine, Fits, at_type, bind, when_in}
use Rattle.wdl_eval.proofs.StructForms.{members_fit, struct_fits}
use Rattle.wdl_base.proofs.Options.{then_parts}

has_type : (o : Option Ty) (t : Ty) → is_type o t ≡ true → o ≡ Some t
has_type (Some u) t h = ap Some (same_type-true u t h)
has_type None t h = absurd (false≢true h)

module _ (c : Context) (s : Setting) where
  abbrev names : List (TField TExpr) → List Key
  names fs = field_names (map (λ (f : TField TExpr). record { name = f.name; value = names_of f.value }) fs)

  abbrev typings : List (TField TExpr) → List (TField Typing)
  typings = map (λ (f : TField TExpr). record { name = f.name; value = type_of c f.value })

  all_sound : (ks : List (TField (Known c s))) (placeholder : Bool) (ms : List Member) → FitsNames c s.env (names (fields c s ks)) → fields_have (fields_in (typings (fields c s ks)) placeholder) ms ≡ true
      → IsMet (λ fs. members_fit c.structs fs ms ≡ true) (fields_met s (fields c s ks))
  all_sound [] placeholder [] g e = refl
  all_sound [] placeholder (m ∷ ms) g e = absurd (false≢true e)
  all_sound (k ∷ ks) placeholder [] g e = absurd (false≢true e)
  all_sound (k ∷ ks) placeholder (m ∷ ms) g e =
      let p = and_parts (bytes_eq k.name m.name && is_type (type_of c k.value.0 placeholder) m.ty) (fields_have (fields_in (typings (fields c s ks)) placeholder) ms) e in
      let q = and_parts (bytes_eq k.name m.name) (is_type (type_of c k.value.0 placeholder) m.ty) p.0 in
      let Q : List (Field Value) → Type 0 = λ fs. members_fit c.structs fs (m ∷ ms) ≡ true in
      bind (Fits c.structs m.ty) Q (value_met s k.value.0) (λ x. then_ (fields_met s (fields c s ks)) (λ fs. Ok (record { name = k.name; value = x } ∷ fs)))
      (k.value.1 placeholder (left_names c s.env (names_of k.value.0) (names (fields c s ks)) g) m.ty (has_type (type_of c k.value.0 placeholder) m.ty q.1)) (λ x h.
      bind (λ fs. members_fit c.structs fs ms ≡ true) Q (fields_met s (fields c s ks)) (λ fs. Ok (record { name = k.name; value = x } ∷ fs))
      (all_sound ks placeholder ms (right_names c s.env (names_of k.value.0) (names (fields c s ks)) g) p.1) (λ fs j.
      and_from (bytes_eq k.name m.name && fits c.structs x m.ty) (members_fit c.structs fs ms) (and_from (bytes_eq k.name m.name) (fits c.structs x m.ty) q.0 h) j))

  pub struct_fine : (name : _) (ks : List (TField (Known c s))) (placeholder : Bool) → FitsNames c s.env (names (fields c s ks))
      → Fine c.structs (struct_type c.structs name (fields_in (typings (fields c s ks)) placeholder)) (then_ (fields_met s (fields c s ks)) (λ fs. Ok (v.Struct name fs)))
  struct_fine name ks placeholder g w e =
      let types = fields_in (typings (fields c s ks)) placeholder in
      let p = then_parts (λ (ms : List Member). when (fields_have types ms) (ty.Struct name)) (members_of c.structs name) w e in
      let q = when_in (fields_have types p.0) (ty.Struct name) w p.2 in
      bind (λ fs. members_fit c.structs fs p.0 ≡ true) (Fits c.structs w) (fields_met s (fields c s ks)) (λ fs. Ok (v.Struct name fs)) (all_sound ks placeholder p.0 g q.0)
      (λ fs h. at_type c.structs (Ok (v.Struct name fs)) q.1 (struct_fits c.structs name fs p.0 p.1 h))
