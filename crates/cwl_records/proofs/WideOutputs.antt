-- The outputs of the outer workflow and of its step are those of the body.
use Rattle.std.proofs.Common.{◌≡◌, ℕ, true, false, ◌&&◌, List, [], ◌∷◌, map, bytes_eq, refl, sym, ap, ◌∙◌, subst}
use Rattle.std.proofs.lemmas.Bool.{false≢true, and_parts}
use Rattle.std.proofs.lemmas.Slice.Eq.{bytes_eq-Decides}
use Rattle.cwl_model.specs.declared.process.FlowOut.{FlowOut}
use Rattle.cwl_model.specs.declared.process.Link.{Link}
use Rattle.cwl_model.specs.declared.process.Link.TheVariants as link
use Rattle.cwl_model.specs.declared.ty.CwlTy.{CwlTy, CwlTy-F, fold-roll-CwlTy, ind-CwlTy, map-CwlTy, out-CwlTy, roll-CwlTy, roll-out-CwlTy}
use Rattle.cwl_model.specs.declared.ty.CwlTy.TheOpen as type
use Rattle.cwl_records.specs.WideReading.{Test, are_ids, are_outer, is_from_body, same_at, same_type}
use Rattle.cwl_records.specs.WideWriting.{body_id, flow_out_id, outer_out}

-- ---- types

abbrev Same : CwlTy → Type 0
Same t = (u : CwlTy) → same_type t u ≡ true → t ≡ u

abbrev Known : Type 0
Known = (t : CwlTy) × Same t

abbrev plain : CwlTy-F Known → CwlTy-F CwlTy
plain = map-CwlTy Known CwlTy (λ (k : Known). k.0)

same_layer : (y : CwlTy-F Known) (z : CwlTy-F CwlTy) → same_at (map-CwlTy CwlTy Test same_type (plain y)) z ≡ true → plain y ≡ z
same_layer type.Bool type.Bool h = refl
same_layer type.Long type.Long h = refl
same_layer type.Str type.Str h = refl
same_layer type.File type.File h = refl
same_layer (type.List k) (type.List t) h = ap type.List (k.1 t h)
same_layer (type.Null k) (type.Null t) h = ap type.Null (k.1 t h)
same_layer y z h = absurd (false≢true h)

same_types : (t : CwlTy) → Same t
same_types = ind-CwlTy Same (λ l y is. subst (λ (z : CwlTy-F CwlTy). Same (roll-CwlTy z)) is (λ u h.
    ap roll-CwlTy (same_layer y (out-CwlTy u) (sym (ap (λ (test : Test). test u) (fold-roll-CwlTy Test (λ t w. same_at t (out-CwlTy w)) (plain y))) ∙ h)) ∙ roll-out-CwlTy u))

-- ---- outputs

abbrev out : List ℕ → CwlTy → Link → FlowOut
out id t source = record { id = id; ty = t; source = source }

from_body : (id : List ℕ) (l : Link) → is_from_body id l ≡ true → l ≡ link.Out body_id id
from_body id (link.Input i) h = absurd (false≢true h)
from_body id (link.Out step o) h =
    let p = and_parts (bytes_eq step body_id) (bytes_eq o id) h in
    ap (λ s. link.Out s o) ((bytes_eq-Decides step body_id).0 p.0) ∙ ap (link.Out body_id) ((bytes_eq-Decides o id).0 p.1)

outer_is : (o b : FlowOut) → bytes_eq o.id b.id ≡ true → same_type o.ty b.ty ≡ true → is_from_body b.id o.source ≡ true → o ≡ outer_out b
outer_is o b named typed sourced =
    ap (λ id. out id o.ty o.source) ((bytes_eq-Decides o.id b.id).0 named)
    ∙ ap (λ (t : CwlTy). out b.id t o.source) (same_types o.ty b.ty typed)
    ∙ ap (out b.id b.ty) (from_body b.id o.source sourced)

pub outer_are : (os bs : List FlowOut) → are_outer os bs ≡ true → os ≡ map outer_out bs
outer_are [] [] h = refl
outer_are [] (b ∷ bs) h = absurd (false≢true h)
outer_are (o ∷ os) [] h = absurd (false≢true h)
outer_are (o ∷ os) (b ∷ bs) h =
    let p = and_parts (bytes_eq o.id b.id && same_type o.ty b.ty && is_from_body b.id o.source) (are_outer os bs) h in
    let q = and_parts (bytes_eq o.id b.id && same_type o.ty b.ty) (is_from_body b.id o.source) p.0 in
    let r = and_parts (bytes_eq o.id b.id) (same_type o.ty b.ty) q.0 in
    ap (λ (x : FlowOut). x ∷ os) (outer_is o b r.0 r.1 q.1) ∙ ap (λ (xs : List FlowOut). outer_out b ∷ xs) (outer_are os bs p.1)

pub ids_are : (ss : List (List ℕ)) (bs : List FlowOut) → are_ids ss bs ≡ true → ss ≡ map flow_out_id bs
ids_are [] [] h = refl
ids_are [] (b ∷ bs) h = absurd (false≢true h)
ids_are (s ∷ ss) [] h = absurd (false≢true h)
ids_are (s ∷ ss) (b ∷ bs) h =
    let p = and_parts (bytes_eq s b.id) (are_ids ss bs) h in
    ap (λ x. x ∷ ss) ((bytes_eq-Decides s b.id).0 p.0) ∙ ap (λ xs. b.id ∷ xs) (ids_are ss bs p.1)
