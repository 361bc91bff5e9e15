-- Equality of types: inductions by one layer.
use Rattle.std.proofs.Common.{◌≡◌, Bool, true, false, sym, ap, ◌∙◌, subst, refl}
use Rattle.std.proofs.lemmas.Bool.{false≢true, and_parts, and_from}
use Rattle.std.proofs.lemmas.Slice.Eq.{bytes_eq-Decides}
use Rattle.wdl_value.specs.declared.ty.Ty.{Ty, Ty-F, out-Ty, roll-Ty, roll-out-Ty, out-roll-Ty, map-Ty, ind-Ty, fold-roll-Ty}
use Rattle.wdl_value.specs.declared.ty.Ty.TheOpen as type
use Rattle.wdl_base.specs.Same.{same_bool}
use Rattle.wdl_value.specs.SameType.{TypeTest, same_at, same_type}

pub same_bool-true : (a b : Bool) → same_bool a b ≡ true → a ≡ b
same_bool-true true b h = sym h
same_bool-true false true h = absurd (false≢true h)
same_bool-true false false h = refl

abbrev Holds : Ty → Type 0
Holds t = (u : Ty) → same_type t u ≡ true → t ≡ u

abbrev Known : Type 0
Known = (t : Ty) × Holds t

abbrev plain : Ty-F Known → Ty-F Ty
plain = map-Ty Known Ty (λ (k : Known). k.0)

layer_same : (y : Ty-F Known) (z : Ty-F Ty) → same_at (map-Ty Ty TypeTest same_type (plain y)) z ≡ true → plain y ≡ z
layer_same type.Bool type.Bool h = refl
layer_same type.Int type.Int h = refl
layer_same type.Str type.Str h = refl
layer_same type.File type.File h = refl
layer_same type.Absent type.Absent h = refl
layer_same type.Empty type.Empty h = refl
layer_same (type.Array k some) (type.Array u also) h =
    let p = and_parts (same_type k.0 u) (same_bool some also) h in
    ap (λ x. type.Array x some) (k.1 u p.0) ∙ ap (type.Array u) (same_bool-true some also p.1)
layer_same (type.Map k l) (type.Map u w) h =
    let p = and_parts (same_type k.0 u) (same_type l.0 w) h in
    ap (λ x. type.Map x l.0) (k.1 u p.0) ∙ ap (type.Map u) (l.1 w p.1)
layer_same (type.Pair k l) (type.Pair u w) h =
    let p = and_parts (same_type k.0 u) (same_type l.0 w) h in
    ap (λ x. type.Pair x l.0) (k.1 u p.0) ∙ ap (type.Pair u) (l.1 w p.1)
layer_same (type.Struct n) (type.Struct m) h = ap type.Struct ((bytes_eq-Decides n m).0 h)
layer_same (type.Opt k) (type.Opt u) h = ap type.Opt (k.1 u h)
layer_same y z h = absurd (false≢true h)

pub same_type-true : (t u : Ty) → same_type t u ≡ true → t ≡ u
same_type-true = ind-Ty Holds (λ x y is. subst (λ (z : Ty-F Ty). Holds (roll-Ty z)) is (λ u h.
    let e = ap (λ (f : TypeTest). f u) (fold-roll-Ty TypeTest (λ x t. same_at x (out-Ty t)) (plain y)) in
    ap roll-Ty (layer_same y (out-Ty u) (sym e ∙ h)) ∙ roll-out-Ty u))

pub same_bool-refl : (b : Bool) → same_bool b b ≡ true
same_bool-refl true = refl
same_bool-refl false = refl

abbrev Same : Ty → Type 0
Same t = same_type t t ≡ true

abbrev KnownSame : Type 0
KnownSame = (t : Ty) × Same t

layer_refl : (y : Ty-F KnownSame) → same_at (map-Ty Ty TypeTest same_type (map-Ty KnownSame Ty (λ (k : KnownSame). k.0) y)) (map-Ty KnownSame Ty (λ (k : KnownSame). k.0) y) ≡ true
layer_refl type.Bool = refl
layer_refl type.Int = refl
layer_refl type.Str = refl
layer_refl type.File = refl
layer_refl type.Absent = refl
layer_refl type.Empty = refl
layer_refl (type.Array k some) = and_from _ _ k.1 (same_bool-refl some)
layer_refl (type.Map k l) = and_from _ _ k.1 l.1
layer_refl (type.Pair k l) = and_from _ _ k.1 l.1
layer_refl (type.Struct n) = (bytes_eq-Decides n n).1 refl
layer_refl (type.Opt k) = k.1

pub same_type-refl : (t : Ty) → same_type t t ≡ true
same_type-refl = ind-Ty Same (λ x y is. subst (λ (z : Ty-F Ty). Same (roll-Ty z)) is (
    let p = map-Ty KnownSame Ty (λ (k : KnownSame). k.0) y in
    ap (λ (f : TypeTest). f (roll-Ty p)) (fold-roll-Ty TypeTest (λ x t. same_at x (out-Ty t)) p)
    ∙ ap (same_at (map-Ty Ty TypeTest same_type p)) (out-roll-Ty p) ∙ layer_refl y))
