-- The leaves behind a path, level by level.
use Rattle.std.proofs.Common.{◌≡◌, ◌-◌, ◌<◌, ℕ, zero, suc, List, [], ◌++◌, Option, None, append-nil, refl, ap, sym, ◌∙◌, arith}
use Rattle.wdl_value.specs.declared.ty.Member.{Member}
use Rattle.wdl_value.specs.declared.ty.Ty.{Ty, out-Ty}
use Rattle.wdl_value.specs.declared.ty.Ty.TheVariants as ty
use Rattle.wdl_value.specs.Fits.{Structs, members_of}
use Rattle.leaf_image.specs.declared.leaf.Place.{Place}
use Rattle.leaf_image.specs.Leaves.{places_at, some_places, struct_places}

pub at_zero : (structs : Structs) (input : List ℕ) (path : List (List ℕ)) (t : Ty) → places_at structs 0 input path t ≡ []
unfolding places_at
at_zero structs input path t = refl

deeper : (structs : Structs) (n : ℕ) (input : List ℕ) (path : List (List ℕ)) (t : Ty)
    → places_at structs (suc n) input path t ≡ struct_places structs (places_at structs n input) input path t (out-Ty t)
unfolding places_at
deeper structs n input path t = refl

pub places_some : (structs : Structs) (n : ℕ) (input : List ℕ) (path : List (List ℕ)) (t : Ty) → 0 < n
    → places_at structs n input path t ≡ struct_places structs (places_at structs (n - 1) input) input path t (out-Ty t)
places_some structs zero input path t some = absurd (omega (arith, some))
places_some structs (suc n) input path t some =
    let e : suc n - 1 ≡ n = omega arith in
    deeper structs n input path t ∙ ap (λ k. struct_places structs (places_at structs k input) input path t (out-Ty t)) (sym e)

pub places_none : (structs : Structs) (n : ℕ) (input : List ℕ) (path : List (List ℕ)) (t : Ty) (places : List Place) → n ≡ 0 → places ≡ places ++ places_at structs n input path t
places_none structs n input path t places e =
    sym (ap (λ k. places ++ places_at structs k input path t) e ∙ ap (λ ps. places ++ ps) (at_zero structs input path t) ∙ append-nil places)

-- behind a struct, whose members are known
pub places_struct : (structs : Structs) (n : ℕ) (input : List ℕ) (path : List (List ℕ)) (t : Ty) (s : List ℕ) (members : Option (List Member)) → 0 < n → t ≡ ty.Struct s
    → members ≡ members_of structs s → places_at structs n input path t ≡ some_places (places_at structs (n - 1) input) path members
places_struct structs n input path t s members some is found =
    let f = places_at structs (n - 1) input in
    places_some structs n input path t some
    ∙ ap (struct_places structs f input path t) (ap out-Ty is ∙ ty.outs-Struct s)
    ∙ sym (ap (λ (ms : Option (List Member)). some_places f path ms) found)

pub places_unknown : (structs : Structs) (n : ℕ) (input : List ℕ) (path : List (List ℕ)) (t : Ty) (s : List ℕ) (places : List Place) → 0 < n → t ≡ ty.Struct s
    → None ≡ members_of structs s → places ≡ places ++ places_at structs n input path t
places_unknown structs n input path t s places some is lacks =
    sym (ap (λ ps. places ++ ps) (places_struct structs n input path t s None some is lacks) ∙ append-nil places)
