-- The types of members, level by level.
use Rattle.std.proofs.Common.{◌≡◌, ◌-◌, ◌<◌, ℕ, zero, suc, List, Option, refl, ap, sym, ◌∙◌, arith}
use Rattle.wdl_value.specs.declared.ty.Member.{Member}
use Rattle.wdl_value.specs.declared.ty.Ty.{Ty, out-Ty}
use Rattle.wdl_value.specs.declared.ty.Ty.TheVariants as ty
use Rattle.wdl_value.specs.Fits.{Structs, members_of}
use Rattle.cwl_image.specs.Image.{type_of}
use Rattle.cwl_records.specs.declared.wide.FieldTy.TheVariants as field
use Rattle.cwl_records.specs.Wrapping.{field_ty, some_fields, struct_field}

pub field_none : (structs : Structs) (t : Ty) → field_ty structs 0 t ≡ field.One (type_of t)
unfolding field_ty
field_none structs t = refl

pub deeper : (structs : Structs) (n : ℕ) (t : Ty) → field_ty structs (suc n) t ≡ struct_field structs (field_ty structs n) t (out-Ty t)
unfolding field_ty
deeper structs n t = refl

pub field_some : (structs : Structs) (n : ℕ) (t : Ty) → 0 < n → field_ty structs n t ≡ struct_field structs (field_ty structs (n - 1)) t (out-Ty t)
field_some structs zero t some = absurd (omega (arith, some))
field_some structs (suc n) t some =
    let e : suc n - 1 ≡ n = omega arith in
    deeper structs n t ∙ ap (λ k. struct_field structs (field_ty structs k) t (out-Ty t)) (sym e)

-- a struct's member is its fields, whose members are known
pub field_struct : (structs : Structs) (n : ℕ) (t : Ty) (s : List ℕ) (members : Option (List Member)) → 0 < n → t ≡ ty.Struct s → members ≡ members_of structs s
    → field.Fields (some_fields (field_ty structs (n - 1)) members) ≡ field_ty structs n t
field_struct structs n t s members some is found =
    let f = field_ty structs (n - 1) in
    sym
    (field_some structs n t some
    ∙ ap (struct_field structs f t) (ap out-Ty is ∙ ty.outs-Struct s)
    ∙ sym (ap (λ (ms : Option (List Member)). field.Fields (some_fields f ms)) found))
