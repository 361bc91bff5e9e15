-- How many structs there are behind a path, level by level.
use Rattle.std.proofs.Common.{◌≡◌, ◌+◌, ◌-◌, ◌<◌, ℕ, zero, suc, true, false, cond, List, Option, Some, None, MatchOption, nat_le, refl, ap, sym, ◌∙◌, arith}
use Rattle.std.proofs.lemmas.Bool.{le-leb, lt-leb}
use Rattle.wdl_value.specs.declared.ty.Member.{Member}
use Rattle.wdl_value.specs.declared.ty.Ty.{Ty, out-Ty}
use Rattle.wdl_value.specs.declared.ty.Ty.TheVariants as ty
use Rattle.wdl_value.specs.Fits.{Structs, members_of}
use Rattle.wdl_typed.specs.declared.task.TInput.{TInput}
use Rattle.leaf_image.specs.Leaves.{is_record, is_small, most_structs, some_structs, struct_count, structs_at}

pub structs_none : (structs : Structs) (t : Ty) → structs_at structs 0 t ≡ 0
unfolding structs_at
structs_none structs t = refl

deeper : (structs : Structs) (n : ℕ) (t : Ty) → structs_at structs (suc n) t ≡ struct_count structs (structs_at structs n) (out-Ty t)
unfolding structs_at
deeper structs n t = refl

pub structs_some : (structs : Structs) (n : ℕ) (t : Ty) → 0 < n → structs_at structs n t ≡ struct_count structs (structs_at structs (n - 1)) (out-Ty t)
structs_some structs zero t some = absurd (omega (arith, some))
structs_some structs (suc n) t some =
    let e : suc n - 1 ≡ n = omega arith in
    deeper structs n t ∙ ap (λ k. struct_count structs (structs_at structs k) (out-Ty t)) (sym e)

-- of a struct, whose members are known
pub structs_struct : (structs : Structs) (n : ℕ) (t : Ty) (s : List ℕ) (members : Option (List Member)) → 0 < n → t ≡ ty.Struct s → members ≡ members_of structs s
    → structs_at structs n t ≡ 1 + some_structs (structs_at structs (n - 1)) members
structs_struct structs n t s members some is found =
    let f = structs_at structs (n - 1) in
    structs_some structs n t some
    ∙ ap (struct_count structs f) (ap out-Ty is ∙ ty.outs-Struct s)
    ∙ sym (ap (λ (ms : Option (List Member)). 1 + some_structs f ms) found)

-- what is left beside a struct, by what is left beside those of its members
pub one_less : (o : Option ℕ) (left n k : ℕ) → 0 < left → n ≡ 1 + k → MatchOption o (left - 1 < k) (λ rest. left - 1 ≡ rest + k)
    → MatchOption o (left < n) (λ rest. left ≡ rest + n)
one_less None left n k some is h = omega (arith, some, is, h)
one_less (Some rest) left n k some is h = omega (arith, some, is, h)

-- ---- the most

most_is : most_structs ≡ 262144
unfolding most_structs
most_is = refl

fits_most : (n rest : ℕ) → 262144 ≡ rest + n → nat_le n most_structs ≡ true
fits_most n rest e = ap (nat_le n) most_is ∙ le-leb n 262144 (omega (arith, e))

pub past_most : (n : ℕ) → 262144 < n → nat_le n most_structs ≡ false
past_most n past = ap (nat_le n) most_is ∙ lt-leb n 262144 past

pub small : (structs : Structs) (i : TInput) (rest : ℕ) → is_record i ≡ true → 262144 ≡ rest + structs_at structs 33 i.ty → true ≡ is_small structs i
small structs i rest is e =
    let n = structs_at structs 33 i.ty in
    sym (ap (λ b. cond b (nat_le n most_structs) true) is ∙ fits_most n rest e)
