-- Tables of the depths of structs, and what stands in them.
use Rattle.std.proofs.Common.{◌≡◌, ℕ, zero, suc, ◌<◌, Bool, true, false, cond, List, [], ◌∷◌, Option, Some, None, nat_lt, option_map, length, get_or, map, sym, ap, ◌∙◌, subst, refl, arith}
use Rattle.std.specs.List.{find, list_all, slice_get}
use Rattle.std.specs.Str.{bytes_eq}
use Rattle.std.proofs.lemmas.Bool.{lt-ltb}
use Rattle.std.proofs.lemmas.Option.{slice_get-map, get_or_from_slice_get}
use Rattle.std.proofs.lemmas.Slice.Eq.{bytes_eq-Decides}
use Rattle.wdl_value.specs.declared.ty.StructDef.{StructDef}
use Rattle.wdl_value.specs.Fits.{Structs, members_of}
use Rattle.wdl_typed.specs.KnownTypes.{is_shallow, some_structs}
use Rattle.struct_members.proofs.FindLemmas.{members_of-find}

pub is_shallow-none : (structs : Structs) (name : List ℕ) → is_shallow zero structs name ≡ false
unfolding is_shallow
is_shallow-none structs name = refl

pub is_shallow-next : (n : ℕ) (structs : Structs) (name : List ℕ) → is_shallow (suc n) structs name ≡ list_all (is_shallow n structs) (some_structs (members_of structs name))
unfolding is_shallow
is_shallow-next n structs name = refl

find-passes : {X : Type 0} (test : X → Bool) (xs : List X) (x : X) → find test xs ≡ Some x → test x ≡ true
find-passes test [] x h = cc
find-passes {X} test (y ∷ ys) x h = by_test (test y) refl (find-passes test ys x) h
  where
    by_test : (b : Bool) → test y ≡ b → (find test ys ≡ Some x → test x ≡ true) → cond b (Some y) (find test ys) ≡ Some x → test x ≡ true
    by_test true e rest h = let same : y ≡ x = cc in subst (λ (z : X). test z ≡ true) same e
    by_test false e rest h = rest h

some_at : {X : Type 0} (xs : List X) (k : ℕ) → k < length xs → slice_get xs k ≡ None → ⊥
some_at [] k within missing = omega arith
some_at (x ∷ xs) zero within missing = cc
some_at (x ∷ xs) (suc k) within missing = some_at xs k (omega arith) missing

-- what a table has at the place of a name
pub level-found : (f : List ℕ → Bool) (name : List ℕ) (ds : List StructDef) (p : ℕ) (e : Bool) → p < length ds
    → slice_get ds p ≡ find (λ d. bytes_eq d.name name) ds → get_or (map (λ (d : StructDef). f d.name) ds) p e ≡ f name
level-found f name ds p e within found = by_item (slice_get ds p) refl
  where
    by_item : (o : Option StructDef) → slice_get ds p ≡ o → get_or (map (λ (d : StructDef). f d.name) ds) p e ≡ f name
    by_item None is = absurd (some_at ds p within is)
    by_item (Some d) is =
        let named : d.name ≡ name = (bytes_eq-Decides d.name name).0 (find-passes (λ (d : StructDef). bytes_eq d.name name) ds d (sym found ∙ is)) in
        get_or_from_slice_get _ p (f d.name) e (slice_get-map (λ (d : StructDef). f d.name) ds p ∙ ap (option_map (λ (d : StructDef). f d.name)) is)
        ∙ ap f named

-- a name that no struct has
pub level-missing : (level : ℕ) (structs : Structs) (name : List ℕ) → find (λ (d : StructDef). bytes_eq d.name name) structs ≡ None → nat_lt 0 level ≡ is_shallow level structs name
level-missing zero structs name missing = sym (is_shallow-none structs name)
level-missing (suc n) structs name missing =
    lt-ltb 0 (suc n) (omega arith)
    ∙ sym (is_shallow-next n structs name
    ∙ ap (λ o. list_all (is_shallow n structs) (some_structs o)) (members_of-find structs name ∙ ap (option_map (λ (d : StructDef). d.members)) missing))
